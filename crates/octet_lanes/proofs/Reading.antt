-- What the reader's steps do to the octets of a text.
use Rattle.std.proofs.Common.{replicate, subst, ltb, ltb-false, ◌≡◌, ℕ, zero, suc, ◌+◌, ◌-◌, ◌*◌, ◌/◌, ◌%◌, ◌^◌, ◌<◌, ◌≤◌, ◌≢◌, Bool, true, false, not, cond, ◌||◌, eqb, List, [], ◌∷◌, ◌++◌, length, map, take, drop, get_or, refl, sym, ap, ◌∙◌, arith, eqb-true, eq-eqb}
use Rattle.std.specs.declared.option.Option.TheVariants.{Some, None}
use Rattle.std.specs.Option.{unwrap_or}
use Rattle.std.specs.declared.result.Result.{Result}
use Rattle.std.specs.declared.result.Result.TheVariants.{Ok, Err}
use Rattle.std.specs.Result.{IfOk, OnOk, is_ok}
use Rattle.std.specs.Simd.Lanes.{Each1}
use Rattle.std.specs.List.{All, list_any, position, position_or_len, prefix_len}
use Rattle.std.proofs.lemmas.Bool.{false≢true, eqb-false, ne_eqb}
use Rattle.std.proofs.lemmas.Simd.{Each1-from_get_or}
use Rattle.std.proofs.lemmas.List.{take-map, take_at, drop-replicate, length-append, length-drop, length-map, append_assoc, append-nil, append_cancel_left, length-take, length-take-le, take-append-le, take-append-drop, take-take, take_all, take_more, drop_all, drop_at, drop-append-le, drop-take, map-append, get_or-map}
use Rattle.std.proofs.lemmas.List.Elements.{filter-append, All-nil, All-cons}
use Rattle.std.proofs.lemmas.List.Concat.{flat_map-append}
use Rattle.std.proofs.lemmas.List.Folds.{list_any-append}
use Rattle.std.proofs.Math.Seq.{drop-append-add, drop-nil}
use Rattle.std.proofs.Math.Nat.{mod-eq_of_lt}
use Rattle.octet_lanes.specs.declared.alphabet.Alphabet.{Alphabet}
use Rattle.octet_lanes.specs.declared.alphabet.Alphabet.TheVariants.{Base64, Base32, Base32Hex}
use Rattle.octet_lanes.specs.Encoding.{width, quantum, table, class_of, stray, padding, bits_of, all_bits, groups_of, values_among, values_of, before_padding, contains_padding, text_bits, whole, left_over, octets_of}
use Rattle.octet_lanes.specs.Private.{IsRead}
use Rattle.octet_lanes.proofs.Bits.{length-bits_of, length-all_bits, take-all_bits}
use Rattle.octet_lanes.proofs.Lanes.{all_values}
use Rattle.octet_lanes.proofs.Pieces.{groups_of_bits}

-- ---- classes that are values

prefix_le : (p : ℕ → Bool) (xs : List ℕ) → prefix_len p xs ≤ length xs
prefix_le p [] = omega arith
prefix_le p (x ∷ xs) = go (p x) (prefix_le p xs)
  where
    go : (b : Bool) → prefix_len p xs ≤ length xs → cond b (1 + prefix_len p xs) 0 ≤ suc (length xs)
    go true h = omega arith
    go false h = omega arith

table_size : (alphabet : Alphabet) → length (table alphabet) ≡ 2 ^ width alphabet
table_size Base64 = refl
table_size Base32 = refl
table_size Base32Hex = refl

pub class_small : (alphabet : Alphabet) (octet : ℕ) → eqb (class_of alphabet octet) stray ≡ false → class_of alphabet octet < 2 ^ width alphabet
class_small alphabet octet h =
    let place = position_or_len (λ symbol. eqb symbol octet) (table alphabet) in
    go (eqb place (length (table alphabet))) refl h
  where
    go : (b : Bool) → eqb (position_or_len (λ symbol. eqb symbol octet) (table alphabet)) (length (table alphabet)) ≡ b
        → eqb (cond b stray (position_or_len (λ symbol. eqb symbol octet) (table alphabet))) stray ≡ false
        → cond b stray (position_or_len (λ symbol. eqb symbol octet) (table alphabet)) < 2 ^ width alphabet
    go true e k = absurd (false≢true (sym k))
    go false e k =
        let ne : position_or_len (λ symbol. eqb symbol octet) (table alphabet) ≢ length (table alphabet) = eqb-false _ _ e in
        omega (arith, prefix_le (λ symbol. not (eqb symbol octet)) (table alphabet), table_size alphabet)

pub class_below : (alphabet : Alphabet) (octet class : ℕ) → class ≡ class_of alphabet octet → class ≢ stray → class < 2 ^ width alphabet
class_below alphabet octet class is value = omega (arith, class_small alphabet octet (ne_eqb _ _ (λ e. value (is ∙ e))))

pub some_characters : (alphabet : Alphabet) → 0 < quantum alphabet
some_characters Base64 = omega arith
some_characters Base32 = omega arith
some_characters Base32Hex = omega arith

pub few_characters : (alphabet : Alphabet) → quantum alphabet ≤ 32
few_characters Base64 = omega arith
few_characters Base32 = omega arith
few_characters Base32Hex = omega arith

pub values_small : (alphabet : Alphabet) (text : List ℕ) → All (λ value. value < 2 ^ width alphabet) (values_of alphabet text)
values_small alphabet [] = All-nil (λ value. value < 2 ^ width alphabet)
values_small alphabet (x ∷ text) = go (eqb (class_of alphabet x) stray) refl (values_small alphabet text)
  where
    go : (b : Bool) → eqb (class_of alphabet x) stray ≡ b → All (λ value. value < 2 ^ width alphabet) (values_of alphabet text)
        → All (λ value. value < 2 ^ width alphabet) (cond (not b) (class_of alphabet x ∷ values_of alphabet text) (values_of alphabet text))
    go true e rest = rest
    go false e rest = All-cons (λ value. value < 2 ^ width alphabet) (class_of alphabet x) (values_of alphabet text) (class_small alphabet x e) rest

pub values_of-append : (alphabet : Alphabet) (xs ys : List ℕ) → values_of alphabet (xs ++ ys) ≡ values_of alphabet xs ++ values_of alphabet ys
values_of-append alphabet xs ys =
    ap values_among (map-append (class_of alphabet) xs ys) ∙ filter-append (λ class. not (eqb class stray)) (map (class_of alphabet) xs) (map (class_of alphabet) ys)

padding_strays : (alphabet : Alphabet) → class_of alphabet padding ≡ stray
padding_strays Base64 = refl
padding_strays Base32 = refl
padding_strays Base32Hex = refl

-- ---- bits that are given as octets

drop-all_bits : (k n : ℕ) (ns : List ℕ) → drop (n * k) (all_bits k ns) ≡ all_bits k (drop n ns)
drop-all_bits k zero ns = let none : zero * k ≡ zero = omega arith in ap (λ i. drop i (all_bits k ns)) none
drop-all_bits k (suc n) [] = drop-nil (suc n * k)
drop-all_bits k (suc n) (x ∷ ns) =
    let count : suc n * k ≡ length (bits_of k x) + n * k = omega (arith, length-bits_of k x) in
    ap (λ i. drop i (bits_of k x ++ all_bits k ns)) count ∙ drop-append-add (bits_of k x) (all_bits k ns) (n * k) ∙ drop-all_bits k n ns

-- the whole octets of the first values of a block
bits_of-values : (w m : ℕ) (values filler octets : List ℕ) → m ≡ length values * w / 8 → m ≤ 4 * w
    → all_bits 8 (take (4 * w) octets) ≡ all_bits w (values ++ filler) → whole 8 (all_bits w values) ≡ all_bits 8 (take m octets)
bits_of-values w m values filler octets is few same =
    let P = all_bits w values in
    let long : length P ≡ length values * w = length-all_bits w values in
    let count : length P / 8 * 8 ≡ m * 8 = ap (λ n. n / 8 * 8) long ∙ ap (λ n. n * 8) (sym is) in
    let within : m * 8 ≤ length P = omega arith in
    ap (λ n. take n P) count
    ∙ sym (take-append-le (m * 8) P (all_bits w filler) within)
    ∙ ap (take (m * 8)) (sym (flat_map-append (bits_of w) values filler) ∙ sym same)
    ∙ take-all_bits 8 m (take (4 * w) octets)
    ∙ ap (all_bits 8) (take-take m (4 * w) octets few)

-- the same from an octet on
pub values_given : (w m g : ℕ) (values filler octets : List ℕ) → m ≡ length values * w / 8 → m ≤ 4 * w → g ≤ m
    → all_bits 8 (take (4 * w) octets) ≡ all_bits w (values ++ filler) → all_bits 8 (take (m - g) (drop g octets)) ≡ drop (g * 8) (whole 8 (all_bits w values))
values_given w m g values filler octets is few le same =
    let count : g + (m - g) ≡ m = omega arith in
    ap (all_bits 8) (sym (drop-take g (m - g) octets) ∙ ap (λ n. drop g (take n octets)) count)
    ∙ sym (drop-all_bits 8 g (take m octets))
    ∙ ap (drop (g * 8)) (sym (bits_of-values w m values filler octets is few same))

whole_all : (m : ℕ) (bits : List ℕ) → length bits ≡ m * 8 → whole 8 bits ≡ bits
whole_all m bits long = take_all (length bits / 8 * 8) bits (omega arith)

pub none_left : (m : ℕ) (bits : List ℕ) → length bits ≡ m * 8 → left_over 8 bits ≡ []
none_left m bits long = drop_all (length bits / 8 * 8) bits (omega arith)

pub few_left : (bits : List ℕ) → length (left_over 8 bits) < 8
few_left bits = omega (arith, length-drop (length bits / 8 * 8) bits)

-- what a quantum gives when values come to it
pub quantum_given : (g : ℕ) (was now before after rest text : List ℕ) → g ≡ length before / 8 → length before ≤ length after → after ++ rest ≡ before ++ text
    → now ≡ was ++ drop (g * 8) (whole 8 after) → now ++ (left_over 8 after ++ rest) ≡ was ++ (left_over 8 before ++ text)
quantum_given g was now before after rest text is more same appended =
    let edge = length after / 8 * 8 in
    let from : g * 8 ≡ length before / 8 * 8 = ap (λ n. n * 8) is in
    let given : length (whole 8 after) ≡ edge = length-take-le edge after (omega arith) in
    let inside : g * 8 ≤ length (whole 8 after) = omega arith in
    let within : g * 8 ≤ length after = omega arith in
    let held : g * 8 ≤ length before = omega arith in
    ap (λ l. l ++ (left_over 8 after ++ rest)) appended
    ∙ append_assoc was (drop (g * 8) (whole 8 after)) (left_over 8 after ++ rest)
    ∙ ap (λ l. was ++ l) (
    sym (append_assoc (drop (g * 8) (whole 8 after)) (left_over 8 after) rest)
    ∙ ap (λ l. l ++ rest) (sym (drop-append-le (g * 8) (whole 8 after) (left_over 8 after) inside) ∙ ap (drop (g * 8)) (take-append-drop edge after))
    ∙ sym (drop-append-le (g * 8) after rest within)
    ∙ ap (drop (g * 8)) same
    ∙ drop-append-le (g * 8) before text held
    ∙ ap (λ n. drop n before ++ text) from)

-- what was appended are the whole octets, and what is kept is left over
pub taken_in : (was now kept bits : List ℕ) → take (length was) now ≡ was → Each1 (λ octet. octet < 2 ^ 8) (drop (length was) now) → length kept < 8
    → all_bits 8 now ++ kept ≡ all_bits 8 was ++ bits → (now ≡ was ++ octets_of bits) × (kept ≡ left_over 8 bits)
taken_in was now kept bits grown small few same =
    let more = drop (length was) now in
    let all : now ≡ was ++ more = sym (take-append-drop (length was) now) ∙ ap (λ l. l ++ more) grown in
    let after : all_bits 8 more ++ kept ≡ bits =
    append_cancel_left (all_bits 8 was) (all_bits 8 more ++ kept) bits
    (sym (append_assoc (all_bits 8 was) (all_bits 8 more) kept) ∙ ap (λ l. l ++ kept) (sym (flat_map-append (bits_of 8) was more) ∙ ap (all_bits 8) (sym all)) ∙ same) in
    let long : length (all_bits 8 more ++ kept) ≡ length more * 8 + length kept = length-append (all_bits 8 more) kept ∙ ap (λ n. n + length kept) (length-all_bits 8 more) in
    let bits_long : length bits ≡ length more * 8 + length kept = ap length (sym after) ∙ long in
    let edge : length (all_bits 8 more) ≡ length bits / 8 * 8 = length-all_bits 8 more ∙ (omega arith) in
    let given : whole 8 bits ≡ all_bits 8 more = ap (take (length bits / 8 * 8)) (sym after) ∙ take_at (all_bits 8 more) kept (length bits / 8 * 8) edge in
    let left : left_over 8 bits ≡ kept = ap (drop (length bits / 8 * 8)) (sym after) ∙ drop_at (all_bits 8 more) kept (length bits / 8 * 8) edge in
    (all ∙ ap (λ l. was ++ l) (sym (ap (groups_of 8) given ∙ groups_of_bits 8 more (omega arith) small)), sym left)

-- what an `extend_from_slice` appended, and what follows from it
pub ok_then : {T F Q : Type 0} (r : Result T F) (now was more : List ℕ) → now ≡ cond (is_ok r) (was ++ more) was → (now ≡ was ++ more → Q) → OnOk r Q
ok_then (Ok x) now was more e h = h e
ok_then (Err x) now was more e h = tt

pub few_octets : (alphabet : Alphabet) (held : ℕ) → held ≤ 32 → held * width alphabet / 8 ≤ 4 * width alphabet
few_octets Base64 held h = omega arith
few_octets Base32 held h = omega arith
few_octets Base32Hex held h = omega arith

pub zero_small : (alphabet : Alphabet) → 0 < 2 ^ width alphabet
zero_small Base64 = omega arith
zero_small Base32 = omega arith
zero_small Base32Hex = omega arith

-- nothing before a part without `=` is the first one
pub free_prefix : (xs ys : List ℕ) → list_any (λ octet. eqb octet padding) xs ≡ false → before_padding (xs ++ ys) ≡ xs ++ before_padding ys
free_prefix [] ys h = refl
free_prefix (x ∷ xs) ys h = go (eqb x padding) h (free_prefix xs ys)
  where
    go : (b : Bool) → (b || list_any (λ octet. eqb octet padding) xs) ≡ false
        → (list_any (λ octet. eqb octet padding) xs ≡ false → before_padding (xs ++ ys) ≡ xs ++ before_padding ys)
        → take (cond (not b) (1 + prefix_len (λ o. not (eqb o padding)) (xs ++ ys)) 0) (x ∷ (xs ++ ys)) ≡ x ∷ (xs ++ before_padding ys)
    go true e rest = absurd (false≢true (sym e))
    go false e rest =
        let more : 1 + prefix_len (λ o. not (eqb o padding)) (xs ++ ys) ≡ suc (prefix_len (λ o. not (eqb o padding)) (xs ++ ys)) = omega arith in
        ap (λ n. take n (x ∷ (xs ++ ys))) more ∙ ap (λ l. x ∷ l) (rest e)

-- two facts of a success
pub ok_both : {T F : Type 0} {P Q R : T → Type 0} (r : Result T F) → IfOk r P → IfOk r Q → ((x : T) → P x → Q x → R x) → IfOk r R
ok_both (Ok x) p q h = h x p q
ok_both (Err x) p q h = tt

pub grown_on : (was mid now : List ℕ) → take (length was) mid ≡ was → take (length mid) now ≡ mid → take (length was) now ≡ was
grown_on was mid now first next =
    let few : length was ≤ length mid = omega (arith, ap length first, length-take (length was) mid) in
    sym (take-take (length was) (length mid) now few) ∙ ap (take (length was)) next ∙ first

-- ---- an octet of a text

pub before_next : (octet : ℕ) (text : List ℕ) → octet ≢ padding → before_padding (octet ∷ text) ≡ octet ∷ before_padding text
before_next octet text ne =
    let n = prefix_len (λ o. not (eqb o padding)) text in
    let more : 1 + n ≡ suc n = omega arith in
    ap (λ b. take (cond (not b) (1 + n) 0) (octet ∷ text)) (ne_eqb _ _ ne) ∙ ap (λ k. take k (octet ∷ text)) more

pub value_taken : (alphabet : Alphabet) (held : List ℕ) (octet : ℕ) (text : List ℕ) → octet ≢ padding → class_of alphabet octet ≢ stray
    → all_bits (width alphabet) (held ++ class_of alphabet octet ∷ []) ++ text_bits alphabet text ≡ all_bits (width alphabet) held ++ text_bits alphabet (octet ∷ text)
value_taken alphabet held octet text other value =
    let w = width alphabet in
    let class = class_of alphabet octet in
    let rest = values_of alphabet (before_padding text) in
    let next : text_bits alphabet (octet ∷ text) ≡ bits_of w class ++ text_bits alphabet text =
    ap (λ l. all_bits w (values_of alphabet l)) (before_next octet text other) ∙ ap (λ b. all_bits w (cond (not b) (class ∷ rest) rest)) (ne_eqb _ _ value) in
    ap (λ l. l ++ text_bits alphabet text) (flat_map-append (bits_of w) held (class ∷ []))
    ∙ append_assoc (all_bits w held) (bits_of w class ++ []) (text_bits alphabet text)
    ∙ ap (λ l. all_bits w held ++ l) (ap (λ l. l ++ text_bits alphabet text) (append-nil (bits_of w class)) ∙ sym next)

pub stray_passed : (alphabet : Alphabet) (octet : ℕ) (text : List ℕ) → octet ≢ padding → class_of alphabet octet ≡ stray → text_bits alphabet (octet ∷ text) ≡ text_bits alphabet text
stray_passed alphabet octet text other is =
    let w = width alphabet in
    let class = class_of alphabet octet in
    let rest = values_of alphabet (before_padding text) in
    ap (λ l. all_bits w (values_of alphabet l)) (before_next octet text other) ∙ ap (λ b. all_bits w (cond (not b) (class ∷ rest) rest)) (eq-eqb class stray is)

pub no_padding_first : (octet : ℕ) (text : List ℕ) → octet ≢ padding → contains_padding (octet ∷ text) ≡ contains_padding text
no_padding_first octet text other = ap (λ b. b || contains_padding text) (ne_eqb _ _ other)

-- a whole quantum's bits are whole octets
pub quantum_bits : (alphabet : Alphabet) (n : ℕ) → n ≡ quantum alphabet → n * width alphabet ≡ n * width alphabet / 8 * 8
quantum_bits Base64 n e = omega arith
quantum_bits Base32 n e = omega arith
quantum_bits Base32Hex n e = omega arith

-- ---- a first part of a text

-- what follows a first part
pub read_on : (alphabet : Alphabet) (n : ℕ) (text was now : List ℕ) → IsRead alphabet (take n text) was now
    → (all_bits 8 now ++ text_bits alphabet (drop n text) ≡ all_bits 8 was ++ text_bits alphabet text) × (contains_padding (drop n text) ≡ contains_padding text)
read_on alphabet n text was now read =
    let w = width alphabet in
    let prefix = take n text in
    let rest = drop n text in
    let whole_text = take-append-drop n text in
    let bits : text_bits alphabet text ≡ all_bits w (values_of alphabet prefix) ++ text_bits alphabet rest =
    ap (text_bits alphabet) (sym whole_text)
    ∙ ap (λ l. all_bits w (values_of alphabet l)) (free_prefix prefix rest read.free)
    ∙ ap (all_bits w) (values_of-append alphabet prefix (before_padding rest))
    ∙ flat_map-append (bits_of w) (values_of alphabet prefix) (values_of alphabet (before_padding rest)) in (
      ap (λ l. l ++ text_bits alphabet rest) read.bits ∙ append_assoc (all_bits 8 was) (all_bits w (values_of alphabet prefix)) (text_bits alphabet rest) ∙ ap (λ l. all_bits 8 was ++ l) (sym bits),
      sym (ap contains_padding (sym whole_text) ∙ list_any-append (λ octet. eqb octet padding) prefix rest ∙ ap (λ b. b || contains_padding rest) read.free),
    )

-- values that are those of a first part
values_read : (alphabet : Alphabet) (n m : ℕ) (prefix values was now : List ℕ) → contains_padding prefix ≡ false → take n values ≡ values_of alphabet prefix
    → length (values_of alphabet prefix) * width alphabet ≡ m * 8 → all_bits 8 now ≡ all_bits 8 was ++ whole 8 (all_bits (width alphabet) (take n values)) → IsRead alphabet prefix was now
values_read alphabet n m prefix values was now free are is appended =
    let w = width alphabet in
    record {
      free = free;
      bits = appended
          ∙ ap (λ l. all_bits 8 was ++ whole 8 (all_bits w l)) are
          ∙ ap (λ l. all_bits 8 was ++ l) (whole_all m (all_bits w (values_of alphabet prefix)) (length-all_bits w (values_of alphabet prefix) ∙ is));
    }

-- nothing of what fills a block up is read
pub within_text : (text : List ℕ) (k n : ℕ) → n ≤ length text + k → contains_padding (take n (text ++ replicate k padding)) ≡ false → n ≤ length text
within_text text k zero le free = omega arith
within_text [] zero (suc n) le free = absurd (omega arith)
within_text [] (suc k) (suc n) le free = absurd (false≢true (sym free))
within_text (x ∷ text) k (suc n) le free =
    let here = within_text text k n (omega arith) (rest (eqb x padding) free) in
    omega arith
  where
    rest : (b : Bool) → (b || contains_padding (take n (text ++ replicate k padding))) ≡ false → contains_padding (take n (text ++ replicate k padding)) ≡ false
    rest true h = absurd (false≢true (sym h))
    rest false h = h

-- the first part of a block that is filled up
pub padded_read : (alphabet : Alphabet) (text block was now : List ℕ) (end : ℕ) → length text ≤ 32 → block ≡ text ++ drop (length text) (replicate 32 padding) → end ≤ 32
    → IsRead alphabet (take end block) was now → (end ≤ length text) × IsRead alphabet (take end text) was now
padded_read alphabet text block was now end few is le read =
    let k = 32 - length text in
    let filled : block ≡ text ++ replicate k padding = is ∙ ap (λ l. text ++ l) (drop-replicate (length text) 32 padding) in
    let free : contains_padding (take end (text ++ replicate k padding)) ≡ false = ap (λ l. contains_padding (take end l)) (sym filled) ∙ read.free in
    let within : end ≤ length text = within_text text k end (omega arith) free in
    let same : take end block ≡ take end text = ap (take end) filled ∙ take-append-le end text (replicate k padding) within in
    (within, subst (λ l. IsRead alphabet l was now) same read)

no_padding : (alphabet : Alphabet) (run : List ℕ) → list_any (λ class. eqb class stray) (map (class_of alphabet) run) ≡ false → list_any (λ octet. eqb octet padding) run ≡ false
no_padding alphabet [] free = refl
no_padding alphabet (x ∷ run) free = go (eqb x padding) refl (eqb (class_of alphabet x) stray) refl free (no_padding alphabet run)
  where
    go : (p : Bool) → eqb x padding ≡ p → (b : Bool) → eqb (class_of alphabet x) stray ≡ b → (b || list_any (λ class. eqb class stray) (map (class_of alphabet) run)) ≡ false
        → (list_any (λ class. eqb class stray) (map (class_of alphabet) run) ≡ false → list_any (λ octet. eqb octet padding) run ≡ false)
        → (p || list_any (λ octet. eqb octet padding) run) ≡ false
    go p e true f h rest = absurd (false≢true (sym h))
    go false e false f h rest = rest h
    go true e false f h rest =
        let is : class_of alphabet x ≡ stray = ap (class_of alphabet) (eqb-true x padding e) ∙ padding_strays alphabet in
        absurd (eqb-false (class_of alphabet x) stray f is)

-- a block of symbols
pub block_read : (alphabet : Alphabet) (block classes was now : List ℕ) → length block ≡ 32 → classes ≡ map (class_of alphabet) block → list_any (λ class. eqb class stray) classes ≡ false
    → all_bits 8 now ≡ all_bits 8 was ++ whole 8 (all_bits (width alphabet) (take 32 classes)) → IsRead alphabet (take 32 block) was now
block_read alphabet block classes was now long is free appended =
    let all : take 32 block ≡ block = take_all 32 block (omega arith) in
    let symbols : list_any (λ class. eqb class stray) (map (class_of alphabet) block) ≡ false = ap (list_any (λ class. eqb class stray)) (sym is) ∙ free in
    let values : values_of alphabet block ≡ map (class_of alphabet) block = all_values (map (class_of alphabet) block) symbols in
    let many : length (map (class_of alphabet) block) ≡ 32 = length-map block (class_of alphabet) ∙ long in
    values_read alphabet 32 (4 * width alphabet) (take 32 block) classes was now
    (ap contains_padding all ∙ no_padding alphabet block symbols)
    (take_all 32 classes (omega (arith, ap length is)) ∙ is ∙ sym values ∙ ap (values_of alphabet) (sym all))
    (ap (λ l. length (values_of alphabet l) * width alphabet) all ∙ ap (λ l. length l * width alphabet) values ∙ ap (λ n. n * width alphabet) many ∙ (omega arith))
    appended

-- whole quanta are whole octets
pub whole_quanta : (alphabet : Alphabet) (n : ℕ) → (n - n % quantum alphabet) * width alphabet ≡ (n - n % quantum alphabet) * width alphabet / 8 * 8
whole_quanta Base64 n = omega arith
whole_quanta Base32 n = omega arith
whole_quanta Base32Hex n = omega arith

-- what comes before the first stray character is values
pub prefix_values : (alphabet : Alphabet) (n : ℕ) (block : List ℕ) → n ≤ position_or_len (λ class. eqb class stray) (map (class_of alphabet) block)
    → (list_any (λ class. eqb class stray) (map (class_of alphabet) (take n block)) ≡ false)
    × (take n (map (λ class. class % 2 ^ width alphabet) (map (class_of alphabet) block)) ≡ map (class_of alphabet) (take n block))
prefix_values alphabet zero block le = (refl, refl)
prefix_values alphabet (suc n) [] le = (refl, refl)
prefix_values alphabet (suc n) (x ∷ block) le = go (eqb (class_of alphabet x) stray) refl le (prefix_values alphabet n block)
  where
    go : (b : Bool) → eqb (class_of alphabet x) stray ≡ b → suc n ≤ cond (not b) (1 + prefix_len (λ c. not (eqb c stray)) (map (class_of alphabet) block)) 0
        → (n ≤ prefix_len (λ c. not (eqb c stray)) (map (class_of alphabet) block)
        → (list_any (λ c. eqb c stray) (map (class_of alphabet) (take n block)) ≡ false)
        × (take n (map (λ c. c % 2 ^ width alphabet) (map (class_of alphabet) block)) ≡ map (class_of alphabet) (take n block)))
        → ((eqb (class_of alphabet x) stray || list_any (λ c. eqb c stray) (map (class_of alphabet) (take n block))) ≡ false)
        × ((class_of alphabet x % 2 ^ width alphabet) ∷ take n (map (λ c. c % 2 ^ width alphabet) (map (class_of alphabet) block)) ≡ class_of alphabet x ∷ map (class_of alphabet) (take n block))
    go true e h rest = absurd (omega arith)
    go false e h rest =
        let r = rest (omega arith) in
        (ap (λ b. b || list_any (λ c. eqb c stray) (map (class_of alphabet) (take n block))) e ∙ r.0, λ i. mod-eq_of_lt (class_small alphabet x e) i ∷ r.1 i)

-- stray characters are passed over
pub strays_read : (alphabet : Alphabet) (block : List ℕ) (start k : ℕ) → start + k ≤ length block
    → ((i : ℕ) → start ≤ i → i < start + k → (get_or (map (class_of alphabet) block) i 0 ≡ stray) × (get_or block i 0 ≢ padding))
    → (values_of alphabet (take (start + k) block) ≡ values_of alphabet (take start block)) × (contains_padding (take (start + k) block) ≡ contains_padding (take start block))
strays_read alphabet block start zero le strays =
    let same : start + zero ≡ start = omega arith in
    (ap (λ n. values_of alphabet (take n block)) same, ap (λ n. contains_padding (take n block)) same)
strays_read alphabet block start (suc k) le strays =
    let at = start + k in
    let octet = get_or block at 0 in
    let within : at < length block = omega arith in
    let here = strays at (omega arith) (omega arith) in
    let is : class_of alphabet octet ≡ stray = sym (get_or-map (class_of alphabet) block at 0 0 within) ∙ here.0 in
    let count : start + suc k ≡ at + 1 = omega arith in
    let more : take (start + suc k) block ≡ take at block ++ octet ∷ [] = ap (λ n. take n block) count ∙ take_more block at 0 within in
    let before = strays_read alphabet block start k (omega arith) (λ i l h. strays i l (omega arith)) in (
      ap (values_of alphabet) more ∙ values_of-append alphabet (take at block) (octet ∷ [])
          ∙ ap (λ b. values_of alphabet (take at block) ++ cond (not b) (class_of alphabet octet ∷ []) []) (eq-eqb _ stray is)
          ∙ append-nil (values_of alphabet (take at block)) ∙ before.0,
      ap contains_padding more ∙ list_any-append (λ o. eqb o padding) (take at block) (octet ∷ [])
          ∙ ap (λ b. contains_padding (take at block) || (b || false)) (ne_eqb _ _ here.1)
          ∙ or_none (contains_padding (take at block)) ∙ before.1,
    )
  where
    or_none : (b : Bool) → (b || false) ≡ b
    or_none true = refl
    or_none false = refl

-- the whole quanta before a stray character, and the stray characters after them
pub run_read : (alphabet : Alphabet) (run n end : ℕ) (block classes values was now : List ℕ) → classes ≡ map (class_of alphabet) block
    → run ≡ position_or_len (λ class. eqb class stray) classes → n ≡ run - run % quantum alphabet → values ≡ map (λ class. class % 2 ^ width alphabet) classes
    → (values_of alphabet (take end block) ≡ values_of alphabet (take n block)) × (contains_padding (take end block) ≡ contains_padding (take n block))
    → all_bits 8 now ≡ all_bits 8 was ++ whole 8 (all_bits (width alphabet) (take n values)) → IsRead alphabet (take end block) was now
run_read alphabet run n end block classes values was now is found quanta from passed appended =
    let w = width alphabet in
    let p : ℕ → Bool = λ class. eqb class stray in
    let place : run ≡ position_or_len p (map (class_of alphabet) block) = found ∙ ap (position_or_len p) is in
    let before : n ≤ position_or_len p (map (class_of alphabet) block) = omega arith in
    let v = prefix_values alphabet n block before in
    let within : n ≤ length block = omega (arith, prefix_le (λ class. not (eqb class stray)) (map (class_of alphabet) block), length-map block (class_of alphabet)) in
    let values_are : values_of alphabet (take n block) ≡ map (class_of alphabet) (take n block) = all_values (map (class_of alphabet) (take n block)) v.0 in
    let many : length (values_of alphabet (take n block)) ≡ n = ap length values_are ∙ length-map (take n block) (class_of alphabet) ∙ length-take-le n block within in
    values_read alphabet n (n * w / 8) (take end block) values was now
    (passed.1 ∙ no_padding alphabet (take n block) v.0)
    (ap (take n) (from ∙ ap (map (λ class. class % 2 ^ w)) is) ∙ v.1 ∙ sym values_are ∙ sym passed.0)
    (ap (λ l. length l * w) passed.0 ∙ ap (λ k. k * w) (many ∙ quanta) ∙ whole_quanta alphabet run ∙ ap (λ k. k * w / 8 * 8) (sym quanta))
    appended

pub run_within : (classes : List ℕ) (run q : ℕ) → length classes ≡ 32 → run ≡ position_or_len (λ class. eqb class stray) classes → run - run % q ≤ 32
run_within classes run q long found = omega (arith, prefix_le (λ class. not (eqb class stray)) classes)

-- ---- at most a block

pub up_to_first : (text : List ℕ) (end : ℕ) → Some end ≡ position (λ octet. eqb octet padding) text → take end text ≡ before_padding text
up_to_first text end e = go (ltb (position_or_len (λ octet. eqb octet padding) text) (length text)) e
  where
    go : (b : Bool) → Some end ≡ cond b (Some (position_or_len (λ octet. eqb octet padding) text)) None → take end text ≡ before_padding text
    go true e = ap (λ r. take (unwrap_or r 0) text) e
    go false e = absurd (cc)

pub without_padding : (text : List ℕ) → None ≡ position (λ octet. eqb octet padding) text → text ≡ before_padding text
without_padding text e = go (ltb (position_or_len (λ octet. eqb octet padding) text) (length text)) refl e
  where
    go : (b : Bool) → ltb (position_or_len (λ octet. eqb octet padding) text) (length text) ≡ b → None ≡ cond b (Some (position_or_len (λ octet. eqb octet padding) text)) None → text ≡ before_padding text
    go true t e = absurd (cc)
    go false t e = sym (take_all (position_or_len (λ octet. eqb octet padding) text) text (ltb-false _ _ t))

values_of-padding : (alphabet : Alphabet) (n : ℕ) → values_of alphabet (replicate n padding) ≡ []
values_of-padding alphabet zero = refl
values_of-padding alphabet (suc n) =
    ap (λ c. cond (not (eqb c stray)) (c ∷ values_of alphabet (replicate n padding)) (values_of alphabet (replicate n padding))) (padding_strays alphabet) ∙ values_of-padding alphabet n

-- padding after a text has no values
pub values_of-padded : (alphabet : Alphabet) (text : List ℕ) (n : ℕ) → values_of alphabet (text ++ drop n (replicate 32 padding)) ≡ values_of alphabet text
values_of-padded alphabet text n =
    values_of-append alphabet text (drop n (replicate 32 padding))
    ∙ ap (λ l. values_of alphabet text ++ values_of alphabet l) (drop-replicate n 32 padding)
    ∙ ap (λ l. values_of alphabet text ++ l) (values_of-padding alphabet (32 - n)) ∙ append-nil (values_of alphabet text)

-- values are their own low bits
low_values : (w : ℕ) (values : List ℕ) → Each1 (λ value. value < 2 ^ w) values → map (λ value. value % 2 ^ w) values ≡ values
low_values w [] small = refl
low_values w (value ∷ values) small = λ i. mod-eq_of_lt small.0 i ∷ low_values w values small.1 i

-- the values that were closed up, and their octets
pub closed_octets : (alphabet : Alphabet) (m : ℕ) (kept filler octets : List ℕ) → All (λ value. value < 2 ^ width alphabet) kept → length kept ≤ 32
    → m ≡ length kept * width alphabet / 8
    → all_bits 8 (take (4 * width alphabet) octets) ≡ all_bits (width alphabet) (map (λ value. value % 2 ^ width alphabet) (kept ++ filler))
    → all_bits 8 (take m octets) ≡ whole 8 (all_bits (width alphabet) kept)
closed_octets alphabet m kept filler octets small few is same =
    let w = width alphabet in
    let low : ℕ → ℕ = λ value. value % 2 ^ w in
    let values : map low kept ≡ kept = low_values w kept (Each1-from_get_or (λ value. value < 2 ^ w) kept 0 (λ i l. small i 0 l)) in
    let room : m ≤ 4 * w = subst (λ k. k ≤ 4 * w) (sym is) (few_octets alphabet (length kept) few) in
    sym (bits_of-values w m kept (map low filler) octets is room (same ∙ ap (all_bits w) (map-append low kept filler ∙ ap (λ l. l ++ map low filler) values)))

-- ---- values with stray characters between them

free_part : (n : ℕ) (block : List ℕ) → list_any (λ octet. eqb octet padding) block ≡ false → list_any (λ octet. eqb octet padding) (take n block) ≡ false
free_part zero block free = refl
free_part (suc n) [] free = refl
free_part (suc n) (x ∷ block) free = go (eqb x padding) free (free_part n block)
  where
    go : (b : Bool) → (b || list_any (λ octet. eqb octet padding) block) ≡ false
        → (list_any (λ octet. eqb octet padding) block ≡ false → list_any (λ octet. eqb octet padding) (take n block) ≡ false)
        → (b || list_any (λ octet. eqb octet padding) (take n block)) ≡ false
    go true h rest = absurd (false≢true (sym h))
    go false h rest = rest h

-- the whole quanta of a block, where stray characters stand between its values
pub closed_read : (alphabet : Alphabet) (n last end : ℕ) (block classes closed values was now : List ℕ) → classes ≡ map (class_of alphabet) block → contains_padding block ≡ false
    → n ≡ length (values_among classes) → closed ≡ values_among classes ++ replicate (32 - length (values_among classes)) stray → values ≡ map (λ value. value % 2 ^ width alphabet) closed
    → last ≡ n % quantum alphabet → length (values_among (drop end classes)) ≡ last
    → all_bits 8 now ≡ all_bits 8 was ++ whole 8 (all_bits (width alphabet) (take (n - last) values)) → IsRead alphabet (take end block) was now
closed_read alphabet n last end block classes closed values was now is free count closed_is values_are last_is following appended =
    let w = width alphabet in
    let low : ℕ → ℕ = λ value. value % 2 ^ w in
    let kept = values_among classes in
    let prefix = values_among (take end classes) in
    let back = values_among (drop end classes) in
    let both : kept ≡ prefix ++ back = ap values_among (sym (take-append-drop end classes)) ∙ filter-append (λ class. not (eqb class stray)) (take end classes) (drop end classes) in
    let many : length prefix ≡ n - last = omega (arith, ap length both ∙ length-append prefix back) in
    let of_text : kept ≡ values_of alphabet block = ap values_among is in
    let small : Each1 (λ value. value < 2 ^ w) kept = subst (Each1 (λ value. value < 2 ^ w)) (sym of_text) (Each1-from_get_or (λ value. value < 2 ^ w) (values_of alphabet block) 0 (λ i l. values_small alphabet block i 0 l)) in
    let filler = map low (replicate (32 - length kept) stray) in
    let all : values ≡ prefix ++ (back ++ filler) =
    values_are ∙ ap (map low) closed_is ∙ map-append low kept (replicate (32 - length kept) stray) ∙ ap (λ l. l ++ filler) (low_values w kept small ∙ both) ∙ append_assoc prefix back filler in
    let taken : take (n - last) values ≡ prefix = ap (take (n - last)) all ∙ take_at prefix (back ++ filler) (n - last) many in
    let prefix_is : values_of alphabet (take end block) ≡ prefix = ap values_among (sym (take-map (class_of alphabet) end block) ∙ ap (take end) (sym is)) in
    let octets : length (values_of alphabet (take end block)) * w ≡ (n - last) * w / 8 * 8 =
    ap (λ l. length l * w) prefix_is ∙ ap (λ k. k * w) (many ∙ ap (λ k. n - k) last_is) ∙ whole_quanta alphabet n ∙ ap (λ k. (n - k) * w / 8 * 8) (sym last_is) in
    values_read alphabet (n - last) ((n - last) * w / 8) (take end block) values was now (free_part end block free) (taken ∙ sym prefix_is) octets appended
