-- Tokens, octet by octet.
use Rattle.std.proofs.Common.{◌≡◌, ℕ, suc, ◌+◌, ◌*◌, ◌==◌, ◌&&◌, Bool, true, false, cond, if◌then◌else◌, List, [], ◌∷◌, ◌++◌, length, take, drop, Option, Some, None, Err, refl, sym, ap, ◌∙◌, append_assoc, arith}
use Rattle.std.specs.Prelude.{not}
use Rattle.std.specs.List.{prefix_len, take_while}
use Rattle.std.specs.Char.{digit_value}
use Rattle.std.proofs.lemmas.List.{append-nil}
use Rattle.std.proofs.lemmas.Bool.Decides.{nat_tests}
use Rattle.bytecode_listing.specs.Tokens.{Token, Word, Text, Wrong, Placed, Stand, Between, Comment, InWord, InText, Escape, Digit, Stopped, is_white, is_word_octet, begun, after, ended, tokens_from, tokens_of}
use Rattle.bytecode_listing.specs.Items.{Tokens, word_in, word_at, text_in, text_at, left_at, is_left}
use Rattle.bytecode_listing.specs.Readers.{IsStart, led}
use Rattle.octets.specs.Escapes.{is_hex, escape_at, said_at}
use Rattle.std.specs.Option.{option_map}

-- ---- blanks and comments

pub after_white : (x : ℕ) (rest : List ℕ) → is_white x ≡ true → tokens_of (x ∷ rest) ≡ tokens_of rest
unfolding tokens_from
after_white x rest h = ap (λ b. tokens_from (if b then Between else (if x == 59 then Comment else (if x == 34 then InText (suc (length rest)) [] else (if is_word_octet x then InWord (suc (length rest)) (x ∷ []) else Stopped (suc (length rest)))))) rest) h

pub after_semicolon : (rest : List ℕ) → tokens_of (59 ∷ rest) ≡ tokens_from Comment rest
unfolding tokens_from
after_semicolon rest = refl

pub comment_ends : (rest : List ℕ) → tokens_from Comment (10 ∷ rest) ≡ tokens_of rest
unfolding tokens_from
comment_ends rest = refl

pub comment_goes_on : (x : ℕ) (rest : List ℕ) → (x == 10) ≡ false → tokens_from Comment (x ∷ rest) ≡ tokens_from Comment rest
unfolding tokens_from
comment_goes_on x rest h = ap (λ b. tokens_from (if b then Between else Comment) rest) h

-- ---- words

pub word_run : (start : ℕ) (said text : List ℕ) → tokens_from (InWord start said) text ≡ (record { token = Word (said ++ take_while is_word_octet text); left = start }) ∷ tokens_of (drop (prefix_len is_word_octet text) text)
unfolding tokens_from
word_run start said [] = ap (λ (w : List ℕ). (let p : Placed = record { token = Word w; left = start } in p) ∷ []) (sym (append-nil said))
word_run start said (x ∷ rest) = by_class (is_word_octet x) (word_run start (said ++ x ∷ []) rest)
  where
    by_class : (b : Bool) → tokens_from (InWord start (said ++ x ∷ [])) rest ≡ (record { token = Word ((said ++ x ∷ []) ++ take_while is_word_octet rest); left = start }) ∷ tokens_of (drop (prefix_len is_word_octet rest) rest)
        → (cond b [] ((record { token = Word said; left = start }) ∷ [])) ++ tokens_from (if b then InWord start (said ++ x ∷ []) else begun (suc (length rest)) x) rest
        ≡ (record { token = Word (said ++ take (cond b (1 + prefix_len is_word_octet rest) 0) (x ∷ rest)); left = start }) ∷ tokens_of (drop (cond b (1 + prefix_len is_word_octet rest) 0) (x ∷ rest))
    by_class true h =
        let one : 1 + prefix_len is_word_octet rest ≡ suc (prefix_len is_word_octet rest) = omega arith in
        rw (one, h) (ap (λ (w : List ℕ). (let p : Placed = record { token = Word w; left = start } in p) ∷ tokens_of (drop (prefix_len is_word_octet rest) rest)) (append_assoc said (x ∷ []) (take_while is_word_octet rest)))
    by_class false h = ap (λ (w : List ℕ). (let p : Placed = record { token = Word w; left = start } in p) ∷ tokens_of (x ∷ rest)) (sym (append-nil said))

-- ---- what is no word

text_step : (q e : Bool) (start : ℕ) (said more rest : List ℕ) → word_at (tokens_from (Escape start said) rest) ≡ Err start → word_at (tokens_from (InText start more) rest) ≡ Err start
    → word_at ((if q then (record { token = Text said; left = start }) ∷ [] else []) ++ tokens_from (if q then Between else (if e then Escape start said else InText start more)) rest) ≡ Err start
text_step true e start said more rest h k = refl
text_step false true start said more rest h k = h
text_step false false start said more rest h k = k

choice : (b : Bool) (P : Stand → Type 0) (x y : Stand) → P x → P y → P (if b then x else y)
choice true P x y h k = h
choice false P x y h k = k

stopped_word : (start : ℕ) (rest : List ℕ) → word_at (tokens_from (Stopped start) rest) ≡ Err start
unfolding tokens_from
stopped_word start [] = refl
stopped_word start (x ∷ rest) = stopped_word start rest

abbrev mutual
  unfolding tokens_from

  text_word : (start : ℕ) (said rest : List ℕ) → word_at (tokens_from (InText start said) rest) ≡ Err start
  text_word start said [] = refl
  text_word start said (x ∷ rest) = text_step (x == 34) (x == 92) start said (said ++ x ∷ []) rest (escape_word start said rest) (text_word start (said ++ x ∷ []) rest)

  escape_word : (start : ℕ) (said rest : List ℕ) → word_at (tokens_from (Escape start said) rest) ≡ Err start
  escape_word start said [] = refl
  escape_word start said (x ∷ rest) = choice (is_hex x) (λ s. word_at (tokens_from s rest) ≡ Err start) (Digit start said (digit_value x)) (Stopped start) (digit_word start said (digit_value x) rest) (stopped_word start rest)

  digit_word : (start : ℕ) (said : List ℕ) (high : ℕ) (rest : List ℕ) → word_at (tokens_from (Digit start said high) rest) ≡ Err start
  digit_word start said high [] = refl
  digit_word start said high (x ∷ rest) = choice (is_hex x) (λ s. word_at (tokens_from s rest) ≡ Err start) (InText start (said ++ (16 * high + digit_value x) ∷ [])) (Stopped start) (text_word start (said ++ (16 * high + digit_value x) ∷ []) rest) (stopped_word start rest)

-- ---- the first token

-- what stands first, where it is neither blank nor begins a comment
begins_so : (x : ℕ) (rest : List ℕ) → is_white x ≡ false → (x == 59) ≡ false → tokens_of (x ∷ rest) ≡ tokens_from (if x == 34 then InText (suc (length rest)) [] else (if is_word_octet x then InWord (suc (length rest)) (x ∷ []) else Stopped (suc (length rest)))) rest
unfolding tokens_from
begins_so x rest h k =
    ap (λ b. tokens_from (if b then Between else (if x == 59 then Comment else (if x == 34 then InText (suc (length rest)) [] else (if is_word_octet x then InWord (suc (length rest)) (x ∷ []) else Stopped (suc (length rest)))))) rest) h
    ∙ ap (λ b. tokens_from (if b then Comment else (if x == 34 then InText (suc (length rest)) [] else (if is_word_octet x then InWord (suc (length rest)) (x ∷ []) else Stopped (suc (length rest))))) rest) k

no_quote : (x : ℕ) → is_word_octet x ≡ true → (x == 34) ≡ false
no_quote x h = grind (arith, nat_tests)

pub leads : (text : List ℕ) → IsStart text → word_at (tokens_of text) ≡ led (take (prefix_len is_word_octet text) text) (drop (prefix_len is_word_octet text) text)
unfolding tokens_from
leads [] h = refl
leads (x ∷ rest) h = by_class (is_word_octet x) refl
  where
    by_class : (b : Bool) → is_word_octet x ≡ b → word_at (tokens_of (x ∷ rest)) ≡ led (take (cond b (1 + prefix_len is_word_octet rest) 0) (x ∷ rest)) (drop (cond b (1 + prefix_len is_word_octet rest) 0) (x ∷ rest))
    by_class true e =
        let one : 1 + prefix_len is_word_octet rest ≡ suc (prefix_len is_word_octet rest) = omega arith in
        ap word_at (begins_so x rest h.0 h.1)
        ∙ ap (λ b. word_at (tokens_from (if b then InText (suc (length rest)) [] else (if is_word_octet x then InWord (suc (length rest)) (x ∷ []) else Stopped (suc (length rest)))) rest)) (no_quote x e)
        ∙ ap (λ b. word_at (tokens_from (if b then InWord (suc (length rest)) (x ∷ []) else Stopped (suc (length rest))) rest)) e
        ∙ ap word_at (word_run (suc (length rest)) (x ∷ []) rest)
        ∙ rw one refl
    by_class false e =
        ap word_at (begins_so x rest h.0 h.1)
        ∙ ap (λ b. word_at (tokens_from (if x == 34 then InText (suc (length rest)) [] else (if b then InWord (suc (length rest)) (x ∷ []) else Stopped (suc (length rest)))) rest)) e
        ∙ choice (x == 34) (λ s. word_at (tokens_from s rest) ≡ Err (suc (length rest))) (InText (suc (length rest)) []) (Stopped (suc (length rest))) (text_word (suc (length rest)) [] rest) (stopped_word (suc (length rest)) rest)

-- ---- strings

pub stopped_text : (start : ℕ) (rest : List ℕ) → text_at (tokens_from (Stopped start) rest) ≡ Err start
unfolding tokens_from
stopped_text start [] = refl
stopped_text start (x ∷ rest) = stopped_text start rest

pub quote_first : (rest : List ℕ) → tokens_of (34 ∷ rest) ≡ tokens_from (InText (length (34 ∷ rest)) []) rest
unfolding tokens_from
quote_first rest = refl

-- no string stands first
pub no_text : (text : List ℕ) → IsStart text → ((x : ℕ) (rest : List ℕ) → text ≡ x ∷ rest → (x == 34) ≡ false) → text_at (tokens_of text) ≡ Err (length text)
unfolding tokens_from
no_text [] h k = refl
no_text (x ∷ rest) h k =
    ap text_at (begins_so x rest h.0 h.1)
    ∙ ap (λ b. text_at (tokens_from (if b then InText (suc (length rest)) [] else (if is_word_octet x then InWord (suc (length rest)) (x ∷ []) else Stopped (suc (length rest)))) rest)) (k x rest refl)
    ∙ choice (is_word_octet x) (λ s. text_at (tokens_from s rest) ≡ Err (suc (length rest))) (InWord (suc (length rest)) (x ∷ [])) (Stopped (suc (length rest))) (ap text_at (word_run (suc (length rest)) (x ∷ []) rest)) (stopped_text (suc (length rest)) rest)

-- where no word stands, the place is that of the first token
word_left : (tokens : Tokens) (left : ℕ) → word_at tokens ≡ Err left → left_at tokens ≡ left
word_left [] left h = cc
word_left (first ∷ rest) left h = in_token first.token h
  where
    in_token : (token : Token) → word_in token first.left rest ≡ Err left → first.left ≡ left
    in_token (Word w) h = absurd cc
    in_token (Text t) h = cc
    in_token Wrong h = cc

text_left : (start : ℕ) (said rest : List ℕ) → left_at (tokens_from (InText start said) rest) ≡ start
text_left start said rest = word_left (tokens_from (InText start said) rest) start (text_word start said rest)

stopped_left : (start : ℕ) (rest : List ℕ) → left_at (tokens_from (Stopped start) rest) ≡ start
stopped_left start rest = word_left (tokens_from (Stopped start) rest) start (stopped_word start rest)

-- how many octets are left where the first token begins
pub first_left : (text : List ℕ) → IsStart text → length text ≡ left_at (tokens_of text)
unfolding tokens_from
first_left [] h = refl
first_left (x ∷ rest) h = sym (
    ap left_at (begins_so x rest h.0 h.1)
    ∙ choice (x == 34) (λ s. left_at (tokens_from s rest) ≡ suc (length rest)) (InText (suc (length rest)) []) (if is_word_octet x then InWord (suc (length rest)) (x ∷ []) else Stopped (suc (length rest)))
    (text_left (suc (length rest)) [] rest)
    (choice (is_word_octet x) (λ s. left_at (tokens_from s rest) ≡ suc (length rest)) (InWord (suc (length rest)) (x ∷ [])) (Stopped (suc (length rest))) (ap left_at (word_run (suc (length rest)) (x ∷ []) rest)) (stopped_left (suc (length rest)) rest))
    )

-- ---- what the readers need

prefix_taken : (p : ℕ → Bool) (xs : List ℕ) → length (take_while p xs) ≡ prefix_len p xs
prefix_taken p [] = refl
prefix_taken p (x ∷ xs) = by_class (p x) (prefix_taken p xs)
  where
    by_class : (b : Bool) → length (take (prefix_len p xs) xs) ≡ prefix_len p xs → length (take (cond b (1 + prefix_len p xs) 0) (x ∷ xs)) ≡ cond b (1 + prefix_len p xs) 0
    by_class true h =
        let one : 1 + prefix_len p xs ≡ suc (prefix_len p xs) = omega arith in
        rw one (ap suc h)
    by_class false h = refl

pub leads_at : (text front back : List ℕ) (n : ℕ) → IsStart text → n ≡ length (take_while is_word_octet text) → front ≡ take n text → back ≡ drop n text → word_at (tokens_of text) ≡ led front back
leads_at text front back n h e f b =
    let m : n ≡ prefix_len is_word_octet text = e ∙ prefix_taken is_word_octet text in
    leads text h ∙ ap (λ k. led (take k text) (drop k text)) (sym m) ∙ sym (ap (λ (t : List ℕ). led t back) f ∙ ap (λ (t : List ℕ). led (take n text) t) b)

both : {A : Type 0} (a b : Bool) (x : ℕ) (f : ℕ → A) (y : A) → option_map f (if a && b then Some x else None) ≡ Some y → (a ≡ true) × (b ≡ true) × (f x ≡ y)
both true true x f y h = (refl, refl, cc)
both true false x f y h = absurd cc
both false b x f y h = absurd cc

-- an escape is the octet that it stands for
pub escape_read : (start : ℕ) (said octets : List ℕ) (o : ℕ) (rest : List ℕ) → escape_at octets ≡ Some (o, rest) → tokens_from (Escape start said) octets ≡ tokens_from (InText start (said ++ o ∷ [])) rest
unfolding tokens_from
escape_read start said [] o rest e = absurd cc
escape_read start said (x ∷ []) o rest e = absurd cc
escape_read start said (x ∷ y ∷ more) o rest e =
    let h = both (is_hex x) (is_hex y) (16 * digit_value x + digit_value y) (λ octet. (octet, more)) (o, rest) e in
    let value : 16 * digit_value x + digit_value y ≡ o = ap (λ (p : ℕ × List ℕ). p.0) h.2 in
    let same : more ≡ rest = ap (λ (p : ℕ × List ℕ). p.1) h.2 in
    ap (λ b. tokens_from (if b then Digit start said (digit_value x) else Stopped start) (y ∷ more)) h.0
    ∙ ap (λ b. tokens_from (if b then InText start (said ++ (16 * digit_value x + digit_value y) ∷ []) else Stopped start) more) h.1
    ∙ ap (λ n. tokens_from (InText start (said ++ n ∷ [])) more) value
    ∙ ap (λ (t : List ℕ). tokens_from (InText start (said ++ o ∷ [])) t) same

pub escape_stops : (start : ℕ) (said octets : List ℕ) → escape_at octets ≡ None → text_at (tokens_from (Escape start said) octets) ≡ Err start
unfolding tokens_from
escape_stops start said [] e = refl
escape_stops start said (x ∷ []) e = choice (is_hex x) (λ s. text_at (tokens_from s []) ≡ Err start) (Digit start said (digit_value x)) (Stopped start) refl refl
escape_stops start said (x ∷ y ∷ more) e = first_class (is_hex x) (by_class (is_hex x) (is_hex y) e)
  where
    by_class : (a b : Bool) → (let o : Option (ℕ × List ℕ) = option_map (λ octet. (octet, more)) (if a && b then Some (16 * digit_value x + digit_value y) else None) in o) ≡ None
        → text_at (tokens_from (if a then (if b then InText start (said ++ (16 * digit_value x + digit_value y) ∷ []) else Stopped start) else Stopped start) more) ≡ Err start
    by_class true true h = absurd cc
    by_class true false h = stopped_text start more
    by_class false b h = stopped_text start more

    first_class : (a : Bool) → text_at (tokens_from (if a then (if is_hex y then InText start (said ++ (16 * digit_value x + digit_value y) ∷ []) else Stopped start) else Stopped start) more) ≡ Err start
        → text_at (ended (if a then Digit start said (digit_value x) else Stopped start) y ++ tokens_from (after (if a then Digit start said (digit_value x) else Stopped start) (suc (length more)) y) more) ≡ Err start
    first_class true h = h
    first_class false h = h

pub unequal : (a b : ℕ) → (a ≡ b → ⊥) → (a == b) ≡ false
unequal a b h = grind (arith, nat_tests)

-- one octet of a string
pub said_stops : (start : ℕ) (said octets rest : List ℕ) (x : ℕ) → octets ≡ x ∷ rest → (x == 34) ≡ false → said_at x rest ≡ None → text_at (tokens_from (InText start said) octets) ≡ Err start
unfolding tokens_from
said_stops start said octets rest x e q h =
    ap (λ (t : List ℕ). text_at (tokens_from (InText start said) t)) e ∙ by_class (x == 34) (x == 92) q h
  where
    by_class : (a b : Bool) → a ≡ false → (if b then escape_at rest else Some (x, rest)) ≡ None
        → text_at ((if a then (record { token = Text said; left = start }) ∷ [] else []) ++ tokens_from (if a then Between else (if b then Escape start said else InText start (said ++ x ∷ []))) rest) ≡ Err start
    by_class true b q h = absurd cc
    by_class false true q h = escape_stops start said rest h
    by_class false false q h = absurd cc

pub said_goes_on : (start : ℕ) (said octets rest : List ℕ) (x o : ℕ) (after : List ℕ) → octets ≡ x ∷ rest → (x == 34) ≡ false → said_at x rest ≡ Some (o, after) → tokens_from (InText start said) octets ≡ tokens_from (InText start (said ++ o ∷ [])) after
unfolding tokens_from
said_goes_on start said octets rest x o after e q h =
    ap (λ (t : List ℕ). tokens_from (InText start said) t) e ∙ by_class (x == 34) (x == 92) q h
  where
    by_class : (a b : Bool) → a ≡ false → (if b then escape_at rest else Some (x, rest)) ≡ Some (o, after)
        → (if a then (record { token = Text said; left = start }) ∷ [] else []) ++ tokens_from (if a then Between else (if b then Escape start said else InText start (said ++ x ∷ []))) rest ≡ tokens_from (InText start (said ++ o ∷ [])) after
    by_class true b q h = absurd cc
    by_class false true q h = escape_read start said rest o after h
    by_class false false q h =
        let same : (x, rest) ≡ (let p : ℕ × List ℕ = (o, after) in p) = cc in
        ap (λ (p : ℕ × List ℕ). tokens_from (InText start (said ++ p.0 ∷ [])) p.1) same

pub text_ends : (start : ℕ) (said rest : List ℕ) → text_at (tokens_from (InText start said) (34 ∷ rest)) ≡ text_in (Text said) start (tokens_of rest)
unfolding tokens_from
text_ends start said rest = refl

pub text_broken : (start : ℕ) (said : List ℕ) → text_at (tokens_from (InText start said) []) ≡ Err start
unfolding tokens_from
text_broken start said = refl

-- a token is left where an octet is that is neither blank nor in a comment
pub some_left : (text : List ℕ) → IsStart text → not (length text == 0) ≡ is_left (tokens_of text)
unfolding tokens_from
some_left [] h = refl
some_left (x ∷ rest) h = by_tokens (tokens_of (x ∷ rest)) (first_left (x ∷ rest) h)
  where
    by_tokens : (tokens : Tokens) → suc (length rest) ≡ left_at tokens → not (suc (length rest) == 0) ≡ is_left tokens
    by_tokens [] e = absurd (omega (arith, e))
    by_tokens (t ∷ tokens) e = grind arith
