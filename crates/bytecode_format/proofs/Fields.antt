-- A field that is read is the field that was written, and what was written is read again.
use Rattle.std.proofs.Common.{◌≡◌, ℕ, zero, suc, ◌+◌, ◌^◌, ◌<◌, ◌≤◌, Bool, true, false, cond, ltb, List, [], ◌∷◌, ◌++◌, length, get_or, take, drop, Option, Some, None, refl, sym, ap, subst, ◌∙◌, append_assoc, arith, inl, inr}
use Rattle.std.specs.Prelude.{◌||◌}
use Rattle.std.specs.List.{flat_map, AllByRecursion}
use Rattle.std.specs.Int.{Width, w16, w32, w64, byte_len, from_be_bytes, to_be_bytes}
use Rattle.std.proofs.lemmas.Bool.{cases_lt, ltb-false, le-ltb}
use Rattle.std.proofs.lemmas.List.{take_at, drop_at, take-append-drop, length-append, length-take, get_or-drop, get_or-take, get_or_past}
use Rattle.std.proofs.lemmas.List.Concat.{flat_map-cons}
use Rattle.std.proofs.lemmas.Nat.{be_bytes_2, be_bytes_4, be_bytes_8, from_be_bytes-to_be_bytes_2, from_be_bytes-to_be_bytes_4, from_be_bytes-to_be_bytes_8}
use Rattle.bytecode_format.specs.declared.instruction.Instruction.{Instruction}
use Rattle.bytecode_format.specs.Spelling.{string, instruction, octet, two_octets, four_octets, eight_octets, Fits}
use Rattle.bytecode_format.specs.Readers.{◌>>=◌, octet_at, number_at, string_at, instruction_at, many_at}

-- each member of a text is an octet
abbrev pub AreOctets : List ℕ → Type 0
AreOctets octets = (i : ℕ) → get_or octets i 0 < 256

pub AreOctets-drop : (n : ℕ) (octets : List ℕ) → AreOctets octets → AreOctets (drop n octets)
AreOctets-drop n octets h i = rw get_or-drop (h (n + i))

AreOctets-take : (n : ℕ) (octets : List ℕ) → AreOctets octets → AreOctets (take n octets)
AreOctets-take n octets h i =
    elim (cases_lt i n) [
      | inl lt ↦ rw (get_or-take n octets i 0 lt) (h i)
      | inr le ↦ rw (get_or_past (take n octets) i 0 (omega (arith, length-take n octets))) (omega arith)
    ]

-- the value of a step that did not fail
pub bind_some : {A B : Type 0} (r : Option A) (f : A → Option B) (y : B) → (r >>= f) ≡ Some y → (x : A) × (r ≡ Some x) × (f x ≡ Some y)
bind_some (Some x) f y e = (x, refl, e)
bind_some None f y e = absurd cc

-- a test that did not fail
pub guard_some : {A : Type 0} (b : Bool) (x : Option A) (y : A) → cond b None x ≡ Some y → (b ≡ false) × (x ≡ Some y)
guard_some true x y e = absurd cc
guard_some false x y e = (refl, e)

pub some_is : {A : Type 0} (x y : A) → (let o : Option A = Some x in o) ≡ Some y → x ≡ y
some_is x y e = cc

pub neither : (a b : Bool) → (a || b) ≡ false → (a ≡ false) × (b ≡ false)
neither true b e = absurd cc
neither false b e = (refl, e)

-- what a reader took from the prefix
pub record Takes (octets text rest : List ℕ) : Type 0 where
  pub parts : octets ≡ text ++ rest
  pub rest_fits : AreOctets rest

pub Takes-then : (a x b y c : List ℕ) → Takes a x b → Takes b y c → Takes a (x ++ y) c
Takes-then a x b y c p q = record { parts = p.parts ∙ ap (λ (t : List ℕ). x ++ t) q.parts ∙ sym (append_assoc x y c); rest_fits = q.rest_fits }

-- a reader reads the texts of the values that fit, and those alone
pub record Reads {A : Type 0} (item : List ℕ → Option (A × List ℕ)) (text : A → List ℕ) (Within : A → Type 0) : Type 0 where
  pub takes : (octets : List ℕ) (x : A × List ℕ) → AreOctets octets → item octets ≡ Some x → Takes octets (text x.0) x.1 × Within x.0
  pub again : (x : A) (rest : List ℕ) → Within x → item (text x ++ rest) ≡ Some (x, rest)

-- ---- octets and numbers

AreOctets-rest : (x : ℕ) (octets : List ℕ) → AreOctets (x ∷ octets) → AreOctets octets
AreOctets-rest x octets h i = h (suc i)

octet_takes : (octets : List ℕ) (x : ℕ × List ℕ) → AreOctets octets → octet_at octets ≡ Some x → Takes octets (octet x.0) x.1 × (x.0 < 2 ^ 8)
octet_takes [] x fits e = absurd cc
octet_takes (n ∷ rest) x fits e =
    subst (λ (y : ℕ × List ℕ). Takes (n ∷ rest) (octet y.0) y.1 × (y.0 < 2 ^ 8)) (some_is (n, rest) x e) (record { parts = refl; rest_fits = AreOctets-rest n rest fits }, omega (arith, fits 0))

pub reads_octet : Reads octet_at octet (λ n. n < 2 ^ 8)
reads_octet = record { takes = octet_takes; again = λ n rest lt. refl }

record IsWide (w : Width) (limit : ℕ) : Type 0 where
  pub len : (n : ℕ) → length (to_be_bytes w n) ≡ byte_len w
  pub back : (octets : List ℕ) → length octets ≡ byte_len w → AreOctets octets → to_be_bytes w (from_be_bytes w octets) ≡ octets
  pub again : (n : ℕ) → n < limit → from_be_bytes w (to_be_bytes w n) ≡ n
  pub below : (octets : List ℕ) → AreOctets octets → from_be_bytes w octets < limit

wide16 : IsWide w16 (2 ^ 16)
wide16 = record {
  len = λ n. refl;
  back = λ octets len fits. be_bytes_2 octets _ len fits refl;
  again = λ n lt. from_be_bytes-to_be_bytes_2 n lt;
  below = λ octets fits. omega (arith, fits 0, fits 1);
}

wide32 : IsWide w32 (2 ^ 32)
wide32 = record {
  len = λ n. refl;
  back = λ octets len fits. be_bytes_4 octets _ len fits refl;
  again = λ n lt. from_be_bytes-to_be_bytes_4 n lt;
  below = λ octets fits. omega (arith, fits 0, fits 1, fits 2, fits 3);
}

wide64 : IsWide w64 (2 ^ 64)
wide64 = record {
  len = λ n. refl;
  back = λ octets len fits. be_bytes_8 octets _ len fits refl;
  again = λ n lt. from_be_bytes-to_be_bytes_8 n lt;
  below = λ octets fits. omega (arith, fits 0, fits 1, fits 2, fits 3, fits 4, fits 5, fits 6, fits 7);
}

number_takes : (w : Width) (limit : ℕ) (wide : IsWide w limit) (octets : List ℕ) (x : ℕ × List ℕ) → AreOctets octets → number_at w octets ≡ Some x → Takes octets (to_be_bytes w x.0) x.1 × (x.0 < limit)
number_takes w limit wide octets x fits e =
    let read : ℕ × List ℕ = (from_be_bytes w (take (byte_len w) octets), drop (byte_len w) octets) in
    let g = guard_some (ltb (length octets) (byte_len w)) (Some read) x e in
    let long : byte_len w ≤ length octets = ltb-false _ _ g.0 in
    let prefix : to_be_bytes w read.0 ≡ take (byte_len w) octets = wide.back (take (byte_len w) octets) (omega (arith, length-take (byte_len w) octets)) (AreOctets-take (byte_len w) octets fits) in
    subst (λ (y : ℕ × List ℕ). Takes octets (to_be_bytes w y.0) y.1 × (y.0 < limit)) (some_is read x g.1)
    (record { parts = rw prefix (sym (take-append-drop (byte_len w) octets)); rest_fits = AreOctets-drop (byte_len w) octets fits }, wide.below (take (byte_len w) octets) (AreOctets-take (byte_len w) octets fits))

number_again : (w : Width) (limit : ℕ) (wide : IsWide w limit) (n : ℕ) (rest : List ℕ) → n < limit → number_at w (to_be_bytes w n ++ rest) ≡ Some (n, rest)
number_again w limit wide n rest lt =
    let len = wide.len n in
    let long : ltb (length (to_be_bytes w n ++ rest)) (byte_len w) ≡ false = le-ltb _ _ (omega (arith, length-append (to_be_bytes w n) rest)) in
    rw (long, take_at (to_be_bytes w n) rest (byte_len w) len, drop_at (to_be_bytes w n) rest (byte_len w) len, wide.again n lt) refl

pub reads_two : Reads (number_at w16) two_octets (λ n. n < 2 ^ 16)
reads_two = record { takes = number_takes w16 (2 ^ 16) wide16; again = number_again w16 (2 ^ 16) wide16 }

pub reads_four : Reads (number_at w32) four_octets (λ n. n < 2 ^ 32)
reads_four = record { takes = number_takes w32 (2 ^ 32) wide32; again = number_again w32 (2 ^ 32) wide32 }

pub reads_eight : Reads (number_at w64) eight_octets (λ n. n < 2 ^ 64)
reads_eight = record { takes = number_takes w64 (2 ^ 64) wide64; again = number_again w64 (2 ^ 64) wide64 }

-- ---- strings

string_takes : (octets : List ℕ) (x : List ℕ × List ℕ) → AreOctets octets → string_at octets ≡ Some x → Takes octets (string x.0) x.1 × (length x.0 ≤ 16384)
unfolding string_at
string_takes octets x fits e =
    let b = bind_some (number_at w16 octets) (λ n. cond (ltb 16384 n.0 || ltb (length n.1) n.0) None (Some (take n.0 n.1, drop n.0 n.1))) x e in
    let n = b.0 in
    let t = reads_two.takes octets n fits b.1 in
    let read : List ℕ × List ℕ = (take n.0 n.1, drop n.0 n.1) in
    let g = guard_some (ltb 16384 n.0 || ltb (length n.1) n.0) (Some read) x b.2 in
    let both = neither (ltb 16384 n.0) (ltb (length n.1) n.0) g.0 in
    let short : n.0 ≤ 16384 = ltb-false _ _ both.0 in
    let long : n.0 ≤ length n.1 = ltb-false _ _ both.1 in
    let len : length (take n.0 n.1) ≡ n.0 = omega (arith, length-take n.0 n.1) in
    let second : Takes n.1 (take n.0 n.1) (drop n.0 n.1) = record { parts = sym (take-append-drop n.0 n.1); rest_fits = AreOctets-drop n.0 n.1 t.0.rest_fits } in
    let joined = Takes-then octets (two_octets n.0) n.1 (take n.0 n.1) (drop n.0 n.1) t.0 second in
    let whole : Takes octets (string (take n.0 n.1)) (drop n.0 n.1) = subst (λ (k : ℕ). Takes octets (two_octets k ++ take n.0 n.1) (drop n.0 n.1)) (sym len) joined in
    subst (λ (p : List ℕ × List ℕ). Takes octets (string p.0) p.1 × (length p.0 ≤ 16384)) (some_is read x g.1) (whole, omega (arith, short))

string_again : (text rest : List ℕ) → length text ≤ 16384 → string_at (string text ++ rest) ≡ Some (text, rest)
unfolding string_at
string_again text rest le =
    let short : ltb 16384 (length text) ≡ false = le-ltb _ _ le in
    let long : ltb (length (text ++ rest)) (length text) ≡ false = le-ltb _ _ (omega (arith, length-append text rest)) in
    ap string_at (append_assoc (two_octets (length text)) text rest) ∙ rw (reads_two.again (length text) (text ++ rest) (omega arith), short, long, take_at text rest (length text) refl, drop_at text rest (length text) refl) refl

pub reads_string : Reads string_at string (λ text. length text ≤ 16384)
reads_string = record { takes = string_takes; again = string_again }

-- ---- instructions

instruction_takes : (octets : List ℕ) (x : Instruction × List ℕ) → AreOctets octets → instruction_at octets ≡ Some x → Takes octets (instruction x.0) x.1 × Fits x.0
unfolding instruction_at
instruction_takes octets x fits e =
    let op = bind_some (octet_at octets) (λ op. octet_at op.1 >>= λ a. number_at w16 a.1 >>= λ b. number_at w32 b.1 >>= λ c. Some (record { op = op.0; a = a.0; b = b.0; c = c.0 }, c.1)) x e in
    let a = bind_some (octet_at op.0.1) (λ a. number_at w16 a.1 >>= λ b. number_at w32 b.1 >>= λ c. Some (record { op = op.0.0; a = a.0; b = b.0; c = c.0 }, c.1)) x op.2 in
    let b = bind_some (number_at w16 a.0.1) (λ b. number_at w32 b.1 >>= λ c. Some (record { op = op.0.0; a = a.0.0; b = b.0; c = c.0 }, c.1)) x a.2 in
    let c = bind_some (number_at w32 b.0.1) (λ c. Some (record { op = op.0.0; a = a.0.0; b = b.0.0; c = c.0 }, c.1)) x b.2 in
    let t0 = reads_octet.takes octets op.0 fits op.1 in
    let t1 = reads_octet.takes op.0.1 a.0 t0.0.rest_fits a.1 in
    let t2 = reads_two.takes a.0.1 b.0 t1.0.rest_fits b.1 in
    let t3 = reads_four.takes b.0.1 c.0 t2.0.rest_fits c.1 in
    let u1 = Takes-then octets (octet op.0.0) op.0.1 (octet a.0.0) a.0.1 t0.0 t1.0 in
    let u2 = Takes-then octets (octet op.0.0 ++ octet a.0.0) a.0.1 (two_octets b.0.0) b.0.1 u1 t2.0 in
    let u3 = Takes-then octets (octet op.0.0 ++ octet a.0.0 ++ two_octets b.0.0) b.0.1 (four_octets c.0.0) c.0.1 u2 t3.0 in
    let made : Instruction × List ℕ = (record { op = op.0.0; a = a.0.0; b = b.0.0; c = c.0.0 }, c.0.1) in
    subst (λ (y : Instruction × List ℕ). Takes octets (instruction y.0) y.1 × Fits y.0) (some_is made x c.2) (u3, record { op = t0.1; a = t1.1; b = t2.1; c = t3.1 })

instruction_again : (i : Instruction) (rest : List ℕ) → Fits i → instruction_at (instruction i ++ rest) ≡ Some (i, rest)
unfolding instruction_at
instruction_again i rest fits =
    let four : number_at w32 (four_octets i.c ++ rest) ≡ Some (i.c, rest) = reads_four.again i.c rest fits.c in
    let two : number_at w16 (two_octets i.b ++ (four_octets i.c ++ rest)) ≡ Some (i.b, four_octets i.c ++ rest) = reads_two.again i.b (four_octets i.c ++ rest) fits.b in
    let regrouped : instruction i ++ rest ≡ i.op ∷ i.a ∷ (two_octets i.b ++ (four_octets i.c ++ rest)) = simp append_assoc in
    ap instruction_at regrouped ∙ rw (two, four) refl

pub reads_instruction : Reads instruction_at instruction Fits
reads_instruction = record { takes = instruction_takes; again = instruction_again }

-- ---- many items

pub many_takes : {A : Type 0} {item : List ℕ → Option (A × List ℕ)} {text : A → List ℕ} {Within : A → Type 0} (reads : Reads item text Within) (n : ℕ) (octets : List ℕ) (x : List A × List ℕ) → AreOctets octets → many_at item n octets ≡ Some x → Takes octets (flat_map text x.0) x.1 × (length x.0 ≡ n) × AllByRecursion Within x.0
unfolding many_at
many_takes {A} {item} {text} {Within} reads zero octets x fits e =
    subst (λ (y : List A × List ℕ). Takes octets (flat_map text y.0) y.1 × (length y.0 ≡ 0) × AllByRecursion Within y.0) (some_is ([], octets) x e) (record { parts = refl; rest_fits = fits }, refl, tt)
many_takes {A} {item} {text} {Within} reads (suc n) octets x fits e =
    let a = bind_some (item octets) (λ first. many_at item n first.1 >>= λ others. Some (first.0 ∷ others.0, others.1)) x e in
    let b = bind_some (many_at item n a.0.1) (λ others. Some (a.0.0 ∷ others.0, others.1)) x a.2 in
    let first = reads.takes octets a.0 fits a.1 in
    let second = many_takes reads n a.0.1 b.0 first.0.rest_fits b.1 in
    let both = Takes-then octets (text a.0.0) a.0.1 (flat_map text b.0.0) b.0.1 first.0 second.0 in
    let made : List A × List ℕ = (a.0.0 ∷ b.0.0, b.0.1) in
    subst (λ (y : List A × List ℕ). Takes octets (flat_map text y.0) y.1 × (length y.0 ≡ suc n) × AllByRecursion Within y.0) (some_is made x b.2) (rw flat_map-cons both, ap suc second.1, (first.1, second.2))

pub many_again : {A : Type 0} {item : List ℕ → Option (A × List ℕ)} {text : A → List ℕ} {Within : A → Type 0} (reads : Reads item text Within) (xs : List A) (rest : List ℕ) → AllByRecursion Within xs → many_at item (length xs) (flat_map text xs ++ rest) ≡ Some (xs, rest)
unfolding many_at
many_again reads [] rest fits = refl
many_again {A} {item} {text} {Within} reads (x ∷ xs) rest fits =
    let regrouped : flat_map text (x ∷ xs) ++ rest ≡ text x ++ (flat_map text xs ++ rest) = ap (λ (t : List ℕ). t ++ rest) (flat_map-cons text x xs) ∙ append_assoc (text x) (flat_map text xs) rest in
    ap (many_at item (suc (length xs))) regrouped ∙ rw (reads.again x (flat_map text xs ++ rest) fits.0, many_again reads xs rest fits.1) refl
