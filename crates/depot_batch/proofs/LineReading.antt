-- What is taken of a reader up to a line break.
use Rattle.std.proofs.Common.{◌≡◌, ◌≢◌, ◌∙◌, ◌⊎◌, ◌-◌, ◌==◌, ap, arith, inl, inr, refl, subst, sym, ℕ, Bool, true, false, List, [], ◌∷◌, ◌++◌, Option, Some, None, IfSome, length, take, if◌then◌else◌, eqb-true}
use Rattle.std.specs.Io.{StopsAt, appended_bytes}
use Rattle.std.specs.Io.BufRead.{take_through}
use Rattle.std.specs.List.{All}
use Rattle.std.proofs.lemmas.List.{length-append}
use Rattle.std.proofs.Math.Seq.{take-append_seam}
use Rattle.std.proofs.lemmas.List.Elements.{All-push}
use Rattle.depot_batch.specs.Private.{EndsSo, IsTaken}
use Rattle.depot_batch.specs.declared.reading.Taken.{Taken}
use Rattle.depot_batch.specs.declared.reading.Taken.TheVariants.{Line, Unfinished, Nothing}

-- octets up to a break, where another stands before them
one_more : (test : Bool) (byte x : ℕ) (xs : List ℕ) → (test ≡ true → x ≡ byte)
    → (xs ≡ take_through byte xs) ⊎ ((text : List ℕ) × (take_through byte xs ≡ text ++ byte ∷ []))
    → (x ∷ xs ≡ (if test then x ∷ [] else x ∷ take_through byte xs)) ⊎ ((text : List ℕ) × ((if test then x ∷ [] else x ∷ take_through byte xs) ≡ text ++ byte ∷ []))
one_more true byte x xs is later = inr ([], ap (λ o. o ∷ []) (is refl))
one_more false byte x xs is later = elim later [
  | inl all ↦ inl (ap (λ l. x ∷ l) all)
  | inr found ↦ inr (x ∷ found.0, ap (λ l. x ∷ l) found.1)
]

-- octets up to a break are all, or end in it
through : (byte : ℕ) (xs : List ℕ) → (xs ≡ take_through byte xs) ⊎ ((text : List ℕ) × (take_through byte xs ≡ text ++ byte ∷ []))
through byte [] = inl refl
through byte (x ∷ xs) = one_more (x == byte) byte x xs (λ is. eqb-true x byte is) (through byte xs)

-- what ends in no break is all that was left
all_left : (octets : List ℕ) (left : Option (List ℕ)) → IfSome left (λ xs. octets ≡ take_through 10 xs) → ((text : List ℕ) → octets ≡ text ++ 10 ∷ [] → ⊥)
    → IfSome left (λ all. all ≡ octets)
all_left octets None is other = tt
all_left octets (Some xs) is other = elim (through 10 xs) [
  | inl all ↦ all ∙ sym is
  | inr found ↦ absurd (other found.0 (is ∙ found.1))
]

-- octets without the last
front : (text : List ℕ) (octet : ℕ) → take (length (text ++ octet ∷ []) - 1) (text ++ octet ∷ []) ≡ text
front text octet =
    let long : length (text ++ octet ∷ []) - 1 ≡ length text = omega (arith, length-append text (octet ∷ [])) in
    ap (λ n. take n (text ++ octet ∷ [])) long ∙ take-append_seam text (octet ∷ [])

plain_front : (octets text : List ℕ) (octet : ℕ) → octets ≡ text ++ octet ∷ [] → StopsAt octets 10 → All (λ o. o ≢ 10) text
plain_front octets text octet is stops = subst (All (λ o. o ≢ 10)) (ap (λ l. take (length l - 1) l) is ∙ front text octet) stops

-- octets have a last one, if there are any
has_last : (octets : List ℕ) → (octets ≡ [] → ⊥) → (text : List ℕ) × (octet : ℕ) × (octets ≡ text ++ octet ∷ [])
has_last [] some = absurd (some refl)
has_last (octet ∷ []) some = ([], octet, refl)
has_last (octet ∷ next ∷ octets) some =
    let later = has_last (next ∷ octets) (λ is. cc) in
    (octet ∷ later.0, later.1, ap (λ l. octet ∷ l) later.2)

plain_all : (octets : List ℕ) → (octets ≡ [] → ⊥) → ((text : List ℕ) → octets ≡ text ++ 10 ∷ [] → ⊥) → StopsAt octets 10 → All (λ o. o ≢ 10) octets
plain_all octets some other stops =
    let l = has_last octets some in
    let last : l.1 ≢ 10 = λ is. other l.0 (l.2 ∙ ap (λ o. l.0 ++ o ∷ []) is) in
    subst (All (λ o. o ≢ 10)) (sym l.2) (All-push (λ o. o ≢ 10) l.0 l.1 (plain_front octets l.0 l.1 l.2 stops) last)

no_break : (octets : List ℕ) → octets ≡ [] → (text : List ℕ) → octets ≡ text ++ 10 ∷ [] → ⊥
no_break octets none [] is = cc (sym none ∙ is)
no_break octets none (o ∷ text) is = cc (sym none ∙ is)

by_end : (taken : Taken) (octets : List ℕ) (left : Option (List ℕ)) → EndsSo taken octets → StopsAt octets 10
    → IfSome left (λ xs. octets ≡ take_through 10 xs) → IsTaken taken octets left
by_end Line octets left ends stops is = record { text = ends.0; ends = ends.1; plain = plain_front octets ends.0 10 ends.1 stops }
by_end Unfinished octets left ends stops is = (record { some = ends.0; plain = plain_all octets ends.0 ends.1 stops }, all_left octets left is ends.1)
by_end Nothing octets left ends stops is = (ends, all_left octets left is (no_break octets ends))

-- what was appended to nothing
pub taken_so : (taken : Taken) (before octets : List ℕ) (left : Option (List ℕ)) → before ≡ [] → EndsSo taken octets
    → StopsAt (appended_bytes before octets) 10 → IfSome left (λ xs. octets ≡ before ++ take_through 10 xs) → IsTaken taken octets left
taken_so taken before octets left none ends stops is =
    by_end taken octets left ends (subst (λ b. StopsAt (appended_bytes b octets) 10) none stops) (subst (λ b. IfSome left (λ xs. octets ≡ b ++ take_through 10 xs)) none is)
