-- Gaps and comments, octet by octet.
use Rattle.std.proofs.Common.{◌≡◌, ◌≢◌, ℕ, zero, suc, ◌+◌, ◌-◌, ◌<◌, ◌≤◌, true, false, List, [], ◌∷◌, Option, Some, None, length, refl, subst, inl, inr, arith}
use Rattle.std.specs.Prelude.{MatchOption}
use Rattle.std.proofs.lemmas.Bool.{cases_eq, cases_Bool, ne_eqb}
use Rattle.octets.specs.Blank.{is_blank}
use Rattle.mime_params.specs.Gaps.{after_comment, unless_closed, after_gap_of, after_gap}

-- an octet inside of a comment that is no bracket and no backslash
pub comment_octet : (depth c : ℕ) (more : List ℕ) → c ≢ 41 → c ≢ 92 → c ≢ 40 → after_comment depth (c ∷ more) ≡ after_comment depth more
comment_octet depth c [] a b o = rw (ne_eqb c 41 a) refl
comment_octet depth c (d ∷ rest) a b o = rw (ne_eqb c 41 a, ne_eqb c 92 b, ne_eqb c 40 o) refl

pub comment_opens : (depth : ℕ) (more : List ℕ) → after_comment depth (40 ∷ more) ≡ after_comment (depth + 1) more
comment_opens depth [] = refl
comment_opens depth (d ∷ rest) = refl

pub comment_closes : (depth : ℕ) (more : List ℕ) → depth ≢ 0 → after_comment depth (41 ∷ more) ≡ after_comment (depth - 1) more
comment_closes depth [] ne = rw (ne_eqb depth 0 ne) refl
comment_closes depth (d ∷ rest) ne = rw (ne_eqb depth 0 ne) refl

pub comment_ends : (more : List ℕ) → after_comment 0 (41 ∷ more) ≡ Some more
comment_ends [] = refl
comment_ends (d ∷ rest) = refl

-- what follows a comment is shorter than what follows its opening bracket
abbrev Shorter : List ℕ → Option (List ℕ) → Type 0
Shorter text o = MatchOption o (Unit {0}) (λ rest. length rest < length text)

longer : (text more : List ℕ) (o : Option (List ℕ)) → length more ≤ length text → Shorter more o → Shorter text o
longer text more None le h = tt
longer text more (Some rest) le h = omega arith

comment_shorter : (depth : ℕ) (text : List ℕ) → Shorter text (after_comment depth text)
comment_shorter depth [] = tt
comment_shorter depth (c ∷ []) =
    elim (cases_eq c 41) [
      | inl close ↦ elim (cases_eq depth 0) [
        | inl none ↦ rw (close, none) (omega arith)
        | inr some ↦ rw (close, ne_eqb depth 0 some) tt
      ]
      | inr other ↦ rw (ne_eqb c 41 other) tt
    ]
comment_shorter depth (c ∷ d ∷ rest) =
    let on = λ (k : ℕ). longer (c ∷ d ∷ rest) (d ∷ rest) (after_comment k (d ∷ rest)) (omega arith) (comment_shorter k (d ∷ rest)) in
    let past = longer (c ∷ d ∷ rest) rest (after_comment depth rest) (omega arith) (comment_shorter depth rest) in
    elim (cases_eq c 41) [
      | inl close ↦ elim (cases_eq depth 0) [
        | inl none ↦ rw (close, none) (omega arith)
        | inr some ↦ rw (close, ne_eqb depth 0 some) (on (depth - 1))
      ]
      | inr other ↦ elim (cases_eq c 92) [
        | inl back ↦ rw back past
        | inr plain ↦ elim (cases_eq c 40) [
          | inl open_bracket ↦ rw open_bracket (on (depth + 1))
          | inr none ↦ rw (ne_eqb c 41 other, ne_eqb c 92 plain, ne_eqb c 40 none) (on depth)
        ]
      ]
    ]

pub gap_enough : (n m : ℕ) (text : List ℕ) → length text ≤ n → length text ≤ m → after_gap_of n text ≡ after_gap_of m text
gap_enough zero zero text le le' = refl
gap_enough zero (suc m) [] le le' = refl
gap_enough zero (suc m) (c ∷ rest) le le' = absurd (omega arith)
gap_enough (suc n) zero [] le le' = refl
gap_enough (suc n) zero (c ∷ rest) le le' = absurd (omega arith)
gap_enough (suc n) (suc m) [] le le' = refl
gap_enough (suc n) (suc m) (c ∷ rest) le le' =
    elim (cases_Bool (is_blank c)) [
      | inl blank ↦ rw blank (gap_enough n m rest (omega arith) (omega arith))
      | inr other ↦ elim (cases_eq c 40) [
        | inl bracket ↦ rw (other, bracket) (go (after_comment 0 rest) (comment_shorter 0 rest) (λ more lt. gap_enough n m more (omega arith) (omega arith)))
        | inr plain ↦ rw (other, ne_eqb c 40 plain) refl
      ]
    ]
  where
    go : (o : Option (List ℕ)) → Shorter rest o → ((more : List ℕ) → length more < length rest → after_gap_of n more ≡ after_gap_of m more)
        → unless_closed (40 ∷ rest) o (λ more. after_gap_of n more) ≡ unless_closed (40 ∷ rest) o (λ more. after_gap_of m more)
    go None h more = refl
    go (Some after) h more = more after h

pub gap_blank : (c : ℕ) (rest : List ℕ) → is_blank c ≡ true → after_gap (c ∷ rest) ≡ after_gap rest
gap_blank c rest blank = rw blank refl

pub gap_comment : (rest after : List ℕ) → after_comment 0 rest ≡ Some after → after_gap (40 ∷ rest) ≡ after_gap after
gap_comment rest after e =
    let shorter : Shorter rest (Some after) = subst (Shorter rest) e (comment_shorter 0 rest) in
    rw e (gap_enough (length rest) (length after) after (omega arith) (omega arith))

pub gap_open : (rest : List ℕ) → after_comment 0 rest ≡ None → after_gap (40 ∷ rest) ≡ 40 ∷ rest
gap_open rest e = rw e refl

pub gap_none : (c : ℕ) (rest : List ℕ) → is_blank c ≡ false → c ≢ 40 → after_gap (c ∷ rest) ≡ c ∷ rest
gap_none c rest blank other = rw (blank, ne_eqb c 40 other) refl

-- what follows a gap is no longer
pub gap_shorter : (n : ℕ) (text : List ℕ) → length (after_gap_of n text) ≤ length text
gap_shorter zero text = omega arith
gap_shorter (suc n) [] = omega arith
gap_shorter (suc n) (c ∷ rest) =
    elim (cases_Bool (is_blank c)) [
      | inl blank ↦ rw blank (omega (arith, gap_shorter n rest))
      | inr other ↦ elim (cases_eq c 40) [
        | inl bracket ↦ rw (other, bracket) (go (after_comment 0 rest) (comment_shorter 0 rest) (λ more. gap_shorter n more))
        | inr plain ↦ rw (other, ne_eqb c 40 plain) (omega arith)
      ]
    ]
  where
    go : (o : Option (List ℕ)) → Shorter rest o → ((more : List ℕ) → length (after_gap_of n more) ≤ length more) → length (unless_closed (40 ∷ rest) o (λ more. after_gap_of n more)) ≤ length (40 ∷ rest)
    go None h more = omega arith
    go (Some after) h more = omega (arith, more after, h)

pub closed_shorter : (rest after : List ℕ) → after_comment 0 rest ≡ Some after → length after < length rest
closed_shorter rest after e = subst (Shorter rest) e (comment_shorter 0 rest)
