-- The function that goes over the tokens gives the least stretches, and None exactly where no stretches fit.
use Rattle.std.proofs.Common.{◌≡◌, ℕ, suc, List, [], ◌∷◌, ◌++◌, map, length, Option, Some, None, IsTrue, inl, inr, refl, sym, ap, subst, ◌∙◌, arith}
use Rattle.std.proofs.lemmas.Bool.{true≢false, cond_both}
use Rattle.std.specs.Option.{option_map, option_or}
use Rattle.glob_match.specs.declared.comparator.Comparator.{Comparator}
use Rattle.glob_match.specs.declared.token.Token.{Token}
use Rattle.glob_match.specs.declared.token.Token.TheVariants.{Literal, AnyOctet, Star}
use Rattle.glob_match.specs.Comparison.{same_octet}
use Rattle.glob_match.specs.Matching.{Fits, IsAtMost, IsLeastFit, Fit, literal_fit, any_fit, star_fit, lengthened, least_fit}

-- a relation between stretches and a value
abbrev pub Fitting : Type 1
Fitting = List (List ℕ) → List ℕ → Type 0

-- the answer is the least stretches of the relation, and None where there are none
abbrev pub Answers : Fitting → List ℕ → Option (List (List ℕ)) → Type 0
Answers R value None = (stretches : List (List ℕ)) → R stretches value → ⊥
Answers R value (Some stretches) = R stretches value × ((others : List (List ℕ)) → R others value → IsAtMost (map length stretches) (map length others))

-- the same stretches fit
answers_same : (R S : Fitting) (value other : List ℕ) → ((ss : List (List ℕ)) → R ss value → S ss other) → ((ss : List (List ℕ)) → S ss other → R ss value)
    → (o : Option (List (List ℕ))) → Answers R value o → Answers S other o
answers_same R S value other to from None none = λ ss s. none ss (from ss s)
answers_same R S value other to from (Some ss) (fits, least) = (to ss fits, λ others s. least others (from others s))

-- the relations of the three kinds of tokens, over that of what follows
abbrev pub LiteralFits : Comparator → ℕ → Fitting → Fitting
LiteralFits comparator octet R stretches value =
    (x : ℕ) × (rest : List ℕ) × (value ≡ x ∷ rest) × IsTrue (same_octet comparator x octet) × R stretches rest

abbrev pub AnyFits : Fitting → Fitting
AnyFits R stretches value =
    (x : ℕ) × (rest : List ℕ) × (others : List (List ℕ)) × (value ≡ x ∷ rest) × (stretches ≡ (x ∷ []) ∷ others) × R others rest

abbrev pub StarFits : Fitting → Fitting
StarFits R stretches value =
    (stretch rest : List ℕ) × (others : List (List ℕ)) × (value ≡ stretch ++ rest) × (stretches ≡ stretch ∷ others) × R others rest

module _ (fit : Fit) (R : Fitting) (answered : (value : List ℕ) → Answers R value (fit value)) where
  moved : (ss : List (List ℕ)) (a b : List ℕ) → a ≡ b → R ss a → R ss b
  moved ss a b e r = subst (λ v. R ss v) e r

  literal_answered : (comparator : Comparator) (octet : ℕ) (value : List ℕ)
      → Answers (LiteralFits comparator octet R) value (literal_fit comparator octet fit value)
  literal_answered comparator octet [] = λ ss (x, rest, e, same, r). cc
  literal_answered comparator octet (x ∷ xs) =
      cond_both (same_octet comparator x octet) (fit xs) None (λ o. Answers (LiteralFits comparator octet R) (x ∷ xs) o)
      (λ same. answers_same R (LiteralFits comparator octet R) xs (x ∷ xs)
      (λ ss r. (x, xs, refl, same, r))
      (λ ss (y, rest, e, is, r). let f : rest ≡ xs = cc in moved ss rest xs f r)
      (fit xs) (answered xs))
      (λ other. λ ss (y, rest, e, is, r).
      let f : y ≡ x = cc in absurd (true≢false (sym is ∙ ap (λ z. same_octet comparator z octet) f ∙ other)))

  any_answered : (value : List ℕ) → Answers (AnyFits R) value (any_fit fit value)
  any_answered [] = λ ss (x, rest, others, e, f, r). cc
  any_answered (x ∷ xs) =
      elim (fit xs) as (λ o. Answers R xs o → Answers (AnyFits R) (x ∷ xs) (option_map (λ others. (x ∷ []) ∷ others) o)) [
        | None ↦ λ none. λ ss (y, rest, others, e, f, r). none others (let g : rest ≡ xs = cc in moved others rest xs g r)
        | Some ss ↦ λ (fits, least). (
          (x, xs, ss, refl, refl, fits),
          λ all (y, rest, others, e, f, r).
              let g : rest ≡ xs = cc in
              let h : (x ∷ []) ∷ others ≡ all = cc in
              subst (λ us. IsAtMost (map length ((x ∷ []) ∷ ss)) (map length us)) h (inr (refl, least others (moved others rest xs g r))),
        )
      ] (answered xs)

  -- where what follows fits at once, the empty stretch is the least
  empty_stretch : (value : List ℕ) (ss : List (List ℕ)) → Answers R value (Some ss) → Answers (StarFits R) value (Some ([] ∷ ss))
  empty_stretch value ss (fits, least) = (
    ([], value, ss, refl, refl, fits),
    λ all (stretch, rest, others, e, f, r).
        subst (λ us. IsAtMost (map length ([] ∷ ss)) (map length us)) (sym f) (at_most stretch rest others e r),
  )
    where
      at_most : (stretch rest : List ℕ) (others : List (List ℕ)) → value ≡ stretch ++ rest → R others rest
          → IsAtMost (map length ([] ∷ ss)) (map length (stretch ∷ others))
      at_most [] rest others e r = inr (refl, least others (moved others rest value (sym e) r))
      at_most (y ∷ ys) rest others e r = inl (omega arith)

  both_longer : (a b : ℕ) (xs ys : List ℕ) → IsAtMost (a ∷ xs) (b ∷ ys) → IsAtMost (suc a ∷ xs) (suc b ∷ ys)
  both_longer a b xs ys (inl less) = inl (omega arith)
  both_longer a b xs ys (inr (same, rest)) = inr (ap suc same, rest)

  -- where what follows doesn't fit at once, a stretch has the first octet
  module _ (x : ℕ) (xs : List ℕ) (none : (ss : List (List ℕ)) → R ss (x ∷ xs) → ⊥) where
    shortened : (stretch rest : List ℕ) (others : List (List ℕ)) → x ∷ xs ≡ stretch ++ rest → R others rest
        → (shorter : List ℕ) × (stretch ≡ x ∷ shorter) × (xs ≡ shorter ++ rest)
    shortened [] rest others e r = absurd (none others (moved others rest (x ∷ xs) (sym e) r))
    shortened (y ∷ ys) rest others e r = (ys, cc, cc)

    longer_stretch : (o : Option (List (List ℕ))) → Answers (StarFits R) xs o
        → Answers (StarFits R) (x ∷ xs) (option_map (lengthened x) o)
    longer_stretch None nowhere = λ ss (stretch, rest, others, e, f, r).
        let (shorter, g, h) = shortened stretch rest others e r in
        nowhere (shorter ∷ others) (shorter, rest, others, h, refl, r)
    longer_stretch (Some []) ((stretch, rest, others, e, f, r), least) = cc
    longer_stretch (Some (s ∷ ss)) ((stretch, rest, others, e, f, r), least) = (
      (x ∷ stretch, rest, others, ap (λ v. x ∷ v) e, cc, r),
      λ all (stretch', rest', others', e', f', r').
          let (shorter, g, h) = shortened stretch' rest' others' e' r' in
          subst (λ us. IsAtMost (map length ((x ∷ s) ∷ ss)) (map length us)) (sym (f' ∙ ap (λ v. v ∷ others') g))
          (both_longer (length s) (length shorter) (map length ss) (map length others') (least (shorter ∷ others') (shorter, rest', others', h, refl, r'))),
    )

  -- a star is as short as it can be
  star_answered : (value : List ℕ) → Answers (StarFits R) value (star_fit fit value)
  star_answered [] =
      elim (fit []) as (λ o. Answers R [] o → Answers (StarFits R) [] (option_map (λ others. [] ∷ others) o)) [
        | None ↦ λ none. λ ss (stretch, rest, others, e, f, r). none others (moved others rest [] (empty_rest stretch rest e) r)
        | Some ss ↦ empty_stretch [] ss
      ] (answered [])
    where
      empty_rest : (stretch rest : List ℕ) → [] ≡ stretch ++ rest → rest ≡ []
      empty_rest [] rest e = sym e
      empty_rest (y ∷ ys) rest e = cc
  star_answered (x ∷ xs) =
      elim (fit (x ∷ xs)) as (λ o. Answers R (x ∷ xs) o
      → Answers (StarFits R) (x ∷ xs) (option_or (option_map (λ others. [] ∷ others) o) (option_map (lengthened x) (star_fit fit xs)))) [
        | None ↦ λ none. longer_stretch x xs none (star_fit fit xs) (star_answered xs)
        | Some ss ↦ empty_stretch (x ∷ xs) ss
      ] (answered (x ∷ xs))

pub answered : (comparator : Comparator) (key : List Token) (value : List ℕ)
    → Answers (Fits comparator key) value (least_fit comparator key value)
answered comparator [] [] = ((refl, refl), λ others (e, f). tt)
answered comparator [] (x ∷ xs) = λ ss (e, f). cc
answered comparator (Literal octet ∷ key) value =
    literal_answered (least_fit comparator key) (Fits comparator key) (answered comparator key) comparator octet value
answered comparator (AnyOctet ∷ key) value = any_answered (least_fit comparator key) (Fits comparator key) (answered comparator key) value
answered comparator (Star ∷ key) value = star_answered (least_fit comparator key) (Fits comparator key) (answered comparator key) value

-- ---- one list of stretches

at_most_both : (xs ys : List ℕ) → IsAtMost xs ys → IsAtMost ys xs → xs ≡ ys
at_most_both [] [] p q = refl
at_most_both [] (b ∷ ys) p q = absurd q
at_most_both (a ∷ xs) [] p q = absurd p
at_most_both (a ∷ xs) (b ∷ ys) (inl less) (inl more) = absurd (omega arith)
at_most_both (a ∷ xs) (b ∷ ys) (inl less) (inr (same, q)) = absurd (omega arith)
at_most_both (a ∷ xs) (b ∷ ys) (inr (same, p)) (inl more) = absurd (omega arith)
at_most_both (a ∷ xs) (b ∷ ys) (inr (same, p)) (inr (same', q)) = ap (λ x. x ∷ xs) same ∙ ap (λ xs. b ∷ xs) (at_most_both xs ys p q)

-- two beginnings of a list that are as long
same_parts : (xs ys us vs : List ℕ) → xs ++ us ≡ ys ++ vs → length xs ≡ length ys → (xs ≡ ys) × (us ≡ vs)
same_parts [] [] us vs e l = (refl, e)
same_parts [] (b ∷ ys) us vs e l = absurd (omega arith)
same_parts (a ∷ xs) [] us vs e l = absurd (omega arith)
same_parts (a ∷ xs) (b ∷ ys) us vs e l =
    let same : a ≡ b = cc in
    let rest : xs ++ us ≡ ys ++ vs = cc in
    let parts = same_parts xs ys us vs rest (omega arith) in
    (ap (λ x. x ∷ xs) same ∙ ap (λ xs. b ∷ xs) parts.0, parts.1)

-- stretches of one value that are as long are the same
fits_once : (comparator : Comparator) (key : List Token) (value : List ℕ) (xs ys : List (List ℕ))
    → Fits comparator key xs value → Fits comparator key ys value → map length xs ≡ map length ys → xs ≡ ys
fits_once comparator [] value xs ys (e, f) (e', f') l = e ∙ sym e'
fits_once comparator (Literal octet ∷ key) value xs ys (x, rest, e, same, p) (x', rest', e', same', p') l =
    let f : rest' ≡ rest = cc in
    fits_once comparator key rest xs ys p (subst (λ v. Fits comparator key ys v) f p') l
fits_once comparator (AnyOctet ∷ key) value xs ys (x, rest, us, e, f, p) (x', rest', us', e', f', p') l =
    let g : rest' ≡ rest = cc in
    let h : x ≡ x' = cc in
    let lengths : 1 ∷ map length us ≡ 1 ∷ map length us' = sym (ap (λ vs. map length vs) f) ∙ l ∙ ap (λ vs. map length vs) f' in
    let k : map length us ≡ map length us' = cc in
    f ∙ ap (λ (y : ℕ). (y ∷ []) ∷ us) h ∙ ap (λ vs. (x' ∷ []) ∷ vs) (fits_once comparator key rest us us' p (subst (λ v. Fits comparator key us' v) g p') k) ∙ sym f'
fits_once comparator (Star ∷ key) value xs ys (s, rest, us, e, f, p) (s', rest', us', e', f', p') l =
    let lengths : length s ∷ map length us ≡ length s' ∷ map length us' = sym (ap (λ vs. map length vs) f) ∙ l ∙ ap (λ vs. map length vs) f' in
    let first : length s ≡ length s' = cc in
    let others : map length us ≡ map length us' = cc in
    let parts = same_parts s s' rest rest' (sym e ∙ e') first in
    f ∙ ap (λ v. v ∷ us) parts.0
    ∙ ap (λ vs. s' ∷ vs) (fits_once comparator key rest us us' p (subst (λ v. Fits comparator key us' v) (sym parts.1) p') others) ∙ sym f'

-- ---- what the laws say

module _ (comparator : Comparator) (key : List Token) (value : List ℕ) where
  pub least_once : (xs ys : List (List ℕ)) → IsLeastFit comparator key value xs → IsLeastFit comparator key value ys → xs ≡ ys
  least_once xs ys p q =
      fits_once comparator key value xs ys p.fits q.fits (at_most_both (map length xs) (map length ys) (p.least ys q.fits) (q.least xs p.fits))

  pub least_from : (ss : List (List ℕ)) → least_fit comparator key value ≡ Some ss → IsLeastFit comparator key value ss
  least_from ss e =
      let a : Answers (Fits comparator key) value (Some ss) = subst (λ o. Answers (Fits comparator key) value o) e (answered comparator key value) in
      record { fits = a.0; least = a.1 }

  pub none_from : least_fit comparator key value ≡ None → (ss : List (List ℕ)) → Fits comparator key ss value → ⊥
  none_from e = subst (λ o. Answers (Fits comparator key) value o) e (answered comparator key value)

  pub some_least : (ss : List (List ℕ)) → IsLeastFit comparator key value ss → least_fit comparator key value ≡ Some ss
  some_least ss p =
      elim (least_fit comparator key value) as (λ o. least_fit comparator key value ≡ o → o ≡ Some ss) [
        | None ↦ λ e. absurd (none_from e ss p.fits)
        | Some us ↦ λ e. ap Some (least_once us ss (least_from us e) p)
      ] refl

  pub no_fit : ((ss : List (List ℕ)) → Fits comparator key ss value → ⊥) → least_fit comparator key value ≡ None
  no_fit none =
      elim (least_fit comparator key value) as (λ o. least_fit comparator key value ≡ o → o ≡ None) [
        | None ↦ λ e. refl
        | Some us ↦ λ e. absurd (none us (least_from us e).fits)
      ] refl
