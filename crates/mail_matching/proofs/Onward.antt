-- Values that are taken one after the other.
use Rattle.std.proofs.Common.{◌≡◌, ℕ, ◌+◌, ◌<◌, ◌≤◌, List, [], ◌∷◌, ◌++◌, flat_map, length, take, get_or, Option, None, Some, is_some, false, refl, sym, ◌∙◌, ap, subst, arith, append-nil, add-zero, take_all}
use Rattle.std.specs.Option.{option_or}
use Rattle.std.proofs.lemmas.List.{take_more}
use Rattle.std.proofs.lemmas.List.Concat.{flat_map-append}
use Rattle.std.proofs.lemmas.List.Sums.{sum_by-take-le}
use Rattle.glob_match.specs.declared.match_type.Match.{Match}
use Rattle.mail_matching.specs.Costs.{extent_of}
use Rattle.mail_matching.specs.Findings.{finding_of, is_pair}
use Rattle.mail_matching.specs.FirstMatch.{first_key, first_match}
use Rattle.header_fields.specs.Fields.{Field}
use Rattle.bytecode_format.specs.declared.selection.Selector.{Selector}
use Rattle.mail_matching.specs.Headers.{selected_among}
use Rattle.mail_matching.specs.Outcomes.{after, holds}
use Rattle.mail_matching.specs.Private.{GoesOn, Stands, further}
use Rattle.mail_matching.specs.declared.finding.Finding.{Finding}
use Rattle.mail_matching.specs.declared.finding.Finding.TheVariants.{Pair, NoneOf}
use Rattle.mail_matching.specs.declared.outcome.Outcome.{Outcome}
use Rattle.mail_matching.specs.declared.outcome.Outcome.TheVariants.{Fails, Holds, Captures}
use Rattle.mail_matching.specs.declared.progress.Progress.{Progress}
use Rattle.mail_matching.proofs.Extents.{extent-append, extent_flat_map}
use Rattle.mail_matching.proofs.Pairs.{finding-append, finding_holds, further_assoc, further_none}

or_none : {A : Type 0} (a : Option A) → option_or a None ≡ a
or_none None = refl
or_none (Some x) = refl

or_assoc : {A : Type 0} (a b c : Option A) → option_or (option_or a b) c ≡ option_or a (option_or b c)
or_assoc None b c = refl
or_assoc (Some x) b c = refl

pub first_match-append : (how : Match) (values more keys captures : List (List ℕ)) → first_match how (values ++ more) keys captures ≡ option_or (first_match how values keys captures) (first_match how more keys captures)
first_match-append how [] more keys captures = refl
first_match-append how (value ∷ values) more keys captures =
    ap (option_or (first_key how value keys captures)) (first_match-append how values more keys captures)
    ∙ sym (or_assoc (first_key how value keys captures) (first_match how values keys captures) (first_match how more keys captures))

pub goes_on_none : {T : Type 0} (knows : ℕ → T → Finding → Type 0) (how : Match) (keys : List (List ℕ)) (progress : Progress T) → GoesOn knows how [] keys progress progress
goes_on_none knows how keys progress = record {
  outcome = λ captures. sym (or_none (after progress.outcome captures));
  extent = sym (add-zero progress.extent);
  found = λ most finding stands. subst (λ f. Stands knows most f progress) (sym (further_none finding)) stands;
}

pub goes_on : {T : Type 0} (knows : ℕ → T → Finding → Type 0) (how : Match) (values more keys : List (List ℕ)) (first second third : Progress T) → GoesOn knows how values keys first second → GoesOn knows how more keys second third → GoesOn knows how (values ++ more) keys first third
goes_on knows how values more keys first second third one two = record {
  outcome = λ captures.
      two.outcome captures
      ∙ ap (λ o. option_or o (first_match how more keys captures)) (one.outcome captures)
      ∙ or_assoc (after first.outcome captures) (first_match how values keys captures) (first_match how more keys captures)
      ∙ ap (option_or (after first.outcome captures)) (sym (first_match-append how values more keys captures));
  extent = omega (arith, one.extent, two.extent, extent-append values more);
  found = λ most finding stands.
      subst (λ f. Stands knows most f third)
      (further_assoc finding (finding_of how values keys) (finding_of how more keys) ∙ ap (further finding) (sym (finding-append how values more keys)))
      (two.found most (further finding (finding_of how values keys)) (one.found most finding stands));
}

-- ---- a value

pub fails : (outcome : Outcome) → holds outcome ≡ false → outcome ≡ Fails
fails Fails so = refl
fails Holds so = absurd (cc)
fails (Captures set) so = absurd (cc)

pub holds_after : (outcome : Outcome) (captures : List (List ℕ)) → holds outcome ≡ is_some (after outcome captures)
holds_after Fails captures = refl
holds_after Holds captures = refl
holds_after (Captures set) captures = refl

pair_next : (number : ℕ) (more : Finding) → is_pair (further (NoneOf number) more) ≡ is_pair more
pair_next number (Pair value key) = refl
pair_next number (NoneOf n) = refl

-- one that was compared with the keys
pub goes_on_compared : {T : Type 0} (knows : ℕ → T → Finding → Type 0) (how : Match) (value : List ℕ) (keys : List (List ℕ)) (old : Progress T) (outcome : Outcome) (extent : ℕ) (told : T) → holds old.outcome ≡ false → extent ≡ old.extent + extent_of (value ∷ [])
    → ((captures : List (List ℕ)) → after outcome captures ≡ first_key how value keys captures)
    → ((most number : ℕ) → knows most old.told (NoneOf number) → knows most told (further (NoneOf number) (finding_of how (value ∷ []) keys)))
    → GoesOn knows how (value ∷ []) keys old (record { outcome = outcome; extent = extent; told = told })
goes_on_compared knows how value keys old outcome extent told so is comes known = record {
  outcome = λ captures.
      comes captures ∙ sym (or_none (first_key how value keys captures))
      ∙ ap (λ o. option_or (after o captures) (first_match how (value ∷ []) keys captures)) (sym (fails old.outcome so));
  extent = is;
  found = λ most finding stands. next most finding (sym stands.holds ∙ so) stands.known;
}
  where
    holds_so : (number : ℕ) → holds outcome ≡ is_pair (further (NoneOf number) (finding_of how (value ∷ []) keys))
    holds_so number =
        holds_after outcome []
        ∙ ap is_some (comes [] ∙ sym (or_none (first_key how value keys [])))
        ∙ sym (pair_next number (finding_of how (value ∷ []) keys) ∙ finding_holds how (value ∷ []) keys [])

    next : (most : ℕ) (finding : Finding) → is_pair finding ≡ false → knows most old.told finding
        → Stands knows most (further finding (finding_of how (value ∷ []) keys)) (record { outcome = outcome; extent = extent; told = told })
    next most (Pair v k) fits before = absurd (cc)
    next most (NoneOf number) fits before = record { holds = holds_so number; known = known most number before }

-- ---- lists of values, one by one

pub values_more : {A : Type 0} (f : A → List (List ℕ)) (xs : List A) (place : ℕ) (x d : A) → place < length xs → x ≡ get_or xs place d
    → flat_map f (take (place + 1) xs) ≡ flat_map f (take place xs) ++ f x
values_more f xs place x d lt is =
    ap (flat_map f) (take_more xs place d lt ∙ ap (λ y. take place xs ++ y ∷ []) (sym is))
    ∙ flat_map-append f (take place xs) (x ∷ [])
    ∙ ap (λ values. flat_map f (take place xs) ++ values) (append-nil (f x))

pub values_room : {A : Type 0} (f : A → List (List ℕ)) (xs : List A) (place : ℕ) (x d : A) → place < length xs → x ≡ get_or xs place d
    → extent_of (flat_map f (take place xs)) + extent_of (f x) ≤ extent_of (flat_map f xs)
values_room f xs place x d lt is =
    omega (
      arith,
      ap extent_of (values_more f xs place x d lt is),
      extent-append (flat_map f (take place xs)) (f x),
      extent_flat_map f (take (place + 1) xs),
      extent_flat_map f xs,
      sum_by-take-le (λ y. extent_of (f y)) xs (place + 1),
    )

-- one more goes on where the former went
pub goes_on_more : {A T : Type 0} (knows : ℕ → T → Finding → Type 0) (how : Match) (keys : List (List ℕ)) (f : A → List (List ℕ)) (xs : List A) (place : ℕ) (x d : A) (first second third : Progress T) → place < length xs → x ≡ get_or xs place d
    → GoesOn knows how (flat_map f (take place xs)) keys first second → GoesOn knows how (f x) keys second third → GoesOn knows how (flat_map f (take (place + 1) xs)) keys first third
goes_on_more knows how keys f xs place x d first second third lt is one two =
    subst (λ values. GoesOn knows how values keys first third) (sym (values_more f xs place x d lt is))
    (goes_on knows how (flat_map f (take place xs)) (f x) keys first second third one two)

-- one more value
pub goes_on_next : {T : Type 0} (knows : ℕ → T → Finding → Type 0) (how : Match) (keys values : List (List ℕ)) (place : ℕ) (value : List ℕ) (first second third : Progress T) → place < length values → value ≡ get_or values place []
    → GoesOn knows how (take place values) keys first second → GoesOn knows how (value ∷ []) keys second third → GoesOn knows how (take (place + 1) values) keys first third
goes_on_next knows how keys values place value first second third lt is one two =
    subst (λ vs. GoesOn knows how vs keys first third) (sym (take_more values place [] lt ∙ ap (λ v. take place values ++ v ∷ []) (sym is)))
    (goes_on knows how (take place values) (value ∷ []) keys first second third one two)

pub next_room : (values : List (List ℕ)) (place : ℕ) (value : List ℕ) → place < length values → value ≡ get_or values place []
    → extent_of (take place values) + extent_of (value ∷ []) ≤ extent_of values
next_room values place value lt is =
    omega (
      arith,
      ap extent_of (take_more values place [] lt ∙ ap (λ v. take place values ++ v ∷ []) (sym is)),
      extent-append (take place values) (value ∷ []),
      sum_by-take-le (λ (text : List ℕ). length text + 1) values (place + 1),
    )

-- at the end
pub goes_on_all : {A T : Type 0} (knows : ℕ → T → Finding → Type 0) (how : Match) (keys : List (List ℕ)) (f : A → List (List ℕ)) (xs : List A) (place : ℕ) (first last : Progress T) → length xs ≤ place
    → GoesOn knows how (flat_map f (take place xs)) keys first last → GoesOn knows how (flat_map f xs) keys first last
goes_on_all knows how keys f xs place first last le goes = subst (λ ys. GoesOn knows how (flat_map f ys) keys first last) (take_all place xs le) goes

-- nothing is selected where there are no fields
pub selected_of_none : (selector : Selector) (params names : List (List ℕ)) (fields : List Field) → length fields ≡ 0 → selected_among selector params names fields ≡ []
selected_of_none selector params [] fields none = refl
selected_of_none selector params (name ∷ names) [] none = selected_of_none selector params names [] none
selected_of_none selector params (name ∷ names) (field ∷ fields) none = absurd (omega (arith, none))
