-- The parameters that are asked for.
use Rattle.std.proofs.Common.{◌≡◌, ℕ, ◌<◌, ◌&&◌, Bool, true, false, List, [], ◌∷◌, ◌++◌, Option, Some, None, length, get_or, refl, sym, ap, ◌∙◌, inl, inr}
use Rattle.std.specs.Prelude.{bytes_eq, is_none}
use Rattle.std.proofs.lemmas.Bool.{cases_Bool, true≢false}
use Rattle.std.proofs.lemmas.List.Folds.{list_any_at}
use Rattle.std.proofs.lemmas.Slice.Eq.{bytes_eq-Decides}
use Rattle.octets.specs.Ascii.{lowercase_of, is_word}
use Rattle.mime_params.specs.MediaValue.{is_named, value_named}
use Rattle.mime_params.specs.declared.params.Parameter.{Parameter}
use Rattle.mime_params.proofs.Lists.{named_later}
use Rattle.mail_matching.specs.Headers.{HaveFirsts, is_asked, is_wanted}

-- a parameter of another name makes no difference
named_skip : (name : List ℕ) (before : List Parameter) (p : Parameter) (rest : List Parameter) → (lowercase_of p.name ≡ lowercase_of name → ⊥)
    → value_named name (before ++ p ∷ rest) ≡ value_named name (before ++ rest)
named_skip name [] p rest other = named_later name p rest other
named_skip name (q ∷ before) p rest other = elim (cases_Bool (is_named name q)) [
  | inl here ↦ rw here refl
  | inr later ↦ rw later (named_skip name before p rest other)
]

-- nor do those after one that has the name
named_found : (name : List ℕ) (before rest : List Parameter) (value : List ℕ) → value_named name before ≡ Some value → value_named name (before ++ rest) ≡ Some value
named_found name [] rest value e = absurd (nothing e)
  where
    nothing : None ≡ Some value → ⊥
    nothing h = cc
named_found name (q ∷ before) rest value e = elim (cases_Bool (is_named name q)) [
  | inl here ↦ rw here (rw here at e)
  | inr later ↦ rw later (named_found name before rest value (rw later at e))
]

-- names that are equal but for case have the same parameter
named_same : (name other : List ℕ) (params : List Parameter) → lowercase_of name ≡ lowercase_of other → value_named name params ≡ value_named other params
named_same name other [] e = refl
named_same name other (p ∷ params) e =
    let same : is_named name p ≡ is_named other p = ap (bytes_eq (lowercase_of p.name)) e in
    elim (cases_Bool (is_named other p)) [
      | inl here ↦ rw (same, here) refl
      | inr later ↦ rw (same, later) (named_same name other params e)
    ]

-- whether one was found
found_some : (o : Option (List ℕ)) → is_none o ≡ false → (value : List ℕ) × (o ≡ Some value)
found_some None none = absurd (true≢false none)
found_some (Some value) none = (value, refl)

not_wanted : (asked : Bool) (none : Bool) → (asked && none) ≡ false → asked ≡ true → none ≡ false
not_wanted true none e asked = e
not_wanted false none e asked = absurd (true≢false (sym asked))

skipped_at : (names : List (List ℕ)) (found : List Parameter) (p : Parameter) (rest : List Parameter) → is_wanted names found p.name ≡ false
    → (k : ℕ) (d : List ℕ) → k < length names → value_named (get_or names k d) (found ++ p ∷ rest) ≡ value_named (get_or names k d) (found ++ rest)
skipped_at names found p rest not k d lt =
    let name = get_or names k d in
    elim (cases_Bool (is_word name p.name)) [
      | inl same ↦
          let equal : lowercase_of name ≡ lowercase_of p.name = (bytes_eq-Decides (lowercase_of name) (lowercase_of p.name)).0 same in
          let asked = list_any_at (λ asked. is_word asked p.name) names k d lt same in
          let some = found_some (value_named p.name found) (not_wanted (is_asked names p.name) (is_none (value_named p.name found)) not asked) in
          let here = named_same name p.name found equal ∙ some.1 in
          named_found name found (p ∷ rest) some.0 here ∙ sym (named_found name found rest some.0 here)
      | inr other ↦ named_skip name found p rest (λ e. true≢false (sym ((bytes_eq-Decides (lowercase_of name) (lowercase_of p.name)).1 (sym e)) ∙ other))
    ]

-- a parameter that isn't wanted is passed over
pub passed_over : (names : List (List ℕ)) (params found : List Parameter) (p : Parameter) (left rest : List Parameter) → left ≡ p ∷ rest → is_wanted names found p.name ≡ false
    → HaveFirsts names params (found ++ left) → HaveFirsts names params (found ++ rest)
passed_over names params found p left rest is not so_far = λ k d lt.
    sym (skipped_at names found p rest not k d lt) ∙ ap (λ ps. value_named (get_or names k d) (found ++ ps)) (sym is) ∙ so_far k d lt

-- ---- the value of a parameter that was asked for

pub asked_is : (names : List (List ℕ)) (params read found slice : List Parameter) (k : ℕ) (name : List ℕ) (param : Option (List ℕ)) → k < length names → name ≡ get_or names k [] → read ≡ params
    → HaveFirsts names read found → slice ≡ found → param ≡ value_named name slice → param ≡ value_named name params
asked_is names params read found slice k name param lt at is firsts same value =
    value ∙ ap (value_named name) same ∙ ap (λ n. value_named n found) at ∙ firsts k [] lt ∙ ap (λ n. value_named n read) (sym at) ∙ ap (value_named name) is
