-- Visits that are refused for nothing, and the names that they bring.
use Rattle.std.proofs.Common.{◌≡◌, ◌∙◌, ℕ, ◌≤◌, Bool, true, false, if◌then◌else◌, List, [], ◌∷◌, ◌++◌, length, nat_lt, take, bytes_eq, Option, None, Some, refl, sym, ap, subst, arith, inl, inr}
use Rattle.std.specs.Prelude.{flat_map, is_some, map, option_map, slice_get}
use Rattle.std.proofs.lemmas.List.{take_all}
use Rattle.std.proofs.lemmas.Bool.{cases_Bool, ltb-false}
use Rattle.std.proofs.lemmas.Option.{none-some}
use Rattle.std.proofs.lemmas.Cmp.{nat_list_eq_equiv}
use Rattle.octets.specs.Limits.{max_variables}
use Rattle.octets.specs.Once.{each_once, is_listed, with_more}
use Rattle.octets.proofs.Once.{more_after, all_added}
use Rattle.sieve_parser.specs.Tree.{CommandsTree}
use Rattle.sieve_check.specs.declared.causes.Refused.{Refused}
use Rattle.sieve_check.specs.declared.error.CheckError.{CheckError}
use Rattle.sieve_check.specs.declared.error.CheckError.TheVariants.{Memory}
use Rattle.sieve_check.specs.CheckedScript.{IsCheckRefusal}
use Rattle.sieve_check.specs.ReasonView.{refused_view}
use Rattle.sieve_check.specs.Causes as causes
use Rattle.sieve_check.specs.Causes.{refusal_for, refused_for}
use Rattle.sieve_check.specs.Rules.{Visit, causes_by, max_found, names_past, names_with, refused_after, refused_among, reasons_of, same_reason, fault_of, commands_visits}
use Rattle.sieve_check.specs.Surroundings.{at_start}
use Rattle.sieve_check.proofs.Options.{map_none}

-- nothing is wrong with any visit by itself
abbrev pub AreFaultless : List Visit → Type 0
AreFaultless [] = Unit {0}
AreFaultless (v ∷ vs) = (v.cause ≡ None) × AreFaultless vs

pub faultless_both : (vs ws : List Visit) → AreFaultless (vs ++ ws) → AreFaultless vs × AreFaultless ws
faultless_both [] ws h = (tt, h)
faultless_both (v ∷ vs) ws h = let parts = faultless_both vs ws h.1 in ((h.0, parts.0), parts.1)

-- all names, in order
abbrev pub names_brought : List Visit → List (List ℕ)
names_brought vs = flat_map (λ (v : Visit). v.names) vs

-- where nothing is refused of a list, nothing is of its first visit, nor of the others
both_empty : {A : Type 0} (xs ys : List A) → xs ++ ys ≡ [] → (xs ≡ []) × (ys ≡ [])
both_empty [] ys h = (refl, h)
both_empty (x ∷ xs) ys h = absurd (cc)

-- nothing is wrong with it by itself, and there is room for its names
none_caused : (cause : Option causes.Cause) (lacks : List causes.Cause) (many : Bool) (f : causes.Cause → causes.Refused) → map f (causes_by cause lacks many) ≡ [] → (cause ≡ None) × (many ≡ false)
none_caused None lacks false f h = (refl, refl)
none_caused None lacks true f h = absurd (cc)
none_caused (Some c) lacks many f h = absurd (cc)

of_first : (names : List (List ℕ)) (v : Visit) → refused_after names v ≡ [] → (v.cause ≡ None) × (nat_lt max_variables (length (names_with names v)) ≡ false)
of_first names v h = none_caused v.cause v.lacks (nat_lt max_variables (length (names_with names v))) (refused_for v.token v.name) h

pub none_refused : (names : List (List ℕ)) (vs : List Visit) → refused_among names vs ≡ [] → AreFaultless vs
none_refused names [] h = tt
none_refused names (v ∷ vs) h =
    let parts = both_empty (refused_after names v) (refused_among (names_past names v) vs) h in
    ((of_first names v parts.0).0, none_refused (names_past names v) vs parts.1)

-- each once, names and those that visits bring are no more than there may be
few_names : (names : List (List ℕ)) (vs : List Visit) → length names ≤ max_variables → refused_among names vs ≡ [] → length (with_more bytes_eq names (names_brought vs)) ≤ max_variables
few_names names [] few h = few
few_names names (v ∷ vs) few h =
    let parts = both_empty (refused_after names v) (refused_among (names_past names v) vs) h in
    let own = of_first names v parts.0 in
    let here = ltb-false max_variables (length (names_with names v)) own.1 in
    let past : names_past names v ≡ names_with names v = ap (λ o. if is_some o then names else take max_variables (names_with names v)) own.0 ∙ take_all max_variables (names_with names v) here in
    let others = subst (λ (ns : List (List ℕ)). refused_among ns vs ≡ []) past parts.1 in
    subst (λ (ns : List (List ℕ)). length ns ≤ max_variables) (sym (more_after bytes_eq names v.names (names_brought vs))) (few_names (names_with names v) vs here others)

none_first : {A : Type 0} (xs : List A) → slice_get xs 0 ≡ None → xs ≡ []
none_first [] h = refl
none_first (x ∷ xs) h = absurd (cc)

-- the first of a list is told first
pub told_first : (x : causes.Refused) (told more : List causes.Refused) → slice_get (with_more same_reason (x ∷ told) more) 0 ≡ Some x
told_first x told [] = refl
told_first x told (y ∷ ys) =
    elim (cases_Bool (is_listed same_reason y (x ∷ told))) [
      | inl listed ↦ rw listed (told_first x told ys)
      | inr fresh ↦ rw fresh (told_first x (told ++ y ∷ []) ys)
    ]

none_among : (all : List causes.Refused) → slice_get (with_more same_reason [] all) 0 ≡ None → all ≡ []
none_among [] h = refl
none_among (x ∷ xs) h = absurd (none-some x (sym h ∙ told_first x [] xs))

-- where there is no fault, nothing is refused
pub unrefused : (script : CommandsTree) → fault_of script ≡ None → refused_among [] (commands_visits at_start script) ≡ []
unrefused script h = none_among (refused_among [] (commands_visits at_start script)) (map_none refusal_for (slice_get (reasons_of script) 0) h)

pub few_in_script : (script : CommandsTree) → fault_of script ≡ None → length (each_once bytes_eq (names_brought (commands_visits at_start script))) ≤ max_variables
few_in_script script h =
    let names = names_brought (commands_visits at_start script) in
    subst (λ (ns : List (List ℕ)). length ns ≤ max_variables) (all_added bytes_eq nat_list_eq_equiv names) (few_names [] (commands_visits at_start script) (omega arith) (unrefused script h))

take_none : {A : Type 0} (xs : List A) → take max_found xs ≡ [] → xs ≡ []
take_none [] h = refl
take_none (x ∷ xs) h = absurd (cc)

-- where nothing is told to be refused, there is no fault
pub none_told : (script : CommandsTree) (items : List Refused) → map refused_view items ≡ take max_found (reasons_of script) → slice_get items 0 ≡ None → fault_of script ≡ None
none_told script items is none =
    let nothing : take max_found (reasons_of script) ≡ [] = sym is ∙ ap (map refused_view) (none_first items none) in
    ap (λ l. option_map refusal_for (slice_get l 0)) (take_none (reasons_of script) nothing)

-- the fault is that of the first that is told
pub first_told : (script : CommandsTree) (items : List Refused) (found : Refused) → map refused_view items ≡ take max_found (reasons_of script) → slice_get items 0 ≡ Some found → fault_of script ≡ Some (refusal_for (refused_view found))
first_told script items found is here =
    ap (option_map refusal_for) (same_first (reasons_of script) ∙ ap (λ l. slice_get l 0) (sym is) ∙ first_mapped items ∙ ap (option_map refused_view) here)
  where
    same_first : {A : Type 0} (xs : List A) → slice_get xs 0 ≡ slice_get (take max_found xs) 0
    same_first [] = refl
    same_first (x ∷ xs) = refl

    first_mapped : (xs : List Refused) → slice_get (map refused_view xs) 0 ≡ option_map refused_view (slice_get xs 0)
    first_mapped [] = refl
    first_mapped (x ∷ xs) = refl

-- a refusal by the fault
pub refusal_told : (script : CommandsTree) (e f : CheckError) → fault_of script ≡ Some f → e ≡ f → IsCheckRefusal script e
refusal_told script e f told is = step e (told ∙ ap Some (sym is)) where
  step : (e : CheckError) → fault_of script ≡ Some e → IsCheckRefusal script e
  step Memory h = tt
  step _ h = h
