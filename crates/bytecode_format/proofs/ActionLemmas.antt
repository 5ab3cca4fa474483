-- First occurrences, one action at a time.
use Rattle.std.proofs.Common.{◌≡◌, ◌↔◌, ℕ, Bool, true, false, ◌&&◌, ◌||◌, nat_eq, cond, List, [], ◌∷◌, ◌++◌, Some, slice_get, refl, sym, ap, ap₂, ◌∙◌, rules}
use Rattle.std.proofs.lemmas.List.Folds.{list_any_at}
use Rattle.std.proofs.lemmas.Option.{get_or_from_slice_get, slice_get_within}
use Rattle.std.proofs.lemmas.Bool.{eqb-true}
use Rattle.std.proofs.lemmas.Slice.Eq.{bytes_eq-Decides}
use Rattle.std.specs.Cmp.{IsEquivalence}
use Rattle.std.specs.Cmp.Lexicographic.{pointwise}
use Rattle.std.specs.Cmp.Rules.{comparing}
use Rattle.std.specs.Ordering.{is_eq}
use Rattle.octets.proofs.Once.{each_once_push, listed_push}
use Rattle.bytecode_format.specs.declared.action.Action.{Action}
use Rattle.bytecode_format.specs.declared.action.Action.TheVariants.{Keep, File, Store}
use Rattle.bytecode_format.specs.Action.{is_same, action_cmp}
use Rattle.bytecode_format.specs.Actions.{first_occurrences, is_listed, with_action}

equal_actions : IsEquivalence is_same
equal_actions = search (comparing, rules)

-- actions are equal where their order says so
ties : (x y : Action) → is_same x y ≡ is_eq (action_cmp x y)
ties = search (comparing, rules)

both_same : (a b : Bool) → (a && b) ≡ true → (a ≡ true) × (b ≡ true)
both_same true b h = (refl, h)
both_same false b h = absurd cc

same_is_equal : (a b : Action) → is_same a b ≡ true → a ≡ b
same_is_equal Keep Keep same = refl
same_is_equal (File f) (File g) same =
    let folder : f ≡ g = (bytes_eq-Decides f g).0 (both_same (pointwise nat_eq f g) true same).0 in ap File folder
same_is_equal (Store f p) (Store g q) same =
    let both = both_same (pointwise nat_eq f g) (nat_eq p q) same in
    let folder : f ≡ g = (bytes_eq-Decides f g).0 both.0 in
    let part : p ≡ q = eqb-true p q both.1 in
    ap₂ Store folder part
same_is_equal Keep (File g) same = absurd cc
same_is_equal Keep (Store g q) same = absurd cc
same_is_equal (File f) Keep same = absurd cc
same_is_equal (File f) (Store g q) same = absurd cc
same_is_equal (Store f p) Keep same = absurd cc
same_is_equal (Store f p) (File g) same = absurd cc

-- actions are the same exactly where they are equal
pub same_where_equal : (a b : Action) → (is_same a b ≡ true) ↔ (a ≡ b)
same_where_equal a b = (same_is_equal a b, λ e. ap (λ x. is_same a x) (sym e) ∙ equal_actions.refl a)

-- one more action at the end
pub first_occurrences-push : (actions : List Action) (action : Action) → first_occurrences (actions ++ action ∷ []) ≡ with_action (first_occurrences actions) action
first_occurrences-push actions action = each_once_push is_same equal_actions actions action

-- an action that is the same as one of the list is listed
pub listed_at : (action other : Action) (listed : List Action) (i : ℕ) → slice_get listed i ≡ Some other → is_same other action ≡ true → is_listed action listed ≡ true
listed_at action other listed i at same =
    list_any_at (is_same action) listed i other (slice_get_within listed i other at)
    (ap (λ x. is_same action x) (get_or_from_slice_get listed i other other at) ∙ equal_actions.symm action other ∙ same)

-- whether Keep is listed, with one more action
pub keeps-push : (action : Action) (listed : List Action) (was : Bool) → was ≡ is_listed Keep listed → (was || is_same action Keep) ≡ is_listed Keep (listed ++ action ∷ [])
keeps-push action listed was e = turned was (is_same action Keep) ∙ listed_push is_same equal_actions action Keep listed (is_same action Keep) was refl e
  where
    turned : (a b : Bool) → (a || b) ≡ cond b true a
    turned true true = refl
    turned true false = refl
    turned false true = refl
    turned false false = refl

-- a set with one more action has what the list with it lists
pub is_listed-push : (action asked : Action) (listed : List Action) (was : Bool) → was ≡ is_listed asked listed → cond (is_eq (action_cmp action asked)) true was ≡ is_listed asked (listed ++ action ∷ [])
is_listed-push action asked listed was e = listed_push is_same equal_actions action asked listed (is_eq (action_cmp action asked)) was (sym (ties action asked)) e
