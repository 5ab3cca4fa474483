-- The parts that are kept of a message.
use Rattle.std.proofs.Common.{◌≡◌, ℕ, zero, suc, ◌+◌, ◌<◌, List, [], ◌∷◌, ◌++◌, All, take, Option, Some, None, length, get_or, refl, sym, ap, subst, ◌∙◌, arith}
use Rattle.std.specs.Prelude.{slice_index_or, slice_get}
use Rattle.std.proofs.lemmas.List.{take_more}
use Rattle.std.proofs.lemmas.List.Elements.{All-push}
use Rattle.std.proofs.lemmas.Option.{get_or_from_slice_get}
use Rattle.part_store.specs.Entries.{Draft}
use Rattle.mime_decode.specs.Mail.{Mail, Part}
use Rattle.bytecode_format.specs.declared.action.Action.{Action}
use Rattle.bytecode_format.specs.declared.action.Action.TheVariants.{Keep, File, Store}
use Rattle.depot_actions.specs.Drafts.{part_draft, stored_draft}
use Rattle.depot_actions.specs.Filing.{AreKept, IsStored, Keeps, KeepsAction}
use Rattle.depot_actions.specs.declared.stored_part.StoredPart.{StoredPart}

-- ---- what is kept

-- an action's part stays kept
pub action_kept : (old new : List (Option StoredPart)) → ((number : ℕ) → Keeps old number → Keeps new number) → (action : Action) → KeepsAction old action → KeepsAction new action
action_kept old new more Keep h = tt
action_kept old new more (File folder) h = tt
action_kept old new more (Store folder part) h = more part h

-- ---- what is kept of a part is what its entry shows

record IsAt (parts : List Part) (place : ℕ) : Type 0 where
  item : Part
  here : slice_get parts place ≡ Some item

is_at : (parts : List Part) (place : ℕ) → place < length parts → IsAt parts place
is_at [] place lt = absurd (omega (arith, lt))
is_at (part ∷ parts) zero lt = record { item = part; here = refl }
is_at (part ∷ parts) (suc place) lt = let more = is_at parts place (omega (arith, lt)) in record { item = more.item; here = more.here }

kept_within : (kept : List (Option StoredPart)) (place : ℕ) (stored : StoredPart) → slice_index_or kept place None ≡ Some stored → place < length kept
kept_within [] place stored is = absurd (cc)
kept_within (one ∷ kept) zero stored is = omega arith
kept_within (one ∷ kept) (suc place) stored is = let more = kept_within kept place stored is in omega (arith, more)

pub kept_is_drafted : (mail : Mail) (kept : List (Option StoredPart)) (folder : List ℕ) (place : ℕ) (stored : StoredPart) (draft : Draft) → AreKept mail kept
    → slice_index_or kept place None ≡ Some stored → ((part : Part) → IsStored stored part → draft ≡ part_draft folder part) → draft ≡ stored_draft folder (slice_get mail.parts place)
kept_is_drafted mail kept folder place stored draft are is drafted =
    let within = kept_within kept place stored is in
    let at = is_at mail.parts place (omega (arith, within, are.number)) in
    let each = rw is at (are.each place) in
    let same : get_or mail.parts place at.item ≡ at.item = get_or_from_slice_get mail.parts place at.item at.item at.here in
    rw at.here (drafted at.item (subst (IsStored stored) same (each at.item)))

-- what is kept at a place, whatever stands for what isn't there
pub at_default : (kept : List (Option StoredPart)) (place : ℕ) (one : Option StoredPart) (stored : StoredPart) → Keeps kept place → one ≡ get_or kept place one → one ≡ Some stored
    → slice_index_or kept place None ≡ Some stored
at_default [] place one stored keeps is some = absurd (cc)
at_default (first ∷ kept) zero one stored keeps is some = sym is ∙ some
at_default (first ∷ kept) (suc place) one stored keeps is some = at_default kept place one stored keeps is some

-- the parts are kept that one action more stores
pub next_action : (old new : List (Option StoredPart)) (actions : List Action) (i : ℕ) (action : Action) → i < length actions → action ≡ get_or actions i action
    → ((number : ℕ) → Keeps old number → Keeps new number) → KeepsAction new action → All (KeepsAction old) (take i actions) → All (KeepsAction new) (take (i + 1) actions)
next_action old new actions i action lt here more one all =
    let next : take (i + 1) actions ≡ take i actions ++ action ∷ [] = take_more actions i action lt ∙ ap (λ (a : Action). take i actions ++ a ∷ []) (sym here) in
    let before : All (KeepsAction new) (take i actions) = λ k d within. action_kept old new more (get_or (take i actions) k d) (all k d within) in
    subst (λ actions. All (KeepsAction new) actions) (sym next) (All-push (KeepsAction new) (take i actions) action before one)
