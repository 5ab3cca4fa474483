-- What a delivery comes to: the user's program is read, and then the drafts are filed.
use Rattle.std.proofs.Common.{◌≡◌, ◌<◌, ◌≤◌, inl, inr, ◌==◌, ℕ, zero, suc, Bool, false, List, [], ◌∷◌, Option, IsTrue, length, refl, sym, ap, subst, ◌∙◌, arith}
use Rattle.std.proofs.lemmas.List.{length-map}
use Rattle.sqlite.specs.Effect.{Database}
use Rattle.sqlite.specs.State.{State, HasCleanDisk, Survives}
use Rattle.sqlite_trees.specs.Tree.{Trees}
use Rattle.bytecode_format.specs.declared.action.Action.{Action}
use Rattle.mime_decode.specs.Mail.{IsReadable, mail_of}
use Rattle.part_store.specs.Entries.{Draft, Entries, Listing, with_entries}
use Rattle.part_store.specs.Filing.{Collides, HasRoom}
use Rattle.part_store.specs.Inside.{Stays}
use Rattle.part_store.specs.Standing.{LeavesUnchanged, Stands}
use Rattle.part_store.proofs.Entering.{stands_still}
use Rattle.part_store.proofs.Failing.{later_failed}
use Rattle.refusals.specs.declared.refusal.Refusal.{Refusal}
use Rattle.refusals.specs.declared.refusal.Refusal.TheVariants as refusal
use Rattle.depot_actions.specs.Causes.{HasCause, IsFault, IsStoreFault}
use Rattle.part_store.specs.Refusals.{LackRoom}
use Rattle.depot_actions.specs.DepotState.{AreActions, Deliver, Listed, filed}
use Rattle.depot_actions.specs.Drafts.{draft_of_action, drafts_of}
use Rattle.depot_actions.specs.Filing.{Adds, IsUnfiled, Reaches}
use Rattle.depot_actions.specs.Users.{is_user_name}

filed_some : (user : List ℕ) (drafts : List Draft) (before : Entries) → 0 < length drafts → with_entries user drafts before ≡ filed user drafts before
filed_some user [] before some = absurd (omega arith)
filed_some user (draft ∷ drafts) before some = refl

pub some_actions : (number counted : ℕ) (none : Bool) → none ≡ (counted == 0) → none ≡ false → number ≡ counted → 0 < number
some_actions number zero none is some same = absurd (cc)
some_actions number (suc counted) none is some same = omega (arith, same)

pub no_actions : (actions : List Action) → length actions ≡ 0 → actions ≡ []
no_actions [] none = refl
no_actions (action ∷ actions) none = absurd (omega arith)

module _ (old mid new : State) (user message : List ℕ) (program : Option (List ℕ)) (actions : List Action)
    (named : IsTrue (is_user_name user)) (readable : IsReadable message)
    (are : AreActions program (mail_of message) actions)
    (told : (before : Entries) → Stands old.now before → program ≡ before.programs user)
    (stays : Stays old mid) where
  abbrev pub drafts : List Draft
  drafts = drafts_of (mail_of message) actions

  number : length drafts ≡ length actions
  number = length-map actions (draft_of_action (mail_of message))

  actions_are : (before : Entries) → Stands old.now before → AreActions (before.programs user) (mail_of message) actions
  actions_are before stands = subst (λ p. AreActions p (mail_of message) actions) (told before stands) are

  -- the drafts were filed
  pub delivered : 0 < length actions → (rows : List Listing) → ((before : Entries) → Stands mid.now before → Adds user drafts rows new before)
      → Reaches (Deliver user message) (Listed rows) old new
  delivered some rows adds before stands =
      let added = adds before (stands_still old mid before stays stands) in
      let more : 0 < length drafts = omega (arith, number, some) in (
        with_entries user drafts before,
        record {
          named = named;
          step = record {
            readable = readable;
            actions = actions;
            are = actions_are before stands;
            room = subst (λ n. HasRoom before user n) number added.room;
            listed = ap Listed added.rows_are;
            filed = filed_some user drafts before more;
          };
        },
        added.stands,
      )

  -- there was nothing to file
  pub nothing_delivered : actions ≡ [] → Reaches (Deliver user message) (Listed []) old mid
  nothing_delivered none before stands =
      let empty : drafts ≡ [] = ap (λ (xs : List Action). drafts_of (mail_of message) xs) none in (
        before,
        record {
          named = named;
          step = record {
            readable = readable;
            actions = actions;
            are = actions_are before stands;
            room = let few = stands.tables.numbers.limit user in rw none (omega (arith, few));
            listed = rw empty refl;
            filed = rw empty refl;
          };
        },
        stands_still old mid before stays stands,
      )

  -- the store refuses to file them
  pub delivery_fault : {P Q : Trees → Type 0} (e : Refusal) → Survives old mid P → Survives mid new Q → HasCleanDisk new → IsStoreFault (LackRoom user drafts) mid new e → IsFault (Deliver user message) old new e
  delivery_fault e one two clean fault is before stands = elim (fault is before (stands_still old mid before stays stands)) [
    | inl failed ↦ inl (later_failed old mid new one two clean failed)
    | inr lack ↦ inr (inr (actions, actions_are before stands, subst (LackRoom user drafts before) (stays stands.schema).1 lack))
  ]

  -- why they aren't
  pub unfiled_cause : (IsTrue mid.is_open → IsTrue old.is_open) → (e : Refusal) → IsUnfiled e user drafts mid → HasCause e (Deliver user message) old
  unfiled_cause shut refusal.Memory h = tt
  unfiled_cause shut refusal.NumberFull h = (
    named,
    readable,
    shut h.0,
    λ before stands. (actions, actions_are before stands, λ room. h.1 before (stands_still old mid before stays stands) (subst (λ n. HasRoom before user n) (sym number) room)),
  )
  unfiled_cause shut refusal.Collision h = (
    named,
    readable,
    shut h.0,
    λ before stands.
        let same = (stays stands.schema).1 in
        let other = h.1 before (stands_still old mid before stays stands) in
        (actions, actions_are before stands, subst (λ n. HasRoom before user n) number other.0, subst (λ t. Collides t drafts) same other.1),
  )
  unfiled_cause shut refusal.Database h = (named, readable)
  unfiled_cause shut _ h = absurd h

-- what is unchanged twice is unchanged
pub unchanged_twice : (old mid new : State) → old.faults ≤ mid.faults → mid.faults ≤ new.faults → LeavesUnchanged old mid → LeavesUnchanged mid new → LeavesUnchanged old new
unchanged_twice old mid new early late first later = record {
  same = λ schema is_open.
      let one = first.same schema (later.stays_closed is_open) in
      let two = later.same (ap (λ (d : Database). d.schema) one.0 ∙ schema) is_open in
      (two.0 ∙ one.0, two.1 ∙ one.1);
  stays_closed = λ is_open. first.stays_closed (later.stays_closed is_open);
  closes = λ was_open. elim (first.closes was_open) [
    | inl still ↦ elim (later.closes still) [ inl is_open ↦ inl is_open | inr failed ↦ inr (omega (arith, early, failed)) ]
    | inr failed ↦ inr (omega (arith, late, failed))
  ];
}
