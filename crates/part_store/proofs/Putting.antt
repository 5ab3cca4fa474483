-- A row of a user is put in the place of the one before.
use Rattle.std.proofs.Common.{◌≡◌, inl, inr, ℕ, ◌≤◌, max, pos, true, false, if◌then◌else◌, Bool, not, List, [], ◌∷◌, length, Option, Some, None, MatchOption, IsSomeAnd, option_map, Bor, Vec, refl, sym, ap, subst, ◌∙◌, bytes_eq, IsTrue, arith}
use Rattle.std.specs.declared.alloc.Global.{Global}
use Rattle.std.proofs.Math.Nat.{le-max_left, max-eq_left, max-le}
use Rattle.std.proofs.lemmas.Bool.{cases_Bool}
use Rattle.sqlite_value.specs.declared.value.Value.TheVariants.{Int, Text, Blob}
use Rattle.sqlite_value.specs.Order.{Row}
use Rattle.sqlite_trees.specs.Tree.{Trees}
use Rattle.sqlite_rules.specs.Edit.{next_rowid}
use Rattle.sqlite_rules.specs.Lists.{Has}
use Rattle.sqlite_rules.proofs.ListLemmas.{all_from, all_has, has_filtered}
use Rattle.sqlite.specs.State.{State, HasCleanDisk, KeepsCommit, Survives}
use Rattle.sqlite.specs.Values.{or_null}
use Rattle.sqlite.specs.declared.error.Error.{Error}
use Rattle.sqlite.proofs.StateLemmas.{survives_then}
use Rattle.octets.specs.Limits.{max_entry_number}
use Rattle.part_store.specs.Tables.{store_schema, users_table, users_tree, equals}
use Rattle.part_store.specs.Causes.{AddFaults, HasNoRow, RisesFrom}
use Rattle.part_store.specs.Changes.{with_line, IsAdded, IsTableIn, IsTaken, Steps}
use Rattle.part_store.specs.Entries.{Entries, Entry, with_program}
use Rattle.part_store.specs.Inside.{Brings, Stays, StaysInside}
use Rattle.part_store.specs.Refusals.{refusal_of, user_values, HasNoUserRoom, OnlyWhenFailedOrNoLineRoom, OnlyWhenFailedOrNoUserRoom, IsTooBig}
use Rattle.part_store.specs.Standing.{IsNumbered, Stands}
use Rattle.part_store.specs.UserLines.{UserLine}
use Rattle.part_store.proofs.Apart.{bytes_same}
use Rattle.part_store.proofs.Digests.{same_verified}
use Rattle.part_store.proofs.Entering.{stands_still}
use Rattle.part_store.proofs.Failing.{later_failed}
use Rattle.part_store.proofs.Programs.{user_put}
use Rattle.part_store.proofs.Room.{rises_put, row_unplaced, user_keys}

-- ---- the state

module _ (user : List ℕ) (last : ℕ) (program : Option (List ℕ)) (e : Entries) where
  abbrev after : Entries
  after = with_line user last program e

  -- no last number falls
  none_falls : (name : List ℕ) → e.lasts name ≤ after.lasts name
  none_falls name = elim (cases_Bool (bytes_eq name user)) [
    | inl mine ↦ rw mine (le-max_left (e.lasts name) last)
    | inr other ↦ rw other (omega arith)
  ]

  none_above : last ≤ max_entry_number → ((name : List ℕ) → e.lasts name ≤ max_entry_number) → (name : List ℕ) → after.lasts name ≤ max_entry_number
  none_above low limit name = elim (cases_Bool (bytes_eq name user)) [
    | inl mine ↦ rw mine (max-le (limit name) low)
    | inr other ↦ rw other (limit name)
  ]

  numbers_put : last ≤ max_entry_number → IsNumbered e → IsNumbered after
  numbers_put low numbers = record {
    limit = none_above low numbers.limit;
    given = all_from (λ (x : Entry). (1 ≤ x.number) × (x.number ≤ after.lasts x.user)) e.entries (λ x there.
        let was = all_has (λ (y : Entry). (1 ≤ y.number) × (y.number ≤ e.lasts y.user)) e.entries x numbers.given there in
        (was.0, omega (arith, was.1, none_falls x.user)));
    rising = numbers.rising;
  }

  last_put : after.lasts user ≡ max (e.lasts user) last
  last_put = rw (bytes_same user) refl

  program_put : after.programs user ≡ program
  program_put = rw (bytes_same user) refl

-- ---- the table

module _ (old one two new : State) (user : List ℕ) (was n last : ℕ) (program : Option (List ℕ)) (values : Row) (is : values ≡ Text user ∷ Int (pos n) ∷ or_null Blob program ∷ []) (stays : Stays old one)
    (told : (before : Entries) → Stands old.now before → was ≡ before.lasts user) (larger : n ≡ max was last) (takes : Steps (IsTaken users_tree (equals 1 (Text user))) one two) where
  larger_one : (before : Entries) → Stands old.now before → n ≡ (with_line user last program before).lasts user
  larger_one before stands = larger ∙ ap (λ m. max m last) (told before stands) ∙ sym (last_put user last program before)

  pub line_brought : (old.now.schema ≡ store_schema → KeepsCommit old one) → last ≤ max_entry_number → Steps (IsAdded users_tree values) two new → Brings (with_line user last program) old new
  line_brought kept low adds before stands =
      let still = stands_still old one before stays stands in
      let same = (stays stands.schema).1 in
      let b = takes still.schema in
      let c = adds b.schema in
      let taken = subst (λ t. IsTaken users_tree (equals 1 (Text user)) t two.now.trees) same b.change in
      let added = subst (λ v. IsAdded users_tree v two.now.trees new.now.trees) is c.change in (
        record {
          schema = c.schema;
          listed = c.listed (b.listed still.listed);
          tables = user_put old.now.trees two.now.trees new.now.trees user n (or_null Blob program) taken (next_rowid (two.now.trees users_tree)) added before (with_line user last program before) stands.tables
              (larger_one before stands) (sym (ap (or_null Blob) (program_put user last program before))) (λ name other. (rw other refl, rw other refl)) refl (numbers_put user last program before low stands.tables.numbers);
        },
        c.committed ∙ b.committed ∙ (kept stands.schema).committed b.was_open,
        same_verified old.now.trees new.now.trees (added.others.1.0 (λ h. absurd (omega (arith, h))) ∙ taken.others.1.0 (λ h. absurd (omega (arith, h)))),
      )

  pub line_rises : Steps (IsAdded users_tree values) two new → (before : Entries) → Stands old.now before → RisesFrom 1 (old.now.trees users_tree) (new.now.trees users_tree)
  line_rises adds before stands =
      let still = stands_still old one before stays stands in
      let b = takes still.schema in
      let rows = b.change.rows still.tables.users_rise (user_keys one before still) in
      rises_put old.now.trees two.now.trees new.now.trees values (λ r h.
      subst (λ (t : Trees). Has (t users_tree) r) (stays stands.schema).1 (has_filtered (λ r. not (equals 1 (Text user) r)) (one.now.trees users_tree) r (subst (λ l. Has l r) rows h)).0) (adds b.schema).change

  pub line_unplaced : (e : Error) → Survives old one (λ _. ⊥) → Survives one two (λ _. ⊥) → Survives two new (λ _. ⊥) → HasCleanDisk new → StaysInside old one
      → (IsTableIn users_tree two.now.trees → HasNoRow user two.now.trees → AddFaults users_table values two new e)
      → IsTrue old.in_transaction → OnlyWhenFailedOrNoUserRoom user (with_line user last program) old new (refusal_of e)
  line_unplaced e first second third clean inside adds begun refused before stands =
      let still = stands_still old one before stays stands in
      let later = survives_then one two new (λ _. ⊥) (λ _. ⊥) (λ _. ⊥) (λ _ _ h. h) (λ _ _ h. h) second third in
      let after = with_line user last program before in
      let same : values ≡ user_values user (after.lasts user) (after.programs user) =
      is ∙ ap (λ m. Text user ∷ Int (pos m) ∷ or_null Blob program ∷ []) (larger_one before stands) ∙ ap (λ p. Text user ∷ Int (pos (after.lasts user)) ∷ or_null Blob p ∷ []) (sym (program_put user last program before)) in
      elim (row_unplaced one two new user takes second third clean e refused (inside stands.schema begun) before still values after same adds) [
        | inl failed ↦ inl (later_failed old one new first later clean failed)
        | inr none ↦ inr (subst (HasNoUserRoom user after) (stays stands.schema).1 none)
      ]

-- ---- what is put

-- a value that is bound, and the program that it is
pub bound_line : (program : Option (Bor (List ℕ))) → or_null (λ octets. Blob octets.now) program ≡ or_null Blob (option_map (λ octets. octets.now) program)
bound_line None = refl
bound_line (Some octets) = refl

pub derefs : (o : Option (Vec ℕ Global)) (r : Option (Bor (List ℕ))) → MatchOption o (r ≡ None) (λ v. IsSomeAnd r (λ octets. (octets.now ≡ v.items) × (length octets.now ≡ v.len))) → option_map (λ octets. octets.now) r ≡ option_map (λ v. v.items) o
derefs None r h = ap (option_map (λ octets. octets.now)) h
derefs (Some v) None h = absurd h
derefs (Some v) (Some octets) h = ap Some h.0

-- a program alone
pub program_line : (user program : List ℕ) → with_line user 0 (Some program) ≡ with_program user program
program_line user program = λ i e. record e { programs = λ name. if bytes_eq name user then Some program else e.programs name; lasts = λ name. same (bytes_eq name user) (e.lasts name) i }
  where
    least : (n : ℕ) → max n 0 ≡ n
    least n = let le : 0 ≤ n = omega arith in max-eq_left le

    same : (b : Bool) (n : ℕ) → (if b then max n 0 else n) ≡ n
    same true n = least n
    same false n = refl

-- the row of a user has no room
pub line_refused : (old new : State) (line : UserLine) (e : Error) → line.last ≤ max_entry_number → (IsTrue old.in_transaction → OnlyWhenFailedOrNoUserRoom line.user (with_line line.user line.last line.program) old new (refusal_of e))
    → IsTrue old.in_transaction → OnlyWhenFailedOrNoLineRoom (line ∷ []) old new (refusal_of e)
line_refused old new line e low cause begun is before stands =
    let after = with_line line.user line.last line.program before in
    elim (cause begun is before stands) [
      | inl failed ↦ inl failed
      | inr (inl full) ↦ inr (inl full)
      | inr (inr big) ↦ inr (inr (
        line,
        inl refl,
        (
          after.lasts line.user,
          none_above line.user line.last line.program before low stands.tables.numbers.limit line.user,
          subst (λ p. IsTooBig users_table (user_values line.user (after.lasts line.user) p)) (program_put line.user line.last line.program before) big,
        ),
      ))
    ]
