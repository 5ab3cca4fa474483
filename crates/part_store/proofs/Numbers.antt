-- The table of users stands for the state with another last number.
use Rattle.std.proofs.Common.{◌≡◌, inl, inr, ℕ, ℤ, ◌≤◌, pos, Bool, true, not, List, [], ◌∷◌, filter, Option, refl, sym, ap, ap₂, subst, ◌∙◌, bytes_eq, Less, arith}
use Rattle.std.specs.List.{AllByRecursion}
use Rattle.std.proofs.lemmas.Bool.{cases_Bool, true≢false, false_from_ne_true}
use Rattle.std.proofs.lemmas.Cmp.{tied_itself}
use Rattle.octets.specs.Limits.{max_entry_number}
use Rattle.sqlite_value.specs.declared.value.Value.TheVariants.{Null, Int, Text, Blob}
use Rattle.sqlite_value.specs.Order.{Row, value_cmp}
use Rattle.sqlite_value.proofs.OrderLemmas.{value_cmp_total}
use Rattle.sqlite_trees.specs.Tree.{Trees, rowid, IsTable}
use Rattle.sqlite_trees.proofs.ListLemmas.{filter_all, filter_none}
use Rattle.sqlite_rules.specs.Edit.{next_rowid}
use Rattle.sqlite_rules.specs.Lists.{Has}
use Rattle.sqlite_rules.proofs.ListLemmas.{all_from, all_has}
use Rattle.sqlite.specs.Values.{or_null}
use Rattle.sqlite.specs.State.{State}
use Rattle.part_store.specs.Tables.{users_tree, equals}
use Rattle.part_store.specs.Causes.{HasNoRow}
use Rattle.part_store.specs.Changes.{IsAdded, IsOnlyRow, IsPut, IsRenewed, IsStep, IsTableIn, IsTaken, Steps, user_row, without}
use Rattle.part_store.specs.Entries.{Entry, Entries, with_last}
use Rattle.part_store.specs.Additions.{Claims}
use Rattle.part_store.specs.Standing.{IsNumbered, IsUserRow, Stands, StandsFor}
use Rattle.part_store.specs.UserLines.{HasRow}
use Rattle.part_store.proofs.Gaining.{keyed_all}
use Rattle.part_store.proofs.Programs.{bytes_same, contents_stay, entries_stay, found_user, same_bytes, user_key, user_put}

-- the user has another last number
module _ (e : Entries) (numbers : IsNumbered e) (user : List ℕ) (n : ℕ) (more : e.lasts user ≤ n) (fits : n ≤ max_entry_number) where
  abbrev after : Entries
  after = with_last user n e

  limited : (name : List ℕ) → after.lasts name ≤ max_entry_number
  limited name = elim (cases_Bool (bytes_eq name user)) [
    | inl is ↦ rw is fits
    | inr other ↦ rw other (numbers.limit name)
  ]

  number_within : (x : Entry) → (1 ≤ x.number) × (x.number ≤ e.lasts x.user) → (1 ≤ x.number) × (x.number ≤ after.lasts x.user)
  number_within x h = elim (cases_Bool (bytes_eq x.user user)) [
    | inl is ↦ (h.0, rw is (let named = ap e.lasts (same_bytes x.user user is) in omega (arith, h.1, more, named)))
    | inr other ↦ (h.0, rw other h.1)
  ]

  numbers_within : (xs : List Entry) → AllByRecursion (λ x. (1 ≤ x.number) × (x.number ≤ e.lasts x.user)) xs → AllByRecursion (λ x. (1 ≤ x.number) × (x.number ≤ after.lasts x.user)) xs
  numbers_within [] all = tt
  numbers_within (x ∷ xs) all = (number_within x all.0, numbers_within xs all.1)

  still_numbered : IsNumbered after
  still_numbered = record { limit = limited; given = numbers_within e.entries numbers.given; rising = numbers.rising }

-- his row is put anew, with his program and this number
number_put : (db mid new : Trees) (e : Entries) → StandsFor db e → (user : List ℕ) (n : ℕ) → e.lasts user ≤ n → n ≤ max_entry_number → IsTaken users_tree (equals 1 (Text user)) db mid
    → (id : ℤ) → IsPut users_tree (user_row id user n (e.programs user)) mid new → StandsFor new (with_last user n e)
number_put db mid new e stands user n more fits taken id put_in =
    user_put db mid new user n (or_null Blob (e.programs user)) taken id put_in e (with_last user n e) stands (rw (bytes_same user)) refl (λ name other. (rw other, refl)) refl
    (still_numbered e stands.numbers user n more fits)

-- the table without the rows that pass is what it is where they were taken out
taken_from : (user : List ℕ) (db : Trees) → IsTaken users_tree (equals 1 (Text user)) db (without users_tree (equals 1 (Text user)) db)
taken_from user db = record { rows = λ up keyed. refl; others = (λ h. absurd (h refl), ((λ h. refl), ((λ h. refl), tt))) }

none_taken : (user : List ℕ) (db : Trees) → HasNoRow user db → IsTaken users_tree (equals 1 (Text user)) db db
none_taken user db none = record {
  rows = λ up keyed. sym (filter_all (λ r. not (equals 1 (Text user) r)) (db users_tree) (all_from _ (db users_tree) (λ r h. ap not (none r h))));
  others = ((λ h. refl), ((λ h. refl), ((λ h. refl), tt)));
}

pub put_claims : (old new : State) (mid : Trees) (user : List ℕ) (n : ℕ) (before : Entries) (id : ℤ) → n ≤ max_entry_number → Stands old.now before → before.lasts user ≤ n
    → IsTaken users_tree (equals 1 (Text user)) old.now.trees mid → IsStep (λ _ trees. IsPut users_tree (user_row id user n (before.programs user)) mid trees) old new → Claims user n before old new
put_claims old new mid user n before id fits stands more taken step = record {
  was_open = step.was_open;
  stands = record { schema = step.schema; listed = step.listed stands.listed; tables = number_put old.now.trees mid new.now.trees before stands.tables user n more fits taken id step.change };
  committed = step.committed;
  contents = contents_stay old.now.trees mid new.now.trees user n _ taken id step.change;
  entries = entries_stay old.now.trees mid new.now.trees user n _ taken id step.change;
}

changed_step : (One Other : Trees → Trees → Type 0) (old new : State) → (One old.now.trees new.now.trees → Other old.now.trees new.now.trees) → IsStep One old new → IsStep Other old new
changed_step One Other old new turn step =
    record { was_open = step.was_open; is_open = step.is_open; committed = step.committed; inside = step.inside; schema = step.schema; listed = step.listed; change = turn step.change }

-- a user without a row gets one
pub number_added : (old new : State) (user : List ℕ) (n : ℕ) → n ≤ max_entry_number → Steps (IsAdded users_tree (Text user ∷ Int (pos n) ∷ Null ∷ [])) old new → (before : Entries) → Stands old.now before
    → HasNoRow user old.now.trees → before.lasts user ≤ n → Claims user n before old new
number_added old new user n fits adds before stands none more =
    let program = (stands.tables.strangers user none).1 in
    put_claims old new old.now.trees user n before (next_rowid (old.now.trees users_tree)) fits stands more (none_taken user old.now.trees none)
    (changed_step _ _ old new (λ added. subst (λ (p : Option (List ℕ)). IsPut users_tree (user_row (next_rowid (old.now.trees users_tree)) user n p) old.now.trees new.now.trees) (sym program) added) (adds stands.schema))

-- of rows that rise, one alone passes where all that pass are it
only_passing : (p : Row → Bool) (x : Row) (rows : List Row) → IsTable rows → Has rows x → p x ≡ true → ((y : Row) → Has rows y → p y ≡ true → y ≡ x) → filter p rows ≡ x ∷ []
only_passing p x [] up h is one = absurd h
only_passing p x (r ∷ rows) up h is one = elim (cases_Bool (p r)) [
  | inl passes ↦
      let same : r ≡ x = one r (inl refl) passes in
      let none = filter_none p rows (all_from _ rows (λ y k. false_from_ne_true _ (λ also.
      let tie : value_cmp (rowid r) (rowid r) ≡ Less = subst (λ z. value_cmp (rowid r) (rowid z) ≡ Less) (one y (inr k) also ∙ sym same) (all_has _ rows y up.0 k) in
      let e = sym tie ∙ tied_itself value_cmp_total (rowid r) in absurd cc))) in
      rw passes (ap₂ (λ y ys. y ∷ ys) same none)
  | inr fails ↦ rw fails (elim h [
    | inl here ↦ absurd (true≢false (sym is ∙ ap p here ∙ fails))
    | inr later ↦ only_passing p x rows up.1 later is (λ y k. one y (inr k))
  ])
]

-- the row of a user that has one
pub only_row : (db : Trees) (e : Entries) (user : List ℕ) → StandsFor db e → HasRow (db users_tree) user → (id : ℤ) × IsOnlyRow user (user_row id user (e.lasts user) (e.programs user)) db
only_row db e user stands (r, there, his) =
    let row = found_user db e stands user r there his in
    let table : IsTableIn users_tree db = (stands.users_rise, keyed_all (IsUserRow e) (db users_tree) (user_key e) stands.users) in
    let one = only_passing (equals 1 (Text user)) r (db users_tree) stands.users_rise there his (λ y k also. stands.apart user y r k there also his) in
    (row.0, (table, one ∙ ap (λ x. x ∷ []) row.1))

-- a user with a row has another number in it
pub number_renewed : (old new : State) (user : List ℕ) (n : ℕ) → n ≤ max_entry_number → Steps (IsRenewed user n) old new → (before : Entries) → Stands old.now before
    → HasRow (old.now.trees users_tree) user → before.lasts user ≤ n → Claims user n before old new
number_renewed old new user n fits renews before stands known more =
    let row = only_row old.now.trees before user stands.tables known in
    put_claims old new (without users_tree (equals 1 (Text user)) old.now.trees) user n before row.0 fits stands more (taken_from user old.now.trees)
    (changed_step _ _ old new (λ renewed. renewed row.0 (before.lasts user) (before.programs user) row.1) (renews stands.schema))
