-- The table of users stands for the state with another program.
use Rattle.std.proofs.Common.{◌≡◌, ◌≢◌, inl, inr, ℕ, ◌<◌, ℤ, pos, true, false, not, List, [], ◌∷◌, length, filter, Option, Some, None, MatchOption, option_map, Result, Ok, Err, IfOk, refl, sym, ap, subst, subst₂, ◌∙◌, bytes_eq, arith}
use Rattle.std.specs.List.{AllByRecursion, AllZip}
use Rattle.std.proofs.lemmas.Bool.{cases_Bool, true≢false, not-true, false_from_ne_true}
use Rattle.sqlite_value.specs.declared.value.Value.{Value}
use Rattle.sqlite_value.specs.declared.value.Value.TheVariants.{Null, Int, Text, Blob}
use Rattle.sqlite_value.specs.Order.{Row, column}
use Rattle.sqlite_trees.specs.Tree.{Trees, rowid, IsTable}
use Rattle.sqlite_trees.specs.View.{is_int}
use Rattle.sqlite_rules.specs.Lists.{Has}
use Rattle.sqlite_rules.proofs.ListLemmas.{all_has, all_from, has_filtered, has_kept}
use Rattle.sqlite.specs.Values.{or_null}
use Rattle.sqlite.specs.State.{State}
use Rattle.part_store.specs.Tables.{users_tree, contents_tree, entries_tree, equals}
use Rattle.part_store.specs.Changes.{columns, Steps, Reads, IsFound, IsPut, IsTaken}
use Rattle.part_store.specs.UserLines.{HasRow}
use Rattle.part_store.specs.Entries.{Entries}
use Rattle.part_store.specs.Standing.{Stands, IsUserRow, IsContentRow, IsNumbered, HasContent, StandsFor, IsEntryRow}
pub use Rattle.part_store.proofs.Apart.{bytes_same, same_bytes}
use Rattle.part_store.proofs.Apart.{apart_put}
use Rattle.part_store.proofs.Equals.{equal_texts, same_number}
use Rattle.part_store.proofs.Gaining.{filter_rises, has_put_row, keyed_all, put_or_was, rises_with, stays_beside}

pub user_key : (e : Entries) (r : Row) → IsUserRow e r → is_int (rowid r) ≡ true
user_key e r h = rw h.2

-- the row is of the user exactly where his name is in it
pub of_user : (e : Entries) (r : Row) (user : List ℕ) (h : IsUserRow e r) → equals 1 (Text user) r ≡ bytes_eq h.1 user
of_user e r user h = rw h.2 (equal_texts h.1 user)

module _ (db : Trees) (e : Entries) (stands : StandsFor db e) (user : List ℕ) where
  -- the row that was found is the user's
  pub found_user : (r : Row) → Has (db users_tree) r → equals 1 (Text user) r ≡ true → (id : ℤ) × (r ≡ Int id ∷ Text user ∷ Int (pos (e.lasts user)) ∷ or_null Blob (e.programs user) ∷ [])
  found_user r there is =
      let h = all_has (IsUserRow e) (db users_tree) r stands.users there in
      let same = same_bytes h.1 user (sym (of_user e r user h) ∙ is) in
      (h.0, subst (λ n. r ≡ Int h.0 ∷ Text n ∷ Int (pos (e.lasts n)) ∷ or_null Blob (e.programs n) ∷ []) same h.2)

-- The user's row is put anew, with this number and this value for his program. So a state stands there that has these of
-- him, and of all others what there was.
module _ (db mid new : Trees) (user : List ℕ) (n : ℕ) (value : Value) (taken : IsTaken users_tree (equals 1 (Text user)) db mid)
    (id : ℤ) (put_in : IsPut users_tree (Int id ∷ Text user ∷ Int (pos n) ∷ value ∷ []) mid new) where
  pub contents_stay : new contents_tree ≡ db contents_tree
  contents_stay = put_in.others.1.0 (λ h. absurd (omega (arith, h))) ∙ taken.others.1.0 (λ h. absurd (omega (arith, h)))

  pub entries_stay : new entries_tree ≡ db entries_tree
  entries_stay = put_in.others.1.1.0 (λ h. absurd (omega (arith, h))) ∙ taken.others.1.1.0 (λ h. absurd (omega (arith, h)))

  module _ (e after : Entries) (stands : StandsFor db e) (number : n ≡ after.lasts user) (program : value ≡ or_null Blob (after.programs user))
      (beside : (name : List ℕ) → bytes_eq name user ≡ false → (after.lasts name ≡ e.lasts name) × (after.programs name ≡ e.programs name)) where
    rest : mid users_tree ≡ filter (λ r. not (equals 1 (Text user) r)) (db users_tree)
    rest = taken.rows stands.users_rise (keyed_all (IsUserRow e) (db users_tree) (user_key e) stands.users)

    mid_rises : IsTable (mid users_tree)
    mid_rises = subst IsTable (sym rest) (filter_rises _ _ (db users_tree) stands.users_rise)

    -- a row of another user stays
    others_stay : (r : Row) → Has (db users_tree) r → equals 1 (Text user) r ≡ false → Has (new users_tree) r
    others_stay r there other =
        stays_beside users_tree _ mid new put_in r (subst (λ rows. Has rows r) (sym rest) (has_kept _ (db users_tree) r there (ap not other)))

    each_user : (r : Row) → Has (new users_tree) r → IsUserRow after r
    each_user r there = elim (put_or_was users_tree _ mid new put_in r there) [
      | inl is ↦ (id, user, is ∙ rw (number, program))
      | inr was ↦
          let kept = has_filtered _ (db users_tree) r (subst (λ rows. Has rows r) rest was) in
          let h = all_has (IsUserRow e) (db users_tree) r stands.users kept.0 in
          let same = beside h.1 (sym (of_user e r user h) ∙ not-true _ kept.1) in
          (h.0, h.1, h.2 ∙ rw (same.0, same.1))
    ]

    strangers_too : (name : List ℕ) → ((r : Row) → Has (new users_tree) r → equals 1 (Text name) r ≡ false) → (after.lasts name ≡ 0) × (after.programs name ≡ None)
    strangers_too name none =
        let here = none _ (has_put_row users_tree _ mid new put_in) in
        let other : bytes_eq user name ≡ false = sym (equal_texts user name) ∙ here in
        let same = beside name (false_from_ne_true _ (λ is. absurd (true≢false (sym (bytes_same user) ∙ ap (bytes_eq user) (sym (same_bytes name user is)) ∙ other)))) in
        let was = stands.strangers name (λ r there. elim (cases_Bool (equals 1 (Text user) r)) [
          | inl mine ↦ let r2 = found_user db e stands user r there mine in rw (r2.1) (equal_texts user name ∙ other)
          | inr not_mine ↦ none r (others_stay r there not_mine)
        ]) in
        (same.0 ∙ was.0, same.1 ∙ was.1)

    pub user_put : after.entries ≡ e.entries → IsNumbered after → StandsFor new after
    user_put entries numbers = record {
      users_rise = rises_with users_tree _ mid new put_in mid_rises;
      contents_rise = subst IsTable (sym contents_stay) stands.contents_rise;
      entries_rise = subst IsTable (sym entries_stay) stands.entries_rise;
      users = all_from (IsUserRow after) (new users_tree) each_user;
      apart = apart_put db mid new user _ stands.apart rest id put_in;
      strangers = strangers_too;
      contents = subst (AllByRecursion IsContentRow) (sym contents_stay) stands.contents;
      single = subst (λ rows. (digest one other : List ℕ) → HasContent rows digest one → HasContent rows digest other → one ≡ other) (sym contents_stay) stands.single;
      entries = subst (AllZip (IsEntryRow (new contents_tree)) (new entries_tree)) (sym entries) (subst₂ (λ c rows. AllZip (IsEntryRow c) rows e.entries) (sym contents_stay) (sym entries_stay) stands.entries);
      named = subst₂ (λ c rows. (digest octets : List ℕ) → HasContent c digest octets → (r : Row) × Has rows r × (column r 7 ≡ Blob digest)) (sym contents_stay) (sym entries_stay) stands.named;
      numbers = numbers;
    }

-- a program that was read
no_program : (program : Option (List ℕ)) → or_null Blob program ≡ Null → program ≡ None
no_program None h = refl
no_program (Some octets) h = absurd (cc)

pub this_program : (program : Option (List ℕ)) (octets : List ℕ) → or_null Blob program ≡ Blob octets → Some octets ≡ program
this_program None octets h = absurd (cc)
this_program (Some others) octets h = let e : octets ≡ others = cc in ap Some e

pub program_shown : {A : Type 0} (old new : State) (user : List ℕ) (row : Row) (items : A → List ℕ) (before : Entries) → Stands old.now before
    → Steps (Reads (λ db. IsFound users_tree (equals 1 (Text user)) (columns (2 ∷ 3 ∷ [])) db (Some row))) old new
    → (x : Option A) → MatchOption x (column row 1 ≡ Null) (λ v. (column row 1 ≢ Null) × (column row 1 ≡ Blob (items v))) → option_map items x ≡ before.programs user
program_shown old new user row items before stands reads x is =
    let h = (reads stands.schema).change.1 in
    let r = found_user old.now.trees before stands.tables user h.0 h.1 h.2 in
    let shown : column row 1 ≡ or_null Blob (before.programs user) = ap (λ (x : Row). column x 1) (h.3 ∙ ap (columns (2 ∷ 3 ∷ [])) r.1) in
    go x is shown
  where
    go : (x : Option _) → MatchOption x (column row 1 ≡ Null) (λ v. (column row 1 ≢ Null) × (column row 1 ≡ Blob (items v))) → column row 1 ≡ or_null Blob (before.programs user) → option_map items x ≡ before.programs user
    go None is shown = sym (no_program (before.programs user) (sym shown ∙ is))
    go (Some v) is shown = this_program (before.programs user) (items v) (sym shown ∙ is.1)

pub program_read : {A E : Type 0} (old new : State) (user : List ℕ) (row : Row) (items : A → List ℕ) (r : Result (Option A) E)
    → Steps (Reads (λ db. IsFound users_tree (equals 1 (Text user)) (columns (2 ∷ 3 ∷ [])) db (Some row))) old new
    → IfOk r (λ x. (1 < length row) × MatchOption x (column row 1 ≡ Null) (λ v. (column row 1 ≢ Null) × (column row 1 ≡ Blob (items v))))
    → IfOk r (λ found. (before : Entries) → Stands old.now before → option_map items found ≡ before.programs user)
program_read old new user row items (Err e) reads got = tt
program_read old new user row items (Ok found) reads got = λ before stands. program_shown old new user row items before stands reads found got.1

-- a user's last number that was read, and that he has a row
pub number_read : (old new : State) (user : List ℕ) (row : Row) (n : ℕ) → Steps (Reads (λ db. IsFound users_tree (equals 1 (Text user)) (columns (2 ∷ [])) db (Some row))) old new → column row 0 ≡ Int (pos n)
    → (before : Entries) → Stands old.now before → (n ≡ before.lasts user) × HasRow (old.now.trees users_tree) user
number_read old new user row n reads last before stands =
    let found = (reads stands.schema).change.1 in
    let r = found_user old.now.trees before stands.tables user found.0 found.1 found.2 in
    (same_number n (before.lasts user) (sym last ∙ ap (λ (x : Row). column x 0) found.3 ∙ ap (λ (x : Row). column x 2) r.1), (found.0, found.1, found.2))
