-- The rows of the answer to a listing of users are the users that have a row.
use Rattle.std.proofs.Common.{◌≡◌, ℕ, pos, true, List, [], ◌∷◌, map, filter, Option, Some, None, option_map, refl, sym, ap, ap₂, subst, ◌∙◌}
use Rattle.std.specs.Prelude.{Vec, string_bytes}
use Rattle.std.specs.declared.alloc.Global.{Global}
use Rattle.std.proofs.lemmas.Bool.{false_from_ne_true}
use Rattle.std.proofs.lemmas.List.Sorted.{IsPermutation-sym}
use Rattle.sqlite_value.specs.declared.value.Value.TheVariants.{Int, Text, Blob}
use Rattle.sqlite_value.specs.Order.{Row, column}
use Rattle.sqlite_value.specs.declared.keys.Collation.TheVariants.{Binary}
use Rattle.sqlite_schema.specs.Rules.{equal}
use Rattle.sqlite_trees.specs.Tree.{Trees}
use Rattle.sqlite_rules.specs.Lists.{Has}
use Rattle.sqlite_rules.proofs.ListLemmas.{all_has, all_from, has_filtered, has_kept}
use Rattle.sqlite_rules.proofs.ProbeLemmas.{has_mapped, mapped_has}
use Rattle.sqlite.specs.Values.{or_null}
use Rattle.sqlite.specs.State.{State}
use Rattle.part_store.specs.Tables.{users_tree, equals}
use Rattle.part_store.specs.Changes.{columns, every, IsListed, Reads, Steps}
use Rattle.part_store.specs.Entries.{Entries}
use Rattle.part_store.specs.Standing.{IsUserRow, Stands, StandsFor}
use Rattle.part_store.specs.UserLines.{AreUsersOf, HasRow, UserLine, line_of, user_line}
use Rattle.part_store.specs.Readings.{answer_of}
use Rattle.part_store.specs.declared.user_row.UserRow.{UserRow}
use Rattle.part_store.proofs.Apart.{bytes_same}
use Rattle.part_store.proofs.Equals.{equal_texts, same_number}
use Rattle.part_store.proofs.NameOrder.{names_rise}
use Rattle.part_store.proofs.Programs.{found_user}
use Rattle.part_store.proofs.Rows.{has_permuted}

-- a user as a row shows him
abbrev pub row_of_line : UserLine → Row
row_of_line x = Text x.user ∷ Int (pos x.last) ∷ or_null Blob x.program ∷ []

abbrev pub first_three : Row → Row
first_three = columns (0 ∷ 1 ∷ 2 ∷ [])

abbrev shown : Row → Row
shown = columns (1 ∷ 2 ∷ 3 ∷ [])

same_answer : (o : Option (Vec ℕ Global)) → or_null Blob (option_map (λ v. v.items) o) ≡ or_null (λ v. Blob v.items) o
same_answer None = refl
same_answer (Some v) = refl

pub lines_shown : (users : List UserRow) → map row_of_line (map line_of users) ≡ map answer_of users
lines_shown [] = refl
lines_shown (user ∷ users) = ap₂ ◌∷◌ (ap (λ v. Text (string_bytes user.user) ∷ Int (pos user.last) ∷ v ∷ []) (same_answer user.program)) (lines_shown users)

names_shown : (lines : List UserLine) (rows : List Row) → map row_of_line lines ≡ map first_three rows → map (λ (x : UserLine). Text x.user) lines ≡ map (λ (r : Row). column r 0) rows
names_shown [] [] same = refl
names_shown [] (r ∷ rows) same = absurd (cc)
names_shown (p ∷ lines) [] same = absurd (cc)
names_shown (p ∷ lines) (r ∷ rows) same =
    let here : row_of_line p ≡ first_three r = cc in
    let later : map row_of_line lines ≡ map first_three rows = cc in
    ap₂ ◌∷◌ (ap (λ (x : Row). column x 0) here) (names_shown lines rows later)

same_text : (m n : List ℕ) → Text m ≡ Text n → m ≡ n
same_text m n h = cc

same_program : (one other : Option (List ℕ)) → or_null Blob one ≡ or_null Blob other → one ≡ other
same_program None None h = refl
same_program None (Some y) h = absurd (cc)
same_program (Some x) None h = absurd (cc)
same_program (Some x) (Some y) h = let e : x ≡ y = cc in ap Some e

pub same_fields : (x y : UserLine) → x.user ≡ y.user → x.last ≡ y.last → x.program ≡ y.program → x ≡ y
same_fields x y user last program = λ i. record { user = user i; last = last i; program = program i }

same_line : (x y : UserLine) → row_of_line x ≡ row_of_line y → x ≡ y
same_line x y h =
    same_fields x y (same_text x.user y.user (ap (λ (r : Row). column r 0) h)) (same_number x.last y.last (ap (λ (r : Row). column r 1) h))
    (same_program x.program y.program (ap (λ (r : Row). column r 2) h))

module _ (db : Trees) (e : Entries) (stands : StandsFor db e) (rows : List Row) (listed : IsListed users_tree every shown rows db) (lines : List UserLine) (same : map row_of_line lines ≡ map first_three rows) where
  abbrev all_rows : List Row
  all_rows = filter every (db users_tree)

  -- a line comes from a row of the table
  from_row : (x : UserLine) → Has lines x → (r : Row) × Has (db users_tree) r × (row_of_line x ≡ shown r)
  from_row x there =
      let answer = has_mapped first_three rows (row_of_line x) (subst (λ l. Has l (row_of_line x)) same (mapped_has row_of_line lines x there)) in
      let row = has_mapped shown all_rows answer.0 (has_permuted rows (map shown all_rows) answer.0 (IsPermutation-sym _ _ listed.same) answer.1) in
      let kept = has_filtered every (db users_tree) row.0 row.1 in
      (row.0, kept.0, answer.2 ∙ ap first_three row.2)

  each_line : (x : UserLine) → Has lines x → HasRow (db users_tree) x.user × (x ≡ user_line e x.user)
  each_line x there =
      let r = from_row x there in
      let h = all_has (IsUserRow e) (db users_tree) r.0 stands.users r.1 in
      let is : x ≡ user_line e h.1 = same_line x (user_line e h.1) (r.2 ∙ ap shown h.2) in
      let name : x.user ≡ h.1 = ap (λ (l : UserLine). l.user) is in
      let first : Text x.user ≡ column r.0 1 = ap (λ (row : Row). column row 0) r.2 in
      let mine : equals 1 (Text x.user) r.0 ≡ true = ap (λ v. equal Binary v (Text x.user)) (sym first) ∙ equal_texts x.user x.user ∙ bytes_same x.user in
      ((r.0, r.1, mine), is ∙ ap (user_line e) (sym name))

  all_lines : (user : List ℕ) → HasRow (db users_tree) user → Has lines (user_line e user)
  all_lines user has =
      let line = user_line e user in
      let r = found_user db e stands user has.0 has.1 has.2 in
      let show : shown has.0 ≡ row_of_line line = ap shown r.1 in
      let there : Has (map shown all_rows) (row_of_line line) =
      subst (λ x. Has (map shown all_rows) x) show (mapped_has shown all_rows has.0 (has_kept every (db users_tree) has.0 has.1 refl)) in
      let answer : Has (map first_three rows) (row_of_line line) =
      mapped_has first_three rows (row_of_line line) (has_permuted (map shown all_rows) rows (row_of_line line) listed.same there) in
      let p = has_mapped row_of_line lines (row_of_line line) (subst (λ l. Has l (row_of_line line)) (sym same) answer) in
      subst (Has lines) (same_line p.0 line (sym p.2)) p.1

  pub users_are : AreUsersOf (db users_tree) e lines
  users_are = record {
    each = all_from _ lines each_line;
    all = all_lines;
    strangers = λ user none. stands.strangers user (λ r there. false_from_ne_true _ (λ is. none (r, there, is)));
    rising = names_rise db e stands every (2 ∷ 3 ∷ []) rows listed (λ (x : UserLine). x.user) lines (names_shown lines rows same);
  }

pub are_users : (old new : State) (rows : List Row) (lines : List UserLine) → Steps (Reads (IsListed users_tree every shown rows)) old new → map row_of_line lines ≡ map first_three rows
    → (before : Entries) → Stands old.now before → AreUsersOf (old.now.trees users_tree) before lines
are_users old new rows lines reads same before stands = users_are old.now.trees before stands.tables rows (reads stands.schema).change.1 lines same
