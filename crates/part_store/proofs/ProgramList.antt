-- The rows of the answer to a listing of programs are the programs of the users that have one.
use Rattle.std.proofs.Common.{◌≡◌, inl, inr, ℕ, true, List, [], ◌∷◌, map, filter, Some, refl, sym, ap, ap₂, subst, ◌∙◌}
use Rattle.std.specs.Prelude.{String, Vec}
use Rattle.std.specs.declared.alloc.Global.{Global}
use Rattle.std.specs.List.{list_any}
use Rattle.std.proofs.lemmas.Bool.{cases_Bool, true≢false, false_from_ne_true}
use Rattle.std.proofs.lemmas.List.Sorted.{IsPermutation-sym}
use Rattle.sqlite_value.specs.declared.value.Value.TheVariants.{Text, Blob}
use Rattle.sqlite_value.specs.Order.{Row, column}
use Rattle.sqlite_trees.specs.Tree.{Trees}
use Rattle.sqlite_rules.specs.Lists.{Has}
use Rattle.sqlite_rules.proofs.ListLemmas.{all_has, all_from, has_filtered, has_kept, some_has, some_from}
use Rattle.sqlite_rules.proofs.ProbeLemmas.{has_mapped, mapped_has}
use Rattle.sqlite.specs.Values.{or_null}
use Rattle.sqlite.specs.State.{State}
use Rattle.part_store.specs.Tables.{users_tree, equals}
use Rattle.part_store.specs.Changes.{columns, has_program, IsListed, Reads, Steps}
use Rattle.part_store.specs.Entries.{AreProgramsOf, Entries, UserProgram}
use Rattle.part_store.specs.Standing.{IsUserRow, Stands, StandsFor, pair_of}
use Rattle.part_store.specs.Readings.{row_of}
use Rattle.part_store.proofs.NameOrder.{names_rise}
use Rattle.part_store.proofs.Programs.{found_user, this_program}
use Rattle.part_store.proofs.Rows.{has_permuted}

-- a user and his program as a row shows them
abbrev pub row_of_pair : UserProgram → Row
row_of_pair pair = Text pair.0 ∷ Blob pair.1 ∷ []

abbrev pub first_two : Row → Row
first_two = columns (0 ∷ 1 ∷ [])

abbrev shown : Row → Row
shown = columns (1 ∷ 3 ∷ [])

pub pairs_shown : (programs : List (String Global × Vec ℕ Global)) → map row_of_pair (map pair_of programs) ≡ map row_of programs
pairs_shown [] = refl
pairs_shown (program ∷ programs) = ap (λ rows. row_of program ∷ rows) (pairs_shown programs)

same_text : (m n : List ℕ) → Text m ≡ Text n → m ≡ n
same_text m n h = cc

names_shown : (pairs : List UserProgram) (rows : List Row) → map row_of_pair pairs ≡ map first_two rows → map (λ (p : UserProgram). Text p.0) pairs ≡ map (λ (r : Row). column r 0) rows
names_shown [] [] same = refl
names_shown [] (r ∷ rows) same = absurd (cc)
names_shown (p ∷ pairs) [] same = absurd (cc)
names_shown (p ∷ pairs) (r ∷ rows) same =
    let here : row_of_pair p ≡ first_two r = cc in
    let later : map row_of_pair pairs ≡ map first_two rows = cc in
    ap₂ ◌∷◌ (ap (λ (x : Row). column x 0) here) (names_shown pairs rows later)

-- ---- the answer

module _ (db : Trees) (e : Entries) (stands : StandsFor db e) (rows : List Row) (listed : IsListed users_tree has_program shown rows db) (pairs : List UserProgram) (same : map row_of_pair pairs ≡ map first_two rows) where
  abbrev having : List Row
  having = filter has_program (db users_tree)

  -- a pair comes from a row of the table
  from_row : (p : UserProgram) → Has pairs p → (r : Row) × Has (db users_tree) r × (Text p.0 ≡ column r 1) × (Blob p.1 ≡ column r 3)
  from_row p there =
      let answer = has_mapped first_two rows (row_of_pair p) (subst (λ l. Has l (row_of_pair p)) same (mapped_has row_of_pair pairs p there)) in
      let row = has_mapped shown having answer.0 (has_permuted rows (map shown having) answer.0 (IsPermutation-sym _ _ listed.same) answer.1) in
      let kept = has_filtered has_program (db users_tree) row.0 row.1 in
      let is : row_of_pair p ≡ first_two (shown row.0) = answer.2 ∙ ap first_two row.2 in
      (row.0, kept.0, ap (λ (x : Row). column x 0) is, ap (λ (x : Row). column x 1) is)

  each_program : (p : UserProgram) → Has pairs p → e.programs p.0 ≡ Some p.1
  each_program p there =
      let r = from_row p there in
      let h = all_has (IsUserRow e) (db users_tree) r.0 stands.users r.1 in
      let name : p.0 ≡ h.1 = same_text p.0 h.1 (r.2 ∙ ap (λ (x : Row). column x 1) h.2) in
      let program : or_null Blob (e.programs h.1) ≡ Blob p.1 = sym (r.3 ∙ ap (λ (x : Row). column x 3) h.2) in
      ap e.programs name ∙ sym (this_program (e.programs h.1) p.1 program)

  same_pair : (p : UserProgram) (user program : List ℕ) → Text user ∷ Blob program ∷ [] ≡ row_of_pair p → p ≡ (user, program)
  same_pair p user program h = let one : p.0 ≡ user = cc in let two : p.1 ≡ program = cc in λ i. (one i, two i)

  all_programs : (user program : List ℕ) → e.programs user ≡ Some program → Has pairs (user, program)
  all_programs user program has = elim (cases_Bool (list_any (equals 1 (Text user)) (db users_tree))) [
    | inl some ↦
        let found = some_has (equals 1 (Text user)) (db users_tree) some in
        let r = found_user db e stands user found.0 found.1 found.2 in
        let kept : has_program found.0 ≡ true = rw (r.1, has) refl in
        let show : shown found.0 ≡ Text user ∷ Blob program ∷ [] = rw (r.1, has) refl in
        let there : Has (map shown having) (Text user ∷ Blob program ∷ []) =
        subst (λ x. Has (map shown having) x) show (mapped_has shown having found.0 (has_kept has_program (db users_tree) found.0 found.1 kept)) in
        let answer : Has (map first_two rows) (Text user ∷ Blob program ∷ []) =
        mapped_has first_two rows (Text user ∷ Blob program ∷ []) (has_permuted (map shown having) rows (Text user ∷ Blob program ∷ []) listed.same there) in
        let p = has_mapped row_of_pair pairs (Text user ∷ Blob program ∷ []) (subst (λ l. Has l (Text user ∷ Blob program ∷ [])) (sym same) answer) in
        subst (Has pairs) (same_pair p.0 user program p.2) p.1
    | inr none ↦
        let stranger = stands.strangers user (λ r there. false_from_ne_true _ (λ is. true≢false (sym (some_from (equals 1 (Text user)) (db users_tree) r there is) ∙ none))) in
        absurd (let e = sym stranger.1 ∙ has in cc)
  ]

  pub programs_are : AreProgramsOf e pairs
  programs_are = record {
    each = all_from _ pairs each_program;
    all = all_programs;
    rising = names_rise db e stands has_program (3 ∷ []) rows listed (λ (p : UserProgram). p.0) pairs (names_shown pairs rows same);
  }

pub are_programs : (old new : State) (rows : List Row) (pairs : List UserProgram) → Steps (Reads (IsListed users_tree has_program shown rows)) old new → map row_of_pair pairs ≡ map first_two rows
    → (before : Entries) → Stands old.now before → AreProgramsOf before pairs
are_programs old new rows pairs reads same before stands = programs_are old.now.trees before stands.tables rows (reads stands.schema).change.1 pairs same
