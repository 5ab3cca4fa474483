-- The code of each piece is as long as is said.
use Rattle.std.proofs.Common.{◌≡◌, ℕ, ◌+◌, Bool, false, List, [], ◌∷◌, ◌++◌, refl, sym, ◌∙◌, arith, length, map}
use Rattle.std.proofs.lemmas.List.{length-append, length-map}
use Rattle.std.proofs.lemmas.List.Sums.{sum_by-cons}
use Rattle.bytecode_format.specs.declared.operation.Operation.TheVariants.{Next}
use Rattle.sieve_check.specs.Acts.{act_strings}
use Rattle.sieve_check.specs.Typed.{Template, in_order, TestForm, asks, negation, all_of, any_of, TestForms, no_test, test, CommandForm, does, for_every_part, choice, CommandForms, no_command, command, BranchForms, no_branch, otherwise, branch}
use Rattle.sieve_compiler.specs.Tables.{Tables}
use Rattle.sieve_compiler.specs.Lengths.{string_length, strings_length, test_length, tests_length, leave_length, command_length, commands_length, branches_length}
use Rattle.sieve_compiler.specs.Coding.{instruction, join_texts, push_segment, string_code, strings_code, test_code, tests_code, leave_code, command_code, commands_code, branches_code}

pub length_two : {A : Type 0} (a b : List A) (m n : ℕ) → length a ≡ m → length b ≡ n → length (a ++ b) ≡ m + n
length_two a b m n e f = let all = length-append a b in omega (arith, all, e, f)

module _ (tables : Tables) where
  pub string_code_length : (segments : Template) → length (string_code tables segments) ≡ string_length segments
  string_code_length [] = refl
  string_code_length (segment ∷ []) = refl
  string_code_length (one ∷ other ∷ more) = length_two (map (push_segment tables) (one ∷ other ∷ more)) (join_texts (length (one ∷ other ∷ more)) ∷ []) _ 1 (length-map (one ∷ other ∷ more) (push_segment tables)) refl

  pub strings_code_length : (ss : List Template) → length (strings_code tables ss) ≡ strings_length ss
  strings_code_length [] = refl
  strings_code_length (segments ∷ ss) = length_two (string_code tables segments) (strings_code tables ss) _ _ (string_code_length segments) (strings_code_length ss) ∙ sym (sum_by-cons string_length segments ss)

  mutual
    pub test_code_length : (t : TestForm) (place : ℕ) (asked : Bool) (target : ℕ) → length (test_code tables place t asked target) ≡ test_length t
    test_code_length (asks question strings at) place asked target = length_two (strings_code tables (in_order strings)) _ (strings_length (in_order strings)) 2 (strings_code_length (in_order strings)) refl
    test_code_length (negation t at) place asked target = test_code_length t place _ target
    test_code_length (all_of t ts at) place asked target = length_two _ _ _ _ (test_code_length t place _ _) (tests_code_length ts (place + test_length t) _ _ _ target)
    test_code_length (any_of t ts at) place asked target = length_two _ _ _ _ (test_code_length t place _ _) (tests_code_length ts (place + test_length t) _ _ _ target)

    pub tests_code_length : (ts : TestForms) (place : ℕ) (deciding asked : Bool) (following target : ℕ) → length (tests_code tables place ts deciding asked following target) ≡ tests_length ts
    tests_code_length no_test place deciding asked following target = refl
    tests_code_length (test t ts) place deciding asked following target = length_two _ _ _ _ (test_code_length t place _ _) (tests_code_length ts (place + test_length t) deciding asked following target)

  pub leave_code_length : (bs : BranchForms) (end : ℕ) → length (leave_code bs end) ≡ leave_length bs
  leave_code_length no_branch end = refl
  leave_code_length (otherwise cs) end = refl
  leave_code_length (branch t cs at bs) end = refl

  mutual
    pub command_code_length : (c : CommandForm) (place : ℕ) → length (command_code tables place c) ≡ command_length c
    command_code_length (does act string at) place = length_two (strings_code tables (act_strings act string)) _ _ 1 (strings_code_length (act_strings act string)) refl
    command_code_length (for_every_part cs at) place =
        let block = length_two (commands_code tables (place + 1) cs) (instruction Next 0 place ∷ []) (commands_length cs) 1 (commands_code_length cs (place + 1)) refl in
        omega (arith, block)
    command_code_length (choice bs) place = branches_code_length bs place _

    pub commands_code_length : (cs : CommandForms) (place : ℕ) → length (commands_code tables place cs) ≡ commands_length cs
    commands_code_length no_command place = refl
    commands_code_length (command c cs) place = length_two _ _ _ _ (command_code_length c place) (commands_code_length cs (place + command_length c))

    pub branches_code_length : (bs : BranchForms) (place end : ℕ) → length (branches_code tables place bs end) ≡ branches_length bs
    branches_code_length no_branch place end = refl
    branches_code_length (otherwise cs) place end = commands_code_length cs place
    branches_code_length (branch t cs at bs) place end =
        let block = place + test_length t in
        let next = block + commands_length cs + leave_length bs in
        let a = test_code tables place t false next in
        let b = commands_code tables block cs in
        let c = leave_code bs end in
        let d = branches_code tables next bs end in
        let lab : length (a ++ b) ≡ test_length t + commands_length cs = length_two a b _ _ (test_code_length t place false next) (commands_code_length cs block) in
        let labc : length (a ++ b ++ c) ≡ test_length t + commands_length cs + leave_length bs = length_two (a ++ b) c _ _ lab (leave_code_length bs end) in
        length_two (a ++ b ++ c) d _ _ labc (branches_code_length bs next end)
