-- Where the parts of a branch's code stand.
use Rattle.std.proofs.Common.{◌≡◌, ℕ, ◌+◌, false, List, ◌++◌, length, subst, arith}
use Rattle.bytecode_format.specs.declared.instruction.Instruction.{Instruction}
use Rattle.sieve_check.specs.Typed.{TestForm, CommandForms, BranchForms, branch}
use Rattle.sieve_compiler.specs.Tables.{Tables}
use Rattle.sieve_compiler.specs.Lengths.{test_length, leave_length, commands_length}
use Rattle.sieve_compiler.specs.Coding.{test_code, leave_code, commands_code, branches_code}
use Rattle.sieve_compiler.proofs.Standing.{Stands, stands_left, stands_right}
use Rattle.sieve_compiler.proofs.CodeLengths.{length_two, test_code_length, leave_code_length, commands_code_length}

pub record BranchParts (all : List Instruction) (tables : Tables) (t : TestForm) (cs : CommandForms) (bs : BranchForms) (place end : ℕ) : Type 0 where
  pub test : Stands all place (test_code tables place t false (place + test_length t + commands_length cs + leave_length bs))
  pub block : Stands all (place + test_length t) (commands_code tables (place + test_length t) cs)
  pub leave : Stands all (place + test_length t + commands_length cs) (leave_code bs end)
  pub rest : Stands all (place + test_length t + commands_length cs + leave_length bs) (branches_code tables (place + test_length t + commands_length cs + leave_length bs) bs end)

pub branch_parts_of : (all : List Instruction) (tables : Tables) (t : TestForm) (cs : CommandForms) (at : ℕ) (bs : BranchForms) (place end : ℕ) → Stands all place (branches_code tables place (branch t cs at bs) end) → BranchParts all tables t cs bs place end
branch_parts_of all tables t cs at bs place end h =
    let block = place + test_length t in
    let next = block + commands_length cs + leave_length bs in
    let a = test_code tables place t false next in
    let b = commands_code tables block cs in
    let c = leave_code bs end in
    let d = branches_code tables next bs end in
    let la : length a ≡ test_length t = test_code_length tables t place false next in
    let lab : length (a ++ b) ≡ test_length t + commands_length cs = length_two a b _ _ la (commands_code_length tables cs block) in
    let labc : length (a ++ b ++ c) ≡ test_length t + commands_length cs + leave_length bs = length_two (a ++ b) c _ _ lab (leave_code_length tables bs end) in
    let abc = stands_left all place (a ++ b ++ c) d h in
    let ab = stands_left all place (a ++ b) c abc in
    let third : place + (test_length t + commands_length cs) ≡ place + test_length t + commands_length cs = omega arith in
    let fourth : place + (test_length t + commands_length cs + leave_length bs) ≡ next = omega arith in
    record {
      test = stands_left all place a b ab;
      block = stands_right all place (test_length t) a b la ab;
      leave = subst (λ p. Stands all p c) third (stands_right all place _ (a ++ b) c lab abc);
      rest = subst (λ p. Stands all p d) fourth (stands_right all place _ (a ++ b ++ c) d labc h);
    }
