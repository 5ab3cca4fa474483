-- What a command does is done of less than the command.
use Rattle.std.proofs.Common.{◌≡◌, ◌∙◌, ◌+◌, ◌≤◌, ◌<◌, ℕ, zero, suc, ap, sym, List, [], ◌∷◌, length, get_or, arith}
use Rattle.sieve_check.specs.Extent.{branches_extent, command_extent, commands_extent}
use Rattle.sieve_check.specs.Private.{branch_form, branch_forms}
use Rattle.sieve_check.specs.Typed.{BranchForms}
use Rattle.sieve_check.specs.TypedView.{command_form, commands_form}
use Rattle.sieve_check.specs.declared.typed.Branch.{Branch}
use Rattle.sieve_check.specs.declared.typed.Command.{Command}
use Rattle.sieve_check.proofs.Forms.{form_branch}

-- one of the commands
pub command_within : (cs : List Command) (i : ℕ) (c : Command) → i < length cs → c ≡ get_or cs i c → command_extent (command_form c) ≤ commands_extent (commands_form cs)
command_within [] i c within is = absurd (omega arith)
command_within (x ∷ xs) zero c within is =
    let same : command_extent (command_form c) ≡ command_extent (command_form x) = ap (λ y. command_extent (command_form y)) is in
    omega arith
command_within (x ∷ xs) (suc i) c within is =
    let lower : i < length xs = omega arith in
    let later : command_extent (command_form c) ≤ commands_extent (commands_form xs) = command_within xs i c lower is in
    omega arith

-- the block of one of the branches
pub block_within : (bs : List Branch) (i : ℕ) (b : Branch) (last : BranchForms) → i < length bs → b ≡ get_or bs i b → 3 + commands_extent (commands_form b.block.items) ≤ branches_extent (branch_forms bs last)
block_within [] i b last within is = absurd (omega arith)
block_within (x ∷ xs) zero b last within is =
    let same : commands_extent (commands_form b.block.items) ≡ commands_extent (branch_form x).block =
    ap (λ (y : Branch). commands_extent (commands_form y.block.items)) is ∙ sym (ap (λ g. commands_extent g.block) (form_branch x)) in
    omega arith
block_within (x ∷ xs) (suc i) b last within is =
    let lower : i < length xs = omega arith in
    let later : 3 + commands_extent (commands_form b.block.items) ≤ branches_extent (branch_forms xs last) = block_within xs i b last lower is in
    omega arith

-- what stands last of branches
pub last_within : (bs : List Branch) (last : BranchForms) → branches_extent last ≤ branches_extent (branch_forms bs last)
last_within [] last = omega arith
last_within (x ∷ xs) last =
    let later : branches_extent last ≤ branches_extent (branch_forms xs last) = last_within xs last in
    omega arith
