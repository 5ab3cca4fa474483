use Rattle.std.proofs.Common.{◌≡◌, Bool, false, not, ◌==◌, if◌then◌else◌, List, [], ◌∷◌, length}
use Rattle.sieve_check.specs.declared.typed.Branch.{Branch}
use Rattle.sieve_check.specs.Typed.{BranchForms}
use Rattle.sieve_check.specs.Private.{branch_forms, else_form}
use Rattle.sieve_compiler.specs.Lengths.{leave_length}
use Rattle.sieve_compiler.proofs.lengths.is_left.Goals as goal

branch_left : (branches : List Branch) (last : BranchForms) (none : Bool) → none ≡ (length branches == 0) → none ≡ false → leave_length (branch_forms branches last) ≡ (if not none then 1 else 0)
branch_left [] last none is some = cc
branch_left (b ∷ bs) last none is some = rw some

pub returns-then-not-is_empty : goal.returns-then-not-is_empty
returns-then-not-is_empty c = branch_left c.args.branches.now (else_form c.args.otherwise.now) c.is_empty.result c.is_empty.ensures c.if-not-is_empty.true
