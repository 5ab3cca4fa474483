-- How the code's commands are seen as forms.
use Rattle.std.proofs.Common.{◌≡◌, ℕ, Option, Some, None, sym, ap, ◌∙◌}
use Rattle.std.specs.Prelude.{map}
use Rattle.std.specs.Global.{Vec, Box}
use Rattle.sieve_check.specs.declared.typed.Branch.{Branch}
use Rattle.sieve_check.specs.declared.typed.Command.{Command}
use Rattle.sieve_check.specs.declared.typed.Command.TheVariants.{If, rolls-If}
use Rattle.sieve_check.specs.declared.typed.Command.TheOpen as open_layer
use Rattle.sieve_check.specs.declared.typed.Command.TheFolds.{fold-roll-Command, fold-roll-Branch}
use Rattle.sieve_check.specs.declared.typed.Test.TheVariants.{AllOf, AnyOf, rolls-AllOf, rolls-AnyOf}
use Rattle.sieve_check.specs.declared.typed.Test.{Test}
use Rattle.sieve_check.specs.declared.typed.Test.TheOpen as test_layer
use Rattle.sieve_check.specs.declared.typed.Test.TheFolds.{fold-roll-Test}
use Rattle.sieve_check.specs.Typed.{TestForm, all_of, any_of, CommandForm, choice}
use Rattle.sieve_check.specs.TypedView.{GuardedForm, command_step, branch_step, command_form, commands_form, test_form, test_step, tests_of}
use Rattle.sieve_check.specs.Private.{branch_form, branch_forms, else_form}

pub form_if : (branches : Vec Branch) (last : Option (Vec Command)) → command_form (If branches last) ≡ choice (branch_forms branches.items (else_form last))
form_if branches None = ap command_form (sym (rolls-If branches None)) ∙ fold-roll-Command CommandForm GuardedForm command_step branch_step (open_layer.If branches None)
form_if branches (Some cs) = ap command_form (sym (rolls-If branches (Some cs))) ∙ fold-roll-Command CommandForm GuardedForm command_step branch_step (open_layer.If branches (Some cs))

pub form_branch : (b : Branch) → branch_form b ≡ (let g : GuardedForm = record { test = test_form b.test; block = commands_form b.block.items; at = b.at } in g)
form_branch b = fold-roll-Branch CommandForm GuardedForm command_step branch_step (record { test = b.test; block = b.block; at = b.at })

pub form_all_of : (t : Box Test) (ts : Vec Test) (at : ℕ) → test_form (AllOf t ts at) ≡ all_of (test_form t.value) (tests_of (map test_form ts.items)) at
form_all_of t ts at = ap test_form (sym (rolls-AllOf t ts at)) ∙ fold-roll-Test TestForm test_step (test_layer.AllOf t ts at)

pub form_any_of : (t : Box Test) (ts : Vec Test) (at : ℕ) → test_form (AnyOf t ts at) ≡ any_of (test_form t.value) (tests_of (map test_form ts.items)) at
form_any_of t ts at = ap test_form (sym (rolls-AnyOf t ts at)) ∙ fold-roll-Test TestForm test_step (test_layer.AnyOf t ts at)
