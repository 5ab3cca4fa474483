-- Tests and commands as forms.
use Rattle.std.proofs.Common.{◌≡◌, ℕ, sym, ap, ◌∙◌}
use Rattle.std.specs.Global.{Box, Vec}
use Rattle.sieve_check.specs.declared.typed.Act.{Act}
use Rattle.sieve_check.specs.declared.typed.Segment.{Segment}
use Rattle.sieve_check.specs.declared.typed.Command.{Command}
use Rattle.sieve_check.specs.declared.typed.Command.TheVariants.{Does, ForEveryPart, rolls-Does, rolls-ForEveryPart}
use Rattle.sieve_check.specs.declared.typed.Command.TheOpen as open_layer
use Rattle.sieve_check.specs.declared.typed.Command.TheFolds.{fold-roll-Command}
use Rattle.sieve_check.specs.declared.typed.Test.{Test}
use Rattle.sieve_check.specs.declared.typed.Strings.{Strings}
use Rattle.sieve_check.specs.declared.typed.Test.TheVariants.{Asks, rolls-Asks, Not, rolls-Not}
use Rattle.sieve_check.specs.declared.typed.Test.TheOpen as test_layer
use Rattle.sieve_check.specs.declared.typed.Test.TheFolds.{fold-roll-Test}
use Rattle.bytecode_format.specs.declared.question.Question.{Question}
use Rattle.sieve_check.specs.Typed.{TestForm, asks, negation, CommandForm, does, for_every_part}
use Rattle.sieve_check.specs.TypedView.{GuardedForm, branch_step, command_form, command_step, commands_form, strings_form, test_form, test_step}

pub form_does : (act : Act) (string : Vec Segment) (at : ℕ) → command_form (Does act string at) ≡ does act string.items at
form_does act string at = ap command_form (sym (rolls-Does act string at)) ∙ fold-roll-Command CommandForm GuardedForm command_step branch_step (open_layer.Does act string at)

pub form_for_every_part : (block : Vec Command) (at : ℕ) → command_form (ForEveryPart block at) ≡ for_every_part (commands_form block.items) at
form_for_every_part block at = ap command_form (sym (rolls-ForEveryPart block at)) ∙ fold-roll-Command CommandForm GuardedForm command_step branch_step (open_layer.ForEveryPart block at)

pub form_not : (t : Box Test) (at : ℕ) → test_form (Not t at) ≡ negation (test_form t.value) at
form_not t at = ap test_form (sym (rolls-Not t at)) ∙ fold-roll-Test TestForm test_step (test_layer.Not t at)

pub form_asks : (question : Question) (strings : Strings) (at : ℕ) → test_form (Asks question strings at) ≡ asks question (strings_form strings) at
form_asks question strings at = ap test_form (sym (rolls-Asks question strings at)) ∙ fold-roll-Test TestForm test_step (test_layer.Asks question strings at)
