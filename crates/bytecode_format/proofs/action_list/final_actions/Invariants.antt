use Rattle.std.proofs.Common.{◌≡◌}
use Rattle.bytecode_format.specs.Actions.{first_occurrences}
use Rattle.bytecode_format.proofs.action_list.final_actions.Given as goal

abbrev pub invariant-all : goal.invariant-all
invariant-all l = l.list ≡ first_occurrences l.yielded
