-- What a checked script is.
use Rattle.std.specs.Prelude.{◌≡◌, List, Some, None}
use Rattle.sieve_parser.specs.declared.tree.Command.{Command as Tree}
use Rattle.sieve_parser.specs.Scripts.{IsTree}
use Rattle.sieve_parser.specs.Tree.{CommandsTree}
use Rattle.sieve_parser.specs.View.{commands_tree}
use Rattle.sieve_check.specs.declared.typed.Command.{Command}
use Rattle.sieve_check.specs.declared.error.CheckError.{CheckError}
use Rattle.sieve_check.specs.declared.error.CheckError.TheVariants.{Memory}
use Rattle.sieve_check.specs.FormOf.{IsFormOf}
use Rattle.sieve_check.specs.Rules.{fault_of}
use Rattle.sieve_check.specs.TypedView.{commands_form}

-- a script's commands, as they were parsed and in typed form
pub record CheckedScript : Type 0 where
  pub script : List Tree
  pub commands : List Command

-- the script was parsed, the typed form is its own, and nothing is wrong with it
pub record IsChecked (checked : CheckedScript) : Type 0 where
  pub tree : IsTree (commands_tree checked.script)
  pub form : IsFormOf (commands_tree checked.script) (commands_form checked.commands)
  pub faultless : fault_of (commands_tree checked.script) ≡ None

-- what each refusal says of the script
abbrev pub IsCheckRefusal : CommandsTree → CheckError → Type 0
IsCheckRefusal script Memory = Unit {0}
IsCheckRefusal script e = fault_of script ≡ Some e
