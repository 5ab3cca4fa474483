-- What a caller is lent of a run.
use Rattle.std.specs.Prelude.{List, [], ◌∷◌, Option, Some, None}
use Rattle.sieve_vm.specs.declared.value.StackValue.{StackValue}
use Rattle.sieve_vm.specs.declared.value.StackValue.TheVariants.{Truth, Text}
use Rattle.sieve_vm.specs.State.{Value, truth, text}

-- a value as the definitions have it
abbrev pub value_of : StackValue → Value
value_of (Truth b) = truth b
value_of (Text octets) = text octets.now

-- the entry on top of the stack
abbrev pub top : List Value → Option Value
top [] = None
top (value ∷ below) = Some value
