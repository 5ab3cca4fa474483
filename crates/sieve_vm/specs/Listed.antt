-- How many actions of a run are counted.
use Rattle.std.specs.Prelude.{ℕ, Bool, true, false, List, filter, length}
use Rattle.bytecode_format.specs.declared.action.Action.{Action}
use Rattle.bytecode_format.specs.declared.action.Action.TheVariants.{Keep, File, Store}
use Rattle.bytecode_verifier.specs.declared.counting.Counted.{Counted}
use Rattle.bytecode_verifier.specs.declared.counting.Counted.TheVariants.{Actions, Stores}

-- each of them, or those that store a part
abbrev pub is_counted : Counted → Action → Bool
is_counted Actions action = true
is_counted Stores Keep = false
is_counted Stores (File folder) = false
is_counted Stores (Store folder part) = true

-- how many
abbrev pub number_of : Counted → List Action → ℕ
number_of counted actions = length (filter (is_counted counted) actions)
