-- The actions of a run, made final.
use Rattle.std.specs.Prelude.{Bool, List, [], ◌∷◌, ◌++◌, ◌&&◌, not, if◌then◌else◌}
use Rattle.octets.specs.Once as once
use Rattle.bytecode_format.specs.declared.action.Action.{Action}
use Rattle.bytecode_format.specs.declared.action.Action.TheVariants.{Keep}
use Rattle.bytecode_format.specs.Action.{is_same}

-- the actions in order, without those that are equal to an earlier one
abbrev pub first_occurrences : List Action → List Action
first_occurrences actions = once.each_once is_same actions

-- whether an equal action is listed
abbrev pub is_listed : Action → List Action → Bool
is_listed action listed = once.is_listed is_same action listed

-- the list with one more action, which is left out where an equal one is listed
abbrev pub with_action : List Action → Action → List Action
with_action listed action = once.with_one is_same listed action

-- the list with Keep last, where the implicit keep stands and no Keep is listed
abbrev pub with_implicit_keep : List Action → Bool → List Action
with_implicit_keep listed implicit_keep = if implicit_keep && not (is_listed Keep listed) then listed ++ Keep ∷ [] else listed

-- a run's final actions
abbrev pub final_actions : List Action → Bool → List Action
final_actions actions implicit_keep = with_implicit_keep (first_occurrences actions) implicit_keep
