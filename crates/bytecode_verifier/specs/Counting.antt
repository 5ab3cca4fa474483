-- How much a delivery files at most. Instructions that list an action are counted by the number of open loops, as caps are for the
-- budget, and each for each of its turns.
use Rattle.std.specs.Prelude.{ℕ, ◌+◌, ◌*◌, ◌==◌, Bool, true, false, Option, Some, if◌then◌else◌, length, min, slice_get}
use Rattle.std.specs.Option.{option_map_or}
use Rattle.octets.specs.Limits.{max_depth}
use Rattle.bytecode_format.specs.declared.instruction.Instruction.{Instruction}
use Rattle.bytecode_format.specs.declared.operation.Operation.{Operation}
use Rattle.bytecode_format.specs.declared.operation.Operation.TheVariants.{Keep, File, Store}
use Rattle.bytecode_format.specs.Operations.{operation_of}
use Rattle.bytecode_format.specs.Code.{Code}
use Rattle.bytecode_cost.specs.Sums.{turns}
use Rattle.bytecode_verifier.specs.Places.{sum_below}
use Rattle.bytecode_verifier.specs.Loops.{open_loops}
use Rattle.bytecode_verifier.specs.declared.counting.Counted.{Counted}
use Rattle.bytecode_verifier.specs.declared.counting.Counted.TheVariants.{Actions, Stores}

-- whether an operation is counted: those that list an action, or the one of them that stores a part
abbrev pub counts : Counted → Option Operation → Bool
counts Actions (Some Keep) = true
counts Actions (Some File) = true
counts counted (Some Store) = true
counts counted operation = false

-- one where the instruction at a place is counted, else none
abbrev pub counted_at : Counted → Code → ℕ → ℕ
counted_at counted code place = option_map_or (λ (i : Instruction). if counts counted (operation_of i.op) then 1 else 0) (slice_get code.instructions place) 0

-- how many of them stand inside k open loops, below a place
abbrev pub number_below : Counted → Code → ℕ → ℕ → ℕ
number_below counted code bound k = sum_below (λ place. if length (open_loops code place) == k then counted_at counted code place else 0) bound

-- how many there are in the program
abbrev pub number_inside : Counted → Code → ℕ → ℕ
number_inside counted code k = number_below counted code (length code.instructions) k

-- how often they run at a message of p parts at most: each of them once for each of its turns
abbrev pub times_at : Counted → Code → ℕ → ℕ
times_at counted code p =
    number_inside counted code 0 * turns code.version p 0 + number_inside counted code 1 * turns code.version p 1
    + number_inside counted code 2 * turns code.version p 2 + number_inside counted code 3 * turns code.version p 3

-- how many entries a delivery files at most: one each time that an action is listed, and one where the implicit keep holds
abbrev pub entries_at : Code → ℕ → ℕ
entries_at code p = times_at Actions code p + 1

-- how many octets the contents that it files have together at most, each content once, at a message of n octets and p parts: the
-- message's own, and as many each time that a part is stored; but of all its parts no more than once for each depth of a part, since
-- parts at one depth share no octet
abbrev pub octets_at : Code → ℕ → ℕ → ℕ
octets_at code n p = (1 + min (times_at Stores code p) max_depth) * n
