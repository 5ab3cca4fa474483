-- The line of a step, and the trace of a program on a message.
use Rattle.std.specs.Prelude.{ℕ, ◌-◌, true, false, List, [], ◌∷◌, ◌++◌, slice_get, codes, Option, None, Some, option_map}
use Rattle.std.specs.List.{flat_map}
use Rattle.std.specs.Option.{option_map_or}
use Rattle.std.specs.Fmt.{decimal}
use Rattle.bytecode_format.specs.Code.{Code}
use Rattle.bytecode_format.specs.Operations.{operation_of}
use Rattle.bytecode_format.specs.declared.instruction.Instruction.{Instruction}
use Rattle.bytecode_format.specs.declared.operation.Operation.{Operation}
use Rattle.bytecode_format.specs.declared.operation.Operation.TheVariants.{Halt, Literal, Variable, Capture, Join, Set as SetOp, Not, Jump, JumpIfTrue, JumpIfFalse, Keep, Discard, File, Store, Each, Next, Break, Take, Test}
use Rattle.bytecode_listing.specs.Listing.{instruction_text}
use Rattle.readable_text.specs.Quoted.{quoted_start}
use Rattle.mime_decode.specs.Mail.{Mail}
use Rattle.sieve_vm.specs.State.{Value, truth, text, current_part}
use Rattle.sieve_vm.specs.Lent.{top}
use Rattle.bytecode_trace.specs.Steps.{TakenStep, steps_of}
use Rattle.bytecode_trace.specs.declared.telling.Told.{Told}
use Rattle.bytecode_trace.specs.declared.telling.Told.TheVariants.{Left, Taken, Set, Nothing}

-- a value of the stack or of a variable
abbrev pub value_text : Value → List ℕ
value_text (truth true) = codes "yes"
value_text (truth false) = codes "no"
value_text (text octets) = quoted_start octets

-- a part, by its number
abbrev pub part_text : ℕ → List ℕ
part_text number = codes "part " ++ decimal number

-- what is told behind a stroke, where there is something to tell
abbrev pub column : Option (List ℕ) → List ℕ
column None = []
column (Some told) = codes " | " ++ told

-- which value is told of an operation: the one that it leaves on the stack, the one that it takes from there and
-- leaves nothing for, or the one that it gives a variable
abbrev pub told_of : Option Operation → Told
told_of None = Nothing
told_of (Some Halt) = Nothing
told_of (Some Literal) = Left
told_of (Some Variable) = Left
told_of (Some Capture) = Left
told_of (Some Join) = Left
told_of (Some SetOp) = Set
told_of (Some (Test test)) = Left
told_of (Some Not) = Left
told_of (Some Jump) = Nothing
told_of (Some JumpIfTrue) = Taken
told_of (Some JumpIfFalse) = Taken
told_of (Some Keep) = Nothing
told_of (Some Discard) = Nothing
told_of (Some File) = Taken
told_of (Some Store) = Taken
told_of (Some Each) = Nothing
told_of (Some Next) = Nothing
told_of (Some Break) = Nothing
told_of (Some Take) = Set

-- that value
abbrev pub told_value : Told → Instruction → TakenStep → Option Value
told_value Left i taken = top taken.after.stack
told_value Taken i taken = top taken.before.stack
told_value Set i taken = option_map text (slice_get taken.after.variables i.c)
told_value Nothing i taken = None

-- the line of an instruction at a place: what it charged and the sum so far, the current part where a loop is
-- open, and the value that is told
abbrev pub line_of : ℕ → Instruction → ℕ → ℕ → Option ℕ → Option Value → List ℕ
line_of place i charge sum part value =
    instruction_text place i ++ codes " | " ++ decimal charge ++ codes " " ++ decimal sum
    ++ column (option_map part_text part) ++ column (option_map value_text value) ++ 10 ∷ []

-- the line of a step
abbrev pub instruction_line : Instruction → TakenStep → List ℕ
instruction_line i taken =
    line_of taken.before.place i (taken.after.charge - taken.before.charge) taken.after.charge
    (current_part taken.after.frames) (told_value (told_of (operation_of i.op)) i taken)

abbrev pub step_line : Code → TakenStep → List ℕ
step_line code taken = option_map_or (λ i. instruction_line i taken) (slice_get code.instructions taken.before.place) []

-- the trace of a program on a message: the lines of the steps of its run
abbrev pub trace_text : Code → Mail → List ℕ
trace_text code mail = flat_map (step_line code) (steps_of code mail)
