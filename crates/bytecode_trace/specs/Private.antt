-- Private: how the code goes: what is known before a step, and what is left to be written.
use Rattle.std.specs.Prelude.{ℕ, suc, ◌-◌, List, [], Option, Some, option_map, slice_get}
use Rattle.std.specs.List.{flat_map}
use Rattle.bytecode_format.specs.Code.{Code}
use Rattle.mime_decode.specs.Mail.{Mail}
use Rattle.sieve_vm.specs.Moment.{come_to, state_in}
use Rattle.sieve_vm.specs.Potential.{limit_of}
use Rattle.sieve_vm.specs.State.{State, Turn, goes, ends, traps, text}
use Rattle.sieve_vm.specs.Lent.{top}
use Rattle.bytecode_trace.specs.Printed.{column, step_line, value_text}
use Rattle.bytecode_trace.specs.Steps.{TakenStep, steps_from}
use Rattle.bytecode_trace.specs.declared.telling.Told.{Told}
use Rattle.bytecode_trace.specs.declared.telling.Told.TheVariants.{Left, Taken, Set, Nothing}

-- the value that is told, as far as it is known before the step
abbrev pub told_before : Told → State → List ℕ
told_before Taken before = column (option_map value_text (top before.stack))
told_before Left before = []
told_before Set before = []
told_before Nothing before = []

-- and what is told of it after the step
abbrev pub told_after : Told → ℕ → State → List ℕ
told_after Left variable after = column (option_map value_text (top after.stack))
told_after Set variable after = column (option_map value_text (option_map text (slice_get after.variables variable)))
told_after Taken variable after = []
told_after Nothing variable after = []

-- the line of the step between two states
abbrev pub line_between : Code → Option State → Option State → List ℕ
line_between code (Some before) (Some after) = step_line code (record { before = before; after = after })
line_between code _ _ = []

-- that of a run's step, by how many came before it
abbrev pub line_at : Code → Mail → ℕ → List ℕ
line_at code mail steps = line_between code (state_in (come_to code mail steps)) (state_in (come_to code mail (suc steps)))

-- the steps that are left, of which there are so many at most
abbrev pub left_from : Code → Mail → ℕ → Turn → List TakenStep
left_from code mail most (goes state) = steps_from code mail most state
left_from code mail most (ends state) = []
left_from code mail most traps = []

-- the lines of the steps that are left after so many
abbrev pub lines_left : Code → Mail → ℕ → List ℕ
lines_left code mail steps = flat_map (step_line code) (left_from code mail (limit_of code mail - steps) (come_to code mail steps))
