-- Places of instructions, and the least place at which something holds.
use Rattle.std.specs.Prelude.{ℕ, zero, suc, Bool, false, ◌+◌, Option, None, length, slice_get}
use Rattle.std.specs.Bool.{then_some}
use Rattle.std.specs.Option.{option_or, option_map_or}
use Rattle.bytecode_format.specs.declared.instruction.Instruction.{Instruction}
use Rattle.bytecode_format.specs.Code.{Code}

-- there is an instruction at the place, and it passes the test
abbrev pub holds_at : Code → ℕ → (Instruction → Bool) → Bool
holds_at code place test = option_map_or test (slice_get code.instructions place) false

-- the least number below n that passes the test
abbrev pub least_below : (ℕ → Bool) → ℕ → Option ℕ
least_below test zero = None
least_below test (suc n) = option_or (least_below test n) (then_some (test n) n)

-- the least place that passes the test, up to the end of the program
abbrev pub least_place : (ℕ → Bool) → Code → Option ℕ
least_place test code = least_below test (suc (length code.instructions))

-- the sum of f over the numbers below n
abbrev pub sum_below : (ℕ → ℕ) → ℕ → ℕ
sum_below f zero = 0
sum_below f (suc n) = sum_below f n + f n
