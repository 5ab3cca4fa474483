-- Private: what the verifier knows of the loops at each place, with a list of open brackets.
use Rattle.std.specs.Prelude.{◌≡◌, ℕ, zero, suc, ◌<◌, Bool, not, ◌&&◌, List, [], ◌∷◌, Option, Some, if◌then◌else◌, length, drop, ◌==◌, slice_get}
use Rattle.std.specs.Option.{option_map_or}
use Rattle.bytecode_format.specs.declared.instruction.Instruction.{Instruction}
use Rattle.bytecode_format.specs.declared.operation.Operation.{Operation}
use Rattle.bytecode_format.specs.declared.operation.Operation.TheVariants.{Each, Next}
use Rattle.bytecode_format.specs.Operations.{operation_of}
use Rattle.bytecode_verifier.specs.declared.nest.Nest.{Nest}

-- the first number, 0 where there is none
abbrev pub first_of : List ℕ → ℕ
first_of [] = 0
first_of (n ∷ rest) = n

abbrev pub without_first : List ℕ → List ℕ
without_first [] = []
without_first (n ∷ rest) = rest

-- the places of the Next after an instruction whose Each doesn't stand after it, with that
-- instruction's own; the nearest first
abbrev pub waiting_over : Option Operation → ℕ → List ℕ → List ℕ
waiting_over (Some Each) place later = without_first later
waiting_over (Some Next) place later = place ∷ later
waiting_over _ place later = later

-- the same of instructions that stand from a place on
abbrev pub waiting_from : ℕ → List Instruction → List ℕ
waiting_from place [] = []
waiting_from place (i ∷ rest) = waiting_over (operation_of i.op) place (waiting_from (suc place) rest)

-- the place of the Next of the loop that an instruction opens, or 0 where it opens none: a Next never stands first
abbrev pub next_over : Option Operation → List ℕ → ℕ
next_over (Some Each) later = first_of later
next_over _ later = 0

-- the same of each instruction that stands from a place on
abbrev pub nexts_from : ℕ → List Instruction → List ℕ
nexts_from place [] = []
nexts_from place (i ∷ rest) = next_over (operation_of i.op) (waiting_from (suc place) rest)
    ∷ nexts_from (suc place) rest

-- the same of the instruction at a place
abbrev pub next_at : List Instruction → ℕ → ℕ
next_at instructions place = option_map_or
    (λ i. next_over (operation_of i.op) (waiting_from (suc place) (drop (suc place) instructions)))
    (slice_get instructions place) 0

-- the places of the Next of the loops that are open, the innermost first, after an instruction with this Next
abbrev pub open_over : ℕ → ℕ → List ℕ → List ℕ
open_over place zero [] = []
open_over place zero (n ∷ open_before) = if n == place then open_before else n ∷ open_before
open_over place (suc next) open_before = suc next ∷ open_before

-- the same before the instruction at a place
abbrev pub open_at : List Instruction → ℕ → List ℕ
open_at instructions zero = []
open_at instructions (suc place) = open_over place (next_at instructions place) (open_at instructions place)

-- what is known of the loops at a place
abbrev pub nest_at : List Instruction → ℕ → Nest
nest_at instructions place =
    record { next = next_at instructions place; inner = first_of (open_at instructions place); depth = length (open_at instructions place) }

-- the loop that is opened, if one is, ends at the place
abbrev pub leads : ℕ → ℕ → Bool
leads next place = not (next == 0) && (next == place)

-- for each place what is known of the loops there
pub record AreNests (instructions : List Instruction) (nests : List Nest) : Type 0 where
  pub number : length nests ≡ length instructions
  pub each : (place : ℕ) → place < length instructions → slice_get nests place ≡ Some (nest_at instructions place)
