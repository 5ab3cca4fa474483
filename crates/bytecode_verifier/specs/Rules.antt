-- The rules of acceptance: for each the places at which it is broken.
use Rattle.std.specs.Prelude.{ℕ, suc, Bool, true, false, ◌&&◌, ◌||◌, not, Option, Some, length, ◌-◌, nat_lt, nat_le, ◌==◌, is_some, is_none}
use Rattle.std.specs.List.{list_any}
use Rattle.std.specs.Option.{option_and_then, option_map_or}
use Rattle.octets.specs.Limits.{max_loops}
use Rattle.bytecode_format.specs.declared.instruction.Instruction.{Instruction}
use Rattle.bytecode_format.specs.declared.operation.Operation.{Operation}
use Rattle.bytecode_format.specs.declared.operation.Operation.TheVariants.{Halt, Each, Next, Break}
use Rattle.bytecode_format.specs.Operations.{operation_of}
use Rattle.bytecode_format.specs.Code.{Code}
use Rattle.bytecode_verifier.specs.Places.{holds_at}
use Rattle.bytecode_verifier.specs.Loops.{loops, open_loops, same_loops}
use Rattle.bytecode_verifier.specs.declared.row.Table.{Table}
use Rattle.bytecode_verifier.specs.declared.row.Table.TheVariants.{Variables, Numbers, Strings}
use Rattle.bytecode_verifier.specs.declared.row.Row.{Row}
use Rattle.bytecode_verifier.specs.Rows.{row_named, is_well_formed, is_jump, needs_part}
use Rattle.bytecode_verifier.specs.Shape.{shape_at}

-- the row of an instruction of the program
abbrev pub row_in : Code → Instruction → Option Row
row_in code i = row_named code.version i.op

-- how many entries a table has
abbrev pub count_of : Code → Table → ℕ
count_of code Variables = code.variables
count_of code Numbers = length code.numbers
count_of code Strings = length code.strings

-- the instruction's index isn't below the count of what it is an index of
abbrev pub misses_index : Code → Option Row → Instruction → Bool
misses_index code row i = option_map_or (λ table. nat_le (count_of code table) i.c)
    (option_and_then (λ (r : Row). r.index) row) false

-- Index: an index of what isn't there
abbrev pub breaks_index : Code → ℕ → Bool
breaks_index code place = holds_at code place (λ i. misses_index code (row_in code i) i)

-- Form: no operation, a field out of its range, or a field that isn't named and not 0
abbrev pub breaks_form : Code → ℕ → Bool
breaks_form code place = holds_at code place (λ i. not (is_well_formed (row_in code i) i))

abbrev pub is_halt : Option Operation → Bool
is_halt (Some Halt) = true
is_halt _ = false

-- End: at the last place, 0 where there is none, there is no Halt
abbrev pub breaks_end : Code → ℕ → Bool
breaks_end code place = (place == length code.instructions - 1)
    && not (holds_at code place (λ i. is_halt (operation_of i.op)))

-- the program has this loop
abbrev pub has_loop : Code → ℕ → ℕ → Bool
has_loop code each next = list_any (λ loop. (loop.each == each) && (loop.next == next)) (loops code)

-- an Each or Next without its partner, or that names another place; an Each inside three loops; a
-- Break of more loops than are open
abbrev pub misses_loop : Code → ℕ → Option Operation → Instruction → Bool
misses_loop code place (Some Each) i = not (has_loop code place i.c)
    || nat_le max_loops (length (open_loops code place))
misses_loop code place (Some Next) i = not (has_loop code i.c place)
misses_loop code place (Some Break) i = nat_lt (length (open_loops code place)) i.a
misses_loop code place _ i = false

-- Loop: brackets that don't match, too many open loops, or a Break of more than there are
abbrev pub breaks_loop : Code → ℕ → Bool
breaks_loop code place = holds_at code place (λ i. misses_loop code place (operation_of i.op) i)

-- Jump: a jump that isn't forward, that leads after the last instruction, or to a place with other open loops
abbrev pub breaks_jump : Code → ℕ → Bool
breaks_jump code place =
    holds_at code place (λ i. is_jump (row_in code i)
    && (nat_le i.c place || nat_le (length code.instructions) i.c || not (same_loops code place i.c)))

-- NoPart: an operation on the current part outside all loops
abbrev pub breaks_no_part : Code → ℕ → Bool
breaks_no_part code place = holds_at code place
    (λ i. needs_part (row_in code i) && (length (open_loops code place) == 0))

-- Stack: the shape goes up to the place and not beyond it
abbrev pub breaks_stack : Code → ℕ → Bool
breaks_stack code place = is_some (shape_at code place) && is_none (shape_at code (suc place))
