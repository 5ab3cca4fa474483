-- The loops of a program, as the pairs of matched brackets.
use Rattle.std.specs.Prelude.{ℕ, suc, Bool, true, false, ◌&&◌, not, cond, List, Option, Some, None, if◌then◌else◌, length, nat_lt, nat_le, ◌==◌, slice_range}
use Rattle.std.specs.List.{count_by, filter, filter_map, enumerate_from, list_all}
use Rattle.std.specs.Option.{option_map}
use Rattle.bytecode_format.specs.declared.instruction.Instruction.{Instruction}
use Rattle.bytecode_format.specs.declared.operation.Operation.{Operation}
use Rattle.bytecode_format.specs.declared.operation.Operation.TheVariants.{Each, Next}
use Rattle.bytecode_format.specs.Operations.{operation_of}
use Rattle.bytecode_format.specs.Code.{Code}
use Rattle.bytecode_verifier.specs.Places.{least_below}

-- a loop: the place of its Each, and that of its Next
pub record Loop : Type 0 where
  pub each : ℕ
  pub next : ℕ

abbrev pub opens : Option Operation → Bool
opens (Some Each) = true
opens _ = false

abbrev pub closes : Option Operation → Bool
closes (Some Next) = true
closes _ = false

-- at the places from the first to the last there are as many Each as Next
abbrev pub is_balanced : List Instruction → ℕ → ℕ → Bool
is_balanced instructions first last =
    let stretch = slice_range instructions first (suc last) in
    count_by (λ i. opens (operation_of i.op)) stretch == count_by (λ i. closes (operation_of i.op)) stretch

-- the Next of the Each at a place: the first place after it up to which all that it and others open is closed
abbrev pub next_of : List Instruction → ℕ → Option ℕ
next_of instructions each = least_below (λ place. nat_lt each place && is_balanced instructions each place)
    (length instructions)

-- the loop that an instruction opens, if it is an Each that has a Next
abbrev pub loop_from : List Instruction → ℕ → Instruction → Option Loop
loop_from instructions place i =
    if opens (operation_of i.op) then option_map (λ next. record { each = place; next = next }) (next_of instructions place) else None

-- every loop of the program
abbrev pub loops : Code → List Loop
loops code = filter_map (λ at. loop_from code.instructions at.0 at.1) (enumerate_from 0 code.instructions)

-- the loop is open at the place: after its Each, and not after its Next
abbrev pub is_open : ℕ → Loop → Bool
is_open place loop = nat_lt loop.each place && nat_le place loop.next

-- the loops that are open at the place
abbrev pub open_loops : Code → ℕ → List Loop
open_loops code place = filter (is_open place) (loops code)

-- each loop is open at both places or at neither
abbrev pub same_loops : Code → ℕ → ℕ → Bool
same_loops code p q = list_all (λ loop. cond (is_open p loop) (is_open q loop) (not (is_open q loop))) (loops code)
