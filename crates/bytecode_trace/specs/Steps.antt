-- The steps of a program's run.
use Rattle.std.specs.Prelude.{◌≡◌, ℕ, zero, suc, ◌+◌, List, [], ◌∷◌, Some, slice_get}
use Rattle.bytecode_format.specs.Code.{Code}
use Rattle.bytecode_format.specs.Operations.{operation_of}
use Rattle.bytecode_format.specs.declared.instruction.Instruction.{Instruction}
use Rattle.bytecode_format.specs.declared.operation.Operation.{Operation}
use Rattle.mime_decode.specs.Mail.{Mail}
use Rattle.sieve_vm.specs.Charge.{charge_of}
use Rattle.sieve_vm.specs.Machine.{referred_in, step}
use Rattle.sieve_vm.specs.Potential.{limit_of}
use Rattle.sieve_vm.specs.State.{State, Turn, goes, ends, traps, start}

-- a step that was taken: the state before it and the one after it
pub record TakenStep : Type 0 where
  pub before : State
  pub after : State

-- the step from a state, by what it comes to, and then those from the state after it; behind the last one none
abbrev pub and_then : State → Turn → (State → List TakenStep) → List TakenStep
and_then before (goes after) further = record { before = before; after = after } ∷ further after
and_then before (ends after) further = record { before = before; after = after } ∷ []
and_then before traps further = []

-- the steps of a run from a state up to its end, of which there are so many at most
abbrev pub steps_from : Code → Mail → ℕ → State → List TakenStep
steps_from code mail zero state = []
steps_from code mail (suc most) state = and_then state (step code mail state) (steps_from code mail most)

-- the steps of a program's run on a message: no run takes more of them than the budget is
abbrev pub steps_of : Code → Mail → List TakenStep
steps_of code mail = steps_from code mail (limit_of code mail) (start code)

-- steps that lead from a state to a run's end, each from where the one before it has led
abbrev pub LeadToEnd : Code → Mail → State → State → List TakenStep → Type 0
LeadToEnd code mail from end [] = ⊥
LeadToEnd code mail from end (one ∷ []) = (one.before ≡ from) × (step code mail from ≡ ends one.after) × (one.after ≡ end)
LeadToEnd code mail from end (one ∷ others) =
    (one.before ≡ from) × (step code mail from ≡ goes one.after) × LeadToEnd code mail one.after end others

-- a step takes an instruction of the program, and charges what that costs in the state before it
pub record IsCharged (code : Code) (mail : Mail) (taken : TakenStep) : Type 0 where
  pub instruction : Instruction
  pub operation : Operation
  pub here : slice_get code.instructions taken.before.place ≡ Some instruction
  pub named : operation_of instruction.op ≡ Some operation
  pub charge_is : taken.after.charge ≡ taken.before.charge + charge_of (referred_in code) mail operation instruction taken.before
