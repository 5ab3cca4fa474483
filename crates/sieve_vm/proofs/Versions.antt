-- A program of version 1 runs the same as one of version 2.
use Rattle.std.proofs.Common.{◌≡◌, ℕ, zero, suc, Option, Some, None, slice_get, refl, sym, ◌∙◌}
use Rattle.bytecode_format.specs.declared.instruction.Instruction.{Instruction}
use Rattle.bytecode_format.specs.declared.operation.Operation.{Operation}
use Rattle.bytecode_format.specs.Operations.{operation_of}
use Rattle.bytecode_format.specs.Code.{Code}
use Rattle.bytecode_verifier.specs.Rules.{row_in}
use Rattle.bytecode_verifier.specs.Acceptance.{IsAccepted}
use Rattle.bytecode_verifier.proofs.Versions.{row_same}
use Rattle.mime_decode.specs.Mail.{Mail}
use Rattle.sieve_vm.specs.State.{State, start}
use Rattle.sieve_vm.specs.Runs.{Run, RunEnds}
use Rattle.sieve_vm.specs.Machine.{turn_of, turn_at, step}

module _ (code : Code) (mail : Mail) where
  abbrev later : Code
  later = record code { version = 2 }

  same_turn : (o : Option Operation) (i : Instruction) (s : State) → row_in later i ≡ row_in code i → turn_of later mail o i s ≡ turn_of code mail o i s
  same_turn None i s same = refl
  same_turn (Some o) i s same = rw same refl

  module _ (is : IsAccepted code) where
    pub same_step : (s : State) → step later mail s ≡ step code mail s
    same_step s = go (slice_get code.instructions s.place) refl
      where
        go : (found : Option Instruction) → slice_get code.instructions s.place ≡ found → turn_at later mail s found ≡ turn_at code mail s found
        go None e = refl
        go (Some i) e = same_turn (operation_of i.op) i s (sym (row_same code is s.place i e))

    run_later : (n : ℕ) (from to : State) → Run code mail n from to → Run later mail n from to
    run_later zero from to run = run
    run_later (suc n) from to run = (run.0, same_step from ∙ run.1, run_later n run.0 to run.2)

    run_before : (n : ℕ) (from to : State) → Run later mail n from to → Run code mail n from to
    run_before zero from to run = run
    run_before (suc n) from to run = (run.0, sym (same_step from) ∙ run.1, run_before n run.0 to run.2)

    pub ends_later : (end : State) → RunEnds code mail end → RunEnds later mail end
    ends_later end over =
        record { steps = over.steps; last = over.last; run = run_later over.steps (start code) over.last over.run; halts = same_step over.last ∙ over.halts }

    pub ends_before : (end : State) → RunEnds later mail end → RunEnds code mail end
    ends_before end over =
        record { steps = over.steps; last = over.last; run = run_before over.steps (start code) over.last over.run; halts = sym (same_step over.last) ∙ over.halts }
