use Rattle.std.proofs.Common.{◌≡◌, ℕ, suc, ◌-◌, ◌≤◌, length, None, refl, sym, inl, inr, arith}
use Rattle.std.proofs.lemmas.Bool.{cases_lt}
use Rattle.std.proofs.lemmas.Option.{slice_get_past}
use Rattle.bytecode_format.specs.Operations.{operation_of, operations}
use Rattle.bytecode_format.proofs.operation.Operation.of.Goals as goal

-- no operation stands after the last one
beyond : (n m : ℕ) → n ≡ suc m → length operations ≤ m → operation_of n ≡ None
beyond n m e h = rw e (slice_get_past operations m h)

pub returns-in_default : goal.returns-in_default
returns-in_default c =
    elim (cases_lt c.args.octet (suc (length operations))) [
      | inl lt ↦ let none : c.args.octet ≡ 0 = omega arith in rw none refl
      | inr le ↦ sym (beyond c.args.octet (c.args.octet - 1) (omega arith) (omega arith))
    ]
