-- What a contract knows of volumes in a folder of the system.
use Rattle.std.specs.Prelude.{ℕ}
use Rattle.volumes.specs.Holding.{Holding, IsFailure}

-- Nothing: not which volumes are held, nor that all went well, nor how many were opened. A question for a last number
-- may be refused as any other call.
abbrev pub unknown : {V : Type 0} → Holding V
unknown = record { holds = λ folder vs. ⊥; is_sound = λ folder. ⊥; opened = λ folder. 0; refuses = λ folder refusal. IsFailure refusal }
