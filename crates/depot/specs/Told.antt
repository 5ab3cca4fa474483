-- What is printed of a folder and its volumes.
use Rattle.std.specs.Prelude.{◌≡◌, ◌⊎◌, ◌++◌, ℕ, List, codes}
use Rattle.std.specs.Fmt.{decimal}
use Rattle.refusals.specs.declared.refusal.Refusal.TheVariants.{Write}
use Rattle.devices.specs.Device.{HasBroken, HasTaken, Output}
use Rattle.depot_jobs.specs.Jobs.{HasTold}
use Rattle.printing.specs.Printed.{line, quoted}

-- a folder that was made: its name, between quotes
abbrev pub made_line : List ℕ → List ℕ
made_line name = line (codes "made " ++ quoted name)

-- a volume: its path, between quotes
abbrev pub volume_line : List ℕ → List ℕ
volume_line path = line (codes "volume " ++ quoted path)

-- how many volumes there are
abbrev pub volumes_line : ℕ → List ℕ
volumes_line count = line (codes "volumes " ++ decimal count)

-- a text was written whole, with status 0; or it broke off, with status 1, and that was told
abbrev pub HasToldText : List ℕ → ℕ → Output → Output → Output → Output → Type 0
HasToldText text status out err out_after err_after =
    ((status ≡ 0) × HasTaken text out out_after × (err_after ≡ err))
    ⊎ ((status ≡ 1) × HasBroken text out out_after × HasTold Write err err_after)
