-- How the code makes programs of the latest version, and what such a program is to the one before.
use Rattle.std.specs.Prelude.{◌≡◌, ℕ, ◌≤◌, List, [], ◌∷◌, Option, None, Some, if◌then◌else◌}
use Rattle.std.specs.List.{AllZip}
use Rattle.bytecode_format.specs.Code.{Code, latest_version}
use Rattle.bytecode_format.specs.Spelling.{spelling}
use Rattle.bytecode_format.specs.declared.action.Action.{Action}
use Rattle.sieve_engine.specs.Execution.{IsChecked, IsExecution}
use Rattle.part_store.specs.Entries.{UserProgram}
use Rattle.depot_actions.specs.DepotState.{is_latest}

-- the octets of the code with the latest version
abbrev pub renewed_octets : Code → List ℕ
renewed_octets code = spelling (record code { version = latest_version })

-- the octets that take the place of those of a program, none where it has the latest version
abbrev pub renewal : Code → Option (List ℕ)
renewal code = if is_latest code then None else Some (renewed_octets code)

-- the same with its user, before others
abbrev pub with_renewal : Option (List ℕ) → UserProgram → List UserProgram → List UserProgram
with_renewal None pair others = others
with_renewal (Some octets) pair others = (pair.0, octets) ∷ others

-- of the users whose programs have another version the programs with the latest one
abbrev pub renewals : List UserProgram → List Code → List UserProgram
renewals [] codes = []
renewals (pair ∷ stored) [] = []
renewals (pair ∷ stored) (code ∷ codes) = with_renewal (renewal code) pair (renewals stored codes)

-- the stored programs are accepted, and these take the place of those that have another version
abbrev pub AreRenewals : List UserProgram → List UserProgram → Type 0
AreRenewals stored renewed = (codes : List Code) × AllZip (λ pair code. IsChecked pair.1 code) stored codes
    × (renewed ≡ renewals stored codes)

-- Executed on any message, the renewed program comes to what the other comes to, and to nothing else:
-- the same final actions and the same charge, within a limit that is no larger.
pub record RunsAs (program renewed : List ℕ) : Type 0 where
  pub runs : (message : List ℕ) (actions : List Action) (charged limit : ℕ) → IsExecution program message actions charged limit
      → (less : ℕ) × (less ≤ limit) × IsExecution renewed message actions charged less
  pub no_other : (message : List ℕ) (actions : List Action) (charged less : ℕ) → IsExecution renewed message actions charged less
      → (limit : ℕ) × (less ≤ limit) × IsExecution program message actions charged limit
