-- What comes of words that say no command.
use Rattle.std.specs.Prelude.{◌≡◌, ◌⊎◌, ℕ, false, List}
use Rattle.clap.specs.Words.{App, Text, takes}
use Rattle.depot_words.specs.Commands.{IsDepot}
use Rattle.devices.specs.Device.{HasBroken, HasTaken, Output}
use Rattle.refusals.specs.declared.refusal.Refusal.TheVariants.{Memory}
use Rattle.depot_jobs.specs.Jobs.{HasTold, HostAndOutputs}
use Rattle.printing.specs.Printed.{shown}
use Rattle.depot_jobs.specs.Statuses.{refused, usage}

-- the words aren't those of a command
abbrev pub IsNoLine : List Text → Type 0
IsNoLine words = (app : App) × IsDepot app × (takes app words ≡ false)

-- this text for the user was written, or the sink broke while it was
abbrev pub HasShown : List ℕ → Output → Output → Type 0
HasShown text old new = HasTaken (shown text) old new ⊎ HasBroken (shown text) old new

-- the user was told by some text how to use the program
abbrev pub HasToldUsage : Output → Output → Type 0
HasToldUsage old new = (text : List ℕ) × HasShown text old new

-- nothing but standard error was touched
abbrev pub KeepsOthers : HostAndOutputs → HostAndOutputs → Type 0
KeepsOthers old new = (new.host ≡ old.host) × (new.out ≡ old.out)

-- what comes of words that say no command: memory was refused while they were read, or the user was told
abbrev pub HasNoLine : List Text → ℕ → HostAndOutputs → HostAndOutputs → Type 0
HasNoLine words status old new =
    ((status ≡ refused) × KeepsOthers old new × HasTold Memory old.err new.err)
    ⊎ ((status ≡ usage) × IsNoLine words × KeepsOthers old new × HasToldUsage old.err new.err)
