-- What is read: by work and by requests, of files and of standard input.
use Rattle.std.specs.Prelude.{◌≡◌, ◌⊎◌, ℕ, ◌+◌, ◌<◌, ◌≤◌, List, [], Option, None, Some, length, IfSome}
use Rattle.clap.specs.Words.{Text}
use Rattle.devices.specs.Device.{counted}
use Rattle.refusals.specs.declared.refusal.Refusal.{Refusal}
use Rattle.refusals.specs.declared.refusal.Refusal.TheVariants.{Memory, MessageTooLarge, Read}
use Rattle.depot_jobs.specs.Host.{HostState, Origin, file as of_file, opens, origin_of, with_call, with_faults}
use Rattle.depot_jobs.specs.Limits.{max_input}
use Rattle.depot_jobs.specs.Requests.{Request, Work}
use Rattle.depot_jobs.specs.declared.request.OnDepot.TheVariants.{FromFile, OnUser, Export, Migrate}
use Rattle.depot_jobs.specs.declared.work.WithoutDepot.TheVariants.{OnFile, OnMessage}

-- the file that a request reads
abbrev pub file_of : Request → Option (List ℕ)
file_of (FromFile deposit user file) = Some file.now
file_of (OnUser access user) = None
file_of (Export user number encoding) = None
file_of Migrate = None

-- the host opened what gives octets, and it gave so many
abbrev pub after_reading : Origin → ℕ → HostState → HostState
after_reading origin given state = record (with_call (opens origin) state) { given = counted given state.given }

-- octets were read to their end, no more of them than the limit: all that there are, where that is told
pub record HasRead (origin : Origin) (octets : List ℕ) (old new : HostState) : Type 0 where
  pub small : length octets ≤ max_input
  pub told : IfSome (old.contents origin) (λ all. octets ≡ all)
  pub state : new ≡ after_reading origin (length octets) old

-- Octets were not read: memory was refused or a call failed, with no more octets given than the
-- limit; or one octet more was given, of more than the limit, where that is told.
abbrev pub HasNotRead : Refusal → Origin → HostState → HostState → Type 0
HasNotRead Memory origin old new = (new ≡ old)
    ⊎ ((given : ℕ) × (given ≤ max_input) × (new ≡ after_reading origin given old))
HasNotRead MessageTooLarge origin old new = IfSome (old.contents origin) (λ all. max_input < length all)
    × (new ≡ after_reading origin (max_input + 1) old)
HasNotRead Read origin old new = (given : ℕ) × (given ≤ max_input)
    × (new ≡ with_faults 1 (after_reading origin given old))
HasNotRead _ origin old new = ⊥

-- what work reads was read, in the order of its words
abbrev pub HaveRead : Work → List ℕ → List ℕ → HostState → HostState → Type 0
HaveRead (OnFile tool file) xs ys old new = HasRead (origin_of file) xs old new
HaveRead (OnMessage runner file message) xs ys old new =
    (mid : HostState) × HasRead (origin_of file) xs old mid × HasRead (origin_of message) ys mid new

-- what it reads was not read; where the first was not, the second wasn't asked for
abbrev pub HaveNotRead : Refusal → Work → HostState → HostState → Type 0
HaveNotRead refusal (OnFile tool file) old new = HasNotRead refusal (origin_of file) old new
HaveNotRead refusal (OnMessage runner file message) old new = HasNotRead refusal (origin_of file) old new
    ⊎ ((octets : List ℕ) × (mid : HostState) × HasRead (origin_of file) octets old mid
    × HasNotRead refusal (origin_of message) mid new)

-- the file was read, if there is one
abbrev pub HasReadFile : Option Text → List ℕ → HostState → HostState → Type 0
HasReadFile None octets old new = (octets ≡ []) × (new ≡ old)
HasReadFile (Some name) octets old new = HasRead (of_file name) octets old new

-- it was not read
abbrev pub HasNotReadFile : Refusal → Option Text → HostState → HostState → Type 0
HasNotReadFile refusal None old new = ⊥
HasNotReadFile refusal (Some name) old new = HasNotRead refusal (of_file name) old new
