-- What comes of the words of a command line.
use Rattle.std.specs.Prelude.{◌≡◌, ◌⊎◌, ℕ, List}
use Rattle.clap.specs.Words.{Text}
use Rattle.refusals.specs.declared.refusal.Refusal.{Refusal}
use Rattle.depot_jobs.specs.Host.{HostState}
use Rattle.depot_jobs.specs.Inputs.{HasNotReadFile, HasReadFile, file_of}
use Rattle.depot_jobs.specs.Jobs.{HasTold, HostAndOutputs}
use Rattle.depot_jobs.specs.Statuses.{refused}
use Rattle.depot_jobs.specs.Usage.{HasNoLine}
use Rattle.depot_jobs.specs.Words.{IsLine}
use Rattle.depot_jobs.specs.Working.{HasNotWorked, HasWorked}
use Rattle.depot_jobs.specs.declared.line.CommandLine.{CommandLine}
use Rattle.depot_jobs.specs.declared.line.CommandLine.TheVariants.{Alone, Init, OnDepot, Program, Inspect, Scrub, Batch}
use Rattle.depot_jobs.specs.Requests.{Request}
use Rattle.depot_cli.specs.Requests.{command_of, request_command}
use Rattle.depot_cli.specs.declared.pending_task.PendingTask.{PendingTask}
use Rattle.depot_cli.specs.declared.running.Next.{Next}
use Rattle.depot_cli.specs.declared.running.Next.TheVariants as next

-- the file of a request was read, if it has one: the task is the depot's name, and what the request
-- asks of it with these octets
pub record HasPrepared (depot : Text) (request : Request) (pending : PendingTask) (old new : HostState) : Type 0 where
  pub octets : List ℕ
  pub read : HasReadFile (file_of request) octets old new
  pub name : pending.name.now ≡ depot
  pub command : command_of pending.task ≡ request_command request octets

-- it was not read, and the refusal was told
pub record HasNotPrepared (request : Request) (status : ℕ) (old new : HostAndOutputs) : Type 0 where
  pub refusal : Refusal
  pub unread : HasNotReadFile refusal (file_of request) old.host new.host
  pub told : HasTold refusal old.err new.err
  pub out : new.out ≡ old.out
  pub is_refused : status ≡ refused

-- What comes of a command. Work was done, with a status, and a request became a task; or what they
-- read was not read. Of all others nothing was done: they are handed on as the folder that is made, as
-- whose program is saved, from which depot and as which file, as the file that is looked at, and as the
-- depot of a batch.
abbrev pub LeadsTo : CommandLine → Next → HostAndOutputs → HostAndOutputs → Type 0
LeadsTo (Alone work) (next.Exit status) old new = HasWorked work status old new ⊎ HasNotWorked work status old new
LeadsTo (Init folder) (next.Init name) old new = (name.now ≡ folder.now) × (new ≡ old)
LeadsTo (OnDepot depot request) (next.Perform pending) old new =
    HasPrepared depot.now request pending old.host new.host × (new.out ≡ old.out) × (new.err ≡ old.err)
LeadsTo (OnDepot depot request) (next.Exit status) old new = HasNotPrepared request status old new
LeadsTo (Program depot user out) (next.Save saving) old new =
    (saving.name.now ≡ depot.now) × (saving.user.now ≡ user.now) × (saving.out.now ≡ out.now) × (new ≡ old)
LeadsTo (Inspect depot) (next.Inspect name) old new = (name.now ≡ depot.now) × (new ≡ old)
LeadsTo (Scrub depot) (next.Scrub name) old new = (name.now ≡ depot.now) × (new ≡ old)
LeadsTo (Batch depot) (next.Batch name) old new = (name.now ≡ depot.now) × (new ≡ old)
LeadsTo _ _ old new = ⊥

-- what comes of words: their command is carried out, or they say none
abbrev pub HasRun : List Text → Next → HostAndOutputs → HostAndOutputs → Type 0
HasRun words after old new =
    ((line : CommandLine) × IsLine words line × LeadsTo line after old new)
    ⊎ ((status : ℕ) × (after ≡ next.Exit status) × HasNoLine words status old new)
