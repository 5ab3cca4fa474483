-- What comes of work.
use Rattle.std.specs.Prelude.{◌≡◌, ℕ, List, []}
use Rattle.clap.specs.Words.{Text}
use Rattle.refusals.specs.declared.refusal.Refusal.{Refusal}
use Rattle.depot_jobs.specs.Host.{HostState}
use Rattle.depot_jobs.specs.Inputs.{HaveNotRead, HaveRead}
use Rattle.depot_jobs.specs.Jobs.{HasOutcome, HasTold, HostAndOutputs, host_and_outputs}
use Rattle.depot_jobs.specs.Requests.{Job, Work}
use Rattle.depot_jobs.specs.Statuses.{refused}
use Rattle.depot_jobs.specs.declared.host.Input.{Input}
use Rattle.depot_jobs.specs.declared.host.Input.TheVariants.{Standard, File}
use Rattle.depot_jobs.specs.declared.work.File.{File as ReadFile}
use Rattle.depot_jobs.specs.declared.work.WithoutDepot.TheVariants.{OnFile, OnMessage}

-- the name of a file; standard input has none
abbrev pub name_of : Input → Text
name_of Standard = []
name_of (File name) = name.now

-- this is a file, or standard input, with these octets
abbrev pub IsRead : Input → List ℕ → ReadFile → Type 0
IsRead input octets file = (file.name.now ≡ name_of input) × (file.octets.now ≡ octets)

-- the job that work is, with the octets that were read
abbrev pub IsJobOf : Work → List ℕ → List ℕ → Job → Type 0
IsJobOf (OnFile tool input) xs ys job = (file : ReadFile) × IsRead input xs file × (job ≡ OnFile tool file)
IsJobOf (OnMessage runner input other) xs ys job =
    (file message : ReadFile) × IsRead input xs file × IsRead other ys message × (job ≡ OnMessage runner file message)

-- what work reads was read, and its job had this outcome
pub record HasWorked (work : Work) (status : ℕ) (old new : HostAndOutputs) : Type 0 where
  pub first : List ℕ
  pub second : List ℕ
  pub mid : HostState
  pub read : HaveRead work first second old.host mid
  pub job : Job
  pub is_job : IsJobOf work first second job
  pub outcome : HasOutcome (new.out ≡ old.out) (new.err ≡ old.err) job status (host_and_outputs mid old.out old.err) new

-- what it reads was not read, and the refusal was told
pub record HasNotWorked (work : Work) (status : ℕ) (old new : HostAndOutputs) : Type 0 where
  pub refusal : Refusal
  pub unread : HaveNotRead refusal work old.host new.host
  pub told : HasTold refusal old.err new.err
  pub out : new.out ≡ old.out
  pub is_refused : status ≡ refused
