-- Commands, with what stands for their files.
use Rattle.std.specs.Prelude.{ℕ, List, Vec}
use Rattle.std.specs.Borrow.{Bor}
use Rattle.std.specs.declared.alloc.Global.{Global}
use Rattle.depot_jobs.specs.declared.host.Input.{Input}
use Rattle.depot_jobs.specs.declared.request.OnDepot.{OnDepot}
use Rattle.depot_jobs.specs.declared.request.OnDepot.TheVariants.{FromFile, OnUser, Export, Migrate}
use Rattle.depot_jobs.specs.declared.work.File.{File}
use Rattle.depot_jobs.specs.declared.work.WithoutDepot.{WithoutDepot}

-- on a depot, with the names of their files
abbrev pub Request : Type 0
Request = OnDepot (Bor (List ℕ))

-- with the octets of their files
abbrev pub Task : Type 0
Task = OnDepot (Vec ℕ Global)

-- without a depot, with where their files are read from
abbrev pub Work : Type 0
Work = WithoutDepot Input

-- with their files, which were read
abbrev pub Job : Type 0
Job = WithoutDepot File

-- the same command on a depot, with this for its file
abbrev pub with_file : {F G : Type 0} → G → OnDepot F → OnDepot G
with_file file (FromFile deposit user old) = FromFile deposit user file
with_file file (OnUser access user) = OnUser access user
with_file file (Export user number encoding) = Export user number encoding
with_file file Migrate = Migrate
