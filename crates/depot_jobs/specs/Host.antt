-- What is known of a host, and what calls do to it.
use Rattle.std.specs.Prelude.{◌≡◌, ◌⊎◌, ℕ, Bool, false, ◌||◌, List, [], ◌∷◌, ◌++◌, codes, Option, None, Some, IfSome, OnSome, ⊤}
use Rattle.std.specs.Str.{bytes_eq}
use Rattle.std.specs.Option.{option_map}
use Rattle.devices.specs.Device.{Output, counted}
use Rattle.devices.specs.Supply.{Supply}
use Rattle.refusals.specs.declared.refusal.Refusal.{Refusal}
use Rattle.refusals.specs.declared.refusal.Refusal.TheVariants.{Memory, Read, Write}
use Rattle.depot_jobs.specs.declared.host.Input.{Input}
use Rattle.depot_jobs.specs.declared.host.Input.TheVariants.{Standard, File}
use Rattle.depot_jobs.specs.declared.host.MadeFrom.{MadeFrom}
use Rattle.depot_jobs.specs.declared.host.MadeFrom.TheVariants.{Source, Depot}

-- where octets come from: standard input, or the file of a name
pub data Origin : Type 0 where
  standard : Origin
  file : List ℕ → Origin

abbrev pub origin_of : Input → Origin
origin_of Standard = standard
origin_of (File name) = file name.now

-- whether a name is that of a file which a database of another name has beside its own: its log, the
-- log's index, or its journal
abbrev pub is_beside : List ℕ → List ℕ → Bool
is_beside database name =
    bytes_eq name (database ++ codes "-wal") || bytes_eq name (database ++ codes "-shm")
    || bytes_eq name (database ++ codes "-journal")

-- the name of what a file is made from
abbrev pub made_from : MadeFrom → List ℕ
made_from (Source name) = name.now
made_from (Depot name) = name.now

-- a file of this name isn't one that a database of the depot's name has beside it, where it is made from a depot
abbrev pub IsApart : MadeFrom → List ℕ → Type 0
IsApart (Source source) name = ⊤
IsApart (Depot depot) name = is_beside depot.now name ≡ false

-- what a host is asked for: to open what gives octets; to make a file of a name from the file of another
-- name, unless it is that; and to keep the file that it made, with the octets that it took
pub data Call : Type 0 where
  opens : Origin → Call
  makes : List ℕ → List ℕ → Call
  keeps : List ℕ → Call

-- what is known of a host: what is read from where, as far as that is told; what it was asked for
-- so far, in turn, where that is told; how many octets it gave, at most 2^64 - 1; and how many
-- calls have failed
pub record HostState : Type 0 where
  pub contents : Origin → Option (List ℕ)
  pub calls : Option (List Call)
  pub given : ℕ
  pub faults : ℕ

-- a host of which nothing is told but how many octets it gave, and how many calls have failed
abbrev pub untold : ℕ → ℕ → HostState
untold given faults = record { contents = λ _. None; calls = None; given = given; faults = faults }

-- the host was asked for one thing more
abbrev pub with_call : Call → HostState → HostState
with_call call state = record state { calls = option_map (λ calls. calls ++ call ∷ []) state.calls }

-- so many calls more have failed
abbrev pub with_faults : ℕ → HostState → HostState
with_faults more state = record state { faults = counted more state.faults }

-- a source gave so many octets, and so many of its calls failed
abbrev pub with_supply : Supply → HostState → HostState
with_supply supply state = record state { given = counted supply.given state.given; faults = counted supply.faults state.faults }

-- the host was asked, or memory was refused before it was
abbrev pub MayHaveAsked : Call → HostState → HostState → Type 0
MayHaveAsked call old new = (new ≡ with_call call old) ⊎ (new ≡ old)

-- ---- reading

-- a source that nothing was read of: it has the octets that are told
pub record IsFreshSupply (told : Option (List ℕ)) (supply : Supply) : Type 0 where
  pub left : IfSome told (λ octets. supply.left ≡ Some octets)
  pub given : supply.given ≡ 0
  pub faults : supply.faults ≡ 0

-- what gives octets couldn't be opened: memory was refused, or the call failed
abbrev pub HasNotOpened : Refusal → Origin → HostState → HostState → Type 0
HasNotOpened Memory origin old new = MayHaveAsked (opens origin) old new
HasNotOpened Read origin old new = new ≡ with_faults 1 (with_call (opens origin) old)
HasNotOpened _ origin old new = ⊥

-- ---- making files

-- a file that nothing was written to: its octets are told where the host's calls are
pub record IsFreshOutput (state : HostState) (output : Output) : Type 0 where
  pub written : OnSome state.calls (output.written ≡ Some [])
  pub faults : output.faults ≡ 0

-- a file was not made, or what was to be written to it failed: memory was refused, or a call failed. No file was kept.
abbrev pub HasNotMade : Refusal → List ℕ → List ℕ → HostState → HostState → Type 0
HasNotMade Memory name source old new = MayHaveAsked (makes name source) old new
HasNotMade Write name source old new = new ≡ with_faults 1 (with_call (makes name source) old)
HasNotMade _ name source old new = ⊥

-- the calls after a file with these octets was kept
abbrev pub calls_after_keeping : Option (List ℕ) → Option (List Call) → Option (List Call)
calls_after_keeping written None = None
calls_after_keeping written (Some calls) = option_map (λ octets. calls ++ keeps octets ∷ []) written

-- a file that took these octets, with its failures, was kept
pub record HasKept (output : Output) (old new : HostState) : Type 0 where
  pub calls : new.calls ≡ calls_after_keeping output.written old.calls
  pub given : new.given ≡ old.given
  pub faults : new.faults ≡ counted output.faults old.faults

-- a file was made from the file of another name; it took these octets, and was kept, and no call failed
pub record HasMadeFile (name source octets : List ℕ) (old new : HostState) : Type 0 where
  pub calls : new.calls ≡ (with_call (keeps octets) (with_call (makes name source) old)).calls
  pub given : new.given ≡ old.given
  pub faults : new.faults ≡ old.faults

-- the same, from a depot: it isn't a file that a database of the depot's name has beside it
abbrev pub HasMade : List ℕ → List ℕ → List ℕ → HostState → HostState → Type 0
HasMade name depot octets old new = (is_beside depot name ≡ false) × HasMadeFile name depot octets old new
