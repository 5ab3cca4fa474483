-- What comes of a task, from what the depot did and what was written.
use Rattle.std.proofs.Common.{◌≡◌, ◌≢◌, ◌⊎◌, ℕ, inl, inr, refl, subst}
use Rattle.depot_actions.specs.Causes.{IsExport}
use Rattle.depot_actions.specs.DepotState.{Command, Reply}
use Rattle.devices.specs.Device.{HasBegun, HasBroken, Output}
use Rattle.refusals.specs.declared.refusal.Refusal.{Refusal}
use Rattle.refusals.specs.declared.refusal.Refusal.TheVariants.{Memory, Write}
use Rattle.depot_jobs.specs.Jobs.{HasTold}
use Rattle.depot_cli.specs.Printed.{reply_text}
use Rattle.depot_cli.specs.Tasks.{StoreAndOutputs, HasDone, HasPerformed, HasRefused, IsPerformed}

-- whether a refusal is one that may come after some of an export was written
comes_late : (e : Refusal) → (e ≡ Write) ⊎ (e ≡ Memory) ⊎ ((e ≢ Write) × (e ≢ Memory))
comes_late Memory = inr (inl refl)
comes_late Write = inl refl
comes_late _ = inr (inr (λ is. cc is, λ is. cc is))

-- an export stopped: a call of the writer failed, memory was refused for a piece, or it was refused and nothing was written
pub stopped : (Done : Reply → Type 0) (Refused : Refusal → Type 0) (command : Command) (out err out2 err2 : Output) (status : ℕ) (e : Refusal) → IsExport command
    → (e ≡ Write → (reply : Reply) × Done reply × HasBroken (reply_text command reply) out out2)
    → (e ≡ Memory → (out2 ≡ out) ⊎ ((reply : Reply) × Done reply × HasBegun (reply_text command reply) out out2))
    → (e ≢ Write → e ≢ Memory → out2 ≡ out)
    → Refused e
    → status ≡ 1 → HasTold e err err2 → IsPerformed Done Refused command out err out2 err2 status
stopped Done Refused command out err out2 err2 status e export broke begun unwritten refused one told = elim (comes_late e) [
  | inl is ↦ let b = broke is in inr (one, inl (b.0, b.1, b.2, subst (λ r. HasTold r err err2) is told))
  | inr (inl is) ↦ elim (begun is) [
    | inl same ↦ inr (one, inr (inr (e, λ export write. cc (is, write), refused, told, same)))
    | inr b ↦ inr (one, inr (inl (export, b.0, b.1, b.2, subst (λ r. HasTold r err err2) is told)))
  ]
  | inr (inr other) ↦ inr (one, inr (inr (e, λ export. other.0, refused, told, unwritten other.0 other.1)))
]

-- the same of an export from a depot
pub stopped_on_depot : (e : Refusal) (command : Command) (status : ℕ) (old new : StoreAndOutputs) → IsExport command
    → (e ≡ Write → (reply : Reply) × HasDone command reply old.store new.store × HasBroken (reply_text command reply) old.out new.out)
    → (e ≡ Memory → (new.out ≡ old.out) ⊎ ((reply : Reply) × HasDone command reply old.store new.store × HasBegun (reply_text command reply) old.out new.out))
    → (e ≢ Write → e ≢ Memory → new.out ≡ old.out)
    → HasRefused command e old.store new.store
    → status ≡ 1 → HasTold e old.err new.err → HasPerformed command status old new
stopped_on_depot e command status old new =
    stopped (λ reply. HasDone command reply old.store new.store) (λ refusal. HasRefused command refusal old.store new.store) command old.out old.err new.out new.err status e
