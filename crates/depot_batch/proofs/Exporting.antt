-- An export that the depot refused.
use Rattle.std.proofs.Common.{◌≡◌, ◌≢◌, ◌⊎◌, ◌∙◌, ap, inl, inr, refl, subst, sym, ℕ}
use Rattle.sqlite_trees.specs.declared.store.Store.{Ghosts}
use Rattle.sqlite.specs.Held.{Held, state}
use Rattle.sqlite.specs.State.{HasCleanDisk}
use Rattle.part_store.specs.Standing.{LeavesUnchanged}
use Rattle.depot_actions.specs.DepotState.{Export as Exports}
use Rattle.devices.specs.Device.{Output, counted}
use Rattle.depot_jobs.specs.Host.{HasNotMade, HostState, IsFreshOutput, makes, with_call, with_faults}
use Rattle.depot_cli.specs.Tasks.{HasRefused}
use Rattle.refusals.specs.declared.refusal.Refusal.{Refusal}
use Rattle.refusals.specs.declared.refusal.Refusal.TheVariants.{Memory, Write}
use Rattle.depot_batch.specs.Asked.{Text}
use Rattle.depot_batch.specs.Batch.{Did}
use Rattle.depot_batch.specs.Effects.{HasNotExported}
use Rattle.depot_batch.specs.declared.asked.Export.{Export}

-- whether a refusal is one that may come after some of a file was written
comes_late : (e : Refusal) → (e ≡ Write) ⊎ (e ≡ Memory) ⊎ ((e ≢ Write) × (e ≢ Memory))
comes_late Write = inl refl
comes_late Memory = inr (inl refl)
comes_late e = inr (inr (λ is. cc is, λ is. cc is))

-- a host takes away a file by which one call failed, or none
one_fault : (host host2 : HostState) (faults : ℕ) → faults ≡ counted 1 0 → host2 ≡ with_faults faults host → host2 ≡ with_faults 1 host
one_fault host host2 faults one are = subst (λ n. host2 ≡ with_faults n host) one are

no_fault : (host host2 : HostState) (faults : ℕ) → faults ≡ 0 → host2 ≡ with_faults faults host → host2 ≡ host
no_fault host host2 faults none are = subst (λ n. host2 ≡ with_faults n host) none are

module _ {S : Type 0} (g : Ghosts S) where
  -- the file was taken away: a call of it failed, or none did, and the depot's refusal has its cause
  pub given_up : (e : Refusal) (name : Text) (export : Export) (old new : Held S) (host mid host2 : HostState) (fresh : Output) (faults : ℕ)
      → mid ≡ with_call (makes export.file.now name) host → IsFreshOutput host fresh → host2 ≡ with_faults faults mid
      → (e ≡ Write → faults ≡ counted 1 fresh.faults)
      → (e ≡ Memory → faults ≡ fresh.faults)
      → (e ≢ Write → e ≢ Memory → faults ≡ fresh.faults)
      → HasRefused (Exports export.user.now export.number export.encoding) e (state g old) (state g new)
      → (HasCleanDisk (state g new) → LeavesUnchanged (state g old) (state g new))
      → HasNotExported (Did g old new) name export e host host2
  given_up e name export old new host mid host2 fresh faults made begun gone failed stopped unwritten refused unchanged =
      let asked = with_call (makes export.file.now name) host in
      let after : host2 ≡ with_faults faults asked = subst (λ h. host2 ≡ with_faults faults h) made gone in
      elim (comes_late e) [
        | inl is ↦
            let broke = one_fault asked host2 faults (failed is ∙ ap (counted 1) begun.faults) after in
            inl (subst (λ r. HasNotMade r export.file.now name host host2) (sym is) broke, unchanged)
        | inr (inl is) ↦ inr ((λ write. cc (is, write)), no_fault asked host2 faults (stopped is ∙ begun.faults) after, refused)
        | inr (inr other) ↦ inr (other.0, no_fault asked host2 faults (unwritten other.0 other.1 ∙ begun.faults) after, refused)
      ]
