use Rattle.std.proofs.Common.{◌≡◌, ℕ, List, sym, subst}
use Rattle.std.proofs.lemmas.Result.{IfErr-weaker}
use Rattle.refusals.specs.declared.fault_kind.FaultKind.{FaultKind}
use Rattle.bytecode_listing.specs.declared.error.ListingError.{ListingError}
use Rattle.bytecode_listing.specs.declared.error.ListingError.TheVariants.{Memory, Fault}
use Rattle.bytecode_listing.specs.Items.{FaultsAt, Lists}
use Rattle.bytecode_listing.proofs.Faultless.{only_memory}
use Rattle.bytecode_listing.proofs.laws.read_again.Goals as goal

pub returns-clause-memory : goal.returns-clause-memory
returns-clause-memory c =
    let text : List ℕ = c.as_slice.result.now in
    let lists : Lists text c.args.program.now = subst (λ (t : List ℕ). Lists t c.args.program.now) (sym c.as_slice.ensures.value) c.in-Ok.ensures.listed in
    IfErr-weaker c.assemble.result (λ (e : ListingError). (place : ℕ) (kind : FaultKind) → e ≡ Fault place kind → FaultsAt text place) (λ (e : ListingError). e ≡ Memory) (only_memory text c.args.program.now lists) c.assemble.ensures.fault
