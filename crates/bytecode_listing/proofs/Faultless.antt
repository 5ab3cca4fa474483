-- A listing of a program has no fault.
use Rattle.std.proofs.Common.{◌≡◌, ℕ, List, ◌-◌, length, Result, MatchResult, refl, subst}
use Rattle.bytecode_format.specs.Code.{Code}
use Rattle.refusals.specs.declared.fault_kind.FaultKind.{FaultKind}
use Rattle.bytecode_listing.specs.declared.error.ListingError.{ListingError}
use Rattle.bytecode_listing.specs.declared.error.ListingError.TheVariants.{Memory, Fault}
use Rattle.bytecode_listing.specs.Items.{ExceedsAt, FaultsAt, Lists}

pub no_fault : (listing : List ℕ) (code : Code) → Lists listing code → (place : ℕ) → FaultsAt listing place → ⊥
no_fault listing code lists place fault =
    let exceeds : ExceedsAt listing place code = subst (λ (said : Result Code ℕ). MatchResult said (ExceedsAt listing place) (λ left. place ≡ length listing - left)) lists.says fault in
    exceeds.1 lists.within

-- so memory was refused, where it isn't read
pub only_memory : (listing : List ℕ) (code : Code) → Lists listing code → (e : ListingError) → ((place : ℕ) (kind : FaultKind) → e ≡ Fault place kind → FaultsAt listing place) → e ≡ Memory
only_memory listing code lists Memory fault = refl
only_memory listing code lists (Fault place kind) fault = absurd (no_fault listing code lists place (fault place kind refl))
