-- What comes of words, from what comes of their parts.
use Rattle.std.proofs.Common.{◌≡◌, ◌≢◌, ◌⊎◌, ℕ, Bool, true, false, List, inl, inr, refl, subst}
use Rattle.clap.specs.Words.{App, Text, takes}
use Rattle.clap.specs.declared.error.kind.ErrorKind.{ErrorKind}
use Rattle.clap.specs.declared.error.kind.ErrorKind.TheVariants.{OutOfMemory}
use Rattle.depot_jobs.specs.Jobs.{Answer, HasOutcome, HasTold, HostAndOutputs, IsGiven, finds, says, traces, writes}
use Rattle.depot_jobs.specs.Requests.{Job, Work}
use Rattle.depot_jobs.specs.Statuses.{refused, usage}
use Rattle.depot_jobs.specs.Working.{IsJobOf}
use Rattle.depot_jobs.specs.Usage.{HasNoLine, HasToldUsage, IsNoLine, KeepsOthers}
use Rattle.depot_words.specs.Commands.{IsDepot}
use Rattle.refusals.specs.declared.refusal.Refusal.TheVariants.{Memory}

-- the job is that of the same octets elsewhere
pub with_octets : {xs xs2 ys ys2 : List ℕ} (work : Work) (job : Job) → xs ≡ xs2 → ys ≡ ys2 → IsJobOf work xs ys job → IsJobOf work xs2 ys2 job
with_octets {xs} {xs2} {ys} {ys2} work job first second is = subst (λ zs. IsJobOf work xs2 zs job) second (subst (λ zs. IsJobOf work zs ys job) first is)

module _ {U U2 Q Q2 : Type 0} (unwritten : U → U2) (quiet : Q → Q2) where
  given : (answer : Answer) (status : ℕ) (old new : HostAndOutputs) → IsGiven U Q answer status old new → IsGiven U2 Q2 answer status old new
  given (says text) status old new (host, inl whole) = (host, inl (whole.0, whole.1, quiet whole.2))
  given (says text) status old new (host, inr broken) = (host, inr broken)
  given (traces text) status old new (host, inl whole) = (host, inl (whole.0, whole.1, quiet whole.2))
  given (traces text) status old new (host, inr broken) = (host, inr broken)
  given (finds text refusal) status old new is = is
  given (writes name source octets) status old new (inl (made, inl whole)) = inl (made, inl (whole.0, whole.1, quiet whole.2))
  given (writes name source octets) status old new (inl (made, inr broken)) = inl (made, inr broken)
  given (writes name source octets) status old new (inr (refusal, unmade, told)) = inr (refusal, unmade, (told.0, told.1, unwritten told.2))

  -- what is known of outputs that nothing was written to is known of what they took
  pub outcome : (job : Job) (status : ℕ) (old new : HostAndOutputs) → HasOutcome U Q job status old new → HasOutcome U2 Q2 job status old new
  outcome job status old new (inl (answer, is, gave)) = inl (answer, is, given answer status old new gave)
  outcome job status old new (inr (refusal, is, host, told)) = inr (refusal, is, host, (told.0, told.1, unwritten told.2))

not_taken : (b : Bool) (kind : ErrorKind) → (b ≡ true → kind ≡ OutOfMemory) → (kind ≡ OutOfMemory → ⊥) → b ≡ false
not_taken true kind taken other = absurd (other (taken refl))
not_taken false kind taken other = refl

-- the words are refused for another reason than memory
pub no_line : {words : List Text} {kind : ErrorKind} → (app : App) × IsDepot app × (takes app words ≡ true → kind ≡ OutOfMemory) → (kind ≡ OutOfMemory → ⊥) → IsNoLine words
no_line {words} {kind} taken other = (taken.0, taken.1, not_taken (takes taken.0 words) kind taken.2 other)

-- words that say no command were explained, or memory was refused
pub explained : {words : List Text} {kind : ErrorKind} {status : ℕ} {old new : HostAndOutputs} → (app : App) × IsDepot app × (takes app words ≡ true → kind ≡ OutOfMemory) → KeepsOthers old new
    → ((status ≡ refused) × HasTold Memory old.err new.err) ⊎ ((kind ≢ OutOfMemory) × (status ≡ usage) × HasToldUsage old.err new.err) → HasNoLine words status old new
explained taken others (inl told) = inl (told.0, others, told.1)
explained taken others (inr text) = inr (text.1, no_line taken text.0, others, text.2)
