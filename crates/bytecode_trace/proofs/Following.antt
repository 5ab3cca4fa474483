-- The steps along a run.
use Rattle.std.proofs.Common.{◌≡◌, ℕ, zero, suc, ◌<◌, List, [], ◌∷◌, length, refl, sym, ap, subst, arith}
use Rattle.bytecode_format.specs.Code.{Code}
use Rattle.mime_decode.specs.Mail.{Mail}
use Rattle.sieve_vm.specs.State.{State, goes, ends}
use Rattle.sieve_vm.specs.Machine.{step}
use Rattle.sieve_vm.specs.Runs.{Run}
use Rattle.bytecode_trace.specs.Steps.{LeadToEnd, TakenStep, and_then, steps_from}

module _ (code : Code) (mail : Mail) where
  -- a step before those that lead to the end
  one_more : (from next end : State) (others : List TakenStep) → step code mail from ≡ goes next → LeadToEnd code mail next end others → LeadToEnd code mail from end (record { before = from; after = next } ∷ others)
  one_more from next end [] one rest = absurd rest
  one_more from next end (x ∷ xs) one rest = (refl, one, rest)

  -- they are as many as the run takes, with the last one
  pub steps_along : (n most : ℕ) (from last end : State) → n < most → Run code mail n from last → step code mail last ≡ ends end → LeadToEnd code mail from end (steps_from code mail most from) × (length (steps_from code mail most from) ≡ suc n)
  steps_along n zero from last end below run halts = absurd (omega (arith, below))
  steps_along zero (suc most) from last end below run halts =
      let one : step code mail from ≡ ends end = subst (λ s. step code mail s ≡ ends end) (sym run) halts in
      subst (λ u. LeadToEnd code mail from end (and_then from u (steps_from code mail most)) × (length (and_then from u (steps_from code mail most)) ≡ 1)) (sym one) ((refl, one, refl), refl)
  steps_along (suc n) (suc most) from last end below run halts =
      let rest = steps_along n most run.0 last end (omega (arith, below)) run.2 halts in
      subst (λ u. LeadToEnd code mail from end (and_then from u (steps_from code mail most)) × (length (and_then from u (steps_from code mail most)) ≡ suc (suc n))) (sym run.1)
      (one_more from run.0 end (steps_from code mail most run.0) run.1 rest.0, ap suc rest.1)
