use Rattle.std.proofs.Common.{◌≡◌, ℕ, zero, suc, List, [], replicate, refl, sym, ap, ◌∙◌}
use Rattle.std.specs.Prelude.{slice_index_or}
use Rattle.mail_matching.specs.Outcomes.{captures_of}
use Rattle.sieve_meaning.specs.Meaning.{value_of}
use Rattle.sieve_meaning.proofs.evaluator.Evaluator.value.Goals as goal

-- before a match every capture is empty
nothing : (count n : ℕ) → slice_index_or {A = List ℕ} (replicate count []) n [] ≡ []
nothing zero n = refl
nothing (suc count) zero = refl
nothing (suc count) (suc n) = nothing count n

pub returns-in-None : goal.returns-in-None
returns-in-None c = λ e stands.
    let none : e.captures ≡ replicate 10 [] = sym stands.captures ∙ ap captures_of c.in-None.is in
    sym (ap (value_of e) c.in-Capture.is ∙ ap (λ captures. slice_index_or captures c.in-Capture.number []) none ∙ nothing 10 c.in-Capture.number)
