use Rattle.std.proofs.Common.{◌≡◌, ℕ, List, true, refl, sym, subst}
use Rattle.depot_jobs.specs.Tracing.{is_program}
use Rattle.depot_jobs.proofs.laws.programs_are_taken_for_programs.Goals as goal

pub returns : goal.returns
returns c = λ octets code spells. subst (λ (text : List ℕ). is_program text ≡ true) (sym spells.spelt) refl
