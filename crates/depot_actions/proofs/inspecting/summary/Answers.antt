use Rattle.part_store.specs.Standing.{listed}
use Rattle.part_store.specs.Entries.{Listing}
use Rattle.std.proofs.lemmas.Result.{IfErr-weaker}
use Rattle.std.proofs.Common.{◌^◌, ◌≤◌, ◌∙◌, ap, inr, map, subst, sum_by}
use Rattle.depot_actions.proofs.inspecting.summary.Goals as goal

pub returns-clause-cause : goal.returns-clause-cause
returns-clause-cause g c clean =
    let user = c.as_str.result.now in
    IfErr-weaker c.summary_of.result _ _ (λ e more is before stands.
    inr (inr (user, subst (λ ls. 2 ^ 64 ≤ sum_by (λ (x : Listing). x.octets) ls) (ap (map listed) c.deref.ensures.value ∙ c.in_ok-entries.ensures.answer clean before stands) (more is)))) c.summary_of.ensures.cause
