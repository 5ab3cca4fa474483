use Rattle.std.proofs.Common.{◌≡◌, IfSome, Some, nat_cmp, subst, ◌∙◌}
use Rattle.std.specs.BTreeMap.{get}
use Rattle.std.specs.Cmp.Lexicographic.{slice_cmp}
use Rattle.part_store.proofs.Siblings.{found_as}
use Rattle.part_store.proofs.listing.place_under.Goals as goal

pub returns-in-Some : goal.returns-in-Some
returns-in-Some c =
    subst (λ d. IfSome c.copied.result (λ place. get (slice_cmp nat_cmp) c.args.firsts.now d ≡ Some place)) c.in-Some.ensures.cases.same
    (found_as c.copied.result _ (c.copied.ensures ∙ c.get.ensures.value))
