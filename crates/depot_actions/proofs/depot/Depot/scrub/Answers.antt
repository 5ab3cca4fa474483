use Rattle.std.proofs.Common.{inl, inr, subst}
use Rattle.part_store.specs.Scrubbing.{IsScrubbed, OnlyWhenUncounted}
use Rattle.depot_actions.specs.Overviews.{LooksOver}
use Rattle.depot_actions.proofs.Applying.{looked_over}
use Rattle.depot_actions.proofs.depot.Depot.scrub.Goals as goal

pub returns : goal.returns
returns g c =
    subst (λ h. LooksOver g.S.Store h c.scrub.new.self c.map_err.result IsScrubbed) c.self.view_is
    (looked_over g.S.Store c.self.inside.store c.scrub.new.self c.scrub.result c.map_err.result c.map_err.ensures.cases IsScrubbed c.scrub.ensures.answer c.scrub.ensures.reads
    OnlyWhenUncounted c.scrub.ensures.refused (λ e named blamed is before stands. elim (blamed named is before stands) [ inl failed ↦ inl failed | inr more ↦ inr (inl more) ]))
