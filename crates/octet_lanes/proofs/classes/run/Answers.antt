use Rattle.std.proofs.Common.{◌∙◌}
use Rattle.std.proofs.lemmas.Simd.{zip2_of_maps}
use Rattle.octet_lanes.specs.Lanes.{added}
use Rattle.octet_lanes.specs.Private.{taken, if_below}
use Rattle.octet_lanes.proofs.Lanes.{then}
use Rattle.octet_lanes.proofs.classes.run.Goals as goal

pub returns : goal.returns
returns c =
    c.where_below.ensures
    ∙ zip2_of_maps (if_below c.args.n) (taken c.args.first) (λ x. added (taken c.args.first x) c.args.mark) c.args.lanes c.less-places.ensures
    (then (λ x. added x c.args.mark) (taken c.args.first) c.args.lanes c.less-places.ensures c.more.ensures)
