use Rattle.std.proofs.Common.{◌≡◌, length}
use Rattle.mime_params.specs.Gaps.{after_gap}
use Rattle.mime_params.proofs.gap.after_gap.Given as goal

abbrev pub invariant-gap : goal.invariant-gap
invariant-gap l = after_gap l.rest ≡ after_gap l.text

abbrev pub decreases-gap : goal.decreases-gap
decreases-gap l = length l.rest
