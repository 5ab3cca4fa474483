use Rattle.std.proofs.Common.{◌≡◌, ◌+◌, ◌≤◌, length}
use Rattle.mime_params.specs.Gaps.{after_comment}
use Rattle.mime_params.proofs.gap.after_comment.Given as goal

abbrev pub invariant-comment : goal.invariant-comment
invariant-comment l = (after_comment l.depth l.rest ≡ after_comment 0 l.text) × (l.depth + length l.rest ≤ length l.text)

abbrev pub decreases-comment : goal.decreases-comment
decreases-comment l = length l.rest
