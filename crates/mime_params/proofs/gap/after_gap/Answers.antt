use Rattle.std.proofs.Common.{◌∙◌, ◌∷◌, length, sym, ap, arith}
use Rattle.mime_params.specs.Gaps.{after_gap}
use Rattle.mime_params.proofs.Gaps.{gap_comment, closed_shorter}
use Rattle.mime_params.proofs.gap.after_gap.Goals as goal

pub gap-smaller : goal.gap-smaller
gap-smaller c = omega (arith, closed_shorter c.in-Some.more.now c.in-Some-after_comment.after.now c.in-Some-after_comment.ensures, ap length c.in-Some.ensures)

pub gap-preserved : goal.gap-preserved
gap-preserved c =
    sym (gap_comment c.in-Some.more.now c.in-Some-after_comment.after.now c.in-Some-after_comment.ensures)
    ∙ ap after_gap (sym (c.in-Some.ensures ∙ ap (λ x. x ∷ c.in-Some.more.now) c.in-40.is)) ∙ c.gap.invariant
