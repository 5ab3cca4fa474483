use Rattle.std.proofs.Common.{◌∙◌, ◌∷◌, length, sym, ap, arith}
use Rattle.mime_params.specs.Gaps.{after_comment}
use Rattle.mime_params.proofs.Gaps.{comment_octet, comment_opens, comment_closes}
use Rattle.mime_params.proofs.gap.after_comment.Goals as goal

pub comment-preserved-then-octet-eq92 : goal.comment-preserved-then-octet-eq92
comment-preserved-then-octet-eq92 c =
    let so_far = c.comment.invariant in
    let here = c.in-Some.ensures ∙ ap (λ x. x ∷ c.in-Some.more.now) c.if-octet-eq92.true ∙ ap (λ xs. 92 ∷ xs) c.in_ok-_escaped.ensures in
    (ap (after_comment c.comment.depth) (sym here) ∙ so_far.0, omega (arith, so_far.1, ap length c.in-Some.ensures, ap length c.in_ok-_escaped.ensures))

pub comment-preserved-else-depth-eq0 : goal.comment-preserved-else-depth-eq0
comment-preserved-else-depth-eq0 c =
    let so_far = c.comment.invariant in
    let here = c.in-Some.ensures ∙ ap (λ x. x ∷ c.in-Some.more.now) c.if-octet-eq41.true in
    (sym (comment_closes c.comment.depth c.in-Some.more.now c.if-depth-eq0.false) ∙ ap (after_comment c.comment.depth) (sym here) ∙ so_far.0, omega (arith, so_far.1, ap length c.in-Some.ensures))

pub comment-preserved-then-octet-eq40 : goal.comment-preserved-then-octet-eq40
comment-preserved-then-octet-eq40 c =
    let so_far = c.comment.invariant in
    let here = c.in-Some.ensures ∙ ap (λ x. x ∷ c.in-Some.more.now) c.if-octet-eq40.true in
    (sym (comment_opens c.comment.depth c.in-Some.more.now) ∙ ap (after_comment c.comment.depth) (sym here) ∙ so_far.0, omega (arith, so_far.1, ap length c.in-Some.ensures))

pub comment-preserved : goal.comment-preserved
comment-preserved c =
    let so_far = c.comment.invariant in (
      sym (comment_octet c.comment.depth c.in-Some.octet c.in-Some.more.now c.if-octet-eq41.false c.if-octet-eq92.false c.if-octet-eq40.false) ∙ ap (after_comment c.comment.depth) (sym c.in-Some.ensures) ∙ so_far.0,
      omega (arith, so_far.1, ap length c.in-Some.ensures),
    )
