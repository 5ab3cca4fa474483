use Rattle.std.proofs.Common.{◌≡◌, ◌⊎◌, ◌+◌, ◌<◌, ◌≤◌, ap, ◌∙◌, arith, length, inl, inr}
use Rattle.std.specs.List.{slice_range}
use Rattle.octets.specs.Blank.{without_leading_blanks}
use Rattle.text_lines.specs.Lines.{lines_left}
use Rattle.text_lines.proofs.Slices.{length-slice}
use Rattle.header_fields.specs.Header.{contents, without_breaks}
use Rattle.header_fields.proofs.Continuations.{lines_from}
use Rattle.header_fields.proofs.Trimming.{trimmed_fits}
use Rattle.header_fields.proofs.Measuring.{measured_more}
use Rattle.header_fields.proofs.unfolding.joined_length.Goals as goal
use Rattle.header_fields.proofs.unfolding.joined_length.Goals.{then-joined-eq0, else-joined-eq0, then-kept-gt0, else-kept-gt0}

pub loop-line-preserved : goal.loop-line-preserved
loop-line-preserved c =
    let text = c.args.text.now in
    let was = c.loop-line.invariant in
    let line = c.in-Some.line in
    let steps = c.in-Some.ensures.steps in
    let here = steps.here in
    let content = slice_range text line.start line.end in
    let more = c.if-joined-eq0.more.now in
    let left = ap contents (lines_from text line c.loop-line.line-iterator c.next.new.self was.same_text steps) in
    let taken : ((c.loop-line.joined ≡ 0) × (more ≡ without_leading_blanks content)) ⊎ ((0 < c.loop-line.joined) × (more ≡ content)) = elim c.if-joined-eq0.branch [
      | then-joined-eq0 w ↦ inl (omega (arith, w.if-joined-eq0.true), ap (λ x. x.now) w.more-is ∙ w.trim_leading_blanks-more.ensures)
      | else-joined-eq0 w ↦ inr (omega (arith, w.if-joined-eq0.false), ap (λ x. x.now) w.more-is)
    ] in
    let last = ap length c.trim_trailing_blanks-kept.ensures in
    let kept : ((0 < length c.trim_trailing_blanks-kept.result.now) × (c.if-kept-gt0.without_blanks ≡ c.loop-line.joined + length c.trim_trailing_blanks-kept.result.now)) ⊎ ((length c.trim_trailing_blanks-kept.result.now ≡ 0) × (c.if-kept-gt0.without_blanks ≡ c.loop-line.without_blanks)) = elim c.if-kept-gt0.branch [
      | then-kept-gt0 w ↦ inl (w.if-kept-gt0.true, w.without_blanks-is)
      | else-kept-gt0 w ↦ inr (omega (arith, w.if-kept-gt0.false), w.without_blanks-is)
    ] in
    let long : length more ≤ length content = elim taken [
      | inl (none, is) ↦ omega (arith, ap length is, trimmed_fits content)
      | inr (some, is) ↦ omega (arith, ap length is)
    ] in
    let size = length-slice text line.start line.end here.end_after_start (omega (arith, here.stop_after_end, here.within, ap length was.same_text)) in
    record {
      same_text = steps.same_text ∙ was.same_text;
      fits = omega (arith, was.fits, long, size, here.start, here.end_after_start, here.stop_after_end, steps.after);
      so_far = measured_more c.loop-line.joined c.loop-line.without_blanks _ _ more content (contents (lines_left c.next.new.self)) (without_breaks text) taken last kept (rw left at was.so_far);
    }
