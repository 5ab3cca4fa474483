use Rattle.std.proofs.Common.{◌≡◌, ◌++◌, ◌+◌, ◌∙◌, ap, sym, arith, inl, inr, length, take, take_all}
use Rattle.std.proofs.lemmas.Bool.{eqb-true, eqb-false}
use Rattle.std.proofs.lemmas.List.{length-append, length-take}
use Rattle.std.specs.List.{slice_range}
use Rattle.octets.specs.Blank.{without_leading_blanks, without_trailing_blanks}
use Rattle.text_lines.specs.Lines.{lines_left}
use Rattle.header_fields.specs.Header.{contents, without_breaks}
use Rattle.header_fields.proofs.Continuations.{lines_from}
use Rattle.header_fields.proofs.Starts.{all_joined, filled}
use Rattle.header_fields.proofs.Trimming.{joined_more}
use Rattle.header_fields.proofs.field.joined.Goals as goal
use Rattle.header_fields.proofs.field.joined.Goals.{then-is_empty, else-is_empty}

pub loop-line-preserved : goal.loop-line-preserved
loop-line-preserved c =
    let text = c.args.text.now in
    let was = c.loop-line.invariant in
    let steps = c.in-Some.ensures.steps in
    let value = c.loop-line.start.items in
    let more = c.if-is_empty.more.now in
    let n = c.min-in-loop-line.result in
    let left = ap contents (lines_from text c.in-Some.line c.loop-line.line-iterator c.next.new.self was.same_text steps) in
    let joined = joined_more value more (slice_range text c.in-Some.line.start c.in-Some.line.end) (contents (lines_left c.next.new.self))
    (without_leading_blanks (without_breaks text)) (elim c.if-is_empty.branch [
      | then-is_empty w ↦ inl (sym c.loop-line.start.ok.0 ∙ eqb-true _ _ (sym c.is_empty.ensures ∙ w.if-is_empty.true), ap (λ x. x.now) w.more-is ∙ w.trim_leading_blanks-more.ensures)
      | else-is_empty w ↦ inr (omega (arith, c.loop-line.start.ok.0, eqb-false _ _ (sym c.is_empty.ensures ∙ w.if-is_empty.false)), ap (λ x. x.now) w.more-is)
    ]) was.trimmed (rw left at was.so_far) in
    let items = c.in_ok-append.ensures in
    let front = c.split_at.ensures.front in
    let long : length c.append.new.octets.items ≡ length value + length (take n more) = ap length items ∙ length-append value c.split_at.result.0.now ∙ ap (λ t. length value + length t) front in
    let full : n ≡ length more =
    omega (
      arith,
      long,
      length-take n more,
      c.min-in-loop-line.ensures,
      c.len.ensures,
      c.loop-line.start.ok.0,
      c.append.new.octets.ok.0,
      c.len-in-loop-line.ensures,
      c.if-len-most.false,
      was.few,
    ) in
    let all = items ∙ ap (λ t. value ++ t) (front ∙ ap (λ k. take k more) full ∙ take_all (length more) more (omega arith)) in
    record {
      same_text = steps.same_text ∙ was.same_text;
      few = omega (arith, long, length-take n more, c.min-in-loop-line.ensures, c.len.ensures, c.loop-line.start.ok.0, was.few);
      trimmed = rw all joined.0;
      so_far = rw all joined.1;
    }

pub returns-then-len-most : goal.returns-then-len-most
returns-then-len-most c =
    let text = c.args.text.now in
    let was = c.loop-line.invariant in
    let steps = c.in-Some.ensures.steps in
    let value = c.loop-line.start.items in
    let more = c.if-is_empty.more.now in
    let n = c.min-in-loop-line.result in
    let rest = contents (lines_left c.next.new.self) in
    let left = ap contents (lines_from text c.in-Some.line c.loop-line.line-iterator c.next.new.self was.same_text steps) in
    let joined = joined_more value more (slice_range text c.in-Some.line.start c.in-Some.line.end) rest
    (without_leading_blanks (without_breaks text)) (elim c.if-is_empty.branch [
      | then-is_empty w ↦ inl (sym c.loop-line.start.ok.0 ∙ eqb-true _ _ (sym c.is_empty.ensures ∙ w.if-is_empty.true), ap (λ x. x.now) w.more-is ∙ w.trim_leading_blanks-more.ensures)
      | else-is_empty w ↦ inr (omega (arith, c.loop-line.start.ok.0, eqb-false _ _ (sym c.is_empty.ensures ∙ w.if-is_empty.false)), ap (λ x. x.now) w.more-is)
    ]) was.trimmed (rw left at was.so_far) in
    let items = c.in_ok-append.ensures ∙ ap (λ t. value ++ t) c.split_at.ensures.front in
    let size : length (value ++ take n more) ≡ c.args.most = sym (ap length items) ∙ sym c.append.new.octets.ok.0 ∙ sym c.len-in-loop-line.ensures ∙ c.if-len-most.true in
    c.without_last_blanks.ensures ∙ ap without_trailing_blanks items
    ∙ filled c.args.most n value more rest (without_breaks text) joined.0 joined.1 (omega (arith, c.min-in-loop-line.ensures)) size

pub returns : goal.returns
returns c =
    let was = c.loop-line.invariant in
    c.without_last_blanks-2.ensures
    ∙ all_joined c.args.most c.loop-line.start.items (contents (lines_left c.loop-line.line-iterator)) (without_breaks c.args.text.now) was.trimmed (ap contents c.in-None.ensures.steps.none) was.so_far was.few
