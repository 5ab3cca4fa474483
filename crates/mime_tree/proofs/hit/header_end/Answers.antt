use Rattle.std.proofs.Common.{◌∙◌, [], sym, ap, if◌then◌else◌}
use Rattle.std.specs.List.{slice_range}
use Rattle.mime_tree.specs.OpenParts.{boundaries_in}
use Rattle.mime_tree.proofs.Meeting.{met_ends}
use Rattle.mime_tree.proofs.Heading.{header_cut, header_goes_on, header_ends}
use Rattle.mime_tree.proofs.hit.header_end.Goals as goal

pub returns-then-is_some : goal.returns-then-is_some
returns-then-is_some c =
    let opened = c.args.opened.now in
    let text = c.args.text.now in
    let line = c.in-Some.line in
    let hit = sym (met_ends opened (slice_range text line.start line.end) c.part_met.result c.part_met.ensures) ∙ sym c.is_some.ensures ∙ c.if-is_some.true in
    sym (header_cut (boundaries_in [] opened) text line c.lines.lines c.next.new.self c.lines.end c.lines.invariant.same_text c.in-Some.ensures.steps hit) ∙ c.lines.invariant.so_far

pub returns-then-first_ends : goal.returns-then-first_ends
returns-then-first_ends c =
    let opened = c.args.opened.now in
    let line = c.in-Some.line in
    sym (header_ends (boundaries_in [] opened) c.args.text.now line c.lines.lines c.next.new.self c.lines.end c.first_ends.result c.lines.invariant.same_text c.in-Some.ensures.steps c.if-line.true c.first_ends.ensures
    ∙ ap (λ b. if b then line.end else line.stop) c.if-first_ends.true) ∙ c.lines.invariant.so_far

pub returns-else-first_ends : goal.returns-else-first_ends
returns-else-first_ends c =
    let opened = c.args.opened.now in
    let line = c.in-Some.line in
    sym (header_ends (boundaries_in [] opened) c.args.text.now line c.lines.lines c.next.new.self c.lines.end c.first_ends.result c.lines.invariant.same_text c.in-Some.ensures.steps c.if-line.true c.first_ends.ensures
    ∙ ap (λ b. if b then line.end else line.stop) c.if-first_ends.false) ∙ c.lines.invariant.so_far

pub lines-preserved : goal.lines-preserved
lines-preserved c =
    let opened = c.args.opened.now in
    let text = c.args.text.now in
    let line = c.in-Some.line in
    let was = c.lines.invariant in
    let other = sym (met_ends opened (slice_range text line.start line.end) c.part_met.result c.part_met.ensures) ∙ sym c.is_some.ensures ∙ c.if-is_some.false in record {
      same_text = c.in-Some.ensures.steps.same_text ∙ was.same_text;
      so_far = sym (header_goes_on (boundaries_in [] opened) text line c.lines.lines c.next.new.self c.lines.end was.same_text c.in-Some.ensures.steps other c.if-line.false) ∙ was.so_far;
    }
