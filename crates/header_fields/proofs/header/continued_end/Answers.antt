use Rattle.std.proofs.Common.{ap, ◌∙◌}
use Rattle.header_fields.proofs.Continuations.{continuing_none, continuing_more, continuation_stands}
use Rattle.header_fields.proofs.header.continued_end.Goals as goal

pub continuations-init : goal.continuations-init
continuations-init c = record {
  here = c.requires.here;
  some = c.requires.some;
  same_text = ap (λ u. u.text) c.requires.next;
  place = ap (λ u. u.place) c.requires.next;
  so_far = continuing_none c.args.text.now c.args.line c.args.lines.now c.requires.here;
}

pub continuations-preserved : goal.continuations-preserved
continuations-preserved c =
    let was = c.continuations.invariant in
    let more = c.in-Some.ensures in
    let stands = continuation_stands c.args.text.now c.in-Some.next c.continuations.lines c.next_continuation.new.lines was.same_text more in record {
      here = stands.0;
      some = stands.1;
      same_text = more.first.same_text ∙ was.same_text;
      place = more.first.after;
      so_far = continuing_more c.args.text.now c.args.line c.continuations.last c.in-Some.next c.args.lines.now c.continuations.lines c.next_continuation.new.lines
          was.here was.some was.same_text was.place more was.so_far;
    }
