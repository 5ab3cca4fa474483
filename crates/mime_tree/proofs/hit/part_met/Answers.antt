use Rattle.std.proofs.Common.{◌≡◌, ◌+◌, ◌==◌, ◌&&◌, ◌∙◌, sym, ap, length}
use Rattle.mime_tree.proofs.LengthsMet.{outside_met}
use Rattle.mime_tree.proofs.Meeting.{nothing_met, met_here, met_later, none_before}
use Rattle.mime_tree.proofs.hit.part_met.Goals as goal
use Rattle.mime_tree.proofs.hit.part_met.Goals.{then-preamble, else-preamble}

pub returns-in_default : goal.returns-in_default
returns-in_default c = nothing_met c.args.preamble c.args.opened.now c.args.line.now c.in_default.ensures

pub returns-then-not-allow : goal.returns-then-not-allow
returns-then-not-allow c =
    outside_met c.args.lengths c.args.preamble c.args.opened.now c.args.line.now c.in-Some.name.now (c.allow.ensures c.if-not-allow.true) c.in-Some.ensures c.requires

pub returns-in-Some-mark : goal.returns-in-Some-mark
returns-in-Some-mark c =
    let opened = c.args.opened.now in
    let place = c.loop-place.place in
    let waits : c.if-preamble.waits ≡ (c.args.preamble && (place + 1 == length opened)) = elim c.if-preamble.branch [
      | then-preamble w ↦ w.waits-is ∙ sym (ap (λ p. p && (place + 1 == length opened)) w.if-preamble.true)
      | else-preamble w ↦ w.waits-is ∙ w.if-preamble.false ∙ sym (ap (λ p. p && (place + 1 == length opened)) w.if-preamble.false)
    ] in
    met_here c.args.preamble c.if-preamble.waits opened place c.index-opened-place.result c.args.line.now c.in-Some.name.now c.in-Some-mark.mark
    c.loop-place-test.true c.index-opened-place.is waits (c.loop-place.invariant.none c.loop-place-test.true) c.in-Some.ensures (sym c.mark.ensures ∙ c.in-Some-mark.is)

pub loop-place-preserved : goal.loop-place-preserved
loop-place-preserved c =
    let opened = c.args.opened.now in
    let place = c.loop-place.place in
    let waits : c.if-preamble.waits ≡ (c.args.preamble && (place + 1 == length opened)) = elim c.if-preamble.branch [
      | then-preamble w ↦ w.waits-is ∙ sym (ap (λ p. p && (place + 1 == length opened)) w.if-preamble.true)
      | else-preamble w ↦ w.waits-is ∙ w.if-preamble.false ∙ sym (ap (λ p. p && (place + 1 == length opened)) w.if-preamble.false)
    ] in
    let none = sym c.mark.ensures ∙ c.in_default-mark.is in record {
      none = λ lt. none_before c.args.preamble c.if-preamble.waits opened place c.index-opened-place.result c.args.line.now c.in-Some.name.now lt c.index-opened-place.is waits c.in-Some.ensures none
          (c.loop-place.invariant.none c.loop-place-test.true);
      left = c.loop-place.invariant.left ∙ met_later c.args.preamble c.if-preamble.waits opened place c.index-opened-place.result c.args.line.now c.in-Some.name.now
          c.loop-place-test.true c.index-opened-place.is waits c.in-Some.ensures none;
    }
