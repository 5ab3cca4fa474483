use Rattle.std.proofs.Common.{◌≡◌, ◌∙◌, ◌-◌, ◌<◌, drop, length, subst, sym, arith}
use Rattle.sieve_references.specs.Reading.{octets_before}
use Rattle.sieve_references.specs.SegmentView.{segment_of}
use Rattle.sieve_references.proofs.Stretches.{end_of, segments_reference, segments_stretch, before_within, some_before}
use Rattle.sieve_references.proofs.segment.first_segment.Goals as goal

pub returns-in-Some : goal.returns-in-Some
returns-in-Some c = segments_reference c.args.text.now c.in-Some.rest.now (segment_of c.in-Some.reference) c.in-Some.ensures

pub split_at-requires : goal.split_at-requires
split_at-requires c = omega (arith, c.stretch_len.ensures, before_within c.args.text.now)

pub returns : goal.returns
returns c =
    let some : 0 < octets_before c.args.text.now = some_before c.args.text.now (sym c.is_empty.ensures ∙ c.if-is_empty.false) c.in_default.ensures in
    let taken : 0 < c.stretch_len.result = omega (arith, some, c.stretch_len.ensures) in
    let first = segments_stretch c.args.text.now c.stretch_len.result c.stretch_len.ensures taken in (
      rw (c.split_at.ensures.front, c.split_at.ensures.back) first,
      omega (arith, c.split_at.ensures.back_len, taken),
      subst (λ left. left ≡ drop (length c.args.text.now - length left) c.args.text.now) (sym c.split_at.ensures.back) (end_of c.stretch_len.result c.args.text.now),
    )
