use Rattle.std.proofs.Common.{◌≡◌, ◌+◌, ◌∙◌, sym, ap, drop, length, true, Some, None, arith}
use Rattle.std.proofs.lemmas.Bool.{false_from_ne_true, true≢false}
use Rattle.std.proofs.lemmas.List.{drop-drop, length-drop, take_rest}
use Rattle.glob_match.specs.Containment.{begins_with}
use Rattle.glob_match.specs.Tokens.{tokens_of}
use Rattle.glob_match.proofs.Places.{place_of, place_once, ruled_out}
use Rattle.glob_match.proofs.Plain.{begins_length, too_short}
use Rattle.glob_match.proofs.placement.find_by_tokens.Goals as goal

pub returns-then-width-value-clause-place : goal.returns-then-width-value-clause-place
returns-then-width-value-clause-place c =
    too_short c.args.comparator (tokens_of c.args.segment.now) c.args.value.now (omega (arith, c.width-width.ensures))

pub returns-then-before-tried-clause-place : goal.returns-then-before-tried-clause-place
returns-then-before-tried-clause-place c =
    let value = c.args.value.now in
    let test = begins_with c.args.comparator (tokens_of c.args.segment.now) in
    let place = c.places.place in
    let n = c.places_tried-before.result.0 in
    let tried = c.places_tried-before.ensures in
    let rest = take_rest value place in
    let there : test (drop (place + n) value) ≡ true =
    ap test (sym (ap (drop n) rest ∙ drop-drop n place value)) ∙ tried.there c.if-before-tried.true in
    let long = begins_length c.args.comparator (tokens_of c.args.segment.now) (drop (place + n) value) there in
    place_once test value (Some (place + n)) _ (
      omega (arith, c.places-test.true, tried.within, c.if-before-tried.true, c.width-width.ensures, ap length rest, length-drop place value),
      there,
      ruled_out test value place n c.places.invariant.1 (λ j less. ap test (ap (drop j) (sym rest)) ∙ tried.before j less),
    )
    (place_of test value)

pub places-preserved : goal.places-preserved
places-preserved c =
    let value = c.args.value.now in
    let test = begins_with c.args.comparator (tokens_of c.args.segment.now) in
    let place = c.places.place in
    let tried = c.places_tried-before.ensures in
    let rest = take_rest value place in (
      omega (arith, c.places-test.true, tried.within, ap length rest, length-drop place value),
      ruled_out test value place c.places_tried-before.result.1 c.places.invariant.1
          (λ j less. ap test (ap (drop j) (sym rest)) ∙ tried.before j (omega (arith, c.if-before-tried.false))),
    )

pub returns-clause-place : goal.returns-clause-place
returns-clause-place c =
    let value = c.args.value.now in
    let key = tokens_of c.args.segment.now in
    let test = begins_with c.args.comparator key in
    place_once test value None _
    (λ j within. false_from_ne_true (test (drop j value)) (λ there.
    let long = begins_length c.args.comparator key (drop j value) there in
    absurd (true≢false (sym there ∙ c.places.invariant.1 j (omega (arith, c.places-test.false, c.width-width.ensures, long, length-drop j value))))))
    (place_of test value)
