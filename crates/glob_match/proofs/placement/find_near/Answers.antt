use Rattle.std.proofs.Common.{◌≡◌, ◌+◌, ◌∙◌, sym, ap, drop, length, true, Some, arith}
use Rattle.std.proofs.lemmas.List.{drop-drop, length-drop, take_rest}
use Rattle.glob_match.specs.Containment.{begins_with}
use Rattle.glob_match.specs.Tokens.{tokens_of}
use Rattle.glob_match.proofs.Places.{place_of, place_once, ruled_out}
use Rattle.glob_match.proofs.Segmented.{length-tokens_of}
use Rattle.glob_match.proofs.placement.find_near.Goals as goal

pub places_before-before-requires-clause-room : goal.places_before-before-requires-clause-room
places_before-before-requires-clause-room c =
    let value = c.args.value.now in
    let place = c.places.place in
    omega (arith, c.places-test.true, c.min-end.ensures, c.saturating_sub.ensures, length-tokens_of c.args.segment.now, ap length (take_rest value place), length-drop place value)

pub returns-then-before-lt32 : goal.returns-then-before-lt32
returns-then-before-lt32 c =
    let value = c.args.value.now in
    let test = begins_with c.args.comparator (tokens_of c.args.segment.now) in
    let place = c.places.place in
    let n = c.places_before-before.result in
    let rest = take_rest value place in
    let there : test (drop (place + n) value) ≡ true =
    ap test (sym (ap (drop n) rest ∙ drop-drop n place value)) ∙ c.places_before-before.ensures.there c.if-before-lt32.true in
    place_once test value (Some (place + n)) _ (
      omega (arith, c.places-test.true, c.min-end.ensures, c.saturating_sub.ensures, c.if-before-lt32.true),
      there,
      ruled_out test value place n c.places.invariant (λ j less. ap test (ap (drop j) (sym rest)) ∙ c.places_before-before.ensures.before j less),
    )
    (place_of test value)

pub places-preserved : goal.places-preserved
places-preserved c =
    let value = c.args.value.now in
    let test = begins_with c.args.comparator (tokens_of c.args.segment.now) in
    let place = c.places.place in
    let rest = take_rest value place in
    ruled_out test value place 32 c.places.invariant
    (λ j less. ap test (ap (drop j) (sym rest)) ∙ c.places_before-before.ensures.before j (omega (arith, c.if-before-lt32.false)))
