use Rattle.std.proofs.Common.{◌≡◌, ◌+◌, ◌*◌, ◌≤◌, ◌∙◌, ◌∷◌, ap, sym, length, drop, None, arith}
use Rattle.std.proofs.lemmas.List.{take_rest}
use Rattle.glob_match.specs.Segments.{with_places}
use Rattle.glob_match.specs.declared.token.Token.TheVariants.{Star}
use Rattle.glob_match.specs.Containment.{begins_with, first_place}
use Rattle.glob_match.specs.Matching.{least_fit}
use Rattle.glob_match.specs.Tokens.{tokens_of}
use Rattle.std.specs.Option.{option_map}
use Rattle.glob_match.proofs.Searched.{ended_literals, placed, placed_within, searched_more, split_end, split_lengths, split_next}
use Rattle.glob_match.proofs.Steps.{next_fails}
use Rattle.glob_match.proofs.matching.match_after_star.Goals as goal

pub returns-in_default-clause-places : goal.returns-in_default-clause-places
returns-in_default-clause-places c =
    let segment = c.split_segment.result.0.now in
    let start = c.segments.start in
    let tokens = split_end c.segments.rest.now segment c.split_segment.result.1 c.in_default.is c.split_segment.ensures.tokens in
    c.match_end-fits.ensures
    ∙ ap (λ key. option_map (with_places c.segments.captures start (Star ∷ key)) (least_fit c.args.comparator (Star ∷ key) (drop start c.args.value.now))) (sym tokens)
    ∙ c.segments.invariant.answer

pub returns-in_default-clause-least : goal.returns-in_default-clause-least
returns-in_default-clause-least c = λ fits.
    let segment = c.split_segment.result.0.now in
    let tokens = split_end c.segments.rest.now segment c.split_segment.result.1 c.in_default.is c.split_segment.ensures.tokens in
    ended_literals c.args.comparator c.args.value.now c.args.key.now _ c.segments.rest.now c.segments.captures c.segments.start c.segments.gone_over
    c.segments.invariant segment c.split_segment.ensures.no_star tokens

pub returns-in_default-place-clause-places : goal.returns-in_default-place-clause-places
returns-in_default-place-clause-places c =
    let value = c.args.value.now in
    let segment = c.split_segment.result.0.now in
    let start = c.segments.start in
    let tokens = split_next c.segments.rest.now segment c.split_segment.result.1 c.in-Some.next c.in-Some.is c.split_segment.ensures.tokens in
    let nowhere : None ≡ first_place (begins_with c.args.comparator (tokens_of segment)) (drop start value) =
    sym c.in_default-place.is ∙ c.find_segment-place.ensures.place ∙ ap (first_place (begins_with c.args.comparator (tokens_of segment))) (take_rest value start) in
    next_fails c.args.comparator value (tokens_of segment) c.split_segment.ensures.no_star start c.segments.captures c.segments.invariant.within
    (Star ∷ tokens_of c.in-Some.next.now) nowhere
    ∙ ap (λ key. option_map (with_places c.segments.captures start (Star ∷ key)) (least_fit c.args.comparator (Star ∷ key) (drop start value))) (sym tokens)
    ∙ c.segments.invariant.answer

pub overflow_add-start : goal.overflow_add-start
overflow_add-start c =
    omega (
      arith,
      placed_within c.args.comparator c.args.value.now c.args.key.now _ c.segments.rest.now c.segments.captures c.segments.start c.segments.gone_over
          c.segments.invariant c.split_segment.result.0.now c.split_segment.ensures.no_star c.in-Some-place.place c.find_segment-place.result.0 c.in-Some-place.is c.find_segment-place.ensures.place,
    )

pub push_placed-start-requires-clause-room : goal.push_placed-start-requires-clause-room
push_placed-start-requires-clause-room c =
    omega (
      arith,
      placed_within c.args.comparator c.args.value.now c.args.key.now _ c.segments.rest.now c.segments.captures c.segments.start c.segments.gone_over
          c.segments.invariant c.split_segment.result.0.now c.split_segment.ensures.no_star c.in-Some-place.place c.find_segment-place.result.0 c.in-Some-place.is c.find_segment-place.ensures.place,
    )

pub segments-preserved : goal.segments-preserved
segments-preserved c =
    let value = c.args.value.now in
    let segment = c.split_segment.result.0.now in
    let start = c.segments.start in
    let no_star = c.split_segment.ensures.no_star in
    let k = c.in-Some-place.place in
    let found = c.find_segment-place.result.0 in
    let tokens = split_next c.segments.rest.now segment c.split_segment.result.1 c.in-Some.next c.in-Some.is c.split_segment.ensures.tokens in
    let lengths = split_lengths c.segments.rest.now segment c.split_segment.result.1 c.in-Some.next c.in-Some.is c.split_segment.ensures.lengths in
    let most : c.find_segment-place.result.1 ≤ (length (drop start value) + 1) * (length segment + 1) =
    omega (arith, c.find_segment-place.ensures.most, ap (λ v. (length v + 1) * (length segment + 1)) (take_rest value start)) in
    let place = placed c.args.comparator value c.args.key.now _ c.segments.rest.now c.segments.captures start c.segments.gone_over c.segments.invariant segment no_star
    k found c.in-Some-place.is c.find_segment-place.ensures.place in
    searched_more c.args.comparator value c.args.key.now _ c.segments.rest.now c.segments.captures start c.segments.gone_over c.segments.invariant
    segment no_star c.in-Some.next.now tokens lengths c.find_segment-place.result.1 most c.find_segment-place.ensures.least
    k c.push_placed-start.result place c.push_placed-start.ensures.end c.push_placed-start.new.captures c.push_placed-start.ensures.few c.push_placed-start.ensures.places
