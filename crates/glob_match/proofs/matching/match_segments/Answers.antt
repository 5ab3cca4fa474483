use Rattle.std.proofs.Common.{◌≡◌, ℕ, ◌+◌, ◌∙◌, ◌∷◌, [], ap, sym, drop, length, Some, arith}
use Rattle.std.specs.Bool.{then_some}
use Rattle.std.specs.Option.{option_map}
use Rattle.glob_match.specs.declared.token.Token.TheVariants.{Star}
use Rattle.glob_match.specs.Captures.{capture_places, cut, whole}
use Rattle.glob_match.specs.Matching.{least_fit}
use Rattle.glob_match.specs.Segments.{any_places, with_places, with_stretches}
use Rattle.glob_match.specs.Tokens.{literals, tokens_of}
use Rattle.glob_match.proofs.Plain.{begins_length}
use Rattle.glob_match.proofs.Searched.{split_end, split_next}
use Rattle.glob_match.proofs.Segmented.{length-tokens_of}
use Rattle.glob_match.proofs.Steps.{first_fails, first_found, whole_fits, whole_fails, literals-append, literals_most, split_tokens}
use Rattle.glob_match.proofs.matching.match_segments.Goals as goal

wide : (end n : ℕ) → end ≡ 0 + n → end ≡ n
wide end n is = omega (arith, is)

pub returns-then-not-begins_with-clause-places : goal.returns-then-not-begins_with-clause-places
returns-then-not-begins_with-clause-places c =
    let value = c.args.value.now in
    let segment = c.split_segment.result.0.now in
    let (more, tokens) = split_tokens (tokens_of c.args.key.now) (tokens_of segment) c.split_segment.result.1 c.split_segment.ensures.tokens in
    first_fails c.args.comparator value (tokens_of segment) c.split_segment.ensures.no_star more (sym c.begins_with.ensures ∙ c.if-not-begins_with.true)
    ∙ ap (λ key. option_map (capture_places value key) (least_fit c.args.comparator key value)) (sym tokens)

pub push_any_octets-end-requires-clause-room : goal.push_any_octets-end-requires-clause-room
push_any_octets-end-requires-clause-room c =
    omega (
      arith,
      length-tokens_of c.split_segment.result.0.now,
      begins_length c.args.comparator (tokens_of c.split_segment.result.0.now) c.args.value.now (sym c.begins_with.ensures ∙ c.if-not-begins_with.false),
    )

pub match_after_star-fits-requires-clause-within : goal.match_after_star-fits-requires-clause-within
match_after_star-fits-requires-clause-within c =
    omega (arith, (wide c.push_any_octets-end.result (length (tokens_of c.split_segment.result.0.now)) c.push_any_octets-end.ensures.end), begins_length c.args.comparator (tokens_of c.split_segment.result.0.now) c.args.value.now (sym c.begins_with.ensures ∙ c.if-not-begins_with.false))

pub returns-then-not-fits-clause-places : goal.returns-then-not-fits-clause-places
returns-then-not-fits-clause-places c =
    let value = c.args.value.now in
    let segment = tokens_of c.split_segment.result.0.now in
    let rest = Star ∷ tokens_of c.in-Some.rest.now in
    let there = sym c.begins_with.ensures ∙ c.if-not-begins_with.false in
    let tokens = split_next c.args.key.now c.split_segment.result.0.now c.split_segment.result.1 c.in-Some.rest c.in-Some.is c.split_segment.ensures.tokens in
    let first : c.push_any_octets-end.new.captures ≡ with_stretches (cut (whole value) ∷ []) (any_places 0 segment) =
    c.push_any_octets-end.ensures.places ∙ ap (λ cs. with_stretches cs (any_places 0 segment)) c.of_value-captures.ensures.places in
    ap (λ fits. then_some fits c.match_after_star-fits.new.captures) (sym c.if-not-fits.true) ∙ c.match_after_star-fits.ensures.places
    ∙ ap (λ cs. option_map (with_places cs c.push_any_octets-end.result rest) (least_fit c.args.comparator rest (drop c.push_any_octets-end.result value))) first
    ∙ ap (λ n. option_map (with_places (with_stretches (cut (whole value) ∷ []) (any_places 0 segment)) n rest) (least_fit c.args.comparator rest (drop n value))) (wide c.push_any_octets-end.result (length (tokens_of c.split_segment.result.0.now)) c.push_any_octets-end.ensures.end)
    ∙ first_found c.args.comparator value segment c.split_segment.ensures.no_star rest there
    ∙ ap (λ key. option_map (capture_places value key) (least_fit c.args.comparator key value)) (sym tokens)

pub returns-else-not-fits-clause-places : goal.returns-else-not-fits-clause-places
returns-else-not-fits-clause-places c =
    let value = c.args.value.now in
    let segment = tokens_of c.split_segment.result.0.now in
    let rest = Star ∷ tokens_of c.in-Some.rest.now in
    let there = sym c.begins_with.ensures ∙ c.if-not-begins_with.false in
    let tokens = split_next c.args.key.now c.split_segment.result.0.now c.split_segment.result.1 c.in-Some.rest c.in-Some.is c.split_segment.ensures.tokens in
    let first : c.push_any_octets-end.new.captures ≡ with_stretches (cut (whole value) ∷ []) (any_places 0 segment) =
    c.push_any_octets-end.ensures.places ∙ ap (λ cs. with_stretches cs (any_places 0 segment)) c.of_value-captures.ensures.places in
    ap (λ fits. then_some fits c.match_after_star-fits.new.captures) (sym c.if-not-fits.false) ∙ c.match_after_star-fits.ensures.places
    ∙ ap (λ cs. option_map (with_places cs c.push_any_octets-end.result rest) (least_fit c.args.comparator rest (drop c.push_any_octets-end.result value))) first
    ∙ ap (λ n. option_map (with_places (with_stretches (cut (whole value) ∷ []) (any_places 0 segment)) n rest) (least_fit c.args.comparator rest (drop n value))) (wide c.push_any_octets-end.result (length (tokens_of c.split_segment.result.0.now)) c.push_any_octets-end.ensures.end)
    ∙ first_found c.args.comparator value segment c.split_segment.ensures.no_star rest there
    ∙ ap (λ key. option_map (capture_places value key) (least_fit c.args.comparator key value)) (sym tokens)

pub returns-else-not-fits-clause-least : goal.returns-else-not-fits-clause-least
returns-else-not-fits-clause-least c =
    let segment = c.split_segment.result.0.now in
    let rest = tokens_of c.in-Some.rest.now in
    let tokens = split_next c.args.key.now segment c.split_segment.result.1 c.in-Some.rest c.in-Some.is c.split_segment.ensures.tokens in
    let least = c.match_after_star-fits.ensures.least c.if-not-fits.false in
    omega (arith, least, ap literals tokens, literals-append (tokens_of segment) (Star ∷ rest), literals_most (tokens_of segment), length-tokens_of segment)

pub returns-in-None-clause-places : goal.returns-in-None-clause-places
returns-in-None-clause-places c =
    let value = c.args.value.now in
    let segment = tokens_of c.split_segment.result.0.now in
    let there = sym c.begins_with.ensures ∙ c.if-not-begins_with.false in
    let end = begins_length c.args.comparator segment value there in
    let tokens = split_end c.args.key.now c.split_segment.result.0.now c.split_segment.result.1 c.in-None.is c.split_segment.ensures.tokens in
    let first : c.push_any_octets-end.new.captures ≡ with_stretches (cut (whole value) ∷ []) (any_places 0 segment) =
    c.push_any_octets-end.ensures.places ∙ ap (λ cs. with_stretches cs (any_places 0 segment)) c.of_value-captures.ensures.places in
    ap Some first
    ∙ whole_fits c.args.comparator value segment c.split_segment.ensures.no_star there (sym c.if-end-value.true ∙ (wide c.push_any_octets-end.result (length (tokens_of c.split_segment.result.0.now)) c.push_any_octets-end.ensures.end))
    ∙ ap (λ key. option_map (capture_places value key) (least_fit c.args.comparator key value)) (sym tokens)

pub returns-in-None-clause-least : goal.returns-in-None-clause-least
returns-in-None-clause-least c =
    let segment = c.split_segment.result.0.now in
    let tokens = split_end c.args.key.now segment c.split_segment.result.1 c.in-None.is c.split_segment.ensures.tokens in
    omega (arith, ap literals tokens, literals_most (tokens_of segment), length-tokens_of segment)

pub returns-in-None-2-clause-places : goal.returns-in-None-2-clause-places
returns-in-None-2-clause-places c =
    let value = c.args.value.now in
    let segment = tokens_of c.split_segment.result.0.now in
    let tokens = split_end c.args.key.now c.split_segment.result.0.now c.split_segment.result.1 c.in-None-2.is c.split_segment.ensures.tokens in
    whole_fails c.args.comparator value segment c.split_segment.ensures.no_star (λ long. c.if-end-value.false ((wide c.push_any_octets-end.result (length (tokens_of c.split_segment.result.0.now)) c.push_any_octets-end.ensures.end) ∙ sym long))
    ∙ ap (λ key. option_map (capture_places value key) (least_fit c.args.comparator key value)) (sym tokens)
