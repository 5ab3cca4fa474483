use Rattle.std.proofs.Common.{◌≡◌, ◌≤◌, ◌<◌, ◌∙◌, suc, ap, sym, subst, refl, length, drop, ℕ, true, false, arith}
use Rattle.glob_match.specs.Containment.{begins_with}
use Rattle.glob_match.specs.Segments.{NoStar, marked}
use Rattle.glob_match.specs.Tokens.{tokens_of}
use Rattle.glob_match.proofs.Marks.{all_marked, every_place, every_place_is, first_none, none_marked, no_star_rest, places_before, places_few, places_none, places_there}
use Rattle.glob_match.proofs.lanes.places_before.Goals as goal

pub tokens-init : goal.tokens-init
tokens-init c =
    let test = begins_with c.args.comparator (tokens_of c.args.segment.now) in
    (c.requires.room, c.requires.no_star, refl, ap (λ all. marked test all c.args.value.now) (sym every_place_is))

pub returns-then-not-any_kept-clause-before : goal.returns-then-not-any_kept-clause-before
returns-then-not-any_kept-clause-before c =
    let test = begins_with c.args.comparator (tokens_of c.args.segment.now) in
    let next = begins_with c.args.comparator (tokens_of c.in-Some.rest.now) in
    let marks = c.kept_by-kept.result in
    let after = drop 1 c.tokens.octets.now in
    let so_far : marked test every_place c.args.value.now ≡ marked next marks after =
    c.tokens.invariant.3 ∙ ap (λ key. marked (begins_with c.args.comparator key) c.tokens.kept c.tokens.octets.now) c.in-Some.ensures.tokens
    ∙ c.kept_by-kept.ensures.marks (tokens_of c.in-Some.rest.now) in
    let none = none_marked next marks after (sym c.any_kept.ensures ∙ c.if-not-any_kept.true) in
    places_none test c.args.value.now (marked next marks after) so_far (first_none next marks after none ∙ c.kept_by-kept.ensures.lanes)

pub tokens-preserved : goal.tokens-preserved
tokens-preserved c =
    let is = c.in-Some.ensures.tokens in
    let rest = tokens_of c.in-Some.rest.now in
    let count : length (tokens_of c.tokens.tokens.now) ≡ suc (length rest) = ap length is in (
      omega (arith, c.tokens.invariant.0, c.split_at.ensures.back_len),
      no_star_rest c.in-Some.token rest (subst NoStar is c.tokens.invariant.1),
      c.kept_by-kept.ensures.lanes,
      c.tokens.invariant.3 ∙ ap (λ key. marked (begins_with c.args.comparator key) c.tokens.kept c.tokens.octets.now) is
          ∙ c.kept_by-kept.ensures.marks rest ∙ ap (marked (begins_with c.args.comparator rest) c.kept_by-kept.result) (sym c.split_at.ensures.back),
    )

pub returns-clause-few : goal.returns-clause-few
returns-clause-few c =
    let test = begins_with c.args.comparator (tokens_of c.args.segment.now) in
    let so_far : marked test every_place c.args.value.now ≡ c.tokens.kept =
    c.tokens.invariant.3 ∙ ap (λ key. marked (begins_with c.args.comparator (tokens_of key)) c.tokens.kept c.tokens.octets.now) c.in_default.ensures.tokens
    ∙ all_marked c.tokens.kept c.tokens.octets.now in
    subst (λ n. n ≤ 32) (sym c.before_kept.ensures) (places_few test c.args.value.now c.tokens.kept so_far)

pub returns-clause-before : goal.returns-clause-before
returns-clause-before c =
    let test = begins_with c.args.comparator (tokens_of c.args.segment.now) in
    let so_far : marked test every_place c.args.value.now ≡ c.tokens.kept =
    c.tokens.invariant.3 ∙ ap (λ key. marked (begins_with c.args.comparator (tokens_of key)) c.tokens.kept c.tokens.octets.now) c.in_default.ensures.tokens
    ∙ all_marked c.tokens.kept c.tokens.octets.now in
    subst (λ n. (j : ℕ) → j < n → test (drop j c.args.value.now) ≡ false) (sym c.before_kept.ensures) (places_before test c.args.value.now c.tokens.kept so_far)

pub returns-clause-there : goal.returns-clause-there
returns-clause-there c =
    let test = begins_with c.args.comparator (tokens_of c.args.segment.now) in
    let so_far : marked test every_place c.args.value.now ≡ c.tokens.kept =
    c.tokens.invariant.3 ∙ ap (λ key. marked (begins_with c.args.comparator (tokens_of key)) c.tokens.kept c.tokens.octets.now) c.in_default.ensures.tokens
    ∙ all_marked c.tokens.kept c.tokens.octets.now in
    subst (λ n. n < 32 → test (drop n c.args.value.now) ≡ true) (sym c.before_kept.ensures) (places_there test c.args.value.now c.tokens.kept so_far)
