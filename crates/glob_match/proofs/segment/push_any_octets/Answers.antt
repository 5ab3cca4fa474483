use Rattle.std.proofs.Common.{◌≡◌, ◌+◌, ◌∙◌, ◌∷◌, suc, ap, sym, length, arith}
use Rattle.glob_match.specs.Segments.{any_places, with_stretches}
use Rattle.glob_match.specs.Tokens.{tokens_of}
use Rattle.glob_match.proofs.Added.{any_added, none_added, with_none}
use Rattle.glob_match.proofs.segment.push_any_octets.Goals as goal
use Rattle.glob_match.proofs.segment.push_any_octets.Goals.{in-AnyOctet, in_default-token}

pub tokens-preserved : goal.tokens-preserved
tokens-preserved c =
    let key = tokens_of c.tokens.tokens.now in
    let rest = tokens_of c.in-Some.rest.now in
    let is = c.in-Some.ensures.tokens in
    let count : length key ≡ suc (length rest) = ap length is in
    elim c.match-token.branch [
      | in-AnyOctet w ↦ (
        omega (arith, w.push.ensures.few, ap length w.captures-is),
        omega (arith, c.tokens.invariant.1),
        ap (λ stretches. with_stretches stretches (any_places (c.tokens.place + 1) rest)) w.captures-is
            ∙ any_added c.tokens.place key rest c.tokens.captures w.push.new.self (is ∙ ap (λ t. t ∷ rest) w.in-AnyOctet.is) w.push.ensures.places
            ∙ c.tokens.invariant.2,
      )
      | in_default-token w ↦ (
        omega (arith, c.tokens.invariant.0, ap length w.captures-is),
        omega (arith, c.tokens.invariant.1),
        ap (λ stretches. with_stretches stretches (any_places (c.tokens.place + 1) rest)) w.captures-is
            ∙ none_added c.tokens.place key rest c.tokens.captures c.in-Some.token is w.in_default-token.not-AnyOctet
            ∙ c.tokens.invariant.2,
      )
    ]

pub returns-clause-places : goal.returns-clause-places
returns-clause-places c =
    sym (with_none c.tokens.captures c.tokens.invariant.0)
    ∙ ap (λ key. with_stretches c.tokens.captures (any_places c.tokens.place (tokens_of key))) (sym c.in_default.ensures.tokens)
    ∙ c.tokens.invariant.2

pub returns-clause-end : goal.returns-clause-end
returns-clause-end c =
    omega (arith, c.tokens.invariant.1, ap (λ key. length (tokens_of key)) c.in_default.ensures.tokens)
