use Rattle.std.proofs.Common.{◌+◌, ◌∙◌, ◌++◌, ◌∷◌, ap, sym, take, arith}
use Rattle.std.proofs.lemmas.List.{take_rest}
use Rattle.glob_match.specs.Tokens.{tokens_of}
use Rattle.glob_match.specs.declared.token.Token.TheVariants.{Star}
use Rattle.glob_match.proofs.Segmented.{step_escaped, split_found, split_none}
use Rattle.glob_match.proofs.segment.split_segment.Goals as goal

pub returns-in-42-clause-tokens : goal.returns-in-42-clause-tokens
returns-in-42-clause-tokens c =
    let key = c.args.key.now in
    let e = split_found key c.octets.place c.octets.invariant c.octets-test.true c.in-42.is in
    e.0 ∙ ap (λ xs. tokens_of (take c.octets.place key) ++ Star ∷ tokens_of xs) (sym (take_rest key (c.octets.place + 1)))

pub returns-in-42-clause-no_star : goal.returns-in-42-clause-no_star
returns-in-42-clause-no_star c = (split_found c.args.key.now c.octets.place c.octets.invariant c.octets-test.true c.in-42.is).1

pub octets-preserved-in-92 : goal.octets-preserved-in-92
octets-preserved-in-92 c = omega (arith, c.octets.invariant, step_escaped c.args.key.now c.octets.place c.octets-test.true c.in-92.is)

pub returns-clause-no_star : goal.returns-clause-no_star
returns-clause-no_star c = split_none c.args.key.now c.octets.place c.octets.invariant c.octets-test.false
