use Rattle.std.proofs.Common.{ap, arith, length}
use Rattle.sieve_trace.proofs.TokenLemmas.{few_tokens}
use Rattle.sieve_trace.proofs.places.token_places.Goals as goal

pub texts_of-requires-clause-few : goal.texts_of-requires-clause-few
texts_of-requires-clause-few c =
    let are = c.in_ok-tokens.ensures.tokens in
    let few = few_tokens c.args.script.now c.in_ok-tokens.tokens.items are.1 in
    let same = ap length c.deref.ensures.value in
    let short = are.0 in
    omega (arith, few, same, short)
