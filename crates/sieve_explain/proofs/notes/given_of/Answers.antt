use Rattle.sieve_explain.proofs.Naming.{given_more}
use Rattle.sieve_explain.proofs.notes.given_of.Goals as goal

pub loop-place-preserved : goal.loop-place-preserved
loop-place-preserved c =
    let found = c.in_ok-push_given.ensures in
    given_more c.args.source.now.octets.now c.args.raised c.args.tokens.now c.tokens_from-rest.result.now c.push_given.new.given.items c.loop-place.given.items
    c.loop-place.place _ c.named_by.result c.loop-place-test.true c.tokens_from-rest.ensures c.named_by.ensures found c.loop-place.invariant
