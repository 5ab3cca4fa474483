use Rattle.sieve_explain.proofs.TellingLemmas.{told_by_parser}
use Rattle.sieve_explain.proofs.explaining.explain_tokens.Goals as goal

pub returns-in_ok-text-in-Err : goal.returns-in_ok-text-in-Err
returns-in_ok-text-in-Err c = told_by_parser c.args.source.now.name.now c.args.source.now.octets.now c.in-Err.error c.from-refusal.result
    c.in_ok-text-in-Err.text.items c.from-refusal.ensures c.in-Err.ensures.refused c.in_ok-text-in-Err.ensures
