use Rattle.std.proofs.Common.{◌∙◌, ap}
use Rattle.refusals.specs.Causes.{of_parser}
use Rattle.sieve_explain.proofs.TellingLemmas.{told_by_lexer}
use Rattle.sieve_explain.proofs.explaining.explain_fault.Goals as goal

pub returns-in_ok-text-in-Err : goal.returns-in_ok-text-in-Err
returns-in_ok-text-in-Err c = told_by_lexer c.args.source.now.name.now c.args.source.now.octets.now c.in-Err.error c.from-refusal.result
    c.in_ok-text-in-Err.text.items (c.from-refusal.ensures ∙ ap of_parser c.from.ensures) c.in-Err.ensures.refused c.in_ok-text-in-Err.ensures
