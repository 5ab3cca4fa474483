use Rattle.std.proofs.Common.{◌∙◌, ap, ◌++◌, sym}
use Rattle.sieve_lexer.specs.Classes.{continues_identifier}
use Rattle.sieve_references.proofs.Runs.{run_passes, run_ends, run_whole}
use Rattle.sieve_references.proofs.run.word.Goals as goal

pub returns-in_err-end : goal.returns-in_err-end
returns-in_err-end c =
    rw c.from_residual.ensures
    (run_whole continues_identifier c.args.text.now c.word_len.result c.word_len.ensures (sym c.split_at.ensures.back ∙ c.in_err-end.ensures))

pub returns : goal.returns
returns c =
    let front = run_passes continues_identifier c.args.text.now c.word_len.result c.word_len.ensures in (
      rw (c.split_at.ensures.front) front,
      run_ends continues_identifier c.args.text.now c.word_len.result c.in_ok-end.end c.in_ok-end.after.now c.word_len.ensures (sym c.split_at.ensures.back ∙ c.in_ok-end.ensures),
      c.split_at.ensures.by_index.0 ∙ ap (λ l. c.split_at.result.0.now ++ l) c.in_ok-end.ensures,
    )
