use Rattle.std.proofs.Common.{◌∙◌, ◌∷◌, ◌++◌, ap, sym}
use Rattle.sieve_references.specs.Reading.{is_not_dollar}
use Rattle.sieve_references.proofs.Runs.{run_passes, run_ends, run_whole, is_dollar}
use Rattle.sieve_references.proofs.run.up_to_dollar.Goals as goal

pub returns-in_err-_dollar : goal.returns-in_err-_dollar
returns-in_err-_dollar c =
    rw c.from_residual.ensures
    (run_whole is_not_dollar c.args.text.now c.plain_len.result c.plain_len.ensures (sym c.split_at.ensures.back ∙ c.in_err-_dollar.ensures))

pub returns : goal.returns
returns c =
    let front = run_passes is_not_dollar c.args.text.now c.plain_len.result c.plain_len.ensures in
    let dollar = is_dollar c.in_ok-_dollar._dollar (run_ends is_not_dollar c.args.text.now c.plain_len.result c.in_ok-_dollar._dollar c.in_ok-_dollar.after.now c.plain_len.ensures (sym c.split_at.ensures.back ∙ c.in_ok-_dollar.ensures)) in (
      rw (c.split_at.ensures.front) front,
      c.split_at.ensures.by_index.0 ∙ ap (λ l. c.split_at.result.0.now ++ l) (c.in_ok-_dollar.ensures ∙ ap (λ x. x ∷ c.in_ok-_dollar.after.now) dollar),
    )
