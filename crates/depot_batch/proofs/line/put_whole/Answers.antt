use Rattle.std.proofs.Common.{rules}
use Rattle.std.proofs.lemmas.Result.{on_err_weaker}
use Rattle.depot_batch.proofs.LineLemmas.{broken_after}
use Rattle.depot_batch.proofs.line.put_whole.Goals as goal

pub returns : goal.returns
returns g c = record {
  ok = search rules;
  err = on_err_weaker c.flush.result (λ failed. broken_after _ _ _ _ c.in_ok-put_printed.ensures.ok failed) c.flush.ensures.err;
}
