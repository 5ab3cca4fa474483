use Rattle.std.proofs.Common.{◌++◌, ◌∷◌, [], ap, sym}
use Rattle.depot_batch.proofs.Objects.{short_done}
use Rattle.depot_batch.proofs.values.short_done.Goals as goal

pub returns : goal.returns
returns c = ap (λ text. text ++ 10 ∷ []) (sym short_done)
