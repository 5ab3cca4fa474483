use Rattle.std.proofs.Common.{◌++◌, ◌∷◌, [], ap, sym}
use Rattle.depot_batch.proofs.Objects.{short_refused, short_wrong}
use Rattle.depot_batch.proofs.values.short_line.Goals as goal

pub returns-in-Refused : goal.returns-in-Refused
returns-in-Refused c = rw c.in-Refused.is (ap (λ text. text ++ 10 ∷ []) (sym (short_refused c.in-Refused.field-0)))

pub returns-in-Wrong : goal.returns-in-Wrong
returns-in-Wrong c = rw c.in-Wrong.is (ap (λ text. text ++ 10 ∷ []) (sym short_wrong))
