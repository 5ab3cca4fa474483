use Rattle.std.proofs.Common.{◌∙◌}
use Rattle.volumes.proofs.searching.last_at.Goals as goal

pub returns-in-Ok-clause-last : goal.returns-in-Ok-clause-last
returns-in-Ok-clause-last g c = λ sound earlier v later holds at. c.from.ensures ∙ c.in-Ok.ensures.last sound earlier v later holds at
