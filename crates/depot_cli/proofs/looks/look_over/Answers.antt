use Rattle.std.proofs.Common.{inl}
use Rattle.depot_cli.proofs.looks.look_over.Goals as goal

pub returns-in-Ok-clause-looked : goal.returns-in-Ok-clause-looked
returns-in-Ok-clause-looked g c = inl (c.in-Ok.seen, c.in-Ok.ensures.seen, c.show.ensures)
