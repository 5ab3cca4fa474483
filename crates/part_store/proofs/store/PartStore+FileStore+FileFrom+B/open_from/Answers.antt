use Rattle.sqlite.specs.WalFiles.{image_at}
use Rattle.part_store.proofs.Opened.{opens_held, opens_none}
use Rattle.part_store.proofs.store.PartStore+FileStore+FileFrom+B.open_from.Goals as goal

pub returns-clause-ready : goal.returns-clause-ready
returns-clause-ready g c = c.in_ok-reach_when_free.ensures.ready

pub returns-clause-found : goal.returns-clause-found
returns-clause-found g c clean held = opens_held (image_at g.B.Start) c.in_ok-reach_when_free.field-0 c.in_ok-reach_when_free.ensures.ready clean held

pub returns-clause-empty : goal.returns-clause-empty
returns-clause-empty g c clean none = opens_none (image_at g.B.Start) c.in_ok-reach_when_free.field-0 c.in_ok-reach_when_free.ensures.ready clean none
