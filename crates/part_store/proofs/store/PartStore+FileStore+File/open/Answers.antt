use Rattle.part_store.proofs.Opened.{ready_of}
use Rattle.part_store.proofs.store.PartStore+FileStore+File.open.Goals as goal

pub returns-clause-ready : goal.returns-clause-ready
returns-clause-ready c = ready_of _ c.open_from.result c.open_from.ensures.ready
