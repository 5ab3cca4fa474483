use Rattle.std.proofs.Common.{refl}
use Rattle.sqlite.specs.WalFiles.{image_at}
use Rattle.part_store.proofs.Opened.{shows_found, was_opened}
use Rattle.part_store.proofs.store.PartStore+FileStore+FileFrom+B.look_from.Goals as goal

pub returns-clause-opened : goal.returns-clause-opened
returns-clause-opened g c = was_opened (image_at g.B.Start) c.reach.result (c.reach.ensures.finds refl)

pub returns-clause-found : goal.returns-clause-found
returns-clause-found g c = shows_found (image_at g.B.Start) c.reach.result (c.reach.ensures.finds refl)
