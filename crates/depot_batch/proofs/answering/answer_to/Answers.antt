use Rattle.std.proofs.Common.{refl}
use Rattle.depot_batch.specs.Said.{OfExport}
use Rattle.depot_batch.proofs.answering.answer_to.Goals as goal

pub returns-in-Ok-export-clause-done : goal.returns-in-Ok-export-clause-done
returns-in-Ok-export-clause-done g c =
    rw c.in-Export.is (OfExport c.in-Export.wanted.number, record { outcome = refl; lines = refl; told = refl }, (refl, c.in-Ok-export.ensures.done))
