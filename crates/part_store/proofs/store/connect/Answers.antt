use Rattle.std.proofs.Common.{Bool, cond, List, ℕ, ◌∙◌, ap, ap₂}
use Rattle.sqlite_disk.specs.Events.{Event, replay}
use Rattle.sqlite.specs.Recovery.{Image}
use Rattle.sqlite.specs.WalFiles.{image_at}
use Rattle.part_store.proofs.Opened.{left_alone, tells}
use Rattle.part_store.proofs.store.connect.Goals as goal

abbrev image : List ℕ → List ℕ → Image
image log db = record { log = log; db = db }

abbrev seen : List ℕ → List ℕ → Bool → List Event → List ℕ
seen log db is_log history = (replay (cond is_log log db) history).seen

pub returns-clause-found : goal.returns-clause-found
returns-clause-found g c =
    let told = c.in-Err.ensures in
    let start = λ (is_log : Bool). cond is_log g.B.Start.log g.B.Start.db in (
      c.in-Err.field-0-1,
      tells (image_at g.B.Start) _ _ (λ files log db. ap₂ image (ap₂ (seen g.B.Start.log g.B.Start.db) log.0 log.1) (ap₂ (seen g.B.Start.log g.B.Start.db) db.0 db.1))
          (λ files log db other may. ap₂ image (left_alone _ _ _ _ log.1 other.log may.0 ∙ ap start log.0) (left_alone _ _ _ _ db.1 other.db may.1 ∙ ap start db.0))
          c.in-Err.field-0-1 c.in-Err.error told.unopened told.cause,
    )
