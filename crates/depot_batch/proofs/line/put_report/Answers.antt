use Rattle.depot_batch.specs.Said.{InFull, InLines, InShort}
use Rattle.depot_batch.proofs.LineLemmas.{put_as}
use Rattle.depot_batch.proofs.line.put_report.Goals as goal

pub returns-in-Plain : goal.returns-in-Plain
returns-in-Plain g c = rw c.in-Plain.is (record { wording = InLines; suits = tt; put = c.put_whole.ensures })

pub returns-in-Ok : goal.returns-in-Ok
returns-in-Ok g c =
    rw c.in-Json.is (record {
      wording = InFull;
      suits = tt;
      put = put_as c.in-Ok.ensures c.put_whole-in-Ok.ensures;
    })

pub returns-in-Err : goal.returns-in-Err
returns-in-Err g c =
    rw c.in-Json.is (record {
      wording = InShort;
      suits = tt;
      put = put_as c.short_line.ensures c.put_whole-in-Err.ensures;
    })
