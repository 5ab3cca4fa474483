use Rattle.std.proofs.Common.{◌∙◌, ap, map, List, Vec, Global}
use Rattle.std.specs.List.{flat_map}
use Rattle.part_store.specs.declared.entry.EntryRow.{EntryRow}
use Rattle.depot_batch.specs.Private.{filed_by}
use Rattle.depot_batch.specs.Said.{InFull, InLines, InShort, filed_in}
use Rattle.depot_batch.proofs.LineLemmas.{put_as}
use Rattle.depot_batch.proofs.together.put_filed.Goals as goal

pub returns-in-Plain : goal.returns-in-Plain
returns-in-Plain g c = rw c.in-Plain.is (record { wording = InLines; suits = tt; put = c.put_whole.ensures })

pub returns-in-Ok : goal.returns-in-Ok
returns-in-Ok g c =
    rw c.in-Json.is (record {
      wording = InFull;
      suits = tt;
      put = put_as (c.in-Ok.ensures ∙ ap (λ (replies : List (Vec EntryRow Global)). flat_map (filed_in InFull) (map filed_by replies)) c.deref.ensures.value) c.put_whole-in-Ok.ensures;
    })

pub returns-in-Err : goal.returns-in-Err
returns-in-Err g c = rw c.in-Json.is (record { wording = InShort; suits = tt; put = c.put_whole-in-Err.ensures })
