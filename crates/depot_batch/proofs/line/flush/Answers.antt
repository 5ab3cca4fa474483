use Rattle.std.proofs.Common.{[], rules}
use Rattle.devices.proofs.Outputs.{broken_at_place, taken_none}
use Rattle.depot_batch.proofs.line.flush.Goals as goal

pub returns-in-Err : goal.returns-in-Err
returns-in-Err g c = record { ok = tt; err = broken_at_place [] 0 (taken_none _) (search rules) }
