use Rattle.depot.proofs.Ended.{shut_done, shut_failed}
use Rattle.depot.proofs.closing.close.Goals as goal

pub returns-in-Ok-close_files : goal.returns-in-Ok-close_files
returns-in-Ok-close_files g c =
    let all = c.in-Ok-close_files.ensures in
    record { shut = shut_done c.args.opened c.in-Ok.depot c.release.result c.in-Ok-close_files.files c.in-Ok.is c.release.ensures all.given all.open all.holds }

pub returns-in-Ok : goal.returns-in-Ok
returns-in-Ok g c =
    let all = c.in-Err-close_files.ensures in
    record { shut = shut_failed c.args.opened c.in-Ok.depot c.release.result c.in-Err-close_files.last c.in-Ok.is c.release.ensures all.closed all.survives }
