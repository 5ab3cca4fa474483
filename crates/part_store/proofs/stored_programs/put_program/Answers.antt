use Rattle.part_store.specs.Inside.{IsInside}
use Rattle.part_store.specs.Private.{PutsUser}
use Rattle.part_store.specs.Refusals.{OnlyWhenFailedOrNoUserRoom}
use Rattle.std.proofs.Common.{subst}
use Rattle.part_store.proofs.Putting.{program_line}
use Rattle.part_store.proofs.stored_programs.put_program.Goals as goal

pub returns : goal.returns
returns g c =
    subst (λ change. PutsUser g.S.Store c.args.tx.now.conn c.put_line.new.tx.conn c.put_line.result change IsInside (OnlyWhenFailedOrNoUserRoom c.args.user.now change)) (program_line c.args.user.now c.args.program.now) c.put_line.ensures
