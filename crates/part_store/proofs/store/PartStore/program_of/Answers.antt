use Rattle.std.proofs.Common.{subst}
use Rattle.part_store.specs.Access.{ReadsStore}
use Rattle.part_store.proofs.Afterwards.{undone}
use Rattle.part_store.proofs.RolledBack.{read_back}
use Rattle.part_store.proofs.store.PartStore.program_of.Goals as goal

pub returns-in_err-read_program-clause-reads : goal.returns-in_err-read_program-clause-reads
returns-in_err-read_program-clause-reads g c =
    let within = c.read_program.ensures.within in
    let drops = c.drop-tx.ensures in
    subst (λ h. ReadsStore g.S.Store h c.drop-tx.new.self.0 c.from_residual.result) c.self.view_is
    (read_back g.S.Store c.self.inside.conn _ c.read_program.new.tx.conn.now c.drop-tx.new.self.0 c.begin-tx.ensures.begun c.begin-tx.ensures.settled within.survives within.stays_closed within.kept drops.survives drops.undone c.from_residual.result (λ _. undone c.from_residual.result _ _ c.from_residual.ensures.1))
