use Rattle.std.proofs.Common.{Err, Ok, refl, subst}
use Rattle.part_store.specs.Transacting.{Transacts}
use Rattle.part_store.specs.declared.within.Undone.TheVariants.{Refused}
use Rattle.part_store.proofs.store.PartStore.transact.Goals as goal
use Rattle.part_store.proofs.store.PartStore.transact.Goals.{in-Ok-commit, in-Err-commit}

pub returns-in-Err : goal.returns-in-Err
returns-in-Err g c =
    let does = g.W.Work.does c.args.work in
    let mid = c.run_within.new.tx.conn.now in
    let given = Err c.in-Err.refusal in
    subst (λ h. Transacts g.S.Store h c.drop-tx.new.self.0 (Err (Refused c.in-Err.refusal)) does) c.self.view_is (record {
      mid = mid;
      given = given;
      does = subst (λ h. does h mid given) c.begin-tx.ensures.begun c.in-Err.ensures.does;
      settled = c.begin-tx.ensures.settled;
      ends = (refl, c.drop-tx.ensures.undone, c.drop-tx.ensures.survives);
    })

pub returns : goal.returns
returns g c =
    let does = g.W.Work.does c.args.work in
    let mid = c.run_within.new.tx.conn.now in
    let given = Ok c.in-Ok.output in
    subst (λ h. Transacts g.S.Store h c.commit.new.self.0 c.match-commit.result does) c.self.view_is (record {
      mid = mid;
      given = given;
      does = subst (λ h. does h mid given) c.begin-tx.ensures.begun c.in-Ok.ensures.does;
      settled = c.begin-tx.ensures.settled;
      ends = (
        elim c.match-commit.branch [
          | in-Ok-commit w ↦ rw w.result-is (refl, λ clean. (w.in-Ok-commit.ensures.ok clean).1)
          | in-Err-commit w ↦ rw w.result-is (w.in-Err-commit.error, w.from.ensures, w.in-Err-commit.ensures.err)
        ],
        c.commit.ensures.survives,
      );
    })
