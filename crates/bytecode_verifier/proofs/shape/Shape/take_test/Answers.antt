use Rattle.std.proofs.Common.{Some, subst}
use Rattle.bytecode_format.specs.Questions.{counts_in}
use Rattle.bytecode_verifier.specs.Shape.{take_counted}
use Rattle.bytecode_verifier.specs.Pass.{TakesLists}
use Rattle.bytecode_verifier.proofs.Taking.{tested}
use Rattle.bytecode_verifier.proofs.shape.Shape.take_test.Goals as goal

pub returns : goal.returns
returns c =
    let taken : TakesLists c.counts_in-counts.result (Some c.in-Some.totals) c.take_lists.new.self (take_counted (counts_in c.args.test c.args.instruction.now) c.args.self.now) =
    subst (λ counts. TakesLists c.counts_in-counts.result (Some c.in-Some.totals) c.take_lists.new.self (take_counted counts c.args.self.now)) c.counts_in-counts.ensures c.in-Some.ensures.texts in
    rw c.then_some.ensures
    (tested c.args.test c.counts_in-counts.result c.in-Some.totals c.cap_of_test-cap.result c.in_ok-fine.fine c.take_lists.new.self c.push.new.self (take_counted (counts_in c.args.test c.args.instruction.now) c.args.self.now) taken c.cap_of_test-cap.ensures c.in_ok-fine.ensures)
