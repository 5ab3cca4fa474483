use Rattle.std.proofs.Common.{◌-◌, Some, ap, subst, arith}
use Rattle.bytecode_verifier.specs.Shape.{take_texts}
use Rattle.bytecode_verifier.specs.Pass.{Takes}
use Rattle.bytecode_verifier.proofs.Taking.{number_within, joined}
use Rattle.bytecode_verifier.proofs.shape.Shape.join.Goals as goal

pub overflow_sub-octets : goal.overflow_sub-octets
overflow_sub-octets c =
    let within = number_within c.from.result c.in-Some.total c.take_texts.new.self (take_texts c.from.result c.args.self.now) c.in-Some.ensures.texts in
    omega (arith, within, c.from.ensures, c.from-2.ensures)

pub returns : goal.returns
returns c =
    let taken : Takes c.args.parts (Some c.in-Some.total) c.take_texts.new.self (take_texts c.args.parts c.args.self.now) =
    subst (λ n. Takes n (Some c.in-Some.total) c.take_texts.new.self (take_texts n c.args.self.now)) c.from.ensures c.in-Some.ensures.texts in
    rw c.then_some.ensures
    (joined c.args.parts c.in-Some.total _ c.min.result c.in_ok-fine.fine c.take_texts.new.self c.push.new.self (take_texts c.args.parts c.args.self.now) taken (ap (λ n. c.in-Some.total - n) c.from-2.ensures) c.min.ensures c.in_ok-fine.ensures)
