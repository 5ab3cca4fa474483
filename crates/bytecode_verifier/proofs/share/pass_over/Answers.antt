use Rattle.bytecode_verifier.proofs.Shares.{shape_goes_on, share_found}
use Rattle.bytecode_verifier.proofs.share.pass_over.Goals as goal

pub returns-clause-share : goal.returns-clause-share
returns-clause-share c =
    let goes = shape_goes_on c.args.program.now c.args.place c.args.instruction.now c.of-operation.result c.in_ok-passed.passed c.args.shape.now c.advance.new.self
    c.requires.accepted c.requires.here c.of-operation.ensures c.requires.before c.in_ok-passed.ensures in
    share_found c.args.program.now c.args.place c.depth_at.result c.in_ok-passed.passed c.unwrap_or.result (c.depth_at.ensures c.args.program.now c.requires.nests) c.unwrap_or.ensures goes.1

pub returns-clause-after : goal.returns-clause-after
returns-clause-after c =
    let goes = shape_goes_on c.args.program.now c.args.place c.args.instruction.now c.of-operation.result c.in_ok-passed.passed c.args.shape.now c.advance.new.self
    c.requires.accepted c.requires.here c.of-operation.ensures c.requires.before c.in_ok-passed.ensures in
    goes.0
