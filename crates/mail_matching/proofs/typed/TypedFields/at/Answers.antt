use Rattle.std.proofs.Common.{ap, arith, length}
use Rattle.mail_matching.proofs.Typing.{of_place}
use Rattle.mail_matching.proofs.typed.TypedFields.at.Goals as goal

pub invariant_of-result : goal.invariant_of-result
invariant_of-result c =
    of_place c.self.inside.fields.now c.self.inside.types.now c.args.place c.at.result (omega (arith, c.requires, ap length c.self.view_is))
    c.at.ensures c.self.invariant
