use Rattle.std.proofs.Common.{arith, ap, length}
use Rattle.mail_matching.proofs.Lengths.{reading_in}
use Rattle.mail_matching.proofs.progress.Progress.take_field.Goals as goal

pub take_lent-requires-clause-lent : goal.take_lent-requires-clause-lent
take_lent-requires-clause-lent g c = omega (arith, ap length c.main_of.ensures, (reading_in c.args.field.now).main, c.requires.field)

pub take_lent-requires-in-Sub-clause-lent : goal.take_lent-requires-in-Sub-clause-lent
take_lent-requires-in-Sub-clause-lent g c = omega (arith, ap length c.sub_of.ensures, (reading_in c.args.field.now).sub, c.requires.field)

pub take-requires-clause-value : goal.take-requires-clause-value
take-requires-clause-value g c =
    omega (arith, ap length c.in_ok-content_type-in-ContentType.ensures, (reading_in c.args.field.now).content_type, c.requires.field)
