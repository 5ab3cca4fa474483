use Rattle.std.proofs.Common.{arith}
use Rattle.quoted_printable.proofs.Rooms.{encoding_fits}
use Rattle.quoted_printable.proofs.encode.text_room.Goals as goal

pub returns-clause-enough : goal.returns-clause-enough
returns-clause-enough c =
    omega (
      arith,
      encoding_fits c.args.octets.now,
      c.escaped_count-escaped.ensures.number,
      c.saturating_mul.ensures,
      c.saturating_add-tokens.ensures,
      c.saturating_mul-2.ensures,
      c.saturating_add.ensures,
    )
