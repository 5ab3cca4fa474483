use Rattle.std.proofs.Common.{sym}
use Rattle.quoted_printable.proofs.Held.{release_other}
use Rattle.quoted_printable.proofs.decoder.release.Goals as goal

pub returns-clause-read : goal.returns-clause-read
returns-clause-read c =
    release_other c.args.out.now.items _ c.args.held.now c.args.rest.now c.requires.held (sym c.if-has_digit.ensures) c.requires.stops c.requires.some c.if-rest-eq10.false c.in_ok-extend_from_slice.ensures.items
