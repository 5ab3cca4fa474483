use Rattle.std.proofs.Common.{refl}
use Rattle.header_fields.proofs.FieldLines.{lines_are}
use Rattle.header_fields.proofs.header.field_at.Goals as goal

pub returns : goal.returns
returns c =
    let text = c.args.text.now in
    let line = c.args.line in
    let ordered = c.requires.ordered in
    let found = c.in_ok-hash.ensures in
    let lines = lines_are text line.start line.end c.args.end ordered.0 ordered.1 ordered.2 found.0 in (
      (
        found.0,
        rw (c.new.ensures, lines.0, lines.1) refl,
      ),
      found.1,
    )
