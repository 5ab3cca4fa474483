use Rattle.std.proofs.Common.{◌≡◌, ◌++◌, take}
use Rattle.header_fields.proofs.field.append.Given as goal

abbrev pub invariant-piece : goal.invariant-piece
invariant-piece l = l.octets.items ≡ l.initial.octets.items ++ take l.octet-index l.piece
