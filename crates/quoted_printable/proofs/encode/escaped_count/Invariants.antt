use Rattle.std.proofs.Common.{◌≡◌, ◌≤◌, false, length, not, take}
use Rattle.std.specs.List.{filter}
use Rattle.quoted_printable.specs.QuotedPrintable.{stands}
use Rattle.quoted_printable.proofs.encode.escaped_count.Given as goal

abbrev pub invariant-octets : goal.invariant-octets
invariant-octets l = (l.number ≤ l.octet-index) × (l.number ≡ length (filter (λ octet. not (stands octet false)) (take l.octet-index l.octets)))
