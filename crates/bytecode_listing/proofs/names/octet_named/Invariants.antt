use Rattle.std.proofs.Common.{◌≡◌, ◌-◌, ◌≤◌, drop}
use Rattle.bytecode_format.specs.Operations.{operations}
use Rattle.bytecode_listing.specs.Names.{named_among}
use Rattle.bytecode_listing.proofs.names.octet_named.Given as goal

abbrev pub invariant-table : goal.invariant-table
invariant-table l = (1 ≤ l.octet) × (l.octet ≤ 255) × (named_among l.octet (drop (l.octet - 1) operations) l.name ≡ named_among 1 operations l.name)

abbrev pub decreases-table : goal.decreases-table
decreases-table l = 256 - l.octet
