use Rattle.std.proofs.Common.{◌≡◌, length, codes}
use Rattle.bytecode_listing.specs.Tokens.{tokens_of}
use Rattle.bytecode_listing.specs.Items.{begins_with, string_item, all_at}
use Rattle.bytecode_listing.proofs.Loop.{from_place, with_prefix}
use Rattle.bytecode_listing.proofs.assembling.strings_of.Given as goal

abbrev pub invariant-table : goal.invariant-table
invariant-table l = with_prefix l.strings.items (from_place (begins_with (codes "string")) string_item l.strings.items (tokens_of l.rest)) ≡ all_at (begins_with (codes "string")) string_item (tokens_of l.octets)

abbrev pub decreases-table : goal.decreases-table
decreases-table l = length (tokens_of l.rest)
