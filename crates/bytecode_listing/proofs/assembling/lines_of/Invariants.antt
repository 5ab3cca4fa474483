use Rattle.std.proofs.Common.{◌≡◌, length}
use Rattle.bytecode_listing.specs.Tokens.{tokens_of}
use Rattle.bytecode_listing.specs.Labels.{count}
use Rattle.bytecode_listing.specs.Items.{is_left, line_at, all_at}
use Rattle.bytecode_listing.proofs.Loop.{from_place, with_prefix}
use Rattle.bytecode_listing.proofs.assembling.lines_of.Given as goal

abbrev pub invariant-table : goal.invariant-table
invariant-table l = record {
  counted : count l.lines.items ≡ l.place;
  all : with_prefix l.lines.items (from_place is_left line_at l.lines.items (tokens_of l.rest)) ≡ all_at is_left line_at (tokens_of l.octets);
}

abbrev pub decreases-table : goal.decreases-table
decreases-table l = length (tokens_of l.rest)
