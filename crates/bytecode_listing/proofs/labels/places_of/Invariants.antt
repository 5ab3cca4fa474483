use Rattle.std.proofs.Common.{◌≡◌, [], take, drop}
use Rattle.bytecode_listing.specs.Labels.{count, double_after}
use Rattle.bytecode_listing.specs.Readers.{IsPlaces}
use Rattle.bytecode_listing.proofs.labels.places_of.Given as goal

abbrev pub invariant-lines : goal.invariant-lines
invariant-lines l = record {
  counted : l.place ≡ count (take l.line-index l.lines);
  known : IsPlaces l.places (take l.line-index l.lines);
  single : double_after (take l.line-index l.lines) (drop l.line-index l.lines) ≡ double_after [] l.lines;
}
