use Rattle.std.proofs.Common.{◌≡◌, ◌<◌, ◌^◌, length}
use Rattle.bytecode_listing.specs.Readers.{decimal_on}
use Rattle.bytecode_listing.proofs.items.decimal_of.Given as goal

abbrev pub invariant-digits : goal.invariant-digits
invariant-digits l = (decimal_on l.value l.rest ≡ decimal_on 0 l.word) × (l.value < 2 ^ 64)

abbrev pub decreases-digits : goal.decreases-digits
decreases-digits l = length l.rest
