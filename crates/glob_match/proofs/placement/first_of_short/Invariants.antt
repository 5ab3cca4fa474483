use Rattle.std.proofs.Common.{◌≡◌, ◌+◌, length}
use Rattle.std.specs.Option.{option_map}
use Rattle.glob_match.specs.Containment.{begins_with, first_place}
use Rattle.glob_match.specs.Tokens.{tokens_of}
use Rattle.glob_match.proofs.placement.first_of_short.Given as goal

abbrev pub invariant-places : goal.invariant-places
invariant-places l =
    let test = begins_with l.comparator (tokens_of l.segment) in
    (l.place + length l.octets ≡ length l.value)
    × (first_place test l.value ≡ option_map (λ n. n + l.place) (first_place test l.octets))

abbrev pub decreases-places : goal.decreases-places
decreases-places l = length l.octets
