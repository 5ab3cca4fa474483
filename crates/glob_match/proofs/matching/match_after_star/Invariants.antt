use Rattle.std.proofs.Common.{◌∷◌, length, drop}
use Rattle.std.specs.Option.{option_map}
use Rattle.glob_match.specs.Segments.{with_places}
use Rattle.glob_match.specs.declared.token.Token.TheVariants.{Star}
use Rattle.glob_match.specs.Matching.{least_fit}
use Rattle.glob_match.specs.Tokens.{tokens_of}
use Rattle.glob_match.proofs.Searched.{IsSearched}
use Rattle.glob_match.proofs.matching.match_after_star.Given as goal

abbrev pub invariant-segments : goal.invariant-segments
invariant-segments l =
    let wanted = option_map (with_places l.initial.captures l.initial.start (Star ∷ tokens_of l.initial.rest)) (least_fit l.comparator (Star ∷ tokens_of l.initial.rest) (drop l.initial.start l.value)) in
    IsSearched l.comparator l.value l.initial.rest wanted l.rest l.captures l.start l.gone_over

abbrev pub decreases-segments : goal.decreases-segments
decreases-segments l = length l.rest
