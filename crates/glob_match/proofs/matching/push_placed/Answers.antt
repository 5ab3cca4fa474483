use Rattle.std.proofs.Common.{◌∙◌, ◌∷◌, [], ap}
use Rattle.glob_match.specs.Segments.{any_places, with_stretches}
use Rattle.glob_match.specs.Tokens.{tokens_of}
use Rattle.glob_match.proofs.Added.{with_stretches-append}
use Rattle.glob_match.proofs.matching.push_placed.Goals as goal

pub returns-clause-places : goal.returns-clause-places
returns-clause-places c =
    let any = any_places c.args.place (tokens_of c.args.segment.now) in
    c.push_any_octets.ensures.places
    ∙ ap (λ captures. with_stretches captures any) c.push.ensures.places
    ∙ with_stretches-append c.args.captures.now (record { start = c.args.start; end = c.args.place } ∷ []) any
