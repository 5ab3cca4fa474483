use Rattle.std.proofs.Common.{◌≡◌, ◌≢◌, ◌∙◌, [], ◌∷◌, ap, length, sym, arith}
use Rattle.std.proofs.lemmas.Bool.{eqb-true, eqb-false}
use Rattle.glob_match.specs.Captures.{stretch_at}
use Rattle.glob_match.specs.Matching.{max_captures}
use Rattle.glob_match.specs.Segments.{with_stretches}
use Rattle.glob_match.specs.declared.captures.Stretch.{Stretch}
use Rattle.glob_match.proofs.Added.{pushed, full}
use Rattle.glob_match.proofs.captures.Captures.push.Goals as goal

pub returns-then-not-is_full-clause-places : goal.returns-then-not-is_full-clause-places
returns-then-not-is_full-clause-places c =
    let stretch : Stretch = record { start = c.args.start; end = c.args.end } in
    let room : length c.self.inside.stretches.items ≢ max_captures = eqb-false _ _ (sym c.if-not-is_full.ensures.value) in
    c.push.ensures.items
    ∙ pushed c.self.inside.stretches.items stretch _ (omega arith) (ap (stretch_at c.args.start) c.min-kept.ensures)
    ∙ ap (λ items. with_stretches items (stretch ∷ [])) c.self.view_is

pub returns-else-not-is_full-clause-places : goal.returns-else-not-is_full-clause-places
returns-else-not-is_full-clause-places c =
    let room : length c.self.inside.stretches.items ≡ max_captures = eqb-true _ _ (sym c.if-not-is_full.ensures.value) in
    full c.args.self.now (record { start = c.args.start; end = c.args.end } ∷ []) (sym (ap length c.self.view_is) ∙ room)
