use Rattle.std.proofs.Common.{◌≡◌, ◌∙◌, sym, ap, length, arith}
use Rattle.std.proofs.lemmas.Bool.Decides.{nat_tests}
use Rattle.glob_match.specs.Containment.{begins_with, first_place}
use Rattle.glob_match.specs.Tokens.{tokens_of}
use Rattle.glob_match.proofs.Plain.{empty_first, literal_tokens, too_short}
use Rattle.glob_match.proofs.placement.find_segment.Goals as goal

pub returns-then-is_empty-clause-place : goal.returns-then-is_empty-clause-place
returns-then-is_empty-clause-place c =
    let is = sym c.is_empty.ensures ∙ c.if-is_empty.true in
    let none : length c.args.segment.now ≡ 0 = grind (arith, nat_tests, is) in
    empty_first c.args.comparator c.args.segment.now c.args.value.now none

pub returns-then-width-value-clause-place : goal.returns-then-width-value-clause-place
returns-then-width-value-clause-place c =
    too_short c.args.comparator (tokens_of c.args.segment.now) c.args.value.now (omega (arith, c.width-width.ensures))

pub returns-then-not-has_special-clause-place : goal.returns-then-not-has_special-clause-place
returns-then-not-has_special-clause-place c =
    let segment = c.args.segment.now in
    let tokens = literal_tokens segment (sym c.has_special-2.ensures ∙ c.if-not-has_special.true) c.requires.no_star in
    c.find.ensures.place ∙ ap (λ key. first_place (begins_with c.args.comparator key) c.args.value.now) (sym tokens)
