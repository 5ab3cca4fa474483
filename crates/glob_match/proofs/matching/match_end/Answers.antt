use Rattle.std.proofs.Common.{◌≡◌, ◌+◌, ◌-◌, ◌∙◌, Some, ap, sym, length, arith}
use Rattle.std.proofs.lemmas.List.{take_rest}
use Rattle.glob_match.specs.Containment.{begins_with}
use Rattle.glob_match.specs.Tokens.{tokens_of}
use Rattle.glob_match.proofs.Steps.{end_short, end_fails, end_found}
use Rattle.glob_match.proofs.matching.match_end.Goals as goal

pub returns-then-width-value : goal.returns-then-width-value
returns-then-width-value c =
    end_short c.args.comparator c.args.value.now (tokens_of c.args.segment.now) c.requires.no_star c.args.start c.args.captures.now c.requires.within
    (omega (arith, c.width-width.ensures))

pub returns-then-not-begins_with : goal.returns-then-not-begins_with
returns-then-not-begins_with c =
    let value = c.args.value.now in
    let key = tokens_of c.args.segment.now in
    let place = length value - c.width-width.result in
    let long : place + length key ≡ length value = omega (arith, c.width-width.ensures, c.requires.within) in
    end_fails c.args.comparator value key c.requires.no_star c.args.start c.args.captures.now c.requires.within place long
    (ap (begins_with c.args.comparator key) (sym (take_rest value place)) ∙ sym c.begins_with.ensures ∙ c.if-not-begins_with.true)

pub returns : goal.returns
returns c =
    let value = c.args.value.now in
    let key = tokens_of c.args.segment.now in
    let place = length value - c.width-width.result in
    let long : place + length key ≡ length value = omega (arith, c.width-width.ensures, c.requires.within) in
    ap Some c.push_placed.ensures.places
    ∙ end_found c.args.comparator value key c.requires.no_star c.args.start c.args.captures.now c.requires.within place (omega (arith, c.requires.within)) long
    (ap (begins_with c.args.comparator key) (sym (take_rest value place)) ∙ sym c.begins_with.ensures ∙ c.if-not-begins_with.false)
