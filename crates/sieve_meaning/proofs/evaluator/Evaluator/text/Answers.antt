use Rattle.std.proofs.Common.{◌≡◌, ◌≤◌, ap, subst, sym, ◌∙◌, arith, length, take}
use Rattle.octets.specs.Limits.{max_string}
use Rattle.sieve_meaning.specs.Meaning.{expanded}
use Rattle.sieve_meaning.proofs.Joining.{cut_short, one_segment, only_segment}
use Rattle.sieve_meaning.proofs.evaluator.Evaluator.text.Goals as goal

pub returns-in-len1-clause-text : goal.returns-in-len1-clause-text
returns-in-len1-clause-text c = λ e stands.
    let one : length c.args.string.now ≡ 1 = omega (arith, c.in-len1.len_at_least, c.in-len1.len_below) in
    c.cut.ensures ∙ ap (take max_string) (c.value.ensures e stands) ∙ one_segment e c.segment-item.result
    ∙ ap (expanded e) (only_segment c.args.string.now c.segment-item.result one c.segment-item.is)

pub returns-in-len1-clause-short : goal.returns-in-len1-clause-short
returns-in-len1-clause-short c = subst (λ text. length text ≤ max_string) (sym c.cut.ensures) (cut_short c.value.result.now)
