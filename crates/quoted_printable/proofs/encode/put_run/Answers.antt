use Rattle.std.proofs.Common.{◌<◌, false, length, get_or, sym, ap, ◌∙◌, arith}
use Rattle.std.proofs.lemmas.List.{get_or-take, length-take-le}
use Rattle.quoted_printable.specs.QuotedPrintable.{stands}
use Rattle.quoted_printable.proofs.Filling.{over_middle}
use Rattle.quoted_printable.proofs.encode.put_run.Goals as goal

pub returns-clause-stand : goal.returns-clause-stand
returns-clause-stand c = λ i lt.
    let few = c.min.ensures in
    let long = c.standing_len.ensures.few in
    let below : i < 32 = omega arith in
    sym (ap (λ l. stands (get_or l i 0) false) c.in-Some.ensures.cases.0 ∙ ap (λ x. stands x false) (get_or-take 32 c.args.octets.now i 0 below))
    ∙ c.standing_len.ensures.stand i (omega arith)

pub returns-clause-copied : goal.returns-clause-copied
returns-clause-copied c =
    let few = c.min.ensures in
    let long = c.standing_len.ensures.few in
    let line = c.told-line in
    let block = c.copy_from_slice.ensures.after ∙ c.in-Some.ensures.cases.0 in
    over_middle c.args.at c.min.result c.args.line.now c.args.octets.now c.copy_from_slice.new.self (omega arith)
    (ap length block ∙ length-take-le 32 c.args.octets.now (omega (arith, c.in-Some.ensures.cases.2)))
    (omega arith) block
