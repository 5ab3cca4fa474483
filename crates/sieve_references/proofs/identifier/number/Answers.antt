use Rattle.std.proofs.Common.{◌∙◌, sym}
use Rattle.sieve_references.proofs.Numbers.{reading_at}
use Rattle.sieve_references.proofs.identifier.number.Goals as goal

pub loop-octet-preserved : goal.loop-octet-preserved
loop-octet-preserved c =
    reading_at c.args.word.now c.loop-octet.value c.min-value.result c.loop-octet.octet-index c.loop-octet-test.true
    (sym c.is_ascii_digit.ensures.value ∙ c.if-not-is_ascii_digit.false) c.min-value.ensures c.loop-octet.invariant
