use Rattle.std.proofs.Common.{◌∙◌}
use Rattle.sieve_compiler.proofs.NumberingLemmas.{string_added}
use Rattle.sieve_compiler.proofs.tables.Tables.add_strings.Goals as goal

pub loop-string-preserved : goal.loop-string-preserved
loop-string-preserved c =
    string_added c.loop-string.self c.add_string.new.self c.args.strings.now c.loop-string.string-index c.string-item.result c.deref.result.now
    c.loop-string-test.true c.string-item.is c.deref.ensures.value c.in_ok-add_string.ensures ∙ c.loop-string.invariant
