use Rattle.std.proofs.Common.{sym, ◌∙◌}
use Rattle.mail_matching.proofs.comparing.contains_by_bigrams.Goals as goal

pub returns-else-may_contain : goal.returns-else-may_contain
returns-else-may_contain c =
    c.if-may_contain.false
    ∙ sym (c.may_contain.ensures c.if-may_contain.false c.args.comparator c.args.value.now c.requires.bigrams)
