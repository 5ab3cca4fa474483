use Rattle.glob_match.specs.Captures.{texts}
use Rattle.mail_matching.specs.FirstMatch.{first_key}
use Rattle.mail_matching.proofs.Keeping.{sets_none}
use Rattle.mail_matching.proofs.comparing.first_key_of_lent.Goals as goal

pub returns-in_err-copied-in-Sets-clause-no_memory : goal.returns-in_err-copied-in-Sets-clause-no_memory
returns-in_err-copied-in-Sets-clause-no_memory g c = λ free keeps.
    absurd (sets_none (first_key c.args.how c.args.value.now (g.K.Texts.texts c.args.keys.now)) (texts c.args.value.now c.in-Sets.stretches) keeps c.in-Sets.ensures.captures)
