use Rattle.std.specs.Cow.{cow_slice_items}
use Rattle.glob_match.specs.Captures.{texts}
use Rattle.mail_matching.specs.FirstMatch.{first_key}
use Rattle.mail_matching.proofs.Keeping.{sets_none}
use Rattle.mail_matching.proofs.comparing.first_key.Goals as goal

pub returns-in_err-new-in-Sets-clause-no_memory : goal.returns-in_err-new-in-Sets-clause-no_memory
returns-in_err-new-in-Sets-clause-no_memory g c = λ free keeps.
    let value = cow_slice_items c.args.value.now in
    absurd (sets_none (first_key c.args.how value (g.K.Texts.texts c.args.keys.now)) (texts value c.in-Sets.stretches) keeps (rw c.as_slice.ensures.value at c.in-Sets.ensures.captures))
