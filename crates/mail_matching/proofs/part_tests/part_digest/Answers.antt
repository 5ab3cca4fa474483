use Rattle.std.proofs.Common.{◌∷◌, [], subst, sym}
use Rattle.mime_decode.specs.Mail.{Part}
use Rattle.mime_decode.specs.Content.{digest_of}
use Rattle.mail_matching.specs.PartTests.{exactly}
use Rattle.mail_matching.specs.Outcomes.{HasAsked}
use Rattle.mail_matching.specs.Questions.{compares}
use Rattle.mail_matching.proofs.Asking.{no_digest}
use Rattle.mail_matching.proofs.part_tests.part_digest.Goals as goal

pub returns-in_default-clause-asked : goal.returns-in_default-clause-asked
returns-in_default-clause-asked g c = λ part known.
    let keys = g.K.Texts.texts c.args.keys.now in
    subst (λ asked. HasAsked g.T.Telling.knows asked keys 0 c.args.progress.now c.decide.new.self c.decide.result)
    (sym (no_digest (λ (p : Part). compares exactly (digest_of p.content ∷ [])) part c.args.shown c.in_default.not-Digest known))
    (c.decide.ensures keys)
