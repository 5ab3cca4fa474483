use Rattle.std.proofs.Common.{◌∷◌, [], inl, inr, subst, sym}
use Rattle.mime_decode.specs.Mail.{Part}
use Rattle.mail_matching.specs.Outcomes.{HasAsked}
use Rattle.mail_matching.specs.Questions.{compares}
use Rattle.mail_matching.proofs.Asking.{content_takes, no_content}
use Rattle.mail_matching.proofs.part_tests.part_body.Goals as goal

pub returns-in_default-clause-asked : goal.returns-in_default-clause-asked
returns-in_default-clause-asked g c = λ part known.
    let keys = g.K.Texts.texts c.args.keys.now in
    subst (λ asked. HasAsked g.T.Telling.knows asked keys 0 c.args.progress.now c.decide.new.self c.decide.result)
    (sym (no_content (λ (p : Part). compares c.args.how (p.content ∷ [])) part c.args.shown c.in_default.not-Content known))
    (c.decide.ensures keys)

pub returns-in-Content-clause-no_memory : goal.returns-in-Content-clause-no_memory
returns-in-Content-clause-no_memory g c = λ free part known takes.
    elim (content_takes c.args.how (g.K.Texts.texts c.args.keys.now) part c.args.shown c.in-Content.content c.in-Content.is known takes) [
      | inl keeps ↦ c.body.ensures.no_memory free keeps
      | inr lent ↦ c.body.ensures.lent free lent
    ]
