use Rattle.std.proofs.Common.{◌∙◌, ap, subst, sym}
use Rattle.mail_matching.specs.Private.{IsCounted}
use Rattle.mail_matching.specs.Questions.{found, texts_of}
use Rattle.mail_matching.specs.declared.finding.Finding.TheVariants.{NoneOf}
use Rattle.mail_matching.proofs.Asking.{found_so}
use Rattle.mail_matching.proofs.Pairs.{begins}
use Rattle.mail_matching.proofs.questions.ask_and_find.Goals as goal

pub returns-clause-found : goal.returns-clause-found
returns-clause-found g c =
    let most = c.args.most in
    let texts = texts_of (g.N.Texts.texts c.args.texts.names.now) (g.P.Texts.texts c.args.texts.params.now) (g.K.Texts.texts c.args.texts.keys.now) in
    let finding = found c.args.message.now c.args.current c.args.question texts in
    let told = ap (λ p. p.told) c.new-progress.ensures ∙ c.new.ensures in
    c.then_some-found.ensures
    ∙ found_so most finding c.ask.new.progress.told c.compares.result
    (c.compares.ensures c.args.message.now c.args.current texts c.requires.shown)
    (c.in_ok-cost.ensures.asked.found most (subst (λ f. IsCounted most (NoneOf 0) f) (sym told) (begins most)))
    c.in_ok-cost.ensures.asked.few
