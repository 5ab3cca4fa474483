use Rattle.std.proofs.Common.{◌≡◌, ◌∙◌, ◌∷◌, [], inl, inr, true, not, ap, subst, sym, IfSome}
use Rattle.bytecode_format.specs.Questions.{row_of}
use Rattle.bytecode_format.specs.declared.question.Question.{Question}
use Rattle.mime_decode.specs.Mail.{Part}
use Rattle.mail_matching.specs.Outcomes.{HasAsked}
use Rattle.mail_matching.specs.Questions.{IsDecidedAs, IsShown, TakesNoMemory, asked, compares, current, decides, looked_cost, need_of, of_part, texts_of}
use Rattle.mail_matching.proofs.Asking.{asked_so, if_ok_so}
use Rattle.mail_matching.proofs.questions.ask.Goals as goal

pub unwrap-value-requires : goal.unwrap-value-requires
unwrap-value-requires g c =
    let keyless : not (row_of c.args.question).takes.keys ≡ true =
    elim c.in-Constant.is [
      | inl (value, is) ↦ ap (λ (q : Question). not (row_of q).takes.keys) is
      | inr (inl (scope, is)) ↦ ap (λ (q : Question). not (row_of q).takes.keys) is
      | inr (inr (inl (order, number, is))) ↦ ap (λ (q : Question). not (row_of q).takes.keys) is
      | inr (inr (inr (order, number, is))) ↦ ap (λ (q : Question). not (row_of q).takes.keys) is
    ] in
    c.decide.ensures.keys ∙ keyless

pub returns-in-Constant-clause-asked : goal.returns-in-Constant-clause-asked
returns-in-Constant-clause-asked g c =
    let mail = c.args.message.now in
    let part = c.args.current in
    let names = g.N.Texts.texts c.args.texts.names.now in
    let params = g.P.Texts.texts c.args.texts.params.now in
    let keys = g.K.Texts.texts c.args.texts.keys.now in
    let texts = texts_of names params keys in
    let decided = subst (λ o. IfSome o (λ r. IsDecidedAs mail part c.args.question names r.0 r.1)) c.unwrap-value.ensures c.decide.ensures.value in
    asked_so g.T.Telling.knows (decides c.unwrap-value.result.0) (asked mail part c.args.question texts) keys c.unwrap-value.result.1 (looked_cost mail part c.args.question texts) c.args.progress.now c.decide-in-Constant.new.self c.decide-in-Constant.result
    (sym (decided.asks params keys)) (sym (decided.costs params keys)) (c.decide-in-Constant.ensures keys)

pub returns-in-PartBody-clause-asked : goal.returns-in-PartBody-clause-asked
returns-in-PartBody-clause-asked g c =
    let mail = c.args.message.now in
    let part = c.args.current in
    let keys = g.K.Texts.texts c.args.texts.keys.now in
    let texts = texts_of (g.N.Texts.texts c.args.texts.names.now) (g.P.Texts.texts c.args.texts.params.now) keys in
    let so = ap (λ q. asked mail part q texts) c.in-PartBody.is in
    let costs = ap (λ q. looked_cost mail part q texts) c.in-PartBody.is in
    let body = of_part (λ (p : Part). compares c.in-PartBody.how (p.content ∷ [])) (current mail part) in
    let known = subst (λ q. IsShown (need_of q) (current mail part) c.args.shown) c.in-PartBody.is c.requires.shown in
    if_ok_so c.part_body.result _ (λ cost. HasAsked g.T.Telling.knows (asked mail part c.args.question texts) keys (looked_cost mail part c.args.question texts) c.args.progress.now c.part_body.new.progress cost) c.part_body.ensures.asked
    (λ cost has. asked_so g.T.Telling.knows body (asked mail part c.args.question texts) keys 0 (looked_cost mail part c.args.question texts) c.args.progress.now c.part_body.new.progress cost (sym so) (sym costs) (has (current mail part) known))

pub returns-in-PartBody-clause-no_memory : goal.returns-in-PartBody-clause-no_memory
returns-in-PartBody-clause-no_memory g c = λ free takes.
    let mail = c.args.message.now in
    let part = c.args.current in
    let texts = texts_of (g.N.Texts.texts c.args.texts.names.now) (g.P.Texts.texts c.args.texts.params.now) (g.K.Texts.texts c.args.texts.keys.now) in
    let known = subst (λ q. IsShown (need_of q) (current mail part) c.args.shown) c.in-PartBody.is c.requires.shown in
    c.part_body.ensures.no_memory free (current mail part) known (subst (λ q. TakesNoMemory mail part q texts c.args.shown) c.in-PartBody.is takes)
