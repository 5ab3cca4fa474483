use Rattle.std.proofs.Common.{◌≡◌, ◌∙◌, ap, map, subst, ℕ, List, Vec, Global}
use Rattle.std.specs.Borrow.{Bor}
use Rattle.depot_batch.specs.Answers.{AreNoTexts}
use Rattle.depot_batch.specs.Asked.{AskNothing, Asks, Text}
use Rattle.depot_batch.specs.declared.line.Unasked.TheVariants as unasked
use Rattle.depot_batch.proofs.LineLemmas.{asked_reported, no_texts, nothing_asked, unasked_reported}
use Rattle.depot_batch.proofs.line.report_on.Goals as goal

pub returns-in-Ok-asked_by : goal.returns-in-Ok-asked_by
returns-in-Ok-asked_by g c =
    let path : map (λ (t : Bor Text). t.now) c.deref-in-Ok-texts.result.now ≡ map (λ (w : Vec ℕ Global). w.items) c.in-Ok.words.items =
    ap (map (λ (t : Bor Text). t.now)) c.deref-in-Ok-texts.ensures.value ∙ c.in-Ok-texts.ensures.texts ∙ ap (map (λ (w : Vec ℕ Global). w.items)) c.deref.ensures.value in
    asked_reported g.S.Store c.args.name.now c.args.line.now c.in-Ok-asked_by.asked c.report_of.result _ _ _ _
    (map (λ (w : Vec ℕ Global). w.items) c.in-Ok.words.items, c.in-Ok.ensures.words, subst (λ ws. Asks ws c.in-Ok-asked_by.asked) path c.in-Ok-asked_by.ensures.asks)
    c.report_of.ensures.come c.report_of.ensures.survives

pub returns-in-Ok-texts : goal.returns-in-Ok-texts
returns-in-Ok-texts g c =
    let path : map (λ (t : Bor Text). t.now) c.deref-in-Ok-texts.result.now ≡ map (λ (w : Vec ℕ Global). w.items) c.in-Ok.words.items =
    ap (map (λ (t : Bor Text). t.now)) c.deref-in-Ok-texts.ensures.value ∙ c.in-Ok-texts.ensures.texts ∙ ap (map (λ (w : Vec ℕ Global). w.items)) c.deref.ensures.value in
    unasked_reported g.S.Store c.args.name.now c.args.line.now (unasked.Wrong c.in-Err-asked_by.fault) _ _
    (nothing_asked c.args.line.now (map (λ (w : Vec ℕ Global). w.items) c.in-Ok.words.items) c.in-Err-asked_by.fault c.in-Ok.ensures.words
    (subst (λ ws. AskNothing ws c.in-Err-asked_by.fault) path c.in-Err-asked_by.ensures.nothing))

pub returns-in-Ok : goal.returns-in-Ok
returns-in-Ok g c =
    rw c.report.ensures (unasked_reported g.S.Store c.args.name.now c.args.line.now c.in-Err-texts.unasked _ _
    (no_texts c.args.line.now (map (λ (w : Vec ℕ Global). w.items) c.in-Ok.words.items) c.in-Err-texts.unasked c.in-Ok.ensures.words
    (subst (λ (ws : List (Vec ℕ Global)). AreNoTexts (map (λ w. w.items) ws) c.in-Err-texts.unasked) c.deref.ensures.value c.in-Err-texts.ensures.unasked)))

pub returns : goal.returns
returns g c = rw c.report-in-Err.ensures (unasked_reported g.S.Store c.args.name.now c.args.line.now c.in-Err.unasked _ _ c.in-Err.ensures.unasked)
