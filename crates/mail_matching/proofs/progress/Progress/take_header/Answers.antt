use Rattle.std.proofs.Common.{◌<◌, ◌∙◌, [], All, arith, length, subst, sym}
use Rattle.std.proofs.lemmas.Bool.{eqb-true, false≢true}
use Rattle.mail_matching.specs.Headers.{selected_named}
use Rattle.mail_matching.specs.HeaderTests.{IsUnfolded}
use Rattle.mail_matching.specs.Private.{GoesOn}
use Rattle.mail_matching.proofs.Onward.{goes_on_more, goes_on_none, selected_of_none, values_room}
use Rattle.mail_matching.proofs.progress.Progress.take_header.Goals as goal

pub take_named-requires-clause-room : goal.take_named-requires-clause-room
take_named-requires-clause-room g c =
    let selector = c.args.test.now.selector in
    let params = g.P.Texts.texts c.args.test.now.params.now in
    let names = g.N.Texts.texts c.args.names.now in
    let lt : c.loop-place.place < length names = omega (arith, c.loop-place-test.true, c.count-place-end.ensures) in
    omega (
      arith,
      c.requires.room,
      c.loop-place.invariant.extent,
      values_room (selected_named selector params c.args.fields.now) names c.loop-place.place c.new.result [] lt (c.new.ensures ∙ c.text.ensures),
    )

pub loop-place-preserved : goal.loop-place-preserved
loop-place-preserved g c =
    let selector = c.args.test.now.selector in
    let params = g.P.Texts.texts c.args.test.now.params.now in
    let names = g.N.Texts.texts c.args.names.now in
    let lt : c.loop-place.place < length names = omega (arith, c.loop-place-test.true, c.count-place-end.ensures) in
    goes_on_more g.T.Telling.knows c.args.test.now.how (g.K.Texts.texts c.args.test.now.keys.now) (selected_named selector params c.args.fields.now) names c.loop-place.place c.new.result [] c.args.self.now c.loop-place.self c.take_named.new.self lt (c.new.ensures ∙ c.text.ensures) c.loop-place.invariant c.in_ok-take_named.ensures.goes

pub returns-in_err-take_named-clause-no_memory : goal.returns-in_err-take_named-clause-no_memory
returns-in_err-take_named-clause-no_memory g c = λ free value plain.
    let names = g.N.Texts.texts c.args.names.now in
    let lt : c.loop-place.place < length names = omega (arith, c.loop-place-test.true, c.count-place-end.ensures) in
    absurd (false≢true (c.in_err-take_named.ensures.no_memory free value
    (subst (λ name. All (IsUnfolded name) c.args.fields.now) (sym (c.new.ensures ∙ c.text.ensures)) (plain c.loop-place.place [] lt))))

pub returns-then-is_empty-clause-goes : goal.returns-then-is_empty-clause-goes
returns-then-is_empty-clause-goes g c =
    let selector = c.args.test.now.selector in
    let params = g.P.Texts.texts c.args.test.now.params.now in
    let names = g.N.Texts.texts c.args.names.now in
    let how = c.args.test.now.how in
    let keys = g.K.Texts.texts c.args.test.now.keys.now in
    let none = selected_of_none selector params names c.args.fields.now (eqb-true _ _ (sym c.is_empty.ensures ∙ c.if-is_empty.true)) in
    subst (λ values. GoesOn g.T.Telling.knows how values keys c.args.self.now c.args.self.now) (sym none) (goes_on_none g.T.Telling.knows how keys c.args.self.now)
