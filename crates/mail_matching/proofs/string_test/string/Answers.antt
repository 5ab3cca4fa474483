use Rattle.std.proofs.Common.{◌≡◌, ◌<◌, ◌∙◌, ℕ, List, ap, arith, length, subst, take, take_all}
use Rattle.std.specs.Option.{option_or}
use Rattle.std.proofs.lemmas.Bool.{false≢true}
use Rattle.mail_matching.specs.FirstMatch.{first_match}
use Rattle.mail_matching.specs.Outcomes.{after}
use Rattle.mail_matching.specs.Private.{GoesOn}
use Rattle.mail_matching.proofs.Asking.{has_compared}
use Rattle.mail_matching.proofs.Extents.{texts_within}
use Rattle.mail_matching.proofs.Keeping.{keeps_next}
use Rattle.mail_matching.proofs.Onward.{goes_on_next, next_room}
use Rattle.mail_matching.proofs.string_test.string.Goals as goal

pub take_lent-requires-clause-room : goal.take_lent-requires-clause-room
take_lent-requires-clause-room g c =
    let sources = g.S.Texts.texts c.args.sources.now in
    let lt : c.loop-place.place < length sources = omega (arith, c.loop-place-test.true, c.count-place-end.ensures) in
    omega (
      arith,
      c.loop-place.invariant.extent,
      c.requires.fresh.1,
      next_room sources c.loop-place.place c.text.result.now lt c.text.ensures,
      texts_within sources c.requires.sources,
    )

pub loop-place-preserved : goal.loop-place-preserved
loop-place-preserved g c =
    let sources = g.S.Texts.texts c.args.sources.now in
    let lt : c.loop-place.place < length sources = omega (arith, c.loop-place-test.true, c.count-place-end.ensures) in
    goes_on_next g.T.Telling.knows c.args.how (g.K.Texts.texts c.args.keys.now) sources c.loop-place.place c.text.result.now c.args.progress.now c.loop-place.progress c.take_lent.new.self lt c.text.ensures c.loop-place.invariant c.in_ok-take_lent.ensures.goes

pub returns-in_err-take_lent-clause-no_memory : goal.returns-in_err-take_lent-clause-no_memory
returns-in_err-take_lent-clause-no_memory g c = λ free keeps.
    let sources = g.S.Texts.texts c.args.sources.now in
    let keys = g.K.Texts.texts c.args.keys.now in
    let so_far = take c.loop-place.place sources in
    let lt : c.loop-place.place < length sources = omega (arith, c.loop-place-test.true, c.count-place-end.ensures) in
    let comes : (captures : List (List ℕ)) → after c.loop-place.progress.outcome captures ≡ first_match c.args.how so_far keys captures =
    λ captures. c.loop-place.invariant.outcome captures ∙ ap (λ o. option_or (after o captures) (first_match c.args.how so_far keys captures)) c.requires.fresh.0 in
    absurd (false≢true (c.in_err-take_lent.ensures.no_memory free
    (λ missed. keeps_next c.args.how sources keys c.loop-place.place c.text.result.now c.loop-place.progress.outcome lt c.text.ensures comes missed keeps)))

pub returns-clause-asked : goal.returns-clause-asked
returns-clause-asked g c =
    let sources = g.S.Texts.texts c.args.sources.now in
    let keys = g.K.Texts.texts c.args.keys.now in
    let all = take_all c.loop-place.place sources (omega (arith, c.loop-place-test.false, c.count-place-end.ensures)) in
    has_compared g.T.Telling.knows c.args.how sources keys 0 c.args.progress.now c.loop-place.progress c.extent_of.result c.product.result c.product.result c.requires.fresh
    (subst (λ values. GoesOn g.T.Telling.knows c.args.how values keys c.args.progress.now c.loop-place.progress) all c.loop-place.invariant)
    (omega (arith, texts_within sources c.requires.sources))
    c.extent_of.ensures c.product.ensures (omega arith)
