use Rattle.std.proofs.Common.{◌<◌, sym, ap, arith, length, subst}
use Rattle.std.proofs.lemmas.Bool.{false≢true}
use Rattle.mail_matching.specs.HeaderTests.{IsUnfolded}
use Rattle.mail_matching.specs.Costs.{extent_of}
use Rattle.mail_matching.specs.Private.{GoesOn}
use Rattle.mail_matching.proofs.Extents.{named_each, where_named}
use Rattle.mail_matching.proofs.Onward.{goes_on_all, goes_on_more, values_room}
use Rattle.mail_matching.proofs.progress.Progress.take_named.Goals as goal

pub take_where_named-requires-clause-room : goal.take_where_named-requires-clause-room
take_where_named-requires-clause-room g c =
    let selector = c.args.test.now.selector in
    let params = g.P.Texts.texts c.args.test.now.params.now in
    let name = c.args.name.now in
    let fields = c.args.fields.now in
    let lt : c.loop-place.place < length fields = omega (arith, c.loop-place-test.true, c.count-place-end.ensures) in
    omega (
      arith,
      c.requires.room,
      c.loop-place.invariant.extent,
      ap extent_of (named_each selector params name fields),
      values_room (where_named selector params name) fields c.loop-place.place c.at.result c.at.result lt c.at.ensures,
    )

pub loop-place-preserved : goal.loop-place-preserved
loop-place-preserved g c =
    let selector = c.args.test.now.selector in
    let params = g.P.Texts.texts c.args.test.now.params.now in
    let lt : c.loop-place.place < length c.args.fields.now = omega (arith, c.loop-place-test.true, c.count-place-end.ensures) in
    goes_on_more g.T.Telling.knows c.args.test.now.how (g.K.Texts.texts c.args.test.now.keys.now) (where_named selector params c.args.name.now) c.args.fields.now c.loop-place.place c.at.result c.at.result c.args.self.now c.loop-place.self c.take_where_named.new.self lt c.at.ensures c.loop-place.invariant c.in_ok-take_where_named.ensures.goes

pub returns-clause-goes : goal.returns-clause-goes
returns-clause-goes g c =
    let selector = c.args.test.now.selector in
    let params = g.P.Texts.texts c.args.test.now.params.now in
    let name = c.args.name.now in
    let fields = c.args.fields.now in
    let how = c.args.test.now.how in
    let keys = g.K.Texts.texts c.args.test.now.keys.now in
    subst (λ values. GoesOn g.T.Telling.knows how values keys c.args.self.now c.loop-place.self) (sym (named_each selector params name fields))
    (goes_on_all g.T.Telling.knows how keys (where_named selector params name) fields c.loop-place.place c.args.self.now c.loop-place.self (omega (arith, c.loop-place-test.false, c.count-place-end.ensures)) c.loop-place.invariant)

pub returns-in_err-take_where_named-clause-no_memory : goal.returns-in_err-take_where_named-clause-no_memory
returns-in_err-take_where_named-clause-no_memory g c = λ free value plain.
    let lt : c.loop-place.place < length c.args.fields.now = omega (arith, c.loop-place-test.true, c.count-place-end.ensures) in
    absurd (false≢true (c.in_err-take_where_named.ensures.no_memory free value
    (subst (IsUnfolded c.args.name.now) (sym c.at.ensures) (plain c.loop-place.place c.at.result lt))))
