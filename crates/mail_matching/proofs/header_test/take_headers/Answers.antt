use Rattle.std.proofs.Common.{◌<◌, [], arith, length, subst, sym}
use Rattle.std.proofs.lemmas.Bool.{false≢true}
use Rattle.mail_matching.specs.Headers.{selected_among}
use Rattle.mail_matching.specs.HeaderTests.{AreUnfolded}
use Rattle.mail_matching.proofs.Extents.{all_few}
use Rattle.mail_matching.proofs.Onward.{goes_on_more, values_room}
use Rattle.mail_matching.proofs.header_test.take_headers.Goals as goal

pub take_header-requires-clause-room : goal.take_header-requires-clause-room
take_header-requires-clause-room g c =
    let params = g.P.Texts.texts c.args.test.now.params.now in
    let selector = c.args.test.now.selector in
    let names = g.N.Texts.texts c.args.names.now in
    let headers = c.args.headers.now in
    let lt : c.loop-place.place < length headers = omega (arith, c.loop-place-test.true, c.count-place-end.ensures.count) in
    omega (
      arith,
      c.loop-place.invariant.extent,
      values_room (selected_among selector params names) headers c.loop-place.place c.typed.result [] lt c.typed.ensures,
      all_few selector params names headers c.requires.params c.requires.names c.count-place-end.ensures.few,
    )

pub loop-place-preserved : goal.loop-place-preserved
loop-place-preserved g c =
    let selector = c.args.test.now.selector in
    let params = g.P.Texts.texts c.args.test.now.params.now in
    let names = g.N.Texts.texts c.args.names.now in
    let headers = c.args.headers.now in
    let lt : c.loop-place.place < length headers = omega (arith, c.loop-place-test.true, c.count-place-end.ensures.count) in
    goes_on_more g.T.Telling.knows c.args.test.now.how (g.K.Texts.texts c.args.test.now.keys.now) (selected_among selector params names) headers c.loop-place.place c.typed.result [] c.args.progress.now c.loop-place.progress c.take_header.new.self lt c.typed.ensures c.loop-place.invariant c.in_ok-take_header.ensures.goes

pub returns-in_err-take_header-clause-no_memory : goal.returns-in_err-take_header-clause-no_memory
returns-in_err-take_header-clause-no_memory g c = λ free value plain.
    let headers = c.args.headers.now in
    let lt : c.loop-place.place < length headers = omega (arith, c.loop-place-test.true, c.count-place-end.ensures.count) in
    absurd (false≢true (c.in_err-take_header.ensures.no_memory free value
    (subst (AreUnfolded (g.N.Texts.texts c.args.names.now)) (sym c.typed.ensures) (plain c.loop-place.place [] lt))))

pub returns-clause-few : goal.returns-clause-few
returns-clause-few g c =
    omega (
      arith,
      all_few c.args.test.now.selector (g.P.Texts.texts c.args.test.now.params.now) (g.N.Texts.texts c.args.names.now) c.args.headers.now c.requires.params c.requires.names c.count-place-end.ensures.few,
    )
