use Rattle.std.proofs.Common.{◌<◌, ◌≤◌, [], arith, ap, length, subst, sym}
use Rattle.std.specs.Prelude.{IfSome}
use Rattle.mail_matching.specs.Private.{GoesOn}
use Rattle.mime_params.specs.MediaValue.{value_named}
use Rattle.mail_matching.specs.Selection.{given, params_of, reading_of}
use Rattle.octets.specs.Limits.{max_message}
use Rattle.mail_matching.specs.Costs.{extent_of}
use Rattle.mail_matching.proofs.AskedFor.{asked_is}
use Rattle.mail_matching.proofs.Lengths.{given_in, reading_in, widen}
use Rattle.mail_matching.proofs.Onward.{goes_on_more, values_room}
use Rattle.mail_matching.proofs.progress.Progress.take_params.Goals as goal

pub take_param-requires-clause-short : goal.take_param-requires-clause-short
take_param-requires-clause-short g c =
    let field = c.args.field.now in
    let params = params_of (reading_of field) in
    let names = g.P.Texts.texts c.args.test.now.params.now in
    let lt : c.loop-place.place < length names = omega (arith, c.loop-place-test.true, c.count-place-end.ensures) in
    let is = asked_is names params c.params_in.result c.in_ok-found.found.items c.deref.result.now c.loop-place.place c.text-name.result.now c.in_ok-param.param lt c.text-name.ensures c.params_in.ensures c.in_ok-found.ensures c.deref.ensures.value c.in_ok-param.ensures in
    subst (λ o. IfSome o (λ v. length v ≤ max_message)) (sym is)
    (given_in max_message c.text-name.result.now params (widen (length field.value) max_message params c.requires.field (reading_in field).params))

pub take_param-requires-clause-room : goal.take_param-requires-clause-room
take_param-requires-clause-room g c =
    let params = params_of (reading_of c.args.field.now) in
    let names = g.P.Texts.texts c.args.test.now.params.now in
    let lt : c.loop-place.place < length names = omega (arith, c.loop-place-test.true, c.count-place-end.ensures) in
    let is = asked_is names params c.params_in.result c.in_ok-found.found.items c.deref.result.now c.loop-place.place c.text-name.result.now c.in_ok-param.param lt c.text-name.ensures c.params_in.ensures c.in_ok-found.ensures c.deref.ensures.value c.in_ok-param.ensures in
    omega (
      arith,
      c.requires.room,
      c.loop-place.invariant.extent,
      ap (λ o. extent_of (given o)) is,
      values_room (λ name. given (value_named name params)) names c.loop-place.place c.text-name.result.now [] lt c.text-name.ensures,
    )

pub loop-place-preserved : goal.loop-place-preserved
loop-place-preserved g c =
    let how = c.args.test.now.how in
    let keys = g.K.Texts.texts c.args.test.now.keys.now in
    let params = params_of (reading_of c.args.field.now) in
    let names = g.P.Texts.texts c.args.test.now.params.now in
    let lt : c.loop-place.place < length names = omega (arith, c.loop-place-test.true, c.count-place-end.ensures) in
    let is = asked_is names params c.params_in.result c.in_ok-found.found.items c.deref.result.now c.loop-place.place c.text-name.result.now c.in_ok-param.param lt c.text-name.ensures c.params_in.ensures c.in_ok-found.ensures c.deref.ensures.value c.in_ok-param.ensures in
    goes_on_more g.T.Telling.knows how keys (λ name. given (value_named name params)) names c.loop-place.place c.text-name.result.now [] c.args.self.now c.loop-place.self c.take_param.new.self lt c.text-name.ensures c.loop-place.invariant
    (subst (λ o. GoesOn g.T.Telling.knows how (given o) keys c.loop-place.self c.take_param.new.self) is c.in_ok-take_param.ensures)
