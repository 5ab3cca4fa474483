use Rattle.std.proofs.Common.{◌<◌, [], length, ap, arith, take_all}
use Rattle.std.specs.Prelude.{List}
use Rattle.std.proofs.lemmas.List.Folds.{length-flat_map-take}
use Rattle.header_fields.specs.Fields.{Field}
use Rattle.mail_matching.specs.Headers.{all_fields}
use Rattle.mail_matching.proofs.Scopes.{all_fields_few}
use Rattle.mail_matching.proofs.headers.fields_number.Goals as goal

pub overflow_add-number : goal.overflow_add-number
overflow_add-number c =
    let headers = c.args.headers.now in
    let place = c.loop-place.place in
    let lt : place < length headers = omega (arith, c.loop-place-test.true, c.count-place-end.ensures.count) in
    omega (
      arith,
      c.loop-place.invariant,
      ap length c.fields.ensures,
      length-flat_map-take (λ (fields : List Field). fields) headers place [] lt,
      all_fields_few headers,
      c.count-place-end.ensures.few,
    )

pub returns-clause-few : goal.returns-clause-few
returns-clause-few c =
    let headers = c.args.headers.now in
    let whole = take_all c.loop-place.place headers (omega (arith, c.loop-place-test.false, c.count-place-end.ensures.count)) in
    omega (arith, c.loop-place.invariant, ap (λ hs. length (all_fields hs)) whole, all_fields_few headers, c.count-place-end.ensures.few)
