use Rattle.std.proofs.Common.{◌≡◌, ◌≢◌, ◌++◌, codes, nat_eq, rules, tests, true}
use Rattle.std.specs.List.{starts_with}
use Rattle.std.proofs.lemmas.Iterator.{IsFirst-from_position, YieldsList-from_slice}
use Rattle.depot_batch.proofs.Beginnings.{delivery_line}
use Rattle.depot_batch.proofs.Readying.{at_some, line_front}
use Rattle.depot_batch.proofs.ahead.first_delivery.Goals as goal

pub returns-in-Some : goal.returns-in-Some
returns-in-Some c =
    let first = at_some _ _ c.position.result c.in-Some.len c.in-Some.is
    (IsFirst-from_position _ _ c.position.result (λ o. o ≡ 10) (λ o. o ≢ 10) c.position.ensures.ran (YieldsList-from_slice c.args.octets.now cc) (λ x q k. search (rules, tests)) (λ x q k. search (rules, tests))) in
    let are : c.args.octets.now ≡ c.split_at.result.0.now ++ c.split_at.result.1.now = search rules in
    let starts : starts_with nat_eq c.args.octets.now (codes "deliver ") ≡ true = search (rules, tests) in
    let line = line_front c.args.octets.now c.split_at.result.0.now c.in-Some.len c.split_at.ensures.front first in
    (delivery_line c.args.octets.now c.split_at.result.0.now c.split_at.result.1.now line are starts, are)
