use Rattle.std.proofs.Common.{◌≡◌, arith, subst, sym}
use Rattle.depot_batch.specs.Lines.{IsDeliveryLine}
use Rattle.depot_batch.proofs.Readying.{all_more, shown_more}
use Rattle.depot_batch.proofs.ahead.deliveries_in.Goals as goal

pub lines-preserved : goal.lines-preserved
lines-preserved c =
    let line = c.in_ok-to_vec-in-Some.field-0 in
    let items : line.items ≡ c.in-Some.line.now = c.in_ok-to_vec-in-Some.ensures.items_if_clones_equal (λ x y same. same) in
    let found = c.in-Some.ensures in
    record {
      whole = all_more IsDeliveryLine c.lines.lines.items c.push.new.self.items line c.in_ok-push-in-Some.ensures.items (subst IsDeliveryLine (sym items) found.0) c.lines.invariant.whole;
      few = omega (arith, c.in_ok-push-in-Some.ensures.len, c.lines-test.true, c.len.ensures);
      are = shown_more c.args.octets.now c.lines.lines.items c.push.new.self.items line c.in-Some.line.now c.lines.rest.now c.in-Some.later.now c.in_ok-push-in-Some.ensures.items items found.1 c.lines.invariant.are;
    }
