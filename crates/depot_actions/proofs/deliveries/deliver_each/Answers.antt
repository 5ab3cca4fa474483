use Rattle.std.proofs.Common.{◌+◌, ◌∙◌, ◌∷◌, [], ◌++◌, arith, drop, get_or, inl, inr, map, refl, subst, sym, take}
use Rattle.sqlite.specs.Held.{state}
use Rattle.refusals.specs.declared.refusal.Refusal.TheVariants.{Memory}
use Rattle.depot_actions.specs.Deliveries.{command_of, reply_of}
use Rattle.depot_actions.proofs.Together.{Delivering, deliveries_more, deliveries_number, deliveries_split, delivery_at, next_refused, no_fault, one_more, replies_more}
use Rattle.depot_actions.specs.declared.deliveries.Delivery.{Delivery}
use Rattle.depot_actions.proofs.deliveries.deliver_each.Goals as goal

-- what stands for a delivery past the end
abbrev nothing : Delivery
nothing = record { user = record { ref_ptr = (0, 0); now = [] }; message = record { ref_ptr = (0, 0); now = [] } }

pub returns-in-Err-clause-which : goal.returns-in-Err-clause-which
returns-in-Err-clause-which g c =
    let ds = c.args.deliveries.now in
    let index = c.loop-delivery.delivery-index in
    record {
      command = command_of (get_or ds index nothing);
      at = delivery_at ds index nothing c.len-place.result c.loop-delivery-test.true (c.len-place.ensures ∙ c.loop-delivery.invariant.number);
      may = c.in-Err.ensures.which;
    }

pub returns-in-Err-clause-refused : goal.returns-in-Err-clause-refused
returns-in-Err-clause-refused g c clean inside =
    let ds = c.args.deliveries.now in
    let index = c.loop-delivery.delivery-index in
    let lt = c.loop-delivery-test.true in
    next_refused (map command_of (take index ds)) (map reply_of c.loop-delivery.replies.items) (state g.S.Store c.args.tx.now.tx.now.conn.now) (state g.S.Store c.loop-delivery.tx.tx.now.conn.now) (state g.S.Store c.deliver_within.new.tx.tx.now.conn.now)
    c.loop-delivery.invariant.so_far c.deliver_within.ensures.within.survives (map command_of ds) (map command_of (drop (index + 1) ds)) (command_of (get_or ds index nothing)) c.len-place.result c.in-Err.refusal
    (deliveries_split ds index nothing lt) (c.len-place.ensures ∙ c.loop-delivery.invariant.number ∙ sym (deliveries_number ds index lt)) clean (c.in-Err.ensures.refused clean) (c.in-Err.ensures.cause clean) inside

pub returns-in_default-clause-which : goal.returns-in_default-clause-which
returns-in_default-clause-which g c =
    let ds = c.args.deliveries.now in
    let index = c.loop-delivery.delivery-index in
    record {
      command = command_of (get_or ds index nothing);
      at = delivery_at ds index nothing c.len-place.result c.loop-delivery-test.true (c.len-place.ensures ∙ c.loop-delivery.invariant.number);
      may = inr (c.in-Ok.ensures.sound.0, inl refl);
    }

pub returns-in_default-clause-refused : goal.returns-in_default-clause-refused
returns-in_default-clause-refused g c clean inside =
    let ds = c.args.deliveries.now in
    let index = c.loop-delivery.delivery-index in
    let lt = c.loop-delivery-test.true in
    let mid = state g.S.Store c.loop-delivery.tx.tx.now.conn.now in
    let new = state g.S.Store c.deliver_within.new.tx.tx.now.conn.now in
    let command = command_of (get_or ds index nothing) in
    next_refused (map command_of (take index ds)) (map reply_of c.loop-delivery.replies.items) (state g.S.Store c.args.tx.now.tx.now.conn.now) mid new
    c.loop-delivery.invariant.so_far c.deliver_within.ensures.within.survives (map command_of ds) (map command_of (drop (index + 1) ds)) command c.len-place.result Memory
    (deliveries_split ds index nothing lt) (c.len-place.ensures ∙ c.loop-delivery.invariant.number ∙ sym (deliveries_number ds index lt)) clean tt (λ _. no_fault command mid new) inside

pub loop-delivery-preserved : goal.loop-delivery-preserved
loop-delivery-preserved g c =
    let ds = c.args.deliveries.now in
    let index = c.loop-delivery.delivery-index in
    let lt = c.loop-delivery-test.true in
    let old = state g.S.Store c.args.tx.now.tx.now.conn.now in
    let mid = state g.S.Store c.loop-delivery.tx.tx.now.conn.now in
    let new = state g.S.Store c.deliver_within.new.tx.tx.now.conn.now in
    let before = map command_of (take index ds) in
    let replies = map reply_of c.loop-delivery.replies.items in
    let pushed = c.in-Ok-push.ensures.items in
    record {
      same_transaction = c.deliver_within.ensures.same_transaction ∙ c.loop-delivery.invariant.same_transaction;
      same_reference = c.deliver_within.ensures.same_reference ∙ c.loop-delivery.invariant.same_reference;
      number = omega (arith, c.in-Ok-push.ensures.len, c.loop-delivery.invariant.number);
      so_far = subst (λ commands. Delivering commands (map reply_of c.push.new.self.items) old new) (deliveries_more ds index nothing lt)
          (subst (λ more. Delivering (before ++ command_of (get_or ds index nothing) ∷ []) more old new) (sym (replies_more c.loop-delivery.replies.items c.push.new.self.items c.in-Ok.rows pushed))
          (one_more before replies old mid new c.loop-delivery.invariant.so_far c.deliver_within.ensures.within.survives (command_of (get_or ds index nothing)) (reply_of c.in-Ok.rows)
          c.in-Ok.ensures.done c.in-Ok.ensures.within.was_open c.in-Ok.ensures.inside c.in-Ok.ensures.schema c.deliver_within.ensures.within.stays_closed c.deliver_within.ensures.within.kept));
    }
