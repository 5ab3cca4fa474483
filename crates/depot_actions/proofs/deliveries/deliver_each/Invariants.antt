use Rattle.std.proofs.Common.{◌≡◌, map, take, vec_len}
use Rattle.sqlite.specs.Held.{state}
use Rattle.depot_actions.specs.Deliveries.{command_of, reply_of}
use Rattle.depot_actions.proofs.Together.{Delivering}
use Rattle.depot_actions.proofs.deliveries.deliver_each.Given as goal

abbrev pub invariant-loop-delivery : goal.invariant-loop-delivery
invariant-loop-delivery g l = record {
  same_transaction : l.tx.tx.ghost_name ≡ l.initial.tx.tx.ghost_name;
  same_reference : l.tx.tx.now.conn.ghost_name ≡ l.initial.tx.tx.now.conn.ghost_name;
  number : vec_len l.replies ≡ l.delivery-index;
  so_far : Delivering (map command_of (take l.delivery-index l.deliveries)) (map reply_of l.replies.items) (state g.S.Store l.initial.tx.tx.now.conn.now) (state g.S.Store l.tx.tx.now.conn.now);
}
