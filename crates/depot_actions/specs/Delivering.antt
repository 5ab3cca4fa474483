-- Private: what deliveries do within a transaction, before it is committed or rolled back.
use Rattle.std.specs.Prelude.{◌<◌, ℕ, IfErr, IsTrue, List, OnOk, Result, Vec, length, map}
use Rattle.std.specs.declared.alloc.Global.{Global}
use Rattle.sqlite_trees.specs.declared.store.Store.{Ghosts}
use Rattle.sqlite.specs.Held.{Held}
use Rattle.part_store.specs.Access.{InTransaction}
use Rattle.part_store.specs.Calls.{Always, CommitsNothing, IfDone, IfRefused, OnDone, StaysClosed}
use Rattle.part_store.specs.Inside.{KeepsStored, StaysInside}
use Rattle.part_store.specs.declared.entry.EntryRow.{EntryRow}
use Rattle.refusals.specs.declared.refusal.Refusal.{Refusal}
use Rattle.depot_actions.specs.Causes.{IsCause, IsFault, IsSound, MayRefuse}
use Rattle.depot_actions.specs.Deliveries.{IsRefusedAt, MayRefuseAt, command_of, reply_of}
use Rattle.depot_actions.specs.DepotState.{Deliver, IsNamed}
use Rattle.depot_actions.specs.Filing.{IfInside, Reaches, ReachesAll}
use Rattle.depot_actions.specs.declared.deliveries.Delivery.{Delivery}
use Rattle.depot_actions.specs.declared.deliveries.RefusedDelivery.{RefusedDelivery}

-- a message is delivered to a user, or refused
pub record Delivers {S : Type 0} (g : Ghosts S) (user message : List ℕ) (old new : Held S) (result : Result (Vec EntryRow Global) Refusal) : Type 0 where
  pub done : IfDone g old new result (λ rows. Reaches (Deliver user message) (reply_of rows))
  pub inside : OnDone g old new result StaysInside
  pub sound : OnOk result (IsNamed (Deliver user message) × IsSound (Deliver user message))
  pub which : IfErr result (MayRefuse (Deliver user message))
  pub refused : IfRefused g old new result (IsCause (Deliver user message))
  pub cause : IfRefused g old new result (IfInside (IsFault (Deliver user message)))
  pub within : InTransaction g old new result

-- messages are delivered in their order, or one of them is refused
pub record DeliversEach {S : Type 0} (g : Ghosts S) (deliveries : List Delivery) (old new : Held S) (result : Result (Vec (Vec EntryRow Global) Global) RefusedDelivery) : Type 0 where
  pub done : IfDone g old new result (λ replies. ReachesAll (map command_of deliveries) (map reply_of replies.items))
  pub was_open : OnDone g old new result (λ old _. 0 < length deliveries → IsTrue old.is_open)
  pub inside : OnDone g old new result StaysInside
  pub stays_closed : Always g old new StaysClosed
  pub kept : Always g old new KeepsStored
  pub which : IfErr result (λ e. MayRefuseAt (map command_of deliveries) e.place e.refusal)
  pub refused : IfRefused g old new result
      (λ old new e. IsTrue old.in_transaction → IsRefusedAt (map command_of deliveries) e.place e.refusal old new)
  pub survives : CommitsNothing g old new
