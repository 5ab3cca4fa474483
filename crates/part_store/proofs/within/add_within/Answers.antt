use Rattle.std.proofs.Common.{arith, rules, subst}
use Rattle.std.proofs.lemmas.List.{length-map}
use Rattle.part_store.specs.Filing.{HasRoom}
use Rattle.part_store.specs.Standing.{draft_of}
use Rattle.part_store.proofs.RefusedAdding.{failed_adds}
use Rattle.part_store.proofs.Runs.{passed}
use Rattle.part_store.proofs.within.add_within.Goals as goal

pub returns-in_err-first-clause-refused : goal.returns-in_err-first-clause-refused
returns-in_err-first-clause-refused g c = record {
  which = search rules;
  cause = λ clean. passed c.from_residual.result _ _ c.from_residual.ensures.1 (λ inside. c.in_err-first.ensures.cause clean inside);
}

pub returns-in_err-first-clause-adds : goal.returns-in_err-first-clause-adds
returns-in_err-first-clause-adds g c =
    failed_adds g.S.Store c.args.tx.now.conn.now c.put_entries.new.tx.conn.now c.args.user.now c.args.entries.now _ c.from_residual.result c.from_residual.ensures.1 c.put_entries.ensures.within.stays_closed

pub returns-in-From-clause-made : goal.returns-in-From-clause-made
returns-in-From-clause-made g c clean before stands =
    let added = (rw c.in-From.is at (c.in_ok-first.ensures.adds clean)) before stands in
    (added.3, added.4, added.5)

pub returns-in-From-clause-adds : goal.returns-in-From-clause-adds
returns-in-From-clause-adds g c = record {
  first = λ clean before stands. ((rw c.in-From.is at (c.in_ok-first.ensures.adds clean)) before stands).1;
  room = λ clean before stands. subst (HasRoom before c.args.user.now) (length-map c.args.entries.now draft_of) ((rw c.in-From.is at (c.in_ok-first.ensures.adds clean)) before stands).0;
  apart = λ clean before stands. ((rw c.in-From.is at (c.in_ok-first.ensures.adds clean)) before stands).2;
  full = λ _. tt;
  collision = λ _. tt;
  was_open = λ clean. c.in_ok-first.ensures.within.was_open clean;
  begun = λ _. tt;
  stays_closed = c.put_entries.ensures.within.stays_closed;
}

pub returns-in-Collision-clause-adds : goal.returns-in-Collision-clause-adds
returns-in-Collision-clause-adds g c = record {
  first = λ _. tt;
  room = λ _. tt;
  apart = λ _. tt;
  full = search rules;
  collision = λ clean is before stands.
      let found = (rw c.in-Collision.is at (c.in_ok-first.ensures.adds clean)) before stands in
      (subst (HasRoom before c.args.user.now) (length-map c.args.entries.now draft_of) found.0, found.1);
  was_open = λ _. tt;
  begun = λ clean _. c.in_ok-first.ensures.within.was_open clean;
  stays_closed = c.put_entries.ensures.within.stays_closed;
}

pub returns-in-NumberFull-clause-adds : goal.returns-in-NumberFull-clause-adds
returns-in-NumberFull-clause-adds g c = record {
  first = λ _. tt;
  room = λ _. tt;
  apart = λ _. tt;
  full = λ clean _ before stands room.
      let few = (rw c.in-NumberFull.is at (c.in_ok-first.ensures.adds clean)) before stands in
      omega (arith, few, room, length-map c.args.entries.now draft_of);
  collision = search rules;
  was_open = λ _. tt;
  begun = λ clean _. c.in_ok-first.ensures.within.was_open clean;
  stays_closed = c.put_entries.ensures.within.stays_closed;
}
