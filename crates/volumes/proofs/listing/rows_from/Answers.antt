use Rattle.std.proofs.Common.{◌++◌, ap, drop, map, arith}
use Rattle.part_store.specs.Standing.{listed}
use Rattle.volumes.proofs.Applied.{keeps_then}
use Rattle.volumes.proofs.Listed.{listed_all, listed_next, rows_in}
use Rattle.volumes.proofs.listing.rows_from.Goals as goal

pub volumes-init : goal.volumes-init
volumes-init g c = record {
  rows = λ sound vs holds len. ap (λ items. map listed items ++ rows_in c.args.user.now c.args.number (drop c.args.first vs)) c.new-rows.ensures.items;
  keeps = record { same = λ sound vs holds. holds; sound = λ sound. sound };
}

pub returns-in_err-put_rows-clause-keeps : goal.returns-in_err-put_rows-clause-keeps
returns-in_err-put_rows-clause-keeps g c = keeps_then g.V.Volumes.holding c.args.volumes.now c.volumes.volumes c.put_rows.new.volumes c.volumes.invariant.keeps c.put_rows.ensures.keeps

pub volumes-preserved : goal.volumes-preserved
volumes-preserved g c =
    let k = g.V.Volumes.holding in
    let before = c.volumes.invariant in
    record {
      rows = listed_next k c.args.volumes.now c.volumes.volumes c.put_rows.new.volumes c.args.user.now c.args.number c.args.first c.args.count c.volumes.place (map listed c.volumes.rows.items) (map listed c.put_rows.new.rows.items)
          before.rows before.keeps c.in_ok-put_rows.ensures.rows c.put_rows.ensures.keeps (omega (arith, c.volumes-test.true));
      keeps = keeps_then k c.args.volumes.now c.volumes.volumes c.put_rows.new.volumes before.keeps c.put_rows.ensures.keeps;
    }

pub returns-clause-rows : goal.returns-clause-rows
returns-clause-rows g c =
    listed_all g.V.Volumes.holding c.args.volumes.now c.volumes.volumes c.args.user.now c.args.number c.args.first c.args.count c.volumes.place (map listed c.volumes.rows.items) c.volumes.invariant.rows (omega (arith, c.volumes-test.false))
