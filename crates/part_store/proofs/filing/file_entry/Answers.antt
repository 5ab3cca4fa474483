use Rattle.std.proofs.Common.{◌≡◌, inl, inr, true, ◌∙◌, rules, arith}
use Rattle.sqlite.specs.State.{HasCleanDisk}
use Rattle.sqlite.specs.Held.{state}
use Rattle.sqlite.proofs.StateLemmas.{survives_then}
use Rattle.part_store.specs.Entries.{entry_of}
use Rattle.part_store.specs.Standing.{draft_of}
use Rattle.part_store.proofs.Filed.{files, files_kept}
use Rattle.part_store.proofs.NoRoom.{entry_unplaced}
use Rattle.part_store.proofs.Runs.{passed}
use Rattle.part_store.proofs.filing.file_entry.Goals as goal

pub returns-clause-filed : goal.returns-clause-filed
returns-clause-filed g c clean _ before stands next there =
    let old = state g.S.Store c.args.tx.now.conn.now in
    let mid = state g.S.Store c.stock.new.tx.conn.now in
    let new = state g.S.Store c.add.new.tx.conn.now in
    let early : HasCleanDisk mid = omega (arith, c.add.ensures.survives.clean) in
    let adds = rw (c.kind_number.ensures, c.requires) at (c.in_ok-add.ensures.step clean) in
    let stocks = rw (c.requires) at (c.in_ok-stock.ensures.stocked early) in
    let done : c.in_ok-stock.field-0 ≡ true = search rules in
    files old mid new (entry_of c.args.user.now c.args.number (draft_of c.args.entry.now)) _ before stands next (stocks done before stands there) adds

pub returns-clause-within : goal.returns-clause-within
returns-clause-within g c =
    let old = state g.S.Store c.args.tx.now.conn.now in
    let mid = state g.S.Store c.stock.new.tx.conn.now in
    let new = state g.S.Store c.add.new.tx.conn.now in
    record {
      same_reference = c.add.ensures.same_reference ∙ c.stock.ensures.within.same_reference;
      schema = search rules;
      kept = λ clean.
          let early : HasCleanDisk mid = omega (arith, clean, c.add.ensures.survives.clean) in
          files_kept old mid new _ (c.stock.ensures.within.kept early) (c.in_ok-stock.ensures.within.schema early) (c.in_ok-add.ensures.step clean);
      survives = survives_then old mid new (λ _. ⊥) (λ _. ⊥) (λ _. ⊥) (λ _ _ h. h) (λ _ _ h. h) c.stock.ensures.within.survives c.add.ensures.survives;
    }

pub returns-in_err-stock-clause-cause : goal.returns-in_err-stock-clause-cause
returns-in_err-stock-clause-cause g c clean =
    let cause = rw (c.requires) at (c.in_err-stock.ensures.cause clean) in
    passed c.from_residual.result _ _ c.from_residual.ensures.1 (λ is inside before stands _ _. elim (cause is inside before stands) [ inl failed ↦ inl failed | inr lacks ↦ inr (inl lacks) ])

pub returns-in_err-add-clause-cause : goal.returns-in_err-add-clause-cause
returns-in_err-add-clause-cause g c clean =
    let old = state g.S.Store c.args.tx.now.conn.now in
    let mid = state g.S.Store c.stock.new.tx.conn.now in
    let new = state g.S.Store c.add.new.tx.conn.now in
    let early : HasCleanDisk mid = omega (arith, clean, c.add.ensures.survives.clean) in
    let stocks = rw (c.requires) at (c.in_ok-stock.ensures.stocked early) in
    let fault = rw (c.kind_number.ensures, c.requires) at (c.in_err-add.ensures.fault clean) in
    let done : c.in_ok-stock.field-0 ≡ true = search rules in
    let x = entry_of c.args.user.now c.args.number (draft_of c.args.entry.now) in
    passed c.from_residual-in_err-add.result _ _ c.from_residual-in_err-add.ensures.1 (λ is inside before stands next there.
    entry_unplaced old mid new x _ _ before stands next (stocks done before stands there) (c.in_ok-stock.ensures.inside early stands.schema inside) c.stock.ensures.within.survives c.add.ensures.survives clean fault is)
