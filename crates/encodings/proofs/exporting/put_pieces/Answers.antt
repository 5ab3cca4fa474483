use Rattle.std.proofs.Common.{◌≡◌, ◌∙◌, [], take, drop, sym, eqb-true, take-append-drop, rules}
use Rattle.std.proofs.lemmas.List.{nil_from_length}
use Rattle.devices.proofs.Outputs.{broken_in_piece, leaves_all, leaves_none, leaves_rest, on_err}
use Rattle.encodings.proofs.exporting.put_pieces.Goals as goal

pub pieces-init : goal.pieces-init
pieces-init g c = leaves_all _ _

pub pieces-preserved : goal.pieces-preserved
pieces-preserved g c =
    let rest = c.pieces.rest.now in
    let place = c.min.result in
    let taken = rw c.split_at.ensures.front at c.in_ok-put.ensures.ok in
    rw c.split_at.ensures.back (leaves_rest _ _ (take place rest) (drop place rest) c.pieces.invariant (sym (take-append-drop place rest)) taken)

pub returns-in_err-put : goal.returns-in_err-put
returns-in_err-put g c =
    let rest = c.pieces.rest.now in
    let place = c.min.result in
    let broken = rw c.split_at.ensures.front at c.in_err-put.ensures.err in
    record { ok = search rules; err = on_err c.from_residual.result (broken_in_piece _ _ (take place rest) (drop place rest) c.pieces.invariant (sym (take-append-drop place rest)) broken) }

pub returns : goal.returns
returns g c =
    let none : c.pieces.rest.now ≡ [] = nil_from_length c.pieces.rest.now (eqb-true _ _ (sym c.is_empty.ensures ∙ c.pieces-test.false)) in
    record { ok = leaves_none _ _ _ _ c.pieces.invariant none; err = search rules }
