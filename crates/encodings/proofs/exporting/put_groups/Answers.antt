use Rattle.std.proofs.Common.{◌≡◌, ◌∙◌, [], sym, ap, eqb-true, rules}
use Rattle.std.proofs.lemmas.List.{nil_from_length}
use Rattle.std.proofs.lemmas.Result.{err_from_is_err_and}
use Rattle.encodings.specs.Texts.{text_of}
use Rattle.devices.proofs.Outputs.{broken_in_piece, leaves_all, leaves_none, leaves_rest}
use Rattle.encodings.proofs.Pieces.{text_of-none}
use Rattle.encodings.proofs.exporting.put_groups.Goals as goal

pub pieces-init : goal.pieces-init
pieces-init g c = leaves_all _ _

pub pieces-preserved : goal.pieces-preserved
pieces-preserved g c =
    let taken = rw c.deref.ensures.value at c.in_ok-put.ensures.ok in
    leaves_rest _ _ c.in_ok-text.text.items _ c.pieces.invariant c.in_ok-text.ensures.text taken

pub returns-in_err-put : goal.returns-in_err-put
returns-in_err-put g c =
    let p = err_from_is_err_and c.from_residual-in_err-put.result c.from_residual-in_err-put.ensures.1 in
    let broken = rw c.deref.ensures.value at c.in_err-put.ensures.err in
    record { ok = search rules; err = rw (p.1, p.2) (broken_in_piece _ _ c.in_ok-text.text.items _ c.pieces.invariant c.in_ok-text.ensures.text broken) }

pub returns : goal.returns
returns g c =
    let none : c.pieces.rest.now ≡ [] = nil_from_length c.pieces.rest.now (eqb-true _ _ (sym c.is_empty.ensures ∙ c.pieces-test.false)) in
    record { ok = leaves_none _ _ _ _ c.pieces.invariant (ap (text_of c.args.encoding) none ∙ text_of-none c.args.encoding); err = search rules }
