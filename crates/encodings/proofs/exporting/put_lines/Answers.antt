use Rattle.std.proofs.Common.{◌≡◌, ◌∙◌, ◌++◌, [], drop, sym, ap, eqb-true, rules}
use Rattle.std.proofs.lemmas.List.{nil_from_length}
use Rattle.std.proofs.lemmas.Result.{err_from_is_err_and}
use Rattle.quoted_printable.specs.QuotedPrintable.{encoding_of, first_line, tokens_of, tokens_of_line}
use Rattle.quoted_printable.proofs.Encoded.{first_and_rest}
use Rattle.encodings.specs.Texts.{text_of}
use Rattle.encodings.specs.declared.encoding.Encoding.TheVariants.{Qp}
use Rattle.devices.proofs.Outputs.{broken_in_piece, leaves_all, leaves_none, leaves_rest}
use Rattle.encodings.proofs.Pieces.{text_of-none}
use Rattle.encodings.proofs.exporting.put_lines.Goals as goal

pub lines-init : goal.lines-init
lines-init g c = leaves_all _ _

pub lines-preserved : goal.lines-preserved
lines-preserved g c =
    let rest = c.lines.rest.now in
    let line = first_line (tokens_of rest) in
    let is : c.encode_qp_line.new.out.items ≡ line = c.in_ok-taken.ensures.line ∙ ap (λ l. l ++ line) c.clear.ensures.items in
    let taken = rw (c.deref.ensures.value, is) at c.in_ok-put.ensures.ok in
    let after = c.split_at.ensures.back ∙ ap (λ n. drop n rest) c.in_ok-taken.ensures.taken in
    rw after (leaves_rest _ _ line (encoding_of (drop (tokens_of_line (tokens_of rest)) rest)) c.lines.invariant (first_and_rest rest) taken)

pub returns-in_err-put : goal.returns-in_err-put
returns-in_err-put g c =
    let rest = c.lines.rest.now in
    let line = first_line (tokens_of rest) in
    let is : c.encode_qp_line.new.out.items ≡ line = c.in_ok-taken.ensures.line ∙ ap (λ l. l ++ line) c.clear.ensures.items in
    let p = err_from_is_err_and c.from_residual-in_err-put.result c.from_residual-in_err-put.ensures.1 in
    let broken = rw (c.deref.ensures.value, is) at c.in_err-put.ensures.err in
    record { ok = search rules; err = rw (p.1, p.2) (broken_in_piece _ _ line (encoding_of (drop (tokens_of_line (tokens_of rest)) rest)) c.lines.invariant (first_and_rest rest) broken) }

pub returns : goal.returns
returns g c =
    let none : c.lines.rest.now ≡ [] = nil_from_length c.lines.rest.now (eqb-true _ _ (sym c.is_empty.ensures ∙ c.lines-test.false)) in
    record { ok = leaves_none _ _ _ _ c.lines.invariant (ap (text_of Qp) none ∙ text_of-none Qp); err = search rules }
