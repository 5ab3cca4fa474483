use Rattle.std.proofs.Common.{◌≡◌, ◌++◌, ◌<◌, ℕ, length, drop, sym, ap, ◌∙◌, arith, eqb, eqb-true, false, []}
use Rattle.std.proofs.lemmas.Bool.{eqb-false}
use Rattle.std.proofs.lemmas.List.{append_assoc, append-nil, nil_from_length}
use Rattle.quoted_printable.specs.QuotedPrintable.{encoding_of, first_line, tokens_of, tokens_of_line}
use Rattle.quoted_printable.proofs.Encoded.{encoding_of-none, next_line}
use Rattle.quoted_printable.proofs.encode.encode_qp.Goals as goal

not_empty : (n : ℕ) → eqb n 0 ≡ false → 0 < n
not_empty n e = let ne = eqb-false n 0 e in omega arith

pub lines-preserved : goal.lines-preserved
lines-preserved c =
    let rest = c.lines.rest.now in
    let out = c.lines.out.items in
    let line = first_line (tokens_of rest) in
    let k = tokens_of_line (tokens_of rest) in
    let after = c.split_at.ensures.back ∙ ap (λ n. drop n rest) c.in_ok-taken.ensures.taken in
    let some : 0 < length rest = not_empty (length rest) (sym c.is_empty.ensures ∙ c.lines-test.true) in
    (λ i. c.in_ok-taken.ensures.line i ++ encoding_of (after i))
    ∙ append_assoc out line (encoding_of (drop k rest))
    ∙ ap (λ l. out ++ l) (sym (next_line rest some))
    ∙ c.lines.invariant

pub returns : goal.returns
returns c =
    let rest = c.lines.rest.now in
    let none : rest ≡ [] = nil_from_length rest (eqb-true _ _ (sym c.is_empty.ensures ∙ c.lines-test.false)) in
    sym (append-nil c.lines.out.items) ∙ ap (λ l. c.lines.out.items ++ l) (sym (ap encoding_of none ∙ encoding_of-none)) ∙ c.lines.invariant
