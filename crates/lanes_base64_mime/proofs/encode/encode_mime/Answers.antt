use Rattle.std.proofs.Common.{◌≡◌, ◌++◌, ◌<◌, ℕ, length, take, drop, min, sym, ap, ◌∙◌, arith, eqb, eqb-true, false, []}
use Rattle.std.proofs.lemmas.Bool.{eqb-false}
use Rattle.std.proofs.lemmas.List.{append_assoc, append-nil, nil_from_length}
use Rattle.octet_lanes.specs.declared.alphabet.Alphabet.TheVariants.{Base64}
use Rattle.octet_lanes.specs.Encoding.{encoding_of}
use Rattle.lanes_base64_mime.specs.MimeBase64.{line_break, mime_encoding_of}
use Rattle.lanes_base64_mime.proofs.Lines.{mime_encoding_of-none, next_line}
use Rattle.lanes_base64_mime.proofs.encode.encode_mime.Goals as goal

not_empty : (n : ℕ) → eqb n 0 ≡ false → 0 < n
not_empty n e = let ne = eqb-false n 0 e in omega arith

pub lines-preserved : goal.lines-preserved
lines-preserved c =
    let rest = c.lines.rest.now in
    let out = c.lines.out.items in
    let m = min (length rest) 57 in
    let line = encoding_of Base64 (take m rest) ++ line_break in
    let after = c.split_at.ensures.back ∙ ap (λ n. drop n rest) c.min.ensures in
    let some : 0 < length rest = not_empty (length rest) (sym c.is_empty.ensures ∙ c.lines-test.true) in
    (λ i. c.in_ok-append_line.ensures i ++ mime_encoding_of (after i))
    ∙ append_assoc out line (mime_encoding_of (drop m rest))
    ∙ ap (λ l. out ++ l) (sym (next_line rest some))
    ∙ c.lines.invariant

pub returns : goal.returns
returns c =
    let rest = c.lines.rest.now in
    let none : rest ≡ [] = nil_from_length rest (eqb-true _ _ (sym c.is_empty.ensures ∙ c.lines-test.false)) in
    sym (append-nil c.lines.out.items) ∙ ap (λ l. c.lines.out.items ++ l) (sym (ap mime_encoding_of none ∙ mime_encoding_of-none)) ∙ c.lines.invariant
