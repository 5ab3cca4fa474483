use Rattle.std.proofs.Common.{◌++◌, List, ℕ, take, drop, ap, ◌∙◌, ◌≡◌}
use Rattle.std.proofs.lemmas.List.{append_assoc}
use Rattle.octet_lanes.specs.declared.alphabet.Alphabet.TheVariants.{Base64}
use Rattle.octet_lanes.specs.Encoding.{encoding_of}
use Rattle.octet_lanes.proofs.Reading.{ok_then}
use Rattle.lanes_base64_mime.specs.MimeBase64.{line_break}
use Rattle.lanes_base64_mime.proofs.Lines.{whole_line}
use Rattle.lanes_base64_mime.proofs.encode.append_whole_line.Goals as goal

-- pieces that are appended in turn
in_turn : (out a b c d : List ℕ) → (((out ++ a) ++ b) ++ c) ++ d ≡ out ++ ((a ++ (b ++ c)) ++ d)
in_turn out a b c d =
    ap (λ l. (l ++ c) ++ d) (append_assoc out a b)
    ∙ ap (λ l. l ++ d) (append_assoc out (a ++ b) c ∙ ap (λ l. out ++ l) (append_assoc a b c))
    ∙ append_assoc out (a ++ (b ++ c)) d

pub returns : goal.returns
returns c =
    let octets = c.args.octets.now in
    let text = encoding_of Base64 in
    let out = c.args.out.now.items in
    let first = c.in_ok-extend_from_slice.ensures.items ∙ ap (λ l. out ++ l) c.symbols_at.ensures in
    let second = c.in_ok-extend_from_slice-2.ensures.items ∙ (λ i. first i ++ c.symbols_at-2.ensures i) in
    let third = c.in_ok-extend_from_slice-3.ensures.items ∙ (λ i. second i ++ take 12 (c.symbols_at-3.ensures i)) in
    ok_then c.extend_from_slice-4.result c.extend_from_slice-4.new.self.items c.extend_from_slice-3.new.self.items line_break c.extend_from_slice-4.ensures.items (λ e.
    e ∙ ap (λ l. l ++ line_break) third
    ∙ in_turn out (text (take 24 octets)) (text (take 24 (drop 24 octets))) (take 12 (text (take 24 (drop 48 octets)))) line_break
    ∙ ap (λ l. out ++ (l ++ line_break)) (whole_line octets c.told-octets))
