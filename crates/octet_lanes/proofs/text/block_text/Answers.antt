use Rattle.std.proofs.Common.{◌≡◌, ◌+◌, ◌*◌, ◌-◌, ◌++◌, length, take, drop, replicate, refl, sym, ap, ◌∙◌, arith}
use Rattle.std.proofs.lemmas.List.{length-append, length-replicate, length-take, length-drop}
use Rattle.std.specs.Int.{div_ceil}
use borrow.Rule.Slice.PartMut.{put_mid}
use Rattle.octet_lanes.specs.Encoding.{width, quantum, encoding_of, lacking, padding}
use Rattle.octet_lanes.proofs.Texts.{encoding_padded, length-encoding_whole, symbols_in, padded_symbols, symbols_are, few_characters, padded_over, octets_over, in_lanes}
use Rattle.octet_lanes.proofs.text.block_text.Goals as goal

pub returns-clause-text : goal.returns-clause-text
returns-clause-text c =
    let a = c.args.alphabet in
    let xs = c.args.octets.now in
    let n = length xs in
    let b = 4 * width a in
    let s = symbols_in a n in
    let k = lacking (quantum a) s in
    let lanes : take b (c.copy_from_slice.new.self ++ drop n (replicate 32 0)) ≡ xs ++ replicate (b - n) 0 =
    ap (λ l. take b (l ++ drop n (replicate 32 0))) c.copy_from_slice.ensures.after ∙ octets_over xs n b refl c.requires (in_lanes a) in
    let text = c.block_symbols-text.result in
    let is : text ≡ encoding_of a (xs ++ replicate (b - n) 0) = c.block_symbols-text.ensures ∙ ap (encoding_of a) lanes in
    let whole : length (xs ++ replicate (b - n) 0) ≡ b = length-append xs (replicate (b - n) 0) ∙ ap (λ m. n + m) (length-replicate (b - n) 0) ∙ (omega arith) in
    let long : length text ≡ 32 = ap length is ∙ length-encoding_whole a (xs ++ replicate (b - n) 0) whole in
    let symbols : c.div_ceil-symbols.result ≡ s = c.div_ceil-symbols.ensures ∙ ap (div_ceil (8 * n)) c.width.ensures ∙ symbols_are a n in
    let all : c.div_ceil-quanta.result * c.quantum_characters.result ≡ s + k =
    (λ i. c.div_ceil-quanta.ensures i * c.quantum_characters.ensures i) ∙ padded_symbols a n c.quantum_octets.result c.quantum_octets.ensures in
    let fill = c.fill.new.self in
    let d = c.div_ceil-symbols.result in
    let part : length (take (32 - d) (drop d text)) ≡ 32 - s = omega (arith, length-take (32 - d) (drop d text), length-drop d text) in
    let fills : fill ≡ replicate (32 - s) padding = c.fill.ensures.after (λ y e. e) ∙ ap (λ m. replicate m padding) part in
    (λ i. take (all i) (put_mid (symbols i) (32 - symbols i) text fill))
    ∙ padded_over text fill s k long (few_characters a n c.requires) fills
    ∙ sym (encoding_padded a xs text c.requires is)
