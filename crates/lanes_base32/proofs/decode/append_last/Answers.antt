use Rattle.std.proofs.Common.{◌≡◌, List, [], ◌∷◌, ℕ, true, not, ◌&&◌, eqb, eq-eqb, refl, sym, ap, ◌∙◌, take}
use Rattle.std.specs.Cmp.Lexicographic.{pointwise}
use Rattle.std.proofs.lemmas.Bool.{false≢true}
use Rattle.octet_lanes.specs.Encoding.{all_bits, before_padding, values_of, whole, width}
use Rattle.octet_lanes.proofs.ReadBack.{bits_of_text}
use Rattle.lanes_base32.proofs.Blocks.{same_text}
use Rattle.lanes_base32.proofs.decode.append_last.Goals as goal

itself : (xs : List ℕ) → pointwise eqb xs xs ≡ true
itself [] = refl
itself (x ∷ xs) = ap (λ b. b && pointwise eqb xs xs) (eq-eqb x x refl) ∙ itself xs

pub returns-then-ne-clause-refused : goal.returns-then-ne-clause-refused
returns-then-ne-clause-refused c = λ e x are spells.
    let a = c.args.alphabet in
    let text = c.args.text.now in
    let octets = take c.block_octets-n.result.1 c.block_octets-n.result.0 in
    let bits : all_bits 8 octets ≡ all_bits 8 x = c.block_octets-n.ensures.bits ∙ ap (λ t. whole 8 (all_bits (width a) (values_of a (before_padding t)))) spells ∙ bits_of_text a x in
    let written : take c.block_text-len.result.1 c.block_text-len.result.0 ≡ text = c.block_text-len.ensures.text ∙ same_text a octets x bits ∙ sym spells in
    let equal : pointwise eqb (take c.block_text-len.result.1 c.block_text-len.result.0) text ≡ true = ap (λ l. pointwise eqb l text) written ∙ itself text in
    false≢true (ap not (sym equal) ∙ sym c.ne.ensures ∙ c.if-ne.true)
