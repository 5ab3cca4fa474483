use Rattle.std.proofs.Common.{◌≡◌, ℕ, ◌+◌, ◌*◌, ◌/◌, ◌%◌, ◌<◌, ◌^◌, List, [], ◌∷◌, ◌++◌, take, replicate, get_or, refl, sym, ap, ◌∙◌, arith}
use Rattle.std.specs.List.{flat_map}
use Rattle.std.specs.Simd.Lanes.{number_l, digits_l}
use Rattle.std.proofs.lemmas.Simd.{get_or_narrower, pick_l_left, pick_l_whole, Each1-weaker, Each1-get_or}
use Rattle.octet_lanes.specs.Encoding.{bits_of, all_bits}
use Rattle.octet_lanes.proofs.Quanta.{bits_of-digits, bits_of-octets_back}
use Rattle.octet_lanes.proofs.groups.quintet_octets.Goals as goal

pub returns : goal.returns
returns c =
    let zs = c.args.quanta in
    let small = Each1-weaker (λ z. z < 2 ^ 40) (λ z. z < 18446744073709551616) (λ z h. omega arith) zs c.requires in
    let octets : List ℕ = digits_l 256 32 (number_l 18446744073709551616 zs) in
    let at : ℕ → ℕ = λ k. get_or octets k 0 in
    let z : ℕ → ℕ = λ j. get_or zs j 0 in
    let each : (j i : ℕ) → j < 4 → i < 8 → at (8 * j + i) ≡ z j / 256 ^ i % 256 = λ j i a b. get_or_narrower 18446744073709551616 8 256 32 zs j i refl small b (omega arith) in
    let back : ℕ → List ℕ = λ j. at (8 * j + 4) ∷ at (8 * j + 3) ∷ at (8 * j + 2) ∷ at (8 * j + 1) ∷ at (8 * j + 0) ∷ [] in
    let same : (j : ℕ) → j < 4 → all_bits 8 (back j) ≡ bits_of 40 (z j) = λ j h.
    let below : z j < 2 ^ 40 = Each1-get_or (λ x. x < 2 ^ 40) zs j 0 (omega (arith, c.fits-quanta.0)) c.requires in
    let e0 : at (8 * j + 0) ≡ z j % 256 = each j 0 h (omega arith) ∙ (omega arith) in
    let e1 : at (8 * j + 1) ≡ z j / 256 % 256 = each j 1 h (omega arith) ∙ (omega arith) in
    let e2 : at (8 * j + 2) ≡ z j / 256 / 256 % 256 = each j 2 h (omega arith) ∙ (omega arith) in
    let e3 : at (8 * j + 3) ≡ z j / 256 / 256 / 256 % 256 = each j 3 h (omega arith) ∙ (omega arith) in
    let e4 : at (8 * j + 4) ≡ z j / 256 / 256 / 256 / 256 % 256 = each j 4 h (omega arith) ∙ (omega arith) in
    ap (all_bits 8) (λ i. e4 i ∷ e3 i ∷ e2 i ∷ e1 i ∷ e0 i ∷ []) ∙ sym (bits_of-digits 5 (z j) below) in
    let js : List ℕ = 0 ∷ 1 ∷ 2 ∷ 3 ∷ [] in
    let all = bits_of-octets_back 40 z back 4 same js (omega arith, (omega arith, (omega arith, (omega arith, tt)))) in
    ap (λ l. all_bits 8 (take 20 l)) (pick_l_left 0 octets octets 32 (flat_map (λ j. (8 * j + 4) ∷ (8 * j + 3) ∷ (8 * j + 2) ∷ (8 * j + 1) ∷ (8 * j + 0) ∷ []) js ++ replicate 12 5) refl tt) ∙ all ∙ ap (all_bits 40) (pick_l_whole 0 zs 4 c.fits-quanta.0)
