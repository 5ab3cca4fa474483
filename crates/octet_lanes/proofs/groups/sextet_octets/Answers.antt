use Rattle.std.proofs.Common.{◌≡◌, ℕ, ◌+◌, ◌*◌, ◌/◌, ◌%◌, ◌<◌, ◌^◌, List, [], ◌∷◌, ◌++◌, take, replicate, get_or, refl, sym, ap, ◌∙◌, arith}
use Rattle.std.specs.List.{flat_map}
use Rattle.std.specs.Simd.Lanes.{number_l, digits_l}
use Rattle.std.proofs.lemmas.Simd.{get_or_narrower, pick_l_left, pick_l_whole, Each1-weaker, Each1-get_or}
use Rattle.octet_lanes.specs.Encoding.{bits_of, all_bits}
use Rattle.octet_lanes.proofs.Quanta.{bits_of-digits, bits_of-octets_back}
use Rattle.octet_lanes.proofs.groups.sextet_octets.Goals as goal

pub returns : goal.returns
returns c =
    let zs = c.args.quanta in
    let small = Each1-weaker (λ z. z < 2 ^ 24) (λ z. z < 4294967296) (λ z h. omega arith) zs c.requires in
    let octets : List ℕ = digits_l 256 32 (number_l 4294967296 zs) in
    let at : ℕ → ℕ = λ k. get_or octets k 0 in
    let z : ℕ → ℕ = λ j. get_or zs j 0 in
    let each : (j i : ℕ) → j < 8 → i < 4 → at (4 * j + i) ≡ z j / 256 ^ i % 256 = λ j i a b. get_or_narrower 4294967296 4 256 32 zs j i refl small b (omega arith) in
    let back : ℕ → List ℕ = λ j. at (4 * j + 2) ∷ at (4 * j + 1) ∷ at (4 * j + 0) ∷ [] in
    let same : (j : ℕ) → j < 8 → all_bits 8 (back j) ≡ bits_of 24 (z j) = λ j h.
    let below : z j < 2 ^ 24 = Each1-get_or (λ x. x < 2 ^ 24) zs j 0 (omega (arith, c.fits-quanta.0)) c.requires in
    let e0 : at (4 * j + 0) ≡ z j % 256 = each j 0 h (omega arith) ∙ (omega arith) in
    let e1 : at (4 * j + 1) ≡ z j / 256 % 256 = each j 1 h (omega arith) ∙ (omega arith) in
    let e2 : at (4 * j + 2) ≡ z j / 256 / 256 % 256 = each j 2 h (omega arith) ∙ (omega arith) in
    ap (all_bits 8) (λ i. e2 i ∷ e1 i ∷ e0 i ∷ []) ∙ sym (bits_of-digits 3 (z j) below) in
    let js : List ℕ = 0 ∷ 1 ∷ 2 ∷ 3 ∷ 4 ∷ 5 ∷ 6 ∷ 7 ∷ [] in
    let all = bits_of-octets_back 24 z back 8 same js (omega arith, (omega arith, (omega arith, (omega arith, (omega arith, (omega arith, (omega arith, (omega arith, tt)))))))) in
    ap (λ l. all_bits 8 (take 24 l)) (pick_l_left 0 octets octets 32 (flat_map (λ j. (4 * j + 2) ∷ (4 * j + 1) ∷ (4 * j + 0) ∷ []) js ++ replicate 8 3) refl tt) ∙ all ∙ ap (all_bits 24) (pick_l_whole 0 zs 8 c.fits-quanta.0)
