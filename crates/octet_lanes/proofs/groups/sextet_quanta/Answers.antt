use Rattle.std.proofs.Common.{◌≡◌, ℕ, ◌+◌, ◌*◌, ◌<◌, ◌^◌, List, [], ◌∷◌, ◌++◌, map, take, replicate, get_or, refl, sym, ap, ◌∙◌, subst, arith}
use Rattle.std.specs.List.{flat_map}
use Rattle.std.specs.Simd.Lanes.{Each1, number_l, digits_l, pick_l}
use Rattle.std.proofs.lemmas.List.{get_or_past}
use Rattle.std.proofs.lemmas.Simd.{pick_l-range_with_len}
use Rattle.octet_lanes.specs.Encoding.{bits_of, all_bits}
use Rattle.octet_lanes.proofs.Lanes.{octets_in}
use Rattle.octet_lanes.proofs.Relaned.{number-lt}
use Rattle.octet_lanes.proofs.Quanta.{bits_of-octets, number-padded, lanes_of-quanta, bits_of-quanta, small_quanta, pick_l-padded, octet_at}
use Rattle.octet_lanes.proofs.groups.sextet_quanta.Goals as goal

pub returns : goal.returns
returns c =
    let o = c.args.octets in
    let at : ℕ → ℕ = λ k. get_or o k 0 in
    let small : (k : ℕ) → at k < 256 = λ k. octet_at o k (octets_in o c.fits-octets.1) in
    let low : ℕ → List ℕ = λ j. at (3 * j + 2) ∷ at (3 * j + 1) ∷ at (3 * j) ∷ [] in
    let prefix : ℕ → List ℕ = λ j. low j ++ at 32 ∷ [] in
    let quantum : ℕ → List ℕ = λ j. at (3 * j) ∷ at (3 * j + 1) ∷ at (3 * j + 2) ∷ [] in
    let lows : (j : ℕ) → Each1 (λ x. x < 256) (low j) = λ j. (small (3 * j + 2), (small (3 * j + 1), (small (3 * j), tt))) in
    let prefixes : (j : ℕ) → Each1 (λ x. x < 256) (prefix j) = λ j. (small (3 * j + 2), (small (3 * j + 1), (small (3 * j), (small 32, tt)))) in
    let none : at 32 ≡ 0 = get_or_past o 32 0 (omega (arith, c.fits-octets.0)) in
    let number : (j : ℕ) → number_l 256 (prefix j) ≡ number_l 256 (low j) = λ j. ap (λ x. number_l 256 (low j ++ replicate 1 x)) none ∙ number-padded (low j) 1 in
    let js : List ℕ = 0 ∷ 1 ∷ 2 ∷ 3 ∷ 4 ∷ 5 ∷ 6 ∷ 7 ∷ [] in
    let is : digits_l (256 ^ 4) 8 (number_l 256 (pick_l 0 (o ++ replicate 32 0) (flat_map (λ j. (3 * j + 2) ∷ (3 * j + 1) ∷ (3 * j) ∷ 32 ∷ []) js))) ≡ map (λ j. number_l 256 (prefix j)) js =
    ap (λ l. digits_l (256 ^ 4) 8 (number_l 256 l)) (pick_l-padded 32 o (flat_map (λ j. (3 * j + 2) ∷ (3 * j + 1) ∷ (3 * j) ∷ 32 ∷ []) js))
    ∙ lanes_of-quanta 4 prefix (λ j. refl) prefixes js in
    let bits = bits_of-quanta 24 (λ j. number_l 256 (prefix j)) quantum (λ j. ap (bits_of 24) (number j) ∙ bits_of-octets (low j) (lows j)) js in
    let all : all_bits 8 (flat_map quantum js) ≡ all_bits 8 (take 24 o) = ap (all_bits 8) (pick_l-range_with_len 0 o 0 24 (omega (arith, c.fits-octets.0))) in
    record {
      bits = ap (all_bits 24) is ∙ bits ∙ all;
      small = subst (Each1 (λ x. x < 2 ^ 24)) (sym is) (small_quanta (2 ^ 24) (λ j. number_l 256 (prefix j)) (λ j. subst (λ x. x < 2 ^ 24) (sym (number j)) (number-lt 256 (low j) (lows j))) js);
    }
