-- The first LF among the octets that are searched at once.
use Rattle.std.proofs.Common.{◌≡◌, ◌≢◌, ℕ, ◌+◌, ◌<◌, ◌≤◌, ◌%◌, ◌^◌, cond, eqb, not, List, length, get_or, map, replicate, Bool, ap, ◌∙◌, arith, w8, sym, eq-eqb}
use Rattle.std.specs.Simd.Lanes.{chunk, zip2, mask_l, top}
use Rattle.std.specs.Int.Count.{count_trailing_zeros}
use Rattle.std.specs.List.{prefix_len}
use Rattle.std.proofs.lemmas.Bool.{eqb-true, eqb-false, ne_eqb}
use Rattle.std.proofs.lemmas.Simd.{bitmask_splat, first_set_mask_l, length-chunk, run_in_chunk_le, run_in_chunk_fails, run_in_chunk_stops}

-- which of the first sixteen octets are LF
abbrev pub feeds_of : List ℕ → ℕ
feeds_of text = mask_l (map (top 7) (zip2 (λ a b. cond (eqb a b) 255 0) (chunk 0 16 text) (replicate 16 10))) % 2 ^ 64

abbrev is_feed : ℕ → Bool
is_feed octet = eqb octet 10

-- so many places come before the first LF of the first sixteen octets
pub record IsBeforeFeed (text : List ℕ) (places : ℕ) : Type 0 where
  pub few : places ≤ 16
  pub before : (k : ℕ) → k < places → get_or text k 0 ≢ 10
  pub there : places < 16 → get_or text places 0 ≡ 10

module _ (text : List ℕ) (long : 16 ≤ length text) where
  counted : cond (eqb (feeds_of text) 0) 16 (count_trailing_zeros 64 (feeds_of text)) ≡ prefix_len (λ x. not (is_feed x)) (chunk 0 16 text)
  counted =
      let lanes = length-chunk 0 16 text (omega arith) in
      ap (λ m. cond (eqb m 0) 16 (count_trailing_zeros 64 m)) (bitmask_splat w8 eqb (chunk 0 16 text) 16 10 lanes (omega arith))
      ∙ first_set_mask_l is_feed (chunk 0 16 text) 16 lanes (omega arith)

  by_count : (places : ℕ) → places ≡ prefix_len (λ x. not (is_feed x)) (chunk 0 16 text) → IsBeforeFeed text places
  by_count places is = record {
    few = run_in_chunk_le is_feed text 0 16 places 0 (omega arith) is;
    before = λ k lt. eqb-false (get_or text k 0) 10 (run_in_chunk_fails is_feed text 0 16 places 0 (omega arith) is k (omega arith) (omega arith));
    there = λ short. eqb-true (get_or text places 0) 10 (ap (λ k. is_feed (get_or text k 0)) (sym (zero_add places)) ∙ run_in_chunk_stops is_feed text 0 16 places 0 (omega arith) is short);
  }
    where
      zero_add : (n : ℕ) → 0 + n ≡ n
      zero_add n = omega arith

  pub no_feed_near : feeds_of text ≡ 0 → IsBeforeFeed text 16
  no_feed_near none = by_count 16 (ap (λ b. cond b 16 (count_trailing_zeros 64 (feeds_of text))) (sym (eq-eqb _ _ none)) ∙ counted)

  pub feed_near : feeds_of text ≢ 0 → IsBeforeFeed text (count_trailing_zeros 64 (feeds_of text))
  feed_near some = by_count (count_trailing_zeros 64 (feeds_of text)) (ap (λ b. cond b 16 (count_trailing_zeros 64 (feeds_of text))) (sym (ne_eqb _ _ some)) ∙ counted)
