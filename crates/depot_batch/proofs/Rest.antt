-- The words after a command's name, one by one.
use Rattle.std.proofs.Common.{arith, ◌≡◌, ◌≤◌, ◌∷◌, [], ℕ, List, Bor, drop, length, map, refl, slice_index_or}

pub two : (words : List (Bor (List ℕ))) (none : Bor (List ℕ)) → 2 ≤ length words
    → map (λ w. w.now) words ≡ (slice_index_or words 0 none).now ∷ (slice_index_or words 1 none).now ∷ map (λ w. w.now) (drop 2 words)
two [] none le = absurd (omega (arith, le))
two (first ∷ []) none le = absurd (omega (arith, le))
two (first ∷ second ∷ rest) none le = refl

pub three : (words : List (Bor (List ℕ))) (none : Bor (List ℕ)) → 3 ≤ length words
    → map (λ w. w.now) words ≡ (slice_index_or words 0 none).now ∷ (slice_index_or words 1 none).now ∷ (slice_index_or words 2 none).now ∷ map (λ w. w.now) (drop 3 words)
three [] none le = absurd (omega (arith, le))
three (first ∷ []) none le = absurd (omega (arith, le))
three (first ∷ second ∷ []) none le = absurd (omega (arith, le))
three (first ∷ second ∷ third ∷ rest) none le = refl
