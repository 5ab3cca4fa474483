-- Pieces of a text that others are appended to.
use Rattle.std.proofs.Common.{◌≡◌, ◌∙◌, ◌+◌, ◌-◌, ◌<◌, ◌≤◌, ℕ, zero, suc, ap, codes, refl, sym, arith, length-append, List, [], ◌∷◌, ◌++◌, get_or, length, drop, take, Some, slice_get}
use Rattle.std.proofs.Math.Seq.{drop-append_seam}
use Rattle.std.proofs.lemmas.List.{drop-append-le, length-drop, take-append-le, take_all}
use Rattle.std.proofs.lemmas.Grind.{get_or_default_zero}
use Rattle.std.proofs.lemmas.Option.{slice_get_past}
use Rattle.std.specs.List.{slice_range}
use Rattle.sieve_trace.specs.Pieces.{Rise, RiseFrom, pieces, pieces_from}
use Rattle.sieve_trace.specs.Printed.{place_in}

-- what has come behind a piece doesn't change it
same_piece : (text more : List ℕ) (start end : ℕ) → start ≤ end → end ≤ length text → slice_range (text ++ more) start end ≡ slice_range text start end
same_piece text more start end rises within =
    let room : end - start ≤ length (drop start text) = omega (arith, length-drop start text) in
    ap (take (end - start)) (drop-append-le start text more (omega arith)) ∙ take-append-le (end - start) (drop start text) more room

-- what has come is the last piece
last_piece : (text more : List ℕ) → slice_range (text ++ more) (length text) (length (text ++ more)) ≡ more
last_piece text more =
    let size : length (text ++ more) - length text ≡ length more = omega (arith, length-append text more) in
    ap (λ n. take n (drop (length text) (text ++ more))) size ∙ ap (take (length more)) (drop-append_seam text more) ∙ take_all (length more) more (omega arith)

rise_within : (start : ℕ) (ends : List ℕ) (whole : ℕ) → RiseFrom start ends whole → start ≤ whole
rise_within start [] whole rise = omega (arith, rise)
rise_within start (end ∷ ends) whole rise = omega (arith, rise.0, rise_within end ends whole rise.1)

more_from : (text more : List ℕ) (start : ℕ) (ends : List ℕ) → RiseFrom start ends (length text)
    → pieces_from (text ++ more) start (ends ++ length (text ++ more) ∷ []) ≡ pieces_from text start ends ++ more ∷ []
more_from text more start [] rise =
    ap (λ n. slice_range (text ++ more) n (length (text ++ more)) ∷ []) rise ∙ ap (λ t. t ∷ []) (last_piece text more)
more_from text more start (end ∷ ends) rise =
    ap (λ t. t ∷ pieces_from (text ++ more) end (ends ++ length (text ++ more) ∷ [])) (same_piece text more start end rise.0 (rise_within end ends (length text) rise.1))
    ∙ ap (λ ts. slice_range text start end ∷ ts) (more_from text more end ends rise.1)

rise_from : (start : ℕ) (ends : List ℕ) (whole more : ℕ) → RiseFrom start ends whole → whole ≤ more → RiseFrom start (ends ++ more ∷ []) more
rise_from start [] whole more rise le = (omega (arith, rise, le), refl)
rise_from start (end ∷ ends) whole more rise le = (rise.0, rise_from end ends whole more rise.1 le)

-- a piece more
pub piece_more : (text more : List ℕ) (bounds : List ℕ) → Rise bounds (length text) → pieces (text ++ more) (bounds ++ length (text ++ more) ∷ []) ≡ pieces text bounds ++ more ∷ []
piece_more text more [] rise = absurd rise
piece_more text more (start ∷ ends) rise = more_from text more start ends rise

pub rise_more : (text more : List ℕ) (bounds : List ℕ) → Rise bounds (length text) → Rise (bounds ++ length (text ++ more) ∷ []) (length (text ++ more))
rise_more text more [] rise = absurd rise
rise_more text more (start ∷ ends) rise = rise_from start ends (length text) (length (text ++ more)) rise (omega (arith, length-append text more))

-- ---- a piece

from_bounds : (start : ℕ) (ends : List ℕ) (whole at : ℕ) → RiseFrom start ends whole → at < length ends
    → (get_or (start ∷ ends) at 0 ≤ get_or ends at 0) × (get_or ends at 0 ≤ whole)
from_bounds start [] whole at rise lt = absurd (omega (arith, lt))
from_bounds start (end ∷ ends) whole zero rise lt = (rise.0, rise_within end ends whole rise.1)
from_bounds start (end ∷ ends) whole (suc at) rise lt = from_bounds end ends whole at rise.1 (omega (arith, lt))

from_piece : (text : List ℕ) (start : ℕ) (ends : List ℕ) (at : ℕ) → at < length ends
    → slice_get (pieces_from text start ends) at ≡ Some (slice_range text (get_or (start ∷ ends) at 0) (get_or ends at 0))
from_piece text start [] at lt = absurd (omega (arith, lt))
from_piece text start (end ∷ ends) zero lt = refl
from_piece text start (end ∷ ends) (suc at) lt = from_piece text end ends at (omega (arith, lt))

count_from : (text : List ℕ) (start : ℕ) (ends : List ℕ) → length (pieces_from text start ends) ≡ length ends
count_from text start [] = refl
count_from text start (end ∷ ends) = ap suc (count_from text end ends)

-- it lies between its bounds
piece_bounds : (bounds : List ℕ) (whole at : ℕ) → Rise bounds whole → at + 1 < length bounds
    → (get_or bounds at 0 ≤ get_or bounds (at + 1) 0) × (get_or bounds (at + 1) 0 ≤ whole)
piece_bounds [] whole at rise lt = absurd rise
piece_bounds (start ∷ ends) whole at rise lt =
    let next : at + 1 ≡ suc at = omega arith in
    rw next (from_bounds start ends whole at rise (omega (arith, lt)))

piece_at : (text bounds : List ℕ) (at : ℕ) → at + 1 < length bounds → slice_get (pieces text bounds) at ≡ Some (slice_range text (get_or bounds at 0) (get_or bounds (at + 1) 0))
piece_at text [] at lt = absurd (omega (arith, lt))
piece_at text (start ∷ ends) at lt =
    let next : at + 1 ≡ suc at = omega arith in
    rw next (from_piece text start ends at (omega (arith, lt)))

-- there are one fewer than bounds
piece_count : (text bounds : List ℕ) → length (pieces text bounds) ≡ length bounds - 1
piece_count text [] = refl
piece_count text (start ∷ ends) = count_from text start ends ∙ (let e : length ends ≡ length (start ∷ ends) - 1 = omega arith in e)

-- ---- as code has read the bounds

first_read : (bounds : List ℕ) (at start : ℕ) → at + 1 < length bounds → start ≡ get_or bounds at start → start ≡ get_or bounds at 0
first_read bounds at start lt is = is ∙ get_or_default_zero bounds at start (omega (arith, lt))

last_read : (bounds : List ℕ) (at end : ℕ) → at + 1 < length bounds → end ≡ get_or bounds (at + 1) end → end ≡ get_or bounds (at + 1) 0
last_read bounds at end lt is = is ∙ get_or_default_zero bounds (at + 1) end lt

pub read_rise : (bounds : List ℕ) (whole at start end : ℕ) → Rise bounds whole → at + 1 < length bounds → start ≡ get_or bounds at start → end ≡ get_or bounds (at + 1) end
    → (start ≤ end) × (end ≤ whole)
read_rise bounds whole at start end rise lt first last =
    let between = piece_bounds bounds whole at rise lt in (
      omega (arith, between.0, first_read bounds at start lt first, last_read bounds at end lt last),
      omega (arith, between.1, last_read bounds at end lt last),
    )

pub piece_read : (text bounds : List ℕ) (at start end : ℕ) → at + 1 < length bounds → start ≡ get_or bounds at start → end ≡ get_or bounds (at + 1) end
    → slice_range text start end ≡ place_in (slice_get (pieces text bounds) at)
piece_read text bounds at start end lt first last =
    ap (λ n. slice_range text n end) (first_read bounds at start lt first) ∙ ap (λ n. slice_range text (get_or bounds at 0) n) (last_read bounds at end lt last)
    ∙ sym (ap place_in (piece_at text bounds at lt))

pub no_piece : (text bounds : List ℕ) (at : ℕ) → length bounds ≤ at + 1 → codes ":" ≡ place_in (slice_get (pieces text bounds) at)
no_piece text bounds at le = sym (ap place_in (slice_get_past (pieces text bounds) at (omega (arith, piece_count text bounds, le))))
