-- Captures whose texts were put one after the other.
use Rattle.std.proofs.Common.{◌≡◌, ℕ, ◌+◌, ◌-◌, ◌≤◌, ◌<◌, List, [], ◌∷◌, ◌++◌, length, take, drop, get_or, sym, ap, ◌∙◌, arith, append-nil}
use Rattle.std.proofs.Math.Seq.{drop-append_seam}
use Rattle.std.proofs.lemmas.List.{take-append-le, take_all, take_more, drop-append-le, length-drop}
use Rattle.std.proofs.lemmas.List.Folds.{concat-append}
use Rattle.std.specs.List.{concat, slice_range}
use Rattle.glob_match.specs.declared.captures.Stretch.{Stretch}
use Rattle.glob_match.specs.Captures.{LieWithin, texts}

abbrev pub stretch_from : ℕ → ℕ → Stretch
stretch_from start end = record { start = start; end = end }

-- a stretch of the octets stays what it is where more come after them
same_text : (octets text : List ℕ) (start end : ℕ) → start ≤ end → end ≤ length octets → slice_range (octets ++ text) start end ≡ slice_range octets start end
same_text octets text start end ordered within =
    let room : end - start ≤ length (drop start octets) = omega (arith, length-drop start octets) in
    ap (take (end - start)) (drop-append-le start octets text (omega arith)) ∙ take-append-le (end - start) (drop start octets) text room

-- the stretch of the text that came last
last_text : (octets text : List ℕ) → slice_range (octets ++ text) (length octets) (length octets + length text) ≡ text
last_text octets text =
    let size : (length octets + length text) - length octets ≡ length text = omega arith in
    ap (λ n. take n (drop (length octets) (octets ++ text))) size ∙ ap (take (length text)) (drop-append_seam octets text) ∙ take_all (length text) text (omega arith)

-- a capture more
pub text_added : (octets text : List ℕ) (captures : List Stretch) → LieWithin (length octets) captures
    → texts (octets ++ text) (captures ++ stretch_from (length octets) (length octets + length text) ∷ []) ≡ texts octets captures ++ text ∷ []
text_added octets text [] lie = ap (λ t. t ∷ []) (last_text octets text)
text_added octets text (capture ∷ captures) lie =
    ap (λ t. t ∷ texts (octets ++ text) (captures ++ stretch_from (length octets) (length octets + length text) ∷ [])) (same_text octets text capture.start capture.end lie.0 lie.1)
    ∙ ap (λ ts. slice_range octets capture.start capture.end ∷ ts) (text_added octets text captures lie.2)

pub within_added : (size more : ℕ) (captures : List Stretch) → LieWithin size captures
    → LieWithin (size + more) (captures ++ stretch_from size (size + more) ∷ [])
within_added size more [] lie = (omega arith, omega arith, tt)
within_added size more (capture ∷ captures) lie = (lie.0, omega (arith, lie.1), within_added size more captures lie.2)

-- a text more, of those that are put one after the other
pub octets_more : (texts : List (List ℕ)) (place : ℕ) (octets added : List ℕ) → place < length texts → added ≡ get_or texts place [] → octets ≡ concat (take place texts)
    → octets ++ added ≡ concat (take (place + 1) texts)
octets_more texts place octets added lt is so_far =
    ap (λ o. o ++ added) so_far
    ∙ ap (λ t. concat (take place texts) ++ t) (is ∙ sym (append-nil (get_or texts place [])))
    ∙ sym (concat-append (take place texts) (get_or texts place [] ∷ []))
    ∙ ap concat (sym (take_more texts place [] lt))

pub texts_more : (texts : List (List ℕ)) (place : ℕ) (gathered : List (List ℕ)) (added : List ℕ) → place < length texts → added ≡ get_or texts place [] → gathered ≡ take place texts
    → gathered ++ added ∷ [] ≡ take (place + 1) texts
texts_more texts place gathered added lt is so_far =
    ap (λ g. g ++ added ∷ []) so_far ∙ ap (λ t. take place texts ++ t ∷ []) is ∙ sym (take_more texts place [] lt)
