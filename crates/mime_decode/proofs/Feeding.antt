-- A body in base64, which is fed line by line.
use Rattle.std.proofs.Common.{◌≡◌, ℕ, ◌+◌, ◌-◌, ◌<◌, ◌≤◌, List, [], ◌∷◌, ◌++◌, length, drop, sym, ap, ◌∙◌, arith, append-nil}
use Rattle.std.specs.List.{slice_range}
use Rattle.std.proofs.lemmas.List.{append_assoc, drop-drop, nil_from_length, length-drop, take-append-drop}
use Rattle.octet_lanes.specs.Encoding.{octets_of}
use Rattle.lanes_base64_mime.specs.MimeBase64.{mime_decoding_of}
use Rattle.lanes_base64_mime.specs.Pieces.{Kept, bits_with, kept_with, nothing_kept}
use Rattle.lanes_base64_mime.proofs.Pieces.{mime_octets_of, octets_in_turn-joined}

-- what is left of a text is a piece of it and what is left then
left_in_two : (text : List ℕ) (place start stop : ℕ) → start ≡ place → start ≤ stop → drop place text ≡ slice_range text start stop ++ drop stop text
left_in_two text place start stop at forward =
    let end : start + (stop - start) ≡ stop = omega arith in
    ap (λ n. drop n text) (sym at)
    ∙ sym (take-append-drop (stop - start) (drop start text))
    ∙ ap (λ rest. slice_range text start stop ++ rest) (drop-drop (stop - start) start text ∙ ap (λ n. drop n text) end)

none_left : (text : List ℕ) (place : ℕ) → place ≡ length text → drop place text ≡ []
none_left text place ended = nil_from_length (drop place text) (omega (arith, length-drop place text))

-- the octets of what is kept and of a text in two
bits_in_two : (kept : Kept) (piece rest : List ℕ) → length kept.bits < 8
    → octets_of (bits_with kept (piece ++ rest)) ≡ octets_of (bits_with kept piece) ++ octets_of (bits_with (kept_with kept piece) rest)
bits_in_two kept piece rest few =
    let all = octets_of (bits_with kept piece) in
    ap (λ r. octets_of (bits_with kept (piece ++ r))) (sym (append-nil rest))
    ∙ sym (octets_in_turn-joined (piece ∷ rest ∷ []) kept few)
    ∙ ap (λ r. all ++ r) (append-nil (octets_of (bits_with (kept_with kept piece) rest)))

pub base64_begun : (text octets : List ℕ) (kept : Kept) (place : ℕ) → octets ≡ [] → kept ≡ nothing_kept → place ≡ 0
    → octets ++ octets_of (bits_with kept (drop place text)) ≡ mime_decoding_of text
base64_begun text octets kept place none nothing start =
    ap (λ os. os ++ octets_of (bits_with kept (drop place text))) none
    ∙ ap (λ k. octets_of (bits_with k (drop place text))) nothing
    ∙ ap (λ n. octets_of (bits_with nothing_kept (drop n text))) start
    ∙ mime_octets_of text

pub base64_fed : (text octets new : List ℕ) (kept after : Kept) (whole : List ℕ) (place start stop : ℕ) → start ≡ place → start ≤ stop → length kept.bits < 8
    → new ≡ octets ++ octets_of (bits_with kept (slice_range text start stop)) → after ≡ kept_with kept (slice_range text start stop)
    → octets ++ octets_of (bits_with kept (drop place text)) ≡ whole → new ++ octets_of (bits_with after (drop stop text)) ≡ whole
base64_fed text octets new kept after whole place start stop at forward few appended kept_is so_far =
    let piece = slice_range text start stop in
    let rest = drop stop text in
    ap (λ n. n ++ octets_of (bits_with after rest)) appended
    ∙ ap (λ k. (octets ++ octets_of (bits_with kept piece)) ++ octets_of (bits_with k rest)) kept_is
    ∙ append_assoc octets (octets_of (bits_with kept piece)) (octets_of (bits_with (kept_with kept piece) rest))
    ∙ ap (λ r. octets ++ r) (sym (bits_in_two kept piece rest few))
    ∙ ap (λ t. octets ++ octets_of (bits_with kept t)) (sym (left_in_two text place start stop at forward))
    ∙ so_far

pub base64_ended : (text octets : List ℕ) (kept : Kept) (whole : List ℕ) (place : ℕ) → place ≡ length text → length kept.bits < 8
    → octets ++ octets_of (bits_with kept (drop place text)) ≡ whole → octets ≡ whole
base64_ended text octets kept whole place ended few so_far =
    sym (append-nil octets)
    ∙ ap (λ r. octets ++ r) (octets_in_turn-joined [] kept few)
    ∙ ap (λ t. octets ++ octets_of (bits_with kept t)) (sym (none_left text place ended))
    ∙ so_far
