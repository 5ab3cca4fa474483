-- A text in pieces.
use Rattle.std.proofs.Common.{◌≡◌, ℕ, zero, suc, ◌+◌, ◌*◌, ◌/◌, ◌%◌, ◌<◌, Bool, true, false, ◌||◌, not, cond, eqb, List, [], ◌∷◌, ◌++◌, length, map, take, drop, refl, sym, ap, ◌∙◌, arith}
use Rattle.std.specs.List.{concat, prefix_len}
use Rattle.std.proofs.lemmas.Bool.{eqb-false, false≢true}
use Rattle.std.proofs.lemmas.List.{append_assoc, append-nil, length-append, length-drop, length-take-le, nil_from_length, take-append-drop}
use Rattle.std.proofs.lemmas.List.Concat.{flat_map-append}
use Rattle.std.proofs.Math.Seq.{take-append-add}
use Rattle.octet_lanes.specs.declared.alphabet.Alphabet.TheVariants.{Base64}
use Rattle.octet_lanes.specs.Encoding.{all_bits, before_padding, bits_of, contains_padding, decoding_of, groups_of, left_over, number_of, octets_of, padding, text_bits, values_of, whole}
use Rattle.octet_lanes.proofs.Pieces.{cut-append, cut-nil}
use Rattle.octet_lanes.proofs.Reading.{before_next, few_left, free_prefix, values_of-append}
use Rattle.lanes_base64_mime.specs.MimeBase64.{mime_decoding_of}
use Rattle.lanes_base64_mime.specs.Pieces.{Kept, bits_with, kept_with, kept_in_turn, nothing_kept, octets_in_turn}

-- ---- whole octets, and what is left over

groups_in_two : (m : ℕ) (xs ys : List ℕ) → length xs ≡ m * 8 → groups_of 8 (xs ++ ys) ≡ groups_of 8 xs ++ groups_of 8 ys
groups_in_two zero xs ys long =
    let none : xs ≡ [] = nil_from_length xs (omega arith) in
    ap (λ l. groups_of 8 (l ++ ys)) none ∙ ap (λ l. l ++ groups_of 8 ys) (sym (ap (groups_of 8) none ∙ ap (map number_of) (cut-nil 8 (omega arith))))
groups_in_two (suc m) xs ys long =
    let first = take 8 xs in
    let rest = drop 8 xs in
    let enough : length first ≡ 8 = length-take-le 8 xs (omega arith) in
    let split : xs ≡ first ++ rest = sym (take-append-drop 8 xs) in
    let alone : groups_of 8 xs ≡ number_of first ∷ groups_of 8 rest = ap (groups_of 8) split ∙ ap (map number_of) (cut-append 8 first rest (omega arith) enough) in
    ap (λ l. groups_of 8 (l ++ ys)) split
    ∙ ap (groups_of 8) (append_assoc first rest ys)
    ∙ ap (map number_of) (cut-append 8 first (rest ++ ys) (omega arith) enough)
    ∙ ap (λ l. number_of first ∷ l) (groups_in_two m rest ys (omega (arith, length-drop 8 xs)))
    ∙ ap (λ l. l ++ groups_of 8 ys) (sym alone)

-- the octets of bits, then those of what these leave over and of more bits
octets_in_two : (bits more : List ℕ) → octets_of bits ++ octets_of (left_over 8 bits ++ more) ≡ octets_of (bits ++ more)
octets_in_two bits more =
    let edge = length bits / 8 * 8 in
    let prefix = whole 8 bits in
    let rest = left_over 8 bits ++ more in
    let long : length prefix ≡ edge = length-take-le edge bits (omega arith) in
    let all : prefix ++ rest ≡ bits ++ more = sym (append_assoc prefix (left_over 8 bits) more) ∙ ap (λ l. l ++ more) (take-append-drop edge bits) in
    let count : length (prefix ++ rest) / 8 * 8 ≡ length prefix + length rest / 8 * 8 = omega (arith, length-append prefix rest) in
    let first : whole 8 (prefix ++ rest) ≡ prefix ++ whole 8 rest = ap (λ n. take n (prefix ++ rest)) count ∙ take-append-add prefix rest (length rest / 8 * 8) in
    sym (groups_in_two (length bits / 8) prefix (whole 8 rest) long) ∙ ap (groups_of 8) (sym first) ∙ ap octets_of all

left_in_two : (bits more : List ℕ) → length (left_over 8 bits ++ more) % 8 ≡ length (bits ++ more) % 8
left_in_two bits more = omega (arith, length-append (left_over 8 bits) more, length-append bits more, length-drop (length bits / 8 * 8) bits)

-- ---- the bits of a text in two

before_first_padding : (x : ℕ) (text : List ℕ) → eqb x padding ≡ true → before_padding (x ∷ text) ≡ []
before_first_padding x text e = ap (λ b. take (cond (not b) (1 + prefix_len (λ o. not (eqb o padding)) text) 0) (x ∷ text)) e

-- nothing after the first `=` counts
ended_prefix : (piece rest : List ℕ) → contains_padding piece ≡ true → before_padding (piece ++ rest) ≡ before_padding piece
ended_prefix [] rest has = absurd (false≢true has)
ended_prefix (x ∷ piece) rest has = go (eqb x padding) refl has (ended_prefix piece rest)
  where
    go : (b : Bool) → eqb x padding ≡ b → (b || contains_padding piece) ≡ true → (contains_padding piece ≡ true → before_padding (piece ++ rest) ≡ before_padding piece)
        → before_padding ((x ∷ piece) ++ rest) ≡ before_padding (x ∷ piece)
    go true e h later = before_first_padding x (piece ++ rest) e ∙ sym (before_first_padding x piece e)
    go false e h later = before_next x (piece ++ rest) (eqb-false _ _ e) ∙ ap (λ l. x ∷ l) (later h) ∙ sym (before_next x piece (eqb-false _ _ e))

bits_in_two : (piece rest : List ℕ) → text_bits Base64 (piece ++ rest) ≡ text_bits Base64 piece ++ cond (contains_padding piece) [] (text_bits Base64 rest)
bits_in_two piece rest = go (contains_padding piece) refl
  where
    go : (b : Bool) → contains_padding piece ≡ b → text_bits Base64 (piece ++ rest) ≡ text_bits Base64 piece ++ cond b [] (text_bits Base64 rest)
    go true e = ap (λ l. all_bits 6 (values_of Base64 l)) (ended_prefix piece rest e) ∙ sym (append-nil (text_bits Base64 piece))
    go false e =
        let alone : before_padding piece ≡ piece = ap before_padding (sym (append-nil piece)) ∙ free_prefix piece [] e ∙ append-nil piece in
        ap (λ l. all_bits 6 (values_of Base64 l)) (free_prefix piece rest e)
        ∙ ap (all_bits 6) (values_of-append Base64 piece (before_padding rest))
        ∙ flat_map-append (bits_of 6) (values_of Base64 piece) (values_of Base64 (before_padding rest))
        ∙ ap (λ l. all_bits 6 (values_of Base64 l) ++ text_bits Base64 rest) (sym alone)

-- what is kept, then a text in two
with_in_two : (kept : Kept) (piece rest : List ℕ)
    → bits_with kept (piece ++ rest) ≡ bits_with kept piece ++ cond (kept.ended || contains_padding piece) [] (text_bits Base64 rest)
with_in_two kept piece rest = go kept.ended ∙ sym (append_assoc kept.bits _ _)
  where
    go : (b : Bool) → kept.bits ++ cond b [] (text_bits Base64 (piece ++ rest)) ≡ kept.bits ++ (cond b [] (text_bits Base64 piece) ++ cond (b || contains_padding piece) [] (text_bits Base64 rest))
    go true = refl
    go false = ap (λ l. kept.bits ++ l) (bits_in_two piece rest)

-- ---- pieces in turn

with_none : (kept : Kept) → bits_with kept [] ≡ kept.bits
with_none kept = go kept.ended
  where
    go : (b : Bool) → kept.bits ++ cond b [] (text_bits Base64 []) ≡ kept.bits
    go true = append-nil kept.bits
    go false = append-nil kept.bits

pub octets_in_turn-joined : (pieces : List (List ℕ)) (kept : Kept) → length kept.bits < 8 → octets_in_turn kept pieces ≡ octets_of (bits_with kept (concat pieces))
octets_in_turn-joined [] kept few =
    let none : length kept.bits / 8 * 8 ≡ 0 = omega arith in
    sym (ap octets_of (with_none kept) ∙ ap (λ n. groups_of 8 (take n kept.bits)) none ∙ ap (map number_of) (cut-nil 8 (omega arith)))
octets_in_turn-joined (piece ∷ pieces) kept few =
    let bits = bits_with kept piece in
    ap (λ l. octets_of bits ++ l) (octets_in_turn-joined pieces (kept_with kept piece) (few_left bits))
    ∙ octets_in_two bits (cond (kept.ended || contains_padding piece) [] (text_bits Base64 (concat pieces)))
    ∙ ap octets_of (sym (with_in_two kept piece (concat pieces)))

pub kept_in_turn-joined : (pieces : List (List ℕ)) (kept : Kept) → length kept.bits < 8 → length (kept_in_turn kept pieces).bits ≡ length (bits_with kept (concat pieces)) % 8
kept_in_turn-joined [] kept few = let same : length kept.bits ≡ length kept.bits % 8 = omega arith in same ∙ ap (λ l. length l % 8) (sym (with_none kept))
kept_in_turn-joined (piece ∷ pieces) kept few =
    let bits = bits_with kept piece in
    kept_in_turn-joined pieces (kept_with kept piece) (few_left bits)
    ∙ left_in_two bits (cond (kept.ended || contains_padding piece) [] (text_bits Base64 (concat pieces)))
    ∙ ap (λ l. length l % 8) (sym (with_in_two kept piece (concat pieces)))

-- the bits of a whole text are its decoding
pub mime_octets_of : (text : List ℕ) → octets_of (text_bits Base64 text) ≡ mime_decoding_of text
unfolding decoding_of
mime_octets_of text = refl

pub mime_octets : (pieces : List (List ℕ)) → octets_in_turn nothing_kept pieces ≡ mime_decoding_of (concat pieces)
mime_octets pieces = octets_in_turn-joined pieces nothing_kept (omega arith) ∙ mime_octets_of (concat pieces)
