-- Texts in lines.
use Rattle.std.proofs.Common.{◌≡◌, ℕ, zero, suc, ◌+◌, ◌-◌, ◌*◌, ◌/◌, ◌<◌, ◌≤◌, Bool, true, false, not, cond, eqb, List, [], ◌∷◌, ◌++◌, length, take, drop, min, refl, sym, ap, ◌∙◌, inl, inr, arith}
use Rattle.std.specs.List.{flat_map, prefix_len}
use Rattle.std.proofs.lemmas.Bool.{cases_lt}
use Rattle.std.proofs.lemmas.List.{append_assoc, append-nil, take-append-drop, take_all, drop_all, length-take-le, length-drop, take-take, take_at, drop-take, drop-drop}
use Rattle.octet_lanes.specs.declared.alphabet.Alphabet.TheVariants.{Base64}
use Rattle.octet_lanes.specs.Encoding.{IsOctets, all_bits, before_padding, class_of, cut, decoding_of, encoding_of, first_pieces, octets_of, padding, stray, values_of}
use Rattle.octet_lanes.proofs.Pieces.{cut-nil, cut-step, cut-append}
use Rattle.octet_lanes.proofs.Texts.{encoding_whole_quanta, encoding_of-none, length-encoding_of}
use Rattle.octet_lanes.proofs.ReadBack.{reads_back}
use Rattle.lanes_base64_mime.specs.MimeBase64.{line_break, in_lines, mime_encoding_of, mime_decoding_of}

-- ---- one line after the other

pub mime_encoding_of-none : mime_encoding_of [] ≡ []
unfolding mime_encoding_of
mime_encoding_of-none = ap in_lines (encoding_of-none Base64) ∙ ap (flat_map (λ line. line ++ line_break)) (cut-nil 76 (omega arith))

-- a text of at most a line
one_line : (text : List ℕ) → 0 < length text → length text ≤ 76 → in_lines text ≡ text ++ line_break
one_line text some few =
    ap (flat_map (λ line. line ++ line_break)) (cut-step 76 text (omega arith) some ∙ (λ i. take_all 76 text few i ∷ (ap (cut 76) (drop_all 76 text few) ∙ cut-nil 76 (omega arith)) i))
    ∙ append-nil (text ++ line_break)

pub next_line : (rest : List ℕ) → 0 < length rest
    → mime_encoding_of rest ≡ (encoding_of Base64 (take (min (length rest) 57) rest) ++ line_break) ++ mime_encoding_of (drop (min (length rest) 57) rest)
unfolding mime_encoding_of
next_line rest some =
    elim (cases_lt (length rest) 58) [
      | inl l ↦
          let all : min (length rest) 57 ≡ length rest = omega arith in
          let line : take (min (length rest) 57) rest ≡ rest = take_all (min (length rest) 57) rest (omega arith) in
          let none : drop (min (length rest) 57) rest ≡ [] = drop_all (min (length rest) 57) rest (omega arith) in
          let count = length-encoding_of Base64 rest in
          one_line (encoding_of Base64 rest) (omega arith) (omega arith)
          ∙ sym (append-nil (encoding_of Base64 rest ++ line_break))
          ∙ (λ i. (encoding_of Base64 (sym line i) ++ line_break) ++ sym (ap (λ l. in_lines (encoding_of Base64 l)) none ∙ ap in_lines (encoding_of-none Base64) ∙ ap (flat_map (λ line. line ++ line_break)) (cut-nil 76 (omega arith))) i)
      | inr g ↦
          let m = min (length rest) 57 in
          let some_line : m ≡ 57 = omega arith in
          let prefix : length (take m rest) * 8 ≡ 19 * 4 * 6 = omega (arith, length-take-le m rest (omega arith)) in
          let two = encoding_whole_quanta Base64 (take m rest) (drop m rest) 19 prefix in
          ap (λ l. in_lines (encoding_of Base64 l)) (sym (take-append-drop m rest))
          ∙ ap in_lines two.0
          ∙ ap (flat_map (λ line. line ++ line_break)) (cut-append 76 (encoding_of Base64 (take m rest)) (encoding_of Base64 (drop m rest)) (omega arith) two.1)
    ]

-- ---- a whole line, by blocks

-- a prefix part and what follows it
in_two : (n m : ℕ) (xs : List ℕ) → n ≤ m → take m xs ≡ take n xs ++ take (m - n) (drop n xs)
in_two n m xs le =
    let count : n + (m - n) ≡ m = omega arith in
    sym (take-append-drop n (take m xs))
    ∙ (λ i. take-take n m xs le i ++ (ap (λ k. drop n (take k xs)) (sym count) ∙ drop-take n (m - n) xs) i)

-- two blocks, and the prefix of a third
pub whole_line : (octets : List ℕ) → length octets ≡ 80
    → encoding_of Base64 (take 24 octets) ++ (encoding_of Base64 (take 24 (drop 24 octets)) ++ take 12 (encoding_of Base64 (take 24 (drop 48 octets)))) ≡ encoding_of Base64 (take 57 octets)
whole_line octets long =
    let text = encoding_of Base64 in
    let a = take 24 octets in
    let b = take 24 (drop 24 octets) in
    let c = take 9 (drop 48 octets) in
    let d = take 15 (drop 9 (drop 48 octets)) in
    let a_long : length a * 8 ≡ 8 * 4 * 6 = omega (arith, length-take-le 24 octets (omega arith)) in
    let b_long : length b * 8 ≡ 8 * 4 * 6 = omega (arith, length-take-le 24 (drop 24 octets) (omega (arith, length-drop 24 octets))) in
    let c_long : length c * 8 ≡ 3 * 4 * 6 = omega (arith, length-take-le 9 (drop 48 octets) (omega (arith, length-drop 48 octets))) in
    let parts : take 57 octets ≡ a ++ (b ++ c) =
    in_two 24 57 octets (omega arith) ∙ ap (λ l. a ++ l) (in_two 24 33 (drop 24 octets) (omega arith) ∙ ap (λ l. b ++ take 9 l) (drop-drop 24 24 octets)) in
    let first = encoding_whole_quanta Base64 a (b ++ c) 8 a_long in
    let second = encoding_whole_quanta Base64 b c 8 b_long in
    let third = encoding_whole_quanta Base64 c d 3 c_long in
    let prefix : take 12 (text (take 24 (drop 48 octets))) ≡ text c =
    ap (λ l. take 12 (text l)) (in_two 9 24 (drop 48 octets) (omega arith)) ∙ ap (take 12) third.0 ∙ take_at (text c) (text d) 12 third.1 in
    ap (λ l. text a ++ (text b ++ l)) prefix ∙ ap (λ l. text a ++ l) (sym second.0) ∙ sym first.0 ∙ ap text (sym parts)

-- ---- line breaks are passed over

-- the values before the first `=`
abbrev read : List ℕ → List ℕ
read text = values_of Base64 (before_padding text)

-- the same after an octet, which is the padding where b says so
abbrev read_at : ℕ → Bool → List ℕ → List ℕ
read_at c b rest = values_of Base64 (take (cond (not b) (1 + prefix_len (λ x. not (eqb x padding)) rest) 0) (c ∷ rest))

read_next : (c : ℕ) (rest : List ℕ) → read_at c false rest ≡ values_of Base64 (c ∷ before_padding rest)
read_next c rest =
    let e : 1 + prefix_len (λ x. not (eqb x padding)) rest ≡ suc (prefix_len (λ x. not (eqb x padding)) rest) = omega arith in
    ap (λ n. values_of Base64 (take n (c ∷ rest))) e

read_at-same : (c : ℕ) (b : Bool) (xs ys : List ℕ) → read xs ≡ read ys → read_at c b xs ≡ read_at c b ys
read_at-same c true xs ys h = refl
read_at-same c false xs ys h =
    read_next c xs
    ∙ ap (λ l. cond (not (eqb (class_of Base64 c) stray)) (class_of Base64 c ∷ l) l) h
    ∙ sym (read_next c ys)

-- a first part is read in the same way
read_after : (prefix xs ys : List ℕ) → read xs ≡ read ys → read (prefix ++ xs) ≡ read (prefix ++ ys)
read_after [] xs ys h = h
read_after (c ∷ prefix) xs ys h = read_at-same c (eqb c padding) (prefix ++ xs) (prefix ++ ys) (read_after prefix xs ys h)

read_break : (xs : List ℕ) → read (line_break ++ xs) ≡ read xs
read_break xs =
    let e : 1 + (1 + prefix_len (λ x. not (eqb x padding)) xs) ≡ suc (suc (prefix_len (λ x. not (eqb x padding)) xs)) = omega arith in
    ap (λ n. values_of Base64 (take n (line_break ++ xs))) e

read_lines : (lines : List (List ℕ)) → read (flat_map (λ line. line ++ line_break) lines) ≡ read (flat_map (λ line. line) lines)
read_lines [] = refl
read_lines (line ∷ lines) =
    ap read (append_assoc line line_break (flat_map (λ l. l ++ line_break) lines))
    ∙ read_after line (line_break ++ flat_map (λ l. l ++ line_break) lines) (flat_map (λ l. l) lines) (read_break (flat_map (λ l. l ++ line_break) lines) ∙ read_lines lines)

joined_pieces : (k n : ℕ) (xs : List ℕ) → length xs ≤ n * k → flat_map (λ piece. piece) (first_pieces k n xs) ≡ xs
joined_pieces k zero [] h = refl
joined_pieces k zero (x ∷ xs) h = absurd (omega arith)
joined_pieces k (suc n) xs h =
    ap (λ l. take k xs ++ l) (joined_pieces k n (drop k xs) (omega (arith, length-drop k xs))) ∙ take-append-drop k xs

pub law : (octets : List ℕ) → IsOctets octets → mime_decoding_of (mime_encoding_of octets) ≡ octets
unfolding mime_encoding_of decoding_of
law octets are =
    let text = encoding_of Base64 octets in
    let joined = joined_pieces 76 ((length text + 75) / 76) text (omega arith) in
    ap (λ l. octets_of (all_bits 6 l)) (read_lines (cut 76 text) ∙ ap read joined) ∙ reads_back Base64 octets are
