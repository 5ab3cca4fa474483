-- The pieces of a text, one after another.
use Rattle.std.proofs.Common.{◌≡◌, ◌∙◌, ℕ, zero, suc, ◌+◌, ◌-◌, ◌<◌, ◌≤◌, Bool, true, false, List, [], ◌∷◌, ◌++◌, length, take, drop, Option, Some, ap, sym, refl, arith, lt-ltb, le-ltb, append-nil}
use Rattle.std.proofs.lemmas.List.{append_assoc, length-drop, take_all, take_at}
use Rattle.std.specs.Prelude.{if◌then◌else◌, nat_lt}
use Rattle.std.specs.Char.{encode_utf8}
use Rattle.std.proofs.Math.Utf8.{scalar}
use Rattle.bstr.specs.Utf8.{decoded}
use Rattle.bstr.proofs.lemmas.PieceLemmas.{piece-bounds}
use Rattle.bstr.proofs.lemmas.SoundLemmas.{SpellsChar-decoded}
use Rattle.sieve_explain.specs.Characters.{Piece, first_piece, more_octets, octets_after_first, pieces, pieces_after}
use Rattle.sieve_explain.specs.Shown.{cut_mark, if_cut, max_shown, shown, shown_end, shown_piece}
use Rattle.sieve_explain.specs.declared.shown.Style.{Style}

pieces_none : pieces [] ≡ []
unfolding pieces
pieces_none = refl

dropped : (more : ℕ) (text : List ℕ) → pieces_after more text ≡ pieces_after 0 (drop more text)
dropped zero [] = refl
dropped (suc more) [] = refl
dropped zero (octet ∷ rest) = refl
dropped (suc more) (octet ∷ rest) = dropped more rest

-- the first piece, and those of what comes after it
pieces_first : (text : List ℕ) → 0 < length text → pieces text ≡ first_piece text ∷ pieces (drop (suc (more_octets text)) text)
unfolding pieces
pieces_first [] some = absurd (omega arith)
pieces_first (octet ∷ rest) some = ap (λ (ps : List Piece). first_piece (octet ∷ rest) ∷ ps) (dropped (more_octets (octet ∷ rest)) rest)

pub pieces_split : (text octets rest : List ℕ) (found : Option ℕ) (size more : ℕ) → 0 < length text → found ≡ (decoded text).char → size ≡ (decoded text).size
    → more ≡ octets_after_first found size → octets ≡ take (more + 1) text → rest ≡ drop (more + 1) text
    → pieces text ≡ (record { char = found; octets = octets }) ∷ pieces rest
unfolding more_octets
pieces_split text octets rest found size more some char sized after begun left =
    let next : more + 1 ≡ suc more = omega arith in
    rw (left, begun, next, after, sized, char) (pieces_first text some)

pub octets_split : (text octets : List ℕ) (found : Option ℕ) (size more : ℕ) → found ≡ (decoded text).char → size ≡ (decoded text).size
    → more ≡ octets_after_first found size → octets ≡ take (more + 1) text → octets ≡ take (suc (more_octets text)) text
unfolding more_octets
octets_split text octets found size more char sized after begun =
    let next : more + 1 ≡ suc more = omega arith in
    rw (begun, next, after, sized, char) refl

-- ---- what a loop over pieces keeps

pub drop_first : (left : ℕ) (piece : Piece) (ps qs all : List Piece) → 0 < left → qs ≡ piece ∷ ps → drop left qs ≡ all → drop (left - 1) ps ≡ all
drop_first zero piece ps qs all some e done = absurd (omega arith)
drop_first (suc left) piece ps qs all some e done =
    let less : suc left - 1 ≡ left = omega arith in
    rw less (ap (drop (suc left)) (sym e) ∙ done)

pub take_first : (style : Style) (out printed all : List ℕ) (left : ℕ) (piece : Piece) (ps qs : List Piece) → 0 < left → qs ≡ piece ∷ ps
    → printed ≡ out ++ shown_piece style piece → out ++ shown style (take left qs) ≡ all → printed ++ shown style (take (left - 1) ps) ≡ all
take_first style out printed all zero piece ps qs some e now done = absurd (omega arith)
take_first style out printed all (suc left) piece ps qs some e now done =
    let less : suc left - 1 ≡ left = omega arith in
    rw (less, now) (append_assoc out (shown_piece style piece) (shown style (take left ps)) ∙ ap (λ (rest : List Piece). out ++ shown style (take (suc left) rest)) (sym e) ∙ done)

pub drop_end : (rest : List ℕ) (all : List Piece) (left : ℕ) → length rest ≡ 0 → drop left (pieces rest) ≡ all → pieces rest ≡ all
drop_end [] all left none done = none_dropped (pieces []) left pieces_none ∙ done where
  none_dropped : (ps : List Piece) (left : ℕ) → ps ≡ [] → ps ≡ drop left ps
  none_dropped [] zero e = refl
  none_dropped [] (suc left) e = refl
  none_dropped (piece ∷ ps) left e = absurd (cc)
drop_end (octet ∷ rest) all left none done = absurd (omega arith)

pub take_end : (style : Style) (out all rest : List ℕ) (left : ℕ) → length rest ≡ 0 → out ++ shown style (take left (pieces rest)) ≡ all → out ≡ all
take_end style out all [] left none done = sym (append-nil out) ∙ ap (λ (text : List ℕ). out ++ text) (none_taken (pieces []) left pieces_none) ∙ done where
  none_taken : (ps : List Piece) (left : ℕ) → ps ≡ [] → [] ≡ shown style (take left ps)
  none_taken [] zero e = refl
  none_taken [] (suc left) e = refl
  none_taken (piece ∷ ps) left e = absurd (cc)
take_end style out all (octet ∷ rest) left none done = absurd (omega arith)

pub take_none : (style : Style) (out all : List ℕ) (ps : List Piece) (left : ℕ) → left ≡ 0 → out ++ shown style (take left ps) ≡ all → out ≡ all
take_none style out all ps zero none done = sym (append-nil out) ∙ done
take_none style out all ps (suc left) none done = absurd (omega arith)

pub count_end : (rest : List ℕ) (count all : ℕ) → length rest ≡ 0 → count + length (pieces rest) ≡ all → count ≡ all
count_end [] count all none done =
    let zero_left : length (pieces []) ≡ 0 = ap length pieces_none in
    omega arith
count_end (octet ∷ rest) count all none done = absurd (omega arith)

-- ---- whether a text is cut

is_cut : (rest : List ℕ) (ps : List Piece) (n : ℕ) → pieces rest ≡ drop n ps → 0 < length rest → nat_lt n (length ps) ≡ true
is_cut rest ps n e some =
    let over : length (pieces rest) ≡ length ps - n = ap length e ∙ length-drop n ps in
    let first : length (pieces rest) ≡ suc (length (pieces (drop (suc (more_octets rest)) rest))) = ap length (pieces_first rest some) in
    lt-ltb n (length ps) (omega arith)

is_not_cut : (rest : List ℕ) (ps : List Piece) (n : ℕ) → pieces rest ≡ drop n ps → length rest ≡ 0 → nat_lt n (length ps) ≡ false
is_not_cut [] ps n e none =
    let over : 0 ≡ length ps - n = ap length (sym pieces_none) ∙ ap length e ∙ length-drop n ps in
    le-ltb n (length ps) (omega arith)
is_not_cut (octet ∷ rest) ps n e none = absurd (omega arith)

pub not_marked : (style : Style) (out rest : List ℕ) (ps : List Piece) → pieces rest ≡ drop max_shown ps → length rest ≡ 0 → out ≡ out ++ if_cut style ps
not_marked style out rest ps e none =
    sym (ap (λ (b : Bool). out ++ (if b then cut_mark style else [])) (is_not_cut rest ps max_shown e none) ∙ append-nil out)

pub marked : (style : Style) (out new rest : List ℕ) (ps : List Piece) → pieces rest ≡ drop max_shown ps → 0 < length rest → new ≡ out ++ cut_mark style → new ≡ out ++ if_cut style ps
marked style out new rest ps e some added = added ∙ sym (ap (λ (b : Bool). out ++ (if b then cut_mark style else [])) (is_cut rest ps max_shown e some))

-- the last pieces are no more than may be printed
last_pieces : (ps : List Piece) (most : ℕ) → take most (drop (length ps - most) ps) ≡ drop (length ps - most) ps
last_pieces ps most =
    let size = length-drop (length ps - most) ps in
    take_all most (drop (length ps - most) ps) (omega arith)

pub end_shown : (style : Style) (old mid new text rest : List ℕ) (count cut : ℕ) → count ≡ length (pieces text) → cut ≡ count - max_shown
    → mid ≡ old ++ if_cut style (pieces text) → pieces rest ≡ drop cut (pieces text) → new ≡ mid ++ shown style (take max_shown (pieces rest))
    → new ≡ old ++ shown_end style text
unfolding shown_end
end_shown style old mid new text rest count cut counted less middle from e =
    let all = pieces text in
    let last = drop (length all - max_shown) all in
    let same : pieces rest ≡ last = from ∙ ap (λ (n : ℕ). drop n all) (less ∙ ap (λ (n : ℕ). n - max_shown) counted) in
    e ∙ ap (λ (ps : List Piece). mid ++ shown style (take max_shown ps)) same ∙ ap (λ (ps : List Piece). mid ++ shown style ps) (last_pieces all max_shown)
    ∙ ap (λ (t : List ℕ). t ++ shown style last) middle ∙ append_assoc old (if_cut style all) (shown style last)

-- ---- a piece that is a character

begun : (text : List ℕ) (c : ℕ) → (decoded text).char ≡ Some c → 1 ≤ (decoded text).size
begun [] c found = absurd (cc)
begun (octet ∷ rest) c found = (piece-bounds (octet ∷ rest) (omega arith)).0

-- its octets are those by which UTF-8 spells it
pub spelled : (text : List ℕ) (c : ℕ) → (decoded text).char ≡ Some c → (scalar c ≡ true) × (encode_utf8 c ≡ take (suc (more_octets text)) text)
unfolding more_octets
spelled text c found =
    let size = (decoded text).size in
    let spells = SpellsChar-decoded text c found in
    let some : 1 ≤ size = begun text c found in
    let all : suc (size - 1) ≡ size = omega arith in
    let front : take size text ≡ encode_utf8 c = ap (take size) spells.bytes ∙ take_at (encode_utf8 c) (drop size text) size spells.width in
    (spells.scalar, sym (ap (λ (o : Option ℕ). take (suc (octets_after_first o size)) text) found ∙ ap (λ (n : ℕ). take n text) all ∙ front))
