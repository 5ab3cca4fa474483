-- The first line of a text, found by its first LF.
use Rattle.std.proofs.Common.{◌≡◌, ◌≢◌, ℕ, ◌-◌, ◌+◌, ◌<◌, ◌≤◌, true, false, List, [], ◌∷◌, zero, suc, refl, sym, ◌∙◌, ap, arith, length, take, drop, get_or, add-one, below_more, inl, inr, Some, None, ◌==◌, ◌&&◌}
use Rattle.std.proofs.lemmas.Bool.{eq-eqb, ne_eqb, eqb-true}
use Rattle.std.proofs.lemmas.List.{drop-drop, length-drop, take_all, drop_all, get_or-drop}
use Rattle.memchr.specs.Find.{IsFirstByte, is_byte, NoneBefore, Passes}
use Rattle.text_lines.specs.Lines.{lines_of, is_first_of_break, onto_content, text_line, EndsInBreak, IsLineAt}
use Rattle.text_lines.specs.declared.line.Line.{Line}
use Rattle.text_lines.proofs.Slices.{one_at, two_at}

-- one octet more at the beginning of a text
pub lines_feed : (octet : ℕ) (rest : List ℕ) → octet ≡ 10 → lines_of (octet ∷ rest) ≡ record { content = []; break = 10 ∷ [] } ∷ lines_of rest
lines_feed octet rest e = rw (eq-eqb octet 10 e) refl

pub lines_other : (octet : ℕ) (rest : List ℕ) → octet ≢ 10 → is_first_of_break octet rest ≡ false → lines_of (octet ∷ rest) ≡ onto_content octet (lines_of rest)
lines_other octet rest ne e = rw (ne_eqb octet 10 ne, e) refl

pub no_break_at : (octet following : ℕ) (rest : List ℕ) → following ≢ 10 → is_first_of_break octet (following ∷ rest) ≡ false
no_break_at octet following rest ne = rw (ne_eqb following 10 ne) (elim (octet == 13) as (λ b. (b && false) ≡ false) [ true ↦ refl | false ↦ refl ])

pub no_break_of : (octet : ℕ) (rest : List ℕ) → octet ≢ 13 → is_first_of_break octet rest ≡ false
no_break_of octet [] ne = refl
no_break_of octet (following ∷ rest) ne = rw (ne_eqb octet 13 ne) refl

-- a CRLF ends the first line
pub crlf_line : (text : List ℕ) (n : ℕ) → suc n < length text → ((k : ℕ) → k < suc n → get_or text k 0 ≢ 10) → get_or text n 0 ≡ 13 → get_or text (suc n) 0 ≡ 10
    → lines_of text ≡ record { content = take n text; break = 13 ∷ 10 ∷ [] } ∷ lines_of (drop (suc (suc n)) text)
crlf_line [] n lt before cr lf = absurd (omega arith)
crlf_line (x ∷ []) n lt before cr lf = absurd (omega arith)
crlf_line (x ∷ y ∷ rest) zero lt before cr lf =
    rw (cr, lf) refl
crlf_line (x ∷ y ∷ rest) (suc n) lt before cr lf =
    lines_other x (y ∷ rest) (before 0 (omega arith)) (no_break_at x y rest (before 1 (omega arith)))
    ∙ ap (onto_content x) (crlf_line (y ∷ rest) n (omega arith) (λ k l. before (suc k) (omega arith)) cr lf)

-- an LF ends the first line, with no CR before it
pub feed_line : (text : List ℕ) (n : ℕ) → n < length text → ((k : ℕ) → k < n → get_or text k 0 ≢ 10) → get_or text n 0 ≡ 10 → ((k : ℕ) → suc k ≡ n → get_or text k 0 ≢ 13)
    → lines_of text ≡ record { content = take n text; break = 10 ∷ [] } ∷ lines_of (drop (suc n) text)
feed_line [] n lt before lf bare = absurd (omega arith)
feed_line (x ∷ rest) zero lt before lf bare = lines_feed x rest lf
feed_line (x ∷ rest) (suc zero) lt before lf bare =
    lines_other x rest (before 0 (omega arith)) (no_break_of x rest (bare 0 refl))
    ∙ ap (onto_content x) (feed_line rest zero (omega arith) (λ k l. before (suc k) (omega arith)) lf (λ k e. absurd (omega arith)))
feed_line (x ∷ []) (suc (suc n)) lt before lf bare = absurd (omega arith)
feed_line (x ∷ y ∷ rest) (suc (suc n)) lt before lf bare =
    lines_other x (y ∷ rest) (before 0 (omega arith)) (no_break_at x y rest (before 1 (omega arith)))
    ∙ ap (onto_content x) (feed_line (y ∷ rest) (suc n) (omega arith) (λ k l. before (suc k) (omega arith)) lf (λ k e. bare (suc k) (omega arith)))

-- a text without LF is one line
pub only_line : (text : List ℕ) → 0 < length text → ((k : ℕ) → k < length text → get_or text k 0 ≢ 10)
    → lines_of text ≡ record { content = text; break = [] } ∷ []
only_line [] pos none = absurd (omega arith)
only_line (x ∷ []) pos none = lines_other x [] (none 0 (omega arith)) refl
only_line (x ∷ y ∷ rest) pos none =
    lines_other x (y ∷ rest) (none 0 (omega arith)) (no_break_at x y rest (none 1 (omega arith)))
    ∙ ap (onto_content x) (only_line (y ∷ rest) (omega arith) (λ k l. none (suc k) (omega arith)))

-- what stands at a place of the octets from a place on
at_tail : (text : List ℕ) (start k : ℕ) → get_or (drop start text) k 0 ≡ get_or text (start + k) 0
at_tail text start k = get_or-drop start text k 0

-- the first line of what is left, by its lengths, is the line by its places
first_by_places : (text : List ℕ) (line : Line) (n m : ℕ) (break : List ℕ) → line.end ≡ line.start + n → line.stop ≡ line.end + m
    → take m (drop n (drop line.start text)) ≡ break
    → lines_of (drop line.start text) ≡ record { content = take n (drop line.start text); break = break } ∷ lines_of (drop (n + m) (drop line.start text))
    → lines_of (drop line.start text) ≡ text_line text line ∷ lines_of (drop line.stop text)
first_by_places text line n m break ends stops is first =
    let content : line.end - line.start ≡ n = omega arith in
    let break : line.stop - line.end ≡ m = omega arith in
    let from_end : drop line.end text ≡ drop n (drop line.start text) = rw (drop-drop, ends) refl in
    let reach : line.start + (n + m) ≡ line.stop = omega arith in
    let from_stop : drop line.stop text ≡ drop (n + m) (drop line.start text) = rw (drop-drop, reach) refl in
    rw (content, break, from_end, from_stop, is) first

-- the line that stands at its places
pub line_standing : (text : List ℕ) (line : Line) → line.start ≤ line.end → line.start < line.stop → line.stop ≤ length text
    → ((i : ℕ) → line.start ≤ i → i < line.end → get_or text i 0 ≢ 10) → EndsInBreak text line → IsLineAt text line.start line
line_standing text line ordered some within no_feed break = record {
  start = refl;
  end_after_start = ordered;
  stop_after_end = elim break [ inl (stops, lf, bare) ↦ omega arith | inr (inl (stops, cr, lf)) ↦ omega arith | inr (inr (stops, ended)) ↦ omega arith ];
  some = some;
  within = within;
  no_feed = no_feed;
  break = break;
  first =
      let n = line.end - line.start in
      let long = length-drop line.start text in
      let tail = drop line.start text in
      let before : (k : ℕ) → k < n → get_or tail k 0 ≢ 10 = λ k lt. rw (at_tail text line.start k) (no_feed (line.start + k) (omega arith) (omega arith)) in
      let at_end : line.start + n ≡ line.end = omega arith in
      let here : get_or tail n 0 ≡ get_or text line.end 0 = rw (at_tail text line.start n, at_end) refl in
      elim break [
        | inl (stops, lf, bare) ↦
            let within_tail : n < length tail = omega (arith, long) in
            first_by_places text line n 1 (10 ∷ []) (omega arith) stops (rw (one_at tail n within_tail, here, lf) refl)
            (rw add-one (feed_line tail n within_tail before (here ∙ lf)
            (λ k e. rw (at_tail text line.start k) (bare (line.start + k) (omega arith) (omega arith)))))
        | inr (inl (stops, cr, lf)) ↦
            let within_tail : suc n < length tail = omega (arith, long) in
            let at_feed : line.start + suc n ≡ line.end + 1 = omega arith in
            let feed : get_or tail (suc n) 0 ≡ get_or text (line.end + 1) 0 = rw (at_tail text line.start (suc n), at_feed) refl in
            let two : n + 2 ≡ suc (suc n) = omega arith in
            first_by_places text line n 2 (13 ∷ 10 ∷ []) (omega arith) stops (rw (two_at tail n within_tail, here, feed, cr, lf) refl)
            (rw two (crlf_line tail n within_tail
            (λ k lt. below_more (λ k. get_or tail k 0 ≢ 10) n before (λ e. omega (arith, e, here ∙ cr)) k (omega arith)) (here ∙ cr) (feed ∙ lf)))
        | inr (inr (stops, ended)) ↦
            let whole : n + 0 ≡ length tail = omega (arith, long) in
            let all : n ≡ length tail = omega (arith, long) in
            first_by_places text line n 0 [] (omega arith) (omega arith) refl
            (rw (whole, all, take_all (length tail) tail (omega arith), drop_all (length tail) tail (omega arith))
            (only_line tail (omega (arith, long)) (λ k lt. before k (omega arith))))
      ];
}

-- the octets from a place on, as a slice has them
tail_of : (text : List ℕ) (start : ℕ) → take (length text - start) (drop start text) ≡ drop start text
tail_of text start = take_all (length text - start) (drop start text) (omega (arith, length-drop start text))

-- no LF stands between a line's start and its first LF
no_feed_before : (text : List ℕ) (start n : ℕ) → NoneBefore (Passes (is_byte 10) (drop start text)) 0 (length (drop start text)) n
    → (end : ℕ) → end ≤ start + n → (i : ℕ) → start ≤ i → i < end → get_or text i 0 ≢ 10
no_feed_before text start n none end to i from lt e =
    let at : start + (i - start) ≡ i = omega arith in
    none.before (i - start) (omega arith) (omega arith) (eq-eqb _ _ (at_tail text start (i - start) ∙ (rw at e)))

-- the line from a place up to its first LF, with or without a CR before that
pub line_at_crlf : (text : List ℕ) (start n : ℕ) → IsFirstByte (is_byte 10) (take (length text - start) (drop start text)) (Some n)
    → 0 < n → get_or text (start + n - 1) 0 ≡ 13 → IsLineAt text start record { start = start; end = start + n - 1; stop = start + n + 1 }
line_at_crlf text start n found some cr =
    let first = rw (tail_of text start) at found in
    let long = length-drop start text in
    let at_feed : start + n - 1 + 1 ≡ start + n = omega arith in
    line_standing text (record { start = start; end = start + n - 1; stop = start + n + 1 }) (omega arith) (omega arith) (omega (arith, long, first.0.high))
    (no_feed_before text start n first.0 (start + n - 1) (omega arith))
    (inr (inl (omega arith, cr, rw at_feed (sym (at_tail text start n) ∙ eqb-true _ _ first.1))))

pub line_at_feed : (text : List ℕ) (start n : ℕ) → IsFirstByte (is_byte 10) (take (length text - start) (drop start text)) (Some n)
    → (0 < n → get_or text (start + n - 1) 0 ≢ 13) → IsLineAt text start record { start = start; end = start + n; stop = start + n + 1 }
line_at_feed text start n found bare =
    let first = rw (tail_of text start) at found in
    let long = length-drop start text in
    line_standing text (record { start = start; end = start + n; stop = start + n + 1 }) (omega arith) (omega arith) (omega (arith, long, first.0.high))
    (no_feed_before text start n first.0 (start + n) (omega arith))
    (inl (refl, sym (at_tail text start n) ∙ eqb-true _ _ first.1, λ i from e cr. let at : start + n - 1 ≡ i = omega arith in bare (omega arith) (rw at cr)))

-- the line that no LF ends
pub line_at_end : (text : List ℕ) (start : ℕ) → start < length text → IsFirstByte (is_byte 10) (take (length text - start) (drop start text)) None
    → IsLineAt text start record { start = start; end = length text; stop = length text }
line_at_end text start within none =
    let nowhere = rw (tail_of text start) at none in
    let long = length-drop start text in
    line_standing text (record { start = start; end = length text; stop = length text }) (omega arith) within (omega arith)
    (λ i from lt e. let at : start + (i - start) ≡ i = omega arith in
    nowhere (i - start) (omega arith) (omega (arith, long)) (eq-eqb _ _ (at_tail text start (i - start) ∙ (rw at e))))
    (inr (inr (refl, refl)))
