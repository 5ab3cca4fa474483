-- A line while it is written.
use Rattle.std.proofs.Common.{◌≡◌, ℕ, ◌-◌, ◌+◌, ◌<◌, ◌≤◌, ◌==◌, true, false, List, [], ◌∷◌, ◌++◌, zero, suc, refl, sym, ◌∙◌, ap, arith, length, take, drop, get_or, zero-add}
use Rattle.std.proofs.lemmas.Bool.{le-leb}
use Rattle.std.proofs.lemmas.List.{length-drop, length-take-le, take-append-le, take-take, drop-drop}
use Rattle.std.proofs.lemmas.Grind.{flat_map-append}
use Rattle.std.proofs.Math.Seq.{take-append-add}
use borrow.Rule.Slice.PartMut.{put_mid, post_of}
use Rattle.text_lines.proofs.Slices.{take_join}
use Rattle.quoted_printable.specs.QuotedPrintable.{joined, run_of, stands, token_of, tokens_of}
use Rattle.quoted_printable.proofs.Encoded.{prefix_kept, run_ended, run_goes, run_stops, take_here, token_here, tokens_drop}

-- so many tokens stand in so many octets of the line, and go on as the longest run does
pub record IsFilled (octets : List ℕ) (room : ℕ) (line : List ℕ) (taken len : ℕ) : Type 0 where
  pub within : taken ≤ length octets
  pub few : len ≤ room
  pub long : length line ≡ 112
  pub written : take len line ≡ joined (take taken (tokens_of octets))
  pub run : run_of room (tokens_of octets) ≡ taken + run_of (room - len) (drop taken (tokens_of octets))

-- ---- a token more

pub filled_token : (octets : List ℕ) (room : ℕ) (line new : List ℕ) (taken len end : ℕ) → IsFilled octets room line taken len → taken < length octets → length new ≡ 112
    → end ≡ len + length (token_of (get_or octets taken 0) (taken + 1 == length octets))
    → take end new ≡ take len line ++ token_of (get_or octets taken 0) (taken + 1 == length octets)
    → end ≤ room → IsFilled octets room new (taken + 1) end
filled_token octets room line new taken len end filled lt long ends puts fits =
    let token = token_of (get_or octets taken 0) (taken + 1 == length octets) in
    let tokens = tokens_of octets in
    record {
      within = omega arith;
      few = fits;
      long = long;
      written = puts ∙ ap (λ l. l ++ token) filled.written ∙ sym (take_here taken octets lt);
      run =
          run_goes room len taken (run_of room tokens) token (drop (taken + 1) tokens)
          (filled.run ∙ ap (λ l. taken + run_of (room - len) l) (token_here taken octets lt)) (omega arith)
          ∙ ap (λ n. taken + 1 + run_of (room - n) (drop (taken + 1) tokens)) (sym ends);
    }

-- the run ends before a token that doesn't fit
pub filled_stops : (octets : List ℕ) (room : ℕ) (line new : List ℕ) (taken len end : ℕ) → IsFilled octets room line taken len → room ≤ 76 → taken < length octets
    → end ≡ len + length (token_of (get_or octets taken 0) (taken + 1 == length octets))
    → take end new ≡ take len line ++ token_of (get_or octets taken 0) (taken + 1 == length octets)
    → room < end → (taken ≡ run_of room (tokens_of octets)) × (take len new ≡ joined (take taken (tokens_of octets)))
filled_stops octets room line new taken len end filled small lt ends puts over =
    let token = token_of (get_or octets taken 0) (taken + 1 == length octets) in
    let tokens = tokens_of octets in
    let few = filled.few in
    let long = filled.long in (
      sym (run_stops room len taken (run_of room tokens) token (drop (taken + 1) tokens)
          (filled.run ∙ ap (λ l. taken + run_of (room - len) l) (token_here taken octets lt)) few (omega (arith, over, ends))),
      prefix_kept len end line new token (omega arith) (omega arith) puts ∙ filled.written,
    )

-- the run ends with the tokens
pub filled_ended : (octets : List ℕ) (room : ℕ) (line : List ℕ) (taken len : ℕ) → IsFilled octets room line taken len → length octets ≤ taken → taken ≡ run_of room (tokens_of octets)
filled_ended octets room line taken len filled end = sym (run_ended octets (room - len) taken end filled.run)

-- ---- octets that stand as they are

-- as many tokens as octets that stand, where others follow
standing_tokens : (n : ℕ) (octets : List ℕ) (room : ℕ) → n < length octets → n ≤ room → ((i : ℕ) → i < n → stands (get_or octets i 0) false ≡ true)
    → (joined (take n (tokens_of octets)) ≡ take n octets) × (run_of room (tokens_of octets) ≡ n + run_of (room - n) (drop n (tokens_of octets)))
standing_tokens zero octets room lt fits stand = let all : room - 0 ≡ room = omega arith in (refl, rw (all, zero-add) refl)
standing_tokens (suc n) [] room lt fits stand = absurd (omega arith)
standing_tokens (suc n) (octet ∷ []) room lt fits stand = absurd (omega arith)
standing_tokens (suc n) (octet ∷ following ∷ rest) room lt fits stand =
    let more = standing_tokens n (following ∷ rest) (room - 1) (omega arith) (omega arith) (λ i below. stand (suc i) (omega arith)) in
    let first = stand 0 (omega arith) in
    let within : 1 ≤ room = omega arith in
    let left : room - 1 - n ≡ room - suc n = omega arith in
    let goes = more.1 ∙ ap (λ m. n + run_of m (drop n (tokens_of (following ∷ rest)))) left in (
      rw first (ap (λ l. octet ∷ l) more.0),
      rw (first, le-leb 1 room within) (omega (arith, goes)),
    )

pub filled_run : (octets : List ℕ) (room : ℕ) (line new : List ℕ) (taken len n : ℕ) → IsFilled octets room line taken len → length new ≡ 112
    → n < length (drop taken octets) → len + n ≤ room → ((i : ℕ) → i < n → stands (get_or (drop taken octets) i 0) false ≡ true)
    → take (len + n) new ≡ take len line ++ take n (drop taken octets) → IsFilled octets room new (taken + n) (len + n)
filled_run octets room line new taken len n filled long fewer fits stand puts =
    let tokens = tokens_of octets in
    let rest = drop taken octets in
    let few = filled.few in
    let standing = standing_tokens n rest (room - len) fewer (omega arith) stand in
    let same : tokens_of rest ≡ drop taken tokens = sym (tokens_drop taken octets) in
    let left : room - len - n ≡ room - (len + n) = omega arith in
    let goes : run_of (room - len) (drop taken tokens) ≡ n + run_of (room - (len + n)) (drop (taken + n) tokens) =
    ap (run_of (room - len)) (sym same) ∙ standing.1 ∙ (λ i. n + run_of (left i) (drop n (same i))) ∙ ap (λ l. n + run_of (room - (len + n)) l) (drop-drop n taken tokens) in
    record {
      within = omega (arith, length-drop taken octets);
      few = fits;
      long = long;
      written =
          puts
          ∙ (λ i. filled.written i ++ sym standing.0 i)
          ∙ ap (λ l. joined (take taken tokens) ++ joined (take n l)) same
          ∙ sym (flat_map-append (λ token. token) (take taken tokens) (take n (drop taken tokens)))
          ∙ ap joined (take_join taken n tokens);
      run = let so_far = filled.run in omega (arith, so_far, goes);
    }

-- the start of what was written over the middle of a line
pub over_middle : (at n : ℕ) (line octets block : List ℕ) → at ≤ length line → length block ≡ 32 → n ≤ 32 → block ≡ take 32 octets
    → take (at + n) (put_mid at (at + 32 - at) line block) ≡ take at line ++ take n octets
over_middle at n line octets block within long few is =
    let prefix = length-take-le at line within in
    let more = post_of at (at + 32 - at) line in
    ap (λ m. take (m + n) (take at line ++ (block ++ more))) (sym prefix)
    ∙ take-append-add (take at line) (block ++ more) n
    ∙ ap (λ l. take at line ++ l) (take-append-le n block more (omega arith) ∙ ap (take n) is ∙ take-take n 32 octets few)
