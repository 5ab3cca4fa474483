-- How long the text of octets is at most.
use Rattle.std.proofs.Common.{◌≡◌, ℕ, zero, suc, ◌-◌, ◌+◌, ◌*◌, ◌/◌, ◌<◌, ◌≤◌, Bool, true, false, List, [], ◌∷◌, inl, inr, refl, sym, ap, ◌∙◌, arith, length, take, drop}
use Rattle.std.specs.Prelude.{not, nat_le, if◌then◌else◌}
use Rattle.std.specs.List.{filter}
use Rattle.std.proofs.lemmas.Bool.{cases_Bool, cases_lt, leb-true, leb-false}
use Rattle.std.proofs.lemmas.List.{length-append, length-drop, nil_from_length, take-append-drop, take_all, drop_all}
use Rattle.std.proofs.lemmas.Grind.{flat_map-append}
use Rattle.quoted_printable.specs.QuotedPrintable.{encoding_of, first_line, is_last_line, is_none, joined, line_octets, run_of, soft_break, stands, token_of, tokens_of, tokens_of_line}
use Rattle.quoted_printable.proofs.Encoded.{encoding_of-none, first_and_rest, length-tokens_of, run_some, tokens_drop}

-- the octets that are written with digits, also where others follow
abbrev pub escaped : List ℕ → List ℕ
escaped octets = filter (λ octet. not (stands octet false)) octets

-- a token has at most three octets, and one where its octet stands and others follow
token_few : (octet : ℕ) (b : Bool) → length (token_of octet b) ≤ 3
token_few octet b = elim (cases_Bool (stands octet b)) [
  | inl e ↦ rw e (omega arith)
  | inr e ↦ rw e (omega arith)
]

token_here : (octet : ℕ) (rest : List ℕ) → length (token_of octet false) + 2 * length (escaped rest) ≤ 1 + 2 * length (escaped (octet ∷ rest))
token_here octet rest = elim (cases_Bool (stands octet false)) [
  | inl e ↦ rw e (omega arith)
  | inr e ↦ rw e (omega arith)
]

-- the tokens have one octet each, and two more where it doesn't stand; the last octet may be a blank
tokens_fit : (octets : List ℕ) → length (joined (tokens_of octets)) ≤ length octets + 2 * length (escaped octets) + 2
tokens_fit [] = omega arith
tokens_fit (octet ∷ []) = let few = token_few octet true in omega (arith, few, length-append (token_of octet true) [])
tokens_fit (octet ∷ following ∷ rest) =
    let more = tokens_fit (following ∷ rest) in
    let first = token_here octet (following ∷ rest) in
    omega (arith, more, first, length-append (token_of octet false) (joined (tokens_of (following ∷ rest))))

-- ---- lines

-- the octets of all tokens
abbrev token_octets : List ℕ → ℕ
token_octets octets = length (joined (tokens_of octets))

-- the tokens of a line, and those after it
line_and_rest : (n : ℕ) (octets : List ℕ) → token_octets octets ≡ length (joined (take n (tokens_of octets))) + token_octets (drop n octets)
line_and_rest n octets =
    ap (λ l. length (joined l)) (sym (take-append-drop n (tokens_of octets)))
    ∙ ap length (flat_map-append (λ token. token) (take n (tokens_of octets)) (drop n (tokens_of octets)))
    ∙ length-append (joined (take n (tokens_of octets))) (joined (drop n (tokens_of octets)))
    ∙ ap (λ l. length (joined (take n (tokens_of octets))) + length (joined l)) (tokens_drop n octets)

-- a run leaves no more room than two octets, where not all tokens fit
run_fills : (room : ℕ) (octets : List ℕ) → room < token_octets octets → room ≤ length (joined (take (run_of room (tokens_of octets)) (tokens_of octets))) + 2
run_fills room [] over = absurd (omega arith)
run_fills room (octet ∷ rest) over =
    let token = token_of octet (is_none rest) in
    let few = token_few octet (is_none rest) in
    let both = length-append token (joined (tokens_of rest)) in
    elim (cases_Bool (nat_le (length token) room)) [
      | inl e ↦
          let fits = leb-true (length token) room e in
          let more = run_fills (room - length token) rest (omega (arith, over, both, fits)) in
          rw e (omega (arith, more, fits, length-append token (joined (take (run_of (room - length token) (tokens_of rest)) (tokens_of rest)))))
      | inr e ↦ let less = leb-false (length token) room e in rw e (omega (arith, few, less))
    ]

-- the last line is all tokens
last_line : (octets : List ℕ) → is_last_line (tokens_of octets) ≡ true → length (encoding_of octets) ≡ token_octets octets
last_line octets e =
    let tokens = tokens_of octets in
    let count : tokens_of_line tokens ≡ length tokens = rw e refl in
    let all : joined (take (tokens_of_line tokens) tokens) ≡ joined tokens = ap (λ k. joined (take k tokens)) count ∙ ap joined (take_all (length tokens) tokens (omega arith)) in
    let line : length (first_line tokens) ≡ length (joined (take (tokens_of_line tokens) tokens)) =
    length-append (joined (take (tokens_of_line tokens) tokens)) (if is_last_line tokens then [] else soft_break) ∙ rw e (omega arith) in
    let none : length (encoding_of (drop (tokens_of_line tokens) octets)) ≡ 0 =
    ap (λ k. length (encoding_of (drop k octets))) count
    ∙ ap (λ l. length (encoding_of l)) (drop_all (length tokens) octets (omega (arith, length-tokens_of octets)))
    ∙ ap length encoding_of-none in
    let both = ap length (first_and_rest octets) ∙ length-append (first_line tokens) (encoding_of (drop (tokens_of_line tokens) octets)) in
    let octets_all = ap length all in
    omega (arith, both, none, line, octets_all)

-- another is a run and a soft break
line_goes : (octets : List ℕ) → is_last_line (tokens_of octets) ≡ false
    → length (encoding_of octets) ≡ length (joined (take (run_of 75 (tokens_of octets)) (tokens_of octets))) + 3 + length (encoding_of (drop (run_of 75 (tokens_of octets)) octets))
line_goes octets e =
    let tokens = tokens_of octets in
    let count : tokens_of_line tokens ≡ run_of 75 tokens = rw e refl in
    let line : length (first_line tokens) ≡ length (joined (take (tokens_of_line tokens) tokens)) + 3 =
    length-append (joined (take (tokens_of_line tokens) tokens)) (if is_last_line tokens then [] else soft_break) ∙ rw e refl in
    let both = ap length (first_and_rest octets) ∙ length-append (first_line tokens) (encoding_of (drop (tokens_of_line tokens) octets)) in
    both
    ∙ ap (λ l. l + length (encoding_of (drop (tokens_of_line tokens) octets))) line
    ∙ ap (λ k. length (joined (take k tokens)) + 3 + length (encoding_of (drop k octets))) count

-- each line but the last has at least 73 octets of tokens
lines_fit : (n : ℕ) (octets : List ℕ) → length octets ≤ n → length (encoding_of octets) ≤ token_octets octets + 3 * (token_octets octets / 73)
lines_fit zero octets few = let none = ap length (ap encoding_of (nil_from_length octets (omega arith)) ∙ encoding_of-none) in omega (arith, none)
lines_fit (suc n) octets few =
    let tokens = tokens_of octets in
    let k = run_of 75 tokens in
    elim (cases_lt 0 (length octets)) [
      | inl some ↦ elim (cases_Bool (is_last_line tokens)) [
        | inl e ↦ let last = last_line octets e in omega (arith, last)
        | inr e ↦
            let over = leb-false (token_octets octets) line_octets e in
            let used = run_fills 75 octets (omega (arith, over)) in
            let rest = lines_fit n (drop k octets) (omega (arith, run_some octets some, length-drop k octets)) in
            omega (arith, used, rest, over, line_goes octets e, line_and_rest k octets)
      ]
      | inr none ↦ let nothing = ap length (ap encoding_of (nil_from_length octets (omega arith)) ∙ encoding_of-none) in omega (arith, nothing)
    ]

-- so the text is no longer than its tokens, with three octets for each 73 of them
pub encoding_fits : (octets : List ℕ) → length (encoding_of octets) ≤ length octets + 2 * (length (escaped octets) + 1) + 3 * ((length octets + 2 * (length (escaped octets) + 1)) / 73)
encoding_fits octets = let fits = lines_fit (length octets) octets (omega arith) in omega (arith, fits, tokens_fit octets)
