-- Keys that a text can't contain, because one of their bigrams isn't among its bigrams.
use Rattle.std.proofs.Common.{◌≡◌, ◌≢◌, ℕ, zero, suc, ◌+◌, ◌-◌, ◌*◌, ◌/◌, ◌%◌, ◌^◌, ◌<◌, ◌≤◌, ◌==◌, max, bit_and, bit_or, Bool, true, false, List, [], ◌∷◌, map, length, get_or, set, Option, None, Some, is_some, option_map, refl, sym, ◌∙◌, ap, arith, inl, inr, if◌then◌else◌}
use Rattle.std.specs.Char.{to_ascii_uppercase}
use Rattle.std.specs.Int.{bit_at, w32}
use Rattle.std.proofs.lemmas.Bool.{cases_Bool, cases_lt, eqb-true, eq-eqb, and_parts, false≢true}
use Rattle.std.proofs.lemmas.Bool.Decides.{eqb_tells}
use Rattle.std.proofs.lemmas.Grind.{get_or-set_at}
use Rattle.std.proofs.lemmas.List.{get_or-set_other}
use Rattle.std.proofs.lemmas.Nat.Bits.{bit_at_or, bit_at-lt, bit_at_set_same, shr_and_one}
use Rattle.glob_match.specs.declared.comparator.Comparator.{Comparator}
use Rattle.glob_match.specs.declared.comparator.Comparator.TheVariants.{Octet, Casemap}
use Rattle.glob_match.specs.declared.token.Token.TheVariants.{Literal}
use Rattle.glob_match.specs.Comparison.{same_octet}
use Rattle.glob_match.specs.Containment.{begins_with, first_place, contains_match}
use Rattle.mail_matching.specs.Bigrams.{Covers, bit_of}

-- ---- octets that are equal under a comparator have the same last five bits

upper_ending : (octet : ℕ) → to_ascii_uppercase octet % 32 ≡ octet % 32
upper_ending octet = grind arith

same_ending : (comparator : Comparator) (x a : ℕ) → same_octet comparator x a ≡ true → x % 32 ≡ a % 32
same_ending Octet x a same = ap (λ octet. octet % 32) (eqb-true x a same)
same_ending Casemap x a same =
    sym (upper_ending x) ∙ ap (λ octet. octet % 32) (eqb-true (to_ascii_uppercase x) (to_ascii_uppercase a) same) ∙ upper_ending a

pub same_bit : (comparator : Comparator) (rows : List ℕ) (x y a b : ℕ) → same_octet comparator x a ≡ true → same_octet comparator y b ≡ true → bit_of rows x y ≡ bit_of rows a b
same_bit comparator rows x y a b first second =
    ap (λ row. bit_at (get_or rows row 0) (y % 32)) (same_ending comparator x a first)
    ∙ ap (bit_at (get_or rows (a % 32) 0)) (same_ending comparator y b second)

-- ---- a key with a bigram that isn't set

module _ (comparator : Comparator) (rows : List ℕ) where
  abbrev begins_key : List ℕ → List ℕ → Bool
  begins_key key text = begins_with comparator (map Literal key) text

  pub rest_covered : (x : ℕ) (xs : List ℕ) → Covers rows (x ∷ xs) → Covers rows xs
  rest_covered x xs covers = record {
    sets = λ place within.
        let same : suc (place + 1) ≡ suc place + 1 = omega arith in
        ap (λ p. bit_of rows (get_or xs place 0) (get_or (x ∷ xs) p 0)) same ∙ covers.sets (suc place) (omega arith);
  }

  -- those of a key with which a text begins are set
  all_set : (key text : List ℕ) → Covers rows text → begins_key key text ≡ true
      → (place : ℕ) → place + 1 < length key → bit_of rows (get_or key place 0) (get_or key (place + 1) 0) ≡ 1
  all_set [] text covers begins place within = absurd (omega arith)
  all_set (a ∷ []) text covers begins place within = absurd (omega arith)
  all_set (a ∷ (b ∷ rest)) [] covers begins place within = absurd (false≢true begins)
  all_set (a ∷ (b ∷ rest)) (x ∷ []) covers begins place within =
      let parts = and_parts (same_octet comparator x a) (begins_key (b ∷ rest) []) begins in
      absurd (false≢true parts.1)
  all_set (a ∷ (b ∷ rest)) (x ∷ (y ∷ more)) covers begins zero within =
      let first = and_parts (same_octet comparator x a) (begins_key (b ∷ rest) (y ∷ more)) begins in
      let second = and_parts (same_octet comparator y b) (begins_key rest more) first.1 in
      sym (same_bit comparator rows x y a b first.0 second.0) ∙ covers.sets 0 (omega arith)
  all_set (a ∷ (b ∷ rest)) (x ∷ (y ∷ more)) covers begins (suc place) within =
      let parts = and_parts (same_octet comparator x a) (begins_key (b ∷ rest) (y ∷ more)) begins in
      let same : suc place + 1 ≡ suc (place + 1) = omega arith in
      ap (λ p. bit_of rows (get_or (b ∷ rest) place 0) (get_or (a ∷ (b ∷ rest)) p 0)) same
      ∙ all_set (b ∷ rest) (y ∷ more) (rest_covered x (y ∷ more) covers) parts.1 place (omega arith)

  none_later : (here : Bool) (there : Option ℕ) → here ≡ false → is_some there ≡ false → is_some (if here then Some 0 else option_map (λ place. place + 1) there) ≡ false
  none_later true there fails none = cc
  none_later false None fails none = refl
  none_later false (Some place) fails none = cc

  none_at_end : (here : Bool) → here ≡ false → is_some {T = ℕ} (if here then Some 0 else None) ≡ false
  none_at_end true fails = cc
  none_at_end false fails = refl

  module _ (key : List ℕ) (place : ℕ) (within : place + 1 < length key) (unset : bit_of rows (get_or key place 0) (get_or key (place + 1) 0) ≢ 1) where
    not_here : (text : List ℕ) → Covers rows text → begins_key key text ≡ false
    not_here text covers =
        elim (cases_Bool (begins_key key text)) [
          | inl begins ↦ absurd (unset (all_set key text covers begins place within))
          | inr misses ↦ misses
        ]

    not_within : (text : List ℕ) → Covers rows text → contains_match comparator text key ≡ false
    not_within [] covers = none_at_end (begins_key key []) (not_here [] covers)
    not_within (x ∷ xs) covers =
        none_later (begins_key key (x ∷ xs)) (first_place (begins_key key) xs) (not_here (x ∷ xs) covers) (not_within xs (rest_covered x xs covers))

pub passed_over : (rows key : List ℕ) (first second : ℕ) → first + 1 ≡ second → second < length key → bit_of rows (get_or key first 0) (get_or key second 0) ≢ 1
    → (comparator : Comparator) (text : List ℕ) → Covers rows text → contains_match comparator text key ≡ false
passed_over rows key first second next within unset comparator text covers =
    let unset_next : bit_of rows (get_or key first 0) (get_or key (first + 1) 0) ≢ 1 =
    λ set. unset (ap (λ place. bit_of rows (get_or key first 0) (get_or key place 0)) (sym next) ∙ set) in
    not_within comparator rows key first (omega arith) unset_next text covers

-- what the code looks at
pub bigram_at : (rows : List ℕ) (row a b : ℕ) → row ≡ a % 32 → bit_and (get_or rows row 0 / 2 ^ (b % 32)) 1 ≡ bit_of rows a b
bigram_at rows row a b at = shr_and_one (get_or rows row 0) (b % 32) ∙ ap (λ place. bit_at (get_or rows place 0) (b % 32)) at

pub unset : (bit : ℕ) → (bit == 1) ≡ false → bit ≢ 1
unset bit test = λ is. false≢true (sym test ∙ eq-eqb bit 1 is)

-- ---- setting a bit

abbrev pub with_bit : List ℕ → ℕ → ℕ → List ℕ
with_bit rows row column = set rows row (bit_or (get_or rows row 0) (1 * 2 ^ column % 2 ^ 32))

max_one : (m n : ℕ) → m ≡ 1 → n < 2 → max m n ≡ 1
max_one m n set more = omega arith

-- the others stay
bit_stays : (rows : List ℕ) (row column x y : ℕ) → row < length rows → bit_of rows x y ≡ 1 → bit_of (with_bit rows row column) x y ≡ 1
bit_stays rows row column x y within is_set =
    elim (eqb_tells (x % 32) row) [
      | inl (test, same) ↦
          ap (λ n. bit_at n (y % 32)) (get_or-set_at rows row (x % 32) (bit_or (get_or rows row 0) (1 * 2 ^ column % 2 ^ 32)) 0 same within)
          ∙ bit_at_or (get_or rows row 0) (1 * 2 ^ column % 2 ^ 32) (y % 32)
          ∙ max_one (bit_at (get_or rows row 0) (y % 32)) (bit_at (1 * 2 ^ column % 2 ^ 32) (y % 32)) (ap (λ place. bit_at (get_or rows place 0) (y % 32)) (sym same) ∙ is_set) (bit_at-lt (1 * 2 ^ column % 2 ^ 32) (y % 32))
      | inr (test, other) ↦
          ap (λ n. bit_at n (y % 32)) (get_or-set_other rows row (x % 32) (bit_or (get_or rows row 0) (1 * 2 ^ column % 2 ^ 32)) 0 other) ∙ is_set
    ]

bit_set : (rows : List ℕ) (row x y : ℕ) → length rows ≡ 32 → row ≡ x % 32 → bit_of (with_bit rows row (y % 32)) x y ≡ 1
bit_set rows row x y rows_long at =
    ap (λ n. bit_at n (y % 32)) (get_or-set_at rows row (x % 32) (bit_or (get_or rows row 0) (1 * 2 ^ (y % 32) % 2 ^ 32)) 0 (sym at) (omega arith))
    ∙ bit_at_set_same w32 (get_or rows row 0) (y % 32) (omega arith)

-- the bits of all bigrams that end before a place
abbrev pub CoversBefore : List ℕ → List ℕ → ℕ → Type 0
CoversBefore rows text end = (place : ℕ) → place + 1 < end → bit_of rows (get_or text place 0) (get_or text (place + 1) 0) ≡ 1

pub one_more : (rows text : List ℕ) (place row : ℕ) → 1 ≤ place → length rows ≡ 32 → row ≡ get_or text (place - 1) 0 % 32 → CoversBefore rows text place
    → CoversBefore (with_bit rows row (get_or text place 0 % 32)) text (place + 1)
one_more rows text place row some rows_long at before k within =
    let more = with_bit rows row (get_or text place 0 % 32) in
    elim (cases_lt (k + 1) place) [
      | inl earlier ↦ bit_stays rows row (get_or text place 0 % 32) (get_or text k 0) (get_or text (k + 1) 0) (omega arith) (before k earlier)
      | inr last ↦
          let first : k ≡ place - 1 = omega arith in
          let second : k + 1 ≡ place = omega arith in
          ap (λ p. bit_of more (get_or text p 0) (get_or text (k + 1) 0)) first
          ∙ ap (λ p. bit_of more (get_or text (place - 1) 0) (get_or text p 0)) second
          ∙ bit_set rows row (get_or text (place - 1) 0) (get_or text place 0) rows_long at
    ]
