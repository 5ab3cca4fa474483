-- The first octets of a value.
use Rattle.std.proofs.Common.{◌≡◌, ℕ, zero, suc, ◌+◌, ◌<◌, ◌≤◌, cond, List, [], ◌∷◌, ◌++◌, refl, sym, ◌∙◌, ap, arith, length, take, drop, inl, inr}
use Rattle.std.specs.List.{prefix_len}
use Rattle.std.specs.Prelude.{reverse}
use Rattle.std.proofs.lemmas.Bool.{cases_Bool, cases_lt}
use Rattle.std.proofs.lemmas.List.{append-nil, append_assoc, length-append, length-drop, length-reverse, length-take, reverse-append, reverse-reverse, take_all, take-append-drop, take-append-le}
use Rattle.std.proofs.Math.Seq.{take-append-add}
use Rattle.octets.specs.Blank.{is_blank, without_leading_blanks, without_trailing_blanks, without_outer_blanks}
use Rattle.text_lines.specs.Lines.{TextLine, lines_of, line_octets, octets_of}
use Rattle.text_lines.proofs.Broken.{octets_of-lines_of}
use Rattle.header_fields.specs.Header.{after_colon, after_name, beginning_of, contents, is_name_octet, without_breaks}
use Rattle.header_fields.proofs.FieldLines.{ends-trimmed}
use Rattle.header_fields.proofs.Lengths.{value_fits}
use Rattle.header_fields.proofs.Measuring.{leading_none, leading_some}
use Rattle.header_fields.proofs.Trimming.{trimmed_again, trimmed_fits, trimmed_with}

-- an octet before a text without trailing blanks
abbrev before_trimmed : ℕ → List ℕ → List ℕ
before_trimmed octet [] = cond (is_blank octet) [] (octet ∷ [])
before_trimmed octet (x ∷ text) = octet ∷ x ∷ text

before_some : (octet : ℕ) (text : List ℕ) → 0 < length text → before_trimmed octet text ≡ octet ∷ text
before_some octet [] some = absurd (omega arith)
before_some octet (x ∷ text) some = refl

one_trimmed : (octet : ℕ) → reverse (without_leading_blanks (octet ∷ [])) ≡ before_trimmed octet []
one_trimmed octet = elim (cases_Bool (is_blank octet)) [
  | inl blank ↦ rw blank refl
  | inr other ↦ rw other refl
]

pub trailing_more : (octet : ℕ) (text : List ℕ) → without_trailing_blanks (octet ∷ text) ≡ before_trimmed octet (without_trailing_blanks text)
trailing_more octet text = go (without_leading_blanks (reverse text)) refl
  where
    ends : reverse (octet ∷ text) ≡ reverse text ++ octet ∷ []
    ends = reverse-append (octet ∷ []) text

    go : (left : List ℕ) → without_leading_blanks (reverse text) ≡ left → reverse (without_leading_blanks (reverse (octet ∷ text))) ≡ before_trimmed octet (reverse (without_leading_blanks (reverse text)))
    go [] is =
        ap (λ t. reverse (without_leading_blanks t)) ends
        ∙ ap reverse (leading_none (reverse text) (octet ∷ []) (ap length is))
        ∙ one_trimmed octet ∙ ap (λ t. before_trimmed octet (reverse t)) (sym is)
    go (x ∷ left) is =
        let long : 0 < length (without_leading_blanks (reverse text)) = omega (arith, ap length is) in
        let trimmed = without_leading_blanks (reverse text) in
        ap (λ t. reverse (without_leading_blanks t)) ends
        ∙ ap reverse (leading_some (reverse text) (octet ∷ []) long)
        ∙ reverse-append trimmed (octet ∷ [])
        ∙ sym (before_some octet (reverse trimmed) (omega (arith, long, length-reverse trimmed)))

-- the blanks that a text ends with make no difference to its beginnings
pub beginning_trimmed : (most : ℕ) (text : List ℕ) → beginning_of most text ≡ beginning_of most (without_trailing_blanks text)
beginning_trimmed most [] = refl
beginning_trimmed zero (octet ∷ text) = refl
beginning_trimmed (suc most) (octet ∷ text) =
    trailing_more octet (take most text) ∙ ap (before_trimmed octet) (beginning_trimmed most text) ∙ go (without_trailing_blanks text)
    ∙ ap (beginning_of (suc most)) (sym (trailing_more octet text))
  where
    take_none : (n : ℕ) → take {A = ℕ} n [] ≡ []
    take_none zero = refl
    take_none (suc n) = refl

    none : (n : ℕ) → beginning_of n [] ≡ []
    none zero = refl
    none (suc n) = refl

    go : (trimmed : List ℕ) → before_trimmed octet (beginning_of most trimmed) ≡ beginning_of (suc most) (before_trimmed octet trimmed)
    go [] = ap (before_trimmed octet) (none most) ∙ (elim (cases_Bool (is_blank octet)) [
      | inl blank ↦ rw blank refl
      | inr other ↦ rw other (sym (ap (λ t. without_trailing_blanks (octet ∷ t)) (take_none most) ∙ trailing_more octet [] ∙ rw other refl))
    ])
    go (x ∷ trimmed) = sym (trailing_more octet (take most (x ∷ trimmed)))

-- a text without trailing blanks stays so
trailing_again : (text : List ℕ) → without_trailing_blanks (without_trailing_blanks text) ≡ without_trailing_blanks text
trailing_again text = ap (λ t. reverse (without_leading_blanks t)) (reverse-reverse (without_leading_blanks (reverse text))) ∙ ap reverse (trimmed_again (reverse text))

-- the whole value is its own beginning
pub beginning_all : (most : ℕ) (text : List ℕ) → length (without_outer_blanks text) ≤ most → beginning_of most (without_outer_blanks text) ≡ without_outer_blanks text
beginning_all most text le = ap without_trailing_blanks (take_all most (without_outer_blanks text) le) ∙ trailing_again (without_leading_blanks text)

-- ---- lines that are joined up to a length

-- as many octets as were asked for
pub filled : (most n : ℕ) (value more left whole : List ℕ) → without_leading_blanks (value ++ more) ≡ value ++ more → without_leading_blanks ((value ++ more) ++ left) ≡ without_leading_blanks whole
    → n ≤ length more → length (value ++ take n more) ≡ most → without_trailing_blanks (value ++ take n more) ≡ beginning_of most (without_outer_blanks whole)
filled most n value more left whole trimmed so_far few is =
    let leading = without_leading_blanks whole in
    let long = length-append value more in
    let taken = length-append value (take n more) in
    let size : length (take n more) ≡ n = omega (arith, length-take n more) in
    let same : take most leading ≡ value ++ take n more = elim (cases_lt 0 (length (value ++ more))) [
      | inl some ↦
          let whole_is : leading ≡ (value ++ more) ++ left = sym so_far ∙ trimmed_with (value ++ more) left some trimmed in
          let within : most ≤ length (value ++ more) = omega arith in
          let sum : most ≡ length value + n = omega arith in
          ap (take most) whole_is ∙ take-append-le most (value ++ more) left within ∙ ap (λ k. take k (value ++ more)) sum ∙ take-append-add value more n
      | inr none ↦
          let nothing : most ≡ 0 = omega arith in
          let empty : length (value ++ take n more) ≡ 0 = omega arith in
          ap (λ k. take k leading) nothing ∙ sym (length_none (value ++ take n more) empty)
    ] in
    ap without_trailing_blanks (sym same) ∙ beginning_trimmed most leading
  where
    length_none : (text : List ℕ) → length text ≡ 0 → text ≡ []
    length_none [] e = refl
    length_none (x ∷ text) e = absurd (omega arith)

-- fewer, and all that there are
pub all_joined : (most : ℕ) (value left whole : List ℕ) → without_leading_blanks value ≡ value → left ≡ [] → without_leading_blanks (value ++ left) ≡ without_leading_blanks whole
    → length value ≤ most → without_trailing_blanks value ≡ beginning_of most (without_outer_blanks whole)
all_joined most value left whole trimmed none so_far few =
    let leading = without_leading_blanks whole in
    let all : leading ≡ value = sym so_far ∙ ap (λ x. without_leading_blanks (value ++ x)) none ∙ ap without_leading_blanks (append-nil value) ∙ trimmed in
    ap without_trailing_blanks (sym (ap (take most) all ∙ take_all most value few)) ∙ beginning_trimmed most leading

-- ---- the value is no longer than the lines

contents_fit : (lines : List TextLine) → length (contents lines) ≤ length (octets_of lines)
contents_fit [] = omega arith
contents_fit (line ∷ lines) =
    omega (arith, contents_fit lines, length-append line.content (contents lines), length-append (line_octets line) (octets_of lines), length-append line.content line.break)

after_colon_fits : (line : List ℕ) → length (after_colon line) ≤ length line
after_colon_fits line =
    let n = prefix_len is_name_octet line in
    omega (arith, length-drop 1 (after_name line), trimmed_fits (drop n line), length-drop n line)

pub value_within : (lines : List ℕ) → length (without_outer_blanks (without_breaks (after_colon lines))) ≤ length lines
value_within lines =
    let text = after_colon lines in
    omega (arith, value_fits (without_breaks text), contents_fit (lines_of text), ap length (octets_of-lines_of text), after_colon_fits lines)

-- a value goes on after its beginning
pub beginning_rest : (most : ℕ) (value : List ℕ) → (rest : List ℕ) × (value ≡ beginning_of most value ++ rest)
beginning_rest most value =
    let start = take most value in
    let e = ends-trimmed (reverse start) in
    let trimmed = without_trailing_blanks start in
    let all : start ≡ trimmed ++ reverse e.0 = sym (reverse-reverse start) ∙ ap reverse e.1 ∙ reverse-append e.0 (without_leading_blanks (reverse start)) in
    (reverse e.0 ++ drop most value, sym (take-append-drop most value) ∙ ap (λ t. t ++ drop most value) all ∙ append_assoc trimmed (reverse e.0) (drop most value))
