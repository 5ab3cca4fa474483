-- How long a text is that is joined, without outer blanks.
use Rattle.std.proofs.Common.{◌≡◌, ◌⊎◌, ℕ, ◌+◌, ◌<◌, List, [], ◌∷◌, ◌++◌, refl, arith, length, inl, inr}
use Rattle.std.specs.Prelude.{reverse}
use Rattle.std.proofs.lemmas.Bool.{cases_Bool}
use Rattle.std.proofs.lemmas.List.{length-append, length-reverse, reverse-append}
use Rattle.octets.specs.Blank.{is_blank, without_leading_blanks, without_trailing_blanks}
use Rattle.header_fields.proofs.Trimming.{joined_more}

-- of a text whose blanks at the start are left out, what was joined and what is left: how long the former is, with the blanks at its
-- end and without
pub record Measured (joined kept : ℕ) (left whole : List ℕ) : Type 0 where
  pub value : List ℕ
  pub long : joined ≡ length value
  pub without : kept ≡ length (without_trailing_blanks value)
  pub trimmed : without_leading_blanks value ≡ value
  pub so_far : without_leading_blanks (value ++ left) ≡ without_leading_blanks whole

pub leading_none : (text more : List ℕ) → length (without_leading_blanks text) ≡ 0 → without_leading_blanks (text ++ more) ≡ without_leading_blanks more
leading_none [] more none = refl
leading_none (octet ∷ text) more none = elim (cases_Bool (is_blank octet)) [
  | inl blank ↦ rw blank (leading_none text more (rw blank at none))
  | inr other ↦ absurd (omega (arith, rw other at none))
]

pub leading_some : (text more : List ℕ) → 0 < length (without_leading_blanks text) → without_leading_blanks (text ++ more) ≡ without_leading_blanks text ++ more
leading_some [] more some = absurd (omega arith)
leading_some (octet ∷ text) more some = elim (cases_Bool (is_blank octet)) [
  | inl blank ↦ rw blank (leading_some text more (rw blank at some))
  | inr other ↦ rw other refl
]

trailing : (text : List ℕ) → length (without_trailing_blanks text) ≡ length (without_leading_blanks (reverse text))
trailing text = length-reverse (without_leading_blanks (reverse text))

-- blanks alone at the end change nothing
trailing_none : (text more : List ℕ) → length (without_trailing_blanks more) ≡ 0 → length (without_trailing_blanks (text ++ more)) ≡ length (without_trailing_blanks text)
trailing_none text more none =
    let there : length (without_leading_blanks (reverse more)) ≡ 0 = omega (arith, none, trailing more) in
    rw (reverse-append text more, leading_none (reverse more) (reverse text) there) refl

trailing_some : (text more : List ℕ) → 0 < length (without_trailing_blanks more) → length (without_trailing_blanks (text ++ more)) ≡ length text + length (without_trailing_blanks more)
trailing_some text more some =
    let there : 0 < length (without_leading_blanks (reverse more)) = omega (arith, some, trailing more) in
    let joined = leading_some (reverse more) (reverse text) there in
    let long = length-append (without_leading_blanks (reverse more)) (reverse text) in
    let whole = trailing (text ++ more) in
    let is : length (without_leading_blanks (reverse (text ++ more))) ≡ length (without_leading_blanks (reverse more) ++ reverse text) = rw (reverse-append text more, joined) refl in
    omega (arith, whole, is, long, trailing more, length-reverse text)

-- a line more
pub measured_more : (joined kept last after : ℕ) (more content left whole : List ℕ) → ((joined ≡ 0) × (more ≡ without_leading_blanks content)) ⊎ ((0 < joined) × (more ≡ content))
    → last ≡ length (without_trailing_blanks more) → ((0 < last) × (after ≡ joined + last)) ⊎ ((last ≡ 0) × (after ≡ kept))
    → Measured joined kept (content ++ left) whole → Measured (joined + length more) after left whole
measured_more joined kept last after more content left whole taken last_is after_is was =
    let cases : ((length was.value ≡ 0) × (more ≡ without_leading_blanks content)) ⊎ ((0 < length was.value) × (more ≡ content)) = elim taken [
      | inl (none, is) ↦ inl (omega (arith, was.long), is)
      | inr (some, is) ↦ inr (omega (arith, was.long), is)
    ] in
    let next = joined_more was.value more content left (without_leading_blanks whole) cases was.trimmed was.so_far in
    record {
      value = was.value ++ more;
      long = omega (arith, was.long, length-append was.value more);
      without = elim after_is [
        | inl (some, is) ↦ omega (arith, was.long, trailing_some was.value more (omega (arith, some, last_is)))
        | inr (none, is) ↦ omega (arith, was.without, trailing_none was.value more (omega (arith, none, last_is)))
      ];
      trimmed = next.0;
      so_far = next.1;
    }
