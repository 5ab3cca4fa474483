-- Equal texts, block by block.
use Rattle.std.proofs.Common.{◌≡◌, ◌↔◌, ℕ, zero, suc, ◌+◌, ◌<◌, ◌≤◌, ◌==◌, Bool, true, false, ◌&&◌, IsTrue, List, [], ◌∷◌, ◌++◌, length, map, take, drop, refl, sym, ap, ◌∙◌, slice_index_or, arith}
use Rattle.std.proofs.lemmas.Bool.{and_from, and_left, and_parts, and_right, false_from_ne_true, true≢false}
use Rattle.std.proofs.lemmas.Bool.Decides.{nat_tests}
use Rattle.std.proofs.lemmas.List.{drop-take, length-map, map-append, take-take, take_at}
use Rattle.std.specs.Char.{to_ascii_lowercase, to_ascii_uppercase}
use Rattle.std.specs.Cmp.Lexicographic.{pointwise}
use Rattle.std.specs.Prelude.{nat_eq}
use Rattle.glob_match.specs.Comparison.{is_match, same_octet}
use Rattle.glob_match.specs.declared.comparator.Comparator.TheVariants.{Casemap}
use Rattle.glob_match.proofs.Texts.{equal_from, equal_since}

and_assoc : (a b c : Bool) → (a && (b && c)) ≡ ((a && b) && c)
and_assoc true b c = refl
and_assoc false b c = refl

-- the first octets, and the others
pub is_match_split : (n : ℕ) (xs ys : List ℕ)
    → is_match Casemap xs ys ≡ (is_match Casemap (take n xs) (take n ys) && is_match Casemap (drop n xs) (drop n ys))
is_match_split zero xs ys = refl
is_match_split (suc n) [] [] = refl
is_match_split (suc n) [] (y ∷ ys) = refl
is_match_split (suc n) (x ∷ xs) [] = refl
is_match_split (suc n) (x ∷ xs) (y ∷ ys) =
    let same = to_ascii_uppercase x == to_ascii_uppercase y in
    ap (λ b. same && b) (is_match_split n xs ys) ∙ and_assoc same (is_match Casemap (take n xs) (take n ys)) (is_match Casemap (drop n xs) (drop n ys))

-- texts that differ in their first octet
pub first_differs : (xs ys : List ℕ) → 0 < length ys → same_octet Casemap (slice_index_or xs 0 0) (slice_index_or ys 0 0) ≡ false → false ≡ is_match Casemap xs ys
first_differs xs [] some other = absurd (omega arith)
first_differs [] (y ∷ ys) some other = refl
first_differs (x ∷ xs) (y ∷ ys) some other = sym (ap (λ b. b && is_match Casemap xs ys) other)

-- what is equal in upper case
pub uppers_same : (xs ys : List ℕ) → pointwise nat_eq (map to_ascii_uppercase xs) (map to_ascii_uppercase ys) ≡ is_match Casemap xs ys
uppers_same [] [] = refl
uppers_same [] (y ∷ ys) = refl
uppers_same (x ∷ xs) [] = refl
uppers_same (x ∷ xs) (y ∷ ys) = ap (λ b. (to_ascii_uppercase x == to_ascii_uppercase y) && b) (uppers_same xs ys)

-- texts that are alike in one way are alike in another, where their octets are
alike : (f g : ℕ → ℕ) → ((x y : ℕ) → f x ≡ f y → g x ≡ g y) → (xs ys : List ℕ) → map f xs ≡ map f ys → map g xs ≡ map g ys
alike f g each [] [] e = refl
alike f g each [] (y ∷ ys) e = cc
alike f g each (x ∷ xs) [] e = cc
alike f g each (x ∷ xs) (y ∷ ys) e =
    let first : g x ≡ g y = each x y cc in
    let rest : map g xs ≡ map g ys = alike f g each xs ys cc in
    cc

upper_from_lower : (x y : ℕ) → to_ascii_lowercase x ≡ to_ascii_lowercase y → to_ascii_uppercase x ≡ to_ascii_uppercase y
upper_from_lower x y e = grind (arith, nat_tests)

lower_from_upper : (x y : ℕ) → to_ascii_uppercase x ≡ to_ascii_uppercase y → to_ascii_lowercase x ≡ to_ascii_lowercase y
lower_from_upper x y e = grind (arith, nat_tests)

-- what is equal in lower case
pub same_folded : (same : Bool) (xs ys : List ℕ) → (IsTrue same ↔ (map to_ascii_lowercase xs ≡ map to_ascii_lowercase ys)) → same ≡ is_match Casemap xs ys
same_folded true xs ys is = sym (equal_since Casemap xs ys (alike to_ascii_lowercase to_ascii_uppercase upper_from_lower xs ys (is.0 refl)))
same_folded false xs ys is =
    sym (false_from_ne_true (is_match Casemap xs ys)
    (λ equal. true≢false (sym (is.1 (alike to_ascii_uppercase to_ascii_lowercase lower_from_upper xs ys (equal_from Casemap xs ys equal))))))

-- the front of a padded text in upper case
pub front_of_padded : (xs rest : List ℕ) → take (length xs) (map to_ascii_uppercase (xs ++ rest)) ≡ map to_ascii_uppercase xs
front_of_padded xs rest =
    ap (take (length xs)) (map-append to_ascii_uppercase xs rest)
    ∙ take_at (map to_ascii_uppercase xs) (map to_ascii_uppercase rest) (length xs) (length-map xs to_ascii_uppercase)

-- ---- block by block

module _ (value key : List ℕ) (place : ℕ) (so_far : is_match Casemap (take place value) (take place key) ≡ true) where
  -- one block more
  pub block_more : (block : List ℕ) (same : Bool) → block ≡ take 32 (drop place value) → same ≡ is_match Casemap block (take 32 (drop place key))
      → same ≡ true → is_match Casemap (take (place + 32) value) (take (place + 32) key) ≡ true
  block_more block same is e equal =
      is_match_split place (take (place + 32) value) (take (place + 32) key)
      ∙ and_from (is_match Casemap (take place (take (place + 32) value)) (take place (take (place + 32) key)))
      (is_match Casemap (drop place (take (place + 32) value)) (drop place (take (place + 32) key)))
      (ap (λ xs. is_match Casemap xs (take place (take (place + 32) key))) (take-take place (place + 32) value (omega arith))
      ∙ ap (is_match Casemap (take place value)) (take-take place (place + 32) key (omega arith)) ∙ so_far)
      (ap (λ xs. is_match Casemap xs (drop place (take (place + 32) key))) (drop-take place 32 value ∙ sym is)
      ∙ ap (is_match Casemap block) (drop-take place 32 key) ∙ sym e ∙ equal)

  -- a block that differs
  pub block_differs : (block : List ℕ) (same : Bool) → block ≡ take 32 (drop place value) → same ≡ is_match Casemap block (take 32 (drop place key))
      → same ≡ false → false ≡ is_match Casemap value key
  block_differs block same is e other =
      sym (is_match_split place value key
      ∙ and_right (is_match Casemap (take place value) (take place key)) (is_match Casemap (drop place value) (drop place key))
      (is_match_split 32 (drop place value) (drop place key)
      ∙ and_left (is_match Casemap (take 32 (drop place value)) (take 32 (drop place key))) (is_match Casemap (drop 32 (drop place value)) (drop 32 (drop place key)))
      (ap (λ xs. is_match Casemap xs (take 32 (drop place key))) (sym is) ∙ sym e ∙ other)))

  -- what is left, with octets before it
  pub block_last : (n : ℕ) → n ≤ place → is_match Casemap (drop n value) (drop n key) ≡ is_match Casemap value key
  block_last n before =
      let parts = and_parts (is_match Casemap (take n (take place value)) (take n (take place key))) (is_match Casemap (drop n (take place value)) (drop n (take place key)))
      (sym (is_match_split n (take place value) (take place key)) ∙ so_far) in
      let front : is_match Casemap (take n value) (take n key) ≡ true =
      ap (λ xs. is_match Casemap xs (take n key)) (sym (take-take n place value before))
      ∙ ap (is_match Casemap (take n (take place value))) (sym (take-take n place key before)) ∙ parts.0 in
      sym (is_match_split n value key ∙ ap (λ b. b && is_match Casemap (drop n value) (drop n key)) front)
