-- Letters in upper case: by lanes, and where there are none.
use Rattle.std.proofs.Common.{◌≡◌, ℕ, ◌+◌, ◌-◌, ◌≤◌, List, [], ◌∷◌, ◌++◌, map, length, take, drop, get_or, false, Option, Some, None, ◌<◌, refl, sym, ap, ◌∙◌, arith}
use Rattle.std.proofs.Math.Seq.{take-add}
use Rattle.std.proofs.lemmas.Bool.{true≢false, false_from_ne_true}
use Rattle.std.proofs.lemmas.Bool.Decides.{nat_tests}
use Rattle.std.proofs.lemmas.List.{append-nil, drop_all, get_or-map, length-drop, length-map, length-take-le, map-append, take-append-drop}
use Rattle.std.proofs.lemmas.Slice.{take-put_mid}
use borrow.Rule.Slice.PartMut.{put_mid, post_of}
use Rattle.std.specs.Char.{to_ascii_uppercase, is_ascii_alphabetic}
use Rattle.std.specs.List.{list_any}
use Rattle.std.proofs.lemmas.List.Folds.{list_any_at}
use Rattle.memchr.specs.Find.{FindsNeedle, OccursAt}
use Rattle.octet_lanes.specs.Encoding.{upper_of}

pub upper_lane : (x : ℕ) → upper_of x ≡ to_ascii_uppercase x
upper_lane x = grind (arith, nat_tests)

pub upper_lanes : (xs : List ℕ) → map upper_of xs ≡ map to_ascii_uppercase xs
upper_lanes [] = refl
upper_lanes (x ∷ xs) = ap (λ y. y ∷ map upper_of xs) (upper_lane x) ∙ ap (λ ys. to_ascii_uppercase x ∷ ys) (upper_lanes xs)

-- ---- a text folded by lanes

module _ (text folded : List ℕ) (place : ℕ) (long : length folded ≡ length text) (so_far : take place folded ≡ map to_ascii_uppercase (take place text)) where
  pub fold_more : (new lanes : List ℕ) → place + 32 ≤ length text → lanes ≡ take 32 (drop place text) → new ≡ map upper_of lanes
      → take (place + 32) (put_mid place ((place + 32) - place) folded new) ≡ map to_ascii_uppercase (take (place + 32) text)
  fold_more new lanes within at e =
      let uppers : new ≡ map to_ascii_uppercase (take 32 (drop place text)) = e ∙ upper_lanes lanes ∙ ap (map to_ascii_uppercase) at in
      let size : length new ≡ 32 =
      ap length uppers ∙ length-map (take 32 (drop place text)) to_ascii_uppercase ∙ length-take-le 32 (drop place text) (omega (arith, length-drop place text)) in
      take-put_mid place ((place + 32) - place) folded new (place + 32) (omega arith) (omega arith)
      ∙ ap (λ xs. xs ++ new) so_far ∙ ap (λ xs. map to_ascii_uppercase (take place text) ++ xs) uppers
      ∙ sym (map-append to_ascii_uppercase (take place text) (take 32 (drop place text)))
      ∙ ap (map to_ascii_uppercase) (sym (take-add place 32 text))

  pub fold_rest : (new : List ℕ) → place ≤ length text → new ≡ map to_ascii_uppercase (drop place text)
      → put_mid place (length folded - place) folded new ≡ map to_ascii_uppercase text
  fold_rest new within e =
      let none : post_of place (length folded - place) folded ≡ [] =
      drop_all (length folded - place) (drop place folded) (omega (arith, length-drop place folded)) in
      ap (λ xs. take place folded ++ (new ++ xs)) none ∙ ap (λ xs. take place folded ++ xs) (append-nil new)
      ∙ ap (λ xs. xs ++ new) so_far ∙ ap (λ xs. map to_ascii_uppercase (take place text) ++ xs) e
      ∙ sym (map-append to_ascii_uppercase (take place text) (drop place text))
      ∙ ap (map to_ascii_uppercase) (take-append-drop place text)

-- ---- texts without letters

same_plain : (x y : ℕ) → is_ascii_alphabetic y ≡ false → to_ascii_uppercase x ≡ to_ascii_uppercase y → x ≡ y
same_plain x y plain e = grind (arith, nat_tests)

plain_at : (text : List ℕ) → list_any is_ascii_alphabetic text ≡ false → (j : ℕ) → j < length text → is_ascii_alphabetic (get_or text j 0) ≡ false
plain_at text none j h = false_from_ne_true (is_ascii_alphabetic (get_or text j 0)) (λ is. true≢false (sym (list_any_at is_ascii_alphabetic text j 0 h is) ∙ none))

module _ (value text : List ℕ) (none : list_any is_ascii_alphabetic text ≡ false) where
  upper_at : (xs : List ℕ) (j : ℕ) → j < length xs → get_or (map to_ascii_uppercase xs) j 0 ≡ to_ascii_uppercase (get_or xs j 0)
  upper_at xs j h = get_or-map to_ascii_uppercase xs j 0 0 h

  occurs_folded : (k : ℕ) → OccursAt value text k → OccursAt (map to_ascii_uppercase value) (map to_ascii_uppercase text) k
  occurs_folded k occurs = record {
    fits = omega (arith, occurs.fits, length-map value to_ascii_uppercase, length-map text to_ascii_uppercase);
    reads = λ j h.
        let within : j < length text = omega (arith, length-map text to_ascii_uppercase) in
        upper_at value (k + j) (omega (arith, occurs.fits)) ∙ ap to_ascii_uppercase (occurs.reads j within) ∙ sym (upper_at text j within);
  }

  occurs_unfolded : (k : ℕ) → OccursAt (map to_ascii_uppercase value) (map to_ascii_uppercase text) k → OccursAt value text k
  occurs_unfolded k occurs =
      let fits : k + length text ≤ length value = omega (arith, occurs.fits, length-map value to_ascii_uppercase, length-map text to_ascii_uppercase) in
      record {
        fits = fits;
        reads = λ j h.
            same_plain (get_or value (k + j) 0) (get_or text j 0) (plain_at text none j h)
            (sym (upper_at value (k + j) (omega arith)) ∙ occurs.reads j (omega (arith, length-map text to_ascii_uppercase)) ∙ upper_at text j h);
      }

  -- a text without letters is searched as it is
  pub finds_folded : (r : Option ℕ) → FindsNeedle value text 0 r → FindsNeedle (map to_ascii_uppercase value) (map to_ascii_uppercase text) 0 r
  finds_folded None nowhere = λ j low less occurs. nowhere j low (omega (arith, length-map value to_ascii_uppercase)) (occurs_unfolded j occurs)
  finds_folded (Some k) (first, occurs) =
      let high = first.high in (
        record {
          low = omega arith;
          high = omega (arith, length-map value to_ascii_uppercase);
          before = λ j low less there. first.before j low less (occurs_unfolded j there);
        },
        occurs_folded k occurs,
      )
