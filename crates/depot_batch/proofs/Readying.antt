-- Lines that an input has ready.
use Rattle.std.proofs.Common.{◌≡◌, ◌∙◌, ◌≢◌, ◌+◌, ◌<◌, ◌≤◌, ◌^◌, ap, append-nil, append_assoc, arith, get_or-take, length-append, length-take-le, MatchOption, subst, sym, ℕ, List, [], ◌∷◌, ◌++◌, Option, Some, None, IfSome, length, take, drop, Vec, Global}
use Rattle.std.specs.Io.{StartsWith}
use Rattle.std.specs.List.{All, AllWithin, HoldsAt, concat}
use Rattle.std.proofs.KnownBytes.{starts_with_rest}
use Rattle.std.proofs.Math.ListN.{get_or}
use Rattle.std.proofs.Math.Seq.{take-append_seam}
use Rattle.std.proofs.lemmas.List.{map-append, map_more, take-append-drop, take_more}
use Rattle.std.proofs.lemmas.List.Elements.{All-push, All-take}
use Rattle.std.proofs.lemmas.List.Folds.{concat-append}
use Rattle.devices.specs.Supply.{HasGiven, Supply}
use Rattle.depot_batch.specs.Lines.{HasShown, IsDeliveryLine, IsLine}
use Rattle.depot_batch.specs.Private.{CanTake, lines_of}

-- ---- how many octets lines have

-- the first lines, with one more
pub octets_more : (lines : List (Vec ℕ Global)) (i : ℕ) (d : Vec ℕ Global) → i < length lines
    → concat (lines_of (take (i + 1) lines)) ≡ concat (lines_of (take i lines)) ++ (get_or lines i d).items
octets_more lines i d within =
    ap concat (map_more (λ (l : Vec ℕ Global). l.items) lines i d within)
    ∙ concat-append (lines_of (take i lines)) ((get_or lines i d).items ∷ [])
    ∙ ap (λ o. concat (lines_of (take i lines)) ++ o) (append-nil (get_or lines i d).items)

-- lines are their first ones and the others
pub octets_both : (front later : List (Vec ℕ Global)) → concat (lines_of (front ++ later)) ≡ concat (lines_of front) ++ concat (lines_of later)
octets_both front later = ap concat (map-append (λ (l : Vec ℕ Global). l.items) front later) ∙ concat-append (lines_of front) (lines_of later)

front_within : (front later : List (Vec ℕ Global)) → length (concat (lines_of front)) ≤ length (concat (lines_of (front ++ later)))
front_within front later = omega (arith, ap length (octets_both front later), length-append (concat (lines_of front)) (concat (lines_of later)))

pub counts_more : (lines : List (Vec ℕ Global)) (i : ℕ) (d : Vec ℕ Global) → i < length lines
    → length (concat (lines_of (take i lines))) + length (get_or lines i d).items ≡ length (concat (lines_of (take (i + 1) lines)))
counts_more lines i d within =
    sym (ap length (octets_more lines i d within) ∙ length-append (concat (lines_of (take i lines))) (get_or lines i d).items)

pub counts_within : (lines : List (Vec ℕ Global)) (i : ℕ) → length (concat (lines_of (take i lines))) ≤ length (concat (lines_of lines))
counts_within lines i =
    subst (λ (all : List (Vec ℕ Global)). length (concat (lines_of (take i lines))) ≤ length (concat (lines_of all))) (take-append-drop i lines) (front_within (take i lines) (drop i lines))

-- ---- the first of lines

front_starts : (all octets more : List ℕ) → StartsWith all (octets ++ more) → StartsWith all octets
front_starts all octets more starts =
    let is : all ≡ octets ++ (more ++ drop (length (octets ++ more)) all) =
    starts_with_rest all (octets ++ more) starts ∙ append_assoc octets more (drop (length (octets ++ more)) all) in
    ap (take (length octets)) is ∙ take-append_seam octets (more ++ drop (length (octets ++ more)) all)

front_known : (left : Option (List ℕ)) (octets more : List ℕ) → IfSome left (λ all. StartsWith all (octets ++ more)) → IfSome left (λ all. StartsWith all octets)
front_known None octets more known = tt
front_known (Some all) octets more known = front_starts all octets more known

fits_front : (limit : Option ℕ) (m n : ℕ) → m ≤ n → IfSome limit (λ k. n ≤ k) → IfSome limit (λ k. m ≤ k)
fits_front None m n less fits = tt
fits_front (Some k) m n less fits = omega (arith, less, fits)

takes_front : (left : Option (List ℕ)) (limit : Option ℕ) (m n : ℕ) → m ≤ n → IfSome left (λ _. IfSome limit (λ k. n ≤ k)) → IfSome left (λ _. IfSome limit (λ k. m ≤ k))
takes_front None limit m n less fits = tt
takes_front (Some all) limit m n less fits = fits_front limit m n less fits

module _ (all front later : List (Vec ℕ Global)) (are : all ≡ front ++ later) where
  pub first_whole : All IsDeliveryLine (lines_of all) → All IsDeliveryLine (lines_of front)
  first_whole whole =
      let both : lines_of all ≡ lines_of front ++ lines_of later = ap lines_of are ∙ map-append (λ (l : Vec ℕ Global). l.items) front later in
      subst (All IsDeliveryLine) (take-append_seam (lines_of front) (lines_of later))
      (All-take IsDeliveryLine (length (lines_of front)) (lines_of front ++ lines_of later) (subst (All IsDeliveryLine) both whole))

  pub first_few : (most : ℕ) → length (lines_of all) ≤ most → length (lines_of front) ≤ most
  first_few most few =
      let both : lines_of all ≡ lines_of front ++ lines_of later = ap lines_of are ∙ map-append (λ (l : Vec ℕ Global). l.items) front later in
      omega (arith, few, ap length both, length-append (lines_of front) (lines_of later))

  less : length (concat (lines_of front)) ≤ length (concat (lines_of all))
  less = subst (λ (these : List (Vec ℕ Global)). length (concat (lines_of front)) ≤ length (concat (lines_of these))) (sym are) (front_within front later)

  pub first_ready : (left : Option (List ℕ)) (limit : Option ℕ) → CanTake (concat (lines_of all)) left limit → CanTake (concat (lines_of front)) left limit
  first_ready left limit can = takes_front left limit (length (concat (lines_of front))) (length (concat (lines_of all))) less can

  pub first_small : length (concat (lines_of all)) < 2 ^ 64 → length (concat (lines_of front)) < 2 ^ 64
  first_small small = omega (arith, less, small)

  pub first_shown : (old new : Supply) → HasShown (concat (lines_of all)) old new → HasShown (concat (lines_of front)) old new
  first_shown old new shown = record {
    left = shown.left;
    next = front_known old.left (concat (lines_of front)) (concat (lines_of later))
        (subst (λ octets. IfSome old.left (λ all. StartsWith all octets)) (ap (λ (these : List (Vec ℕ Global)). concat (lines_of these)) are ∙ octets_both front later) shown.next);
    given = shown.given;
    faults = shown.faults;
  }

  -- the first of lines that are shown are taken, if they may be
  pub first_taken : (shown : List (Vec ℕ Global)) (before old new : Supply) (limit : Option ℕ) → shown ≡ front → CanTake (concat (lines_of all)) before.left limit
      → HasShown (concat (lines_of all)) before old
      → (CanTake (concat (lines_of shown)) before.left limit → HasShown (concat (lines_of shown)) before old → HasGiven (concat (lines_of shown)) before new)
      → HasGiven (concat (lines_of front)) before new
  first_taken shown before old new limit is can has takes =
      subst (λ (ls : List (Vec ℕ Global)). HasGiven (concat (lines_of ls)) before new) is
      (takes (subst (λ (ls : List (Vec ℕ Global)). CanTake (concat (lines_of ls)) before.left limit) (sym is) (first_ready before.left limit can))
      (subst (λ (ls : List (Vec ℕ Global)). HasShown (concat (lines_of ls)) before old) (sym is) (first_shown before old has)))

-- ---- the first line of octets

-- octets up to the first break, with it, are a line
pub line_front : (octets front : List ℕ) (i : ℕ) → front ≡ take (i + 1) octets → (i < length octets) × HoldsAt (λ o. o ≡ 10) octets i × AllWithin (λ o. o ≢ 10) octets 0 i → IsLine front
line_front octets front i is first =
    let long = length-take-le i octets (omega (arith, first.0)) in
    record {
      text = take i octets;
      ends = is ∙ take_more octets i 0 first.0 ∙ ap (λ o. take i octets ++ o ∷ []) (first.1 0);
      plain = λ k d within. subst (λ o. o ≢ 10) (sym (get_or-take i octets k d (omega (arith, within, long)))) (first.2 k d (omega arith) (omega (arith, within, long)));
    }

-- what holds where there is something
pub at_some : (P : Type 0) (Q : ℕ → Type 0) (r : Option ℕ) (i : ℕ) → r ≡ Some i → MatchOption r P Q → Q i
at_some P Q r i is holds = subst (λ (o : Option ℕ). MatchOption o P Q) is holds

-- one line more stands before what is left
pub shown_more : (octets : List ℕ) (lines lines2 : List (Vec ℕ Global)) (line : Vec ℕ Global) (front rest later : List ℕ) → lines2 ≡ lines ++ line ∷ [] → line.items ≡ front
    → rest ≡ front ++ later → octets ≡ concat (lines_of lines) ++ rest → octets ≡ concat (lines_of lines2) ++ later
shown_more octets lines lines2 line front rest later more is parts before =
    let joined : concat (lines_of lines2) ≡ concat (lines_of lines) ++ front =
    ap (λ (ls : List (Vec ℕ Global)). concat (lines_of ls)) more ∙ octets_both lines (line ∷ []) ∙ ap (λ o. concat (lines_of lines) ++ o) (append-nil line.items ∙ is) in
    before ∙ ap (λ o. concat (lines_of lines) ++ o) parts ∙ sym (append_assoc (concat (lines_of lines)) front later) ∙ ap (λ o. o ++ later) (sym joined)

-- all of them are so
pub all_more : (Is : List ℕ → Type 0) (lines lines2 : List (Vec ℕ Global)) (line : Vec ℕ Global) → lines2 ≡ lines ++ line ∷ [] → Is line.items → All Is (lines_of lines) → All Is (lines_of lines2)
all_more Is lines lines2 line more is are =
    subst (All Is) (sym (ap lines_of more ∙ map-append (λ (l : Vec ℕ Global). l.items) lines (line ∷ []))) (All-push Is (lines_of lines) line.items are is)

-- ---- what a reader shows

-- lines that were shown may be taken
pub shown_fit : (octets shown later : List ℕ) (left : Option (List ℕ)) (limit : Option ℕ) → shown ≡ octets ++ later → length shown < 2 ^ 64
    → IfSome left (λ _. IfSome limit (λ n. length shown ≤ n)) → (length octets < 2 ^ 64) × CanTake octets left limit
shown_fit octets shown later left limit are small fits =
    let less : length octets ≤ length shown = omega (arith, ap length are, length-append octets later) in
    (omega (arith, less, small), takes_front left limit (length octets) (length shown) less fits)
