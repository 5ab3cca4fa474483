-- Labels and names, a line at a time.
use Rattle.std.proofs.Common.{◌≡◌, ℕ, suc, ◌+◌, ◌<◌, ◌≤◌, length, take, drop, Bool, true, false, if◌then◌else◌, List, [], ◌∷◌, ◌++◌, Option, Some, None, is_some, Result, Ok, refl, sym, ap, ◌∙◌, arith}
use Rattle.std.specs.Prelude.{bytes_eq, get_or}
use Rattle.std.specs.Map.{update}
use Rattle.std.proofs.lemmas.Cmp.{nat_list_eq_equiv}
use Rattle.std.proofs.lemmas.List.{length-take, take_more, drop_more}
use Rattle.bytecode_format.specs.declared.instruction.Instruction.{Instruction}
use Rattle.bytecode_listing.specs.declared.drafts.Draft.{Draft}
use Rattle.bytecode_listing.specs.declared.drafts.Line.{Line}
use Rattle.bytecode_listing.specs.declared.drafts.Line.TheVariants.{Label, Step}
use Rattle.bytecode_listing.specs.Labels.{◌>>=◌, count, place_from, place_of, double_after}

-- ---- one more line

pub count_append : (before others : List Line) → count (before ++ others) ≡ count before + count others
count_append [] others = omega arith
count_append (Label name left ∷ before) others = count_append before others
count_append (Step draft ∷ before) others = omega (arith, count_append before others)

pub count_within : (lines : List Line) → count lines ≤ length lines
count_within [] = omega arith
count_within (Label name left ∷ lines) = omega (arith, count_within lines)
count_within (Step draft ∷ lines) = omega (arith, count_within lines)

pub take_line : (lines : List Line) (i : ℕ) (d line : Line) → i < length lines → get_or lines i d ≡ line → take (i + 1) lines ≡ take i lines ++ line ∷ []
take_line lines i d line h e = take_more lines i d h ∙ ap (λ l. take i lines ++ l ∷ []) e

pub drop_line : (lines : List Line) (i : ℕ) (d line : Line) → i < length lines → get_or lines i d ≡ line → drop i lines ≡ line ∷ drop (i + 1) lines
drop_line lines i d line h e = drop_more lines i d h ∙ ap (λ l. l ∷ drop (i + 1) lines) e

pub count_taken : (lines : List Line) (i : ℕ) → count (take i lines) ≤ i
count_taken lines i = omega (arith, count_within (take i lines), length-take i lines)

pub single_more : (before rest : List Line) (name : List ℕ) (left : ℕ) (total : Option ℕ) → is_some (place_of before name) ≡ false → double_after before (Label name left ∷ rest) ≡ total → double_after (before ++ Label name left ∷ []) rest ≡ total
single_more before rest name left total h e = sym (ap (λ b. if b then Some left else double_after (before ++ Label name left ∷ []) rest) h) ∙ e

pub double_here : (before rest : List Line) (name : List ℕ) (left : ℕ) (total : Option ℕ) → is_some (place_of before name) ≡ true → double_after before (Label name left ∷ rest) ≡ total → total ≡ Some left
double_here before rest name left total h e = sym e ∙ ap (λ b. if b then Some left else double_after (before ++ Label name left ∷ []) rest) h

pub count_label : (before : List Line) (name : List ℕ) (left : ℕ) → count (before ++ Label name left ∷ []) ≡ count before
count_label [] name left = refl
count_label (Label other at ∷ before) name left = count_label before name left
count_label (Step draft ∷ before) name left = ap suc (count_label before name left)

pub count_step : (before : List Line) (draft : Draft) → count (before ++ Step draft ∷ []) ≡ suc (count before)
count_step [] draft = refl
count_step (Label name left ∷ before) draft = count_step before draft
count_step (Step other ∷ before) draft = ap suc (count_step before draft)

pub place_past_step : (place : ℕ) (before : List Line) (draft : Draft) (name : List ℕ) → place_from place (before ++ Step draft ∷ []) name ≡ place_from place before name
place_past_step place [] draft name = refl
place_past_step place (Label label left ∷ before) draft name = ap (λ o. if bytes_eq label name then Some place else o) (place_past_step place before draft name)
place_past_step place (Step other ∷ before) draft name = place_past_step (suc place) before draft name

-- a name that wasn't a label yet
place_added : (place end : ℕ) (before : List Line) (label : List ℕ) (left : ℕ) (name : List ℕ) → end ≡ place + count before → is_some (place_from place before label) ≡ false
    → place_from place (before ++ Label label left ∷ []) name ≡ (if bytes_eq label name then Some end else place_from place before name)
place_added place end [] label left name e h = let same : place ≡ end = omega (arith, e) in ap (λ n. if bytes_eq label name then Some n else None) same
place_added place end (Step draft ∷ before) label left name e h = place_added (suc place) end before label left name (omega (arith, e)) h
place_added place end (Label other at ∷ before) label left name e h =
    by_first (bytes_eq other label) refl h (λ k. place_added place end before label left name e k)
  where
    choose : (a b : Bool) → (o : Option ℕ) → (a ≡ true → b ≡ false) → (if a then Some place else (if b then Some end else o)) ≡ (if b then Some end else (if a then Some place else o))
    choose true true o apart = absurd (let no : (let t : Bool = true in t) ≡ false = apart refl in cc)
    choose true false o apart = refl
    choose false b o apart = refl

    by_first : (first : Bool) → bytes_eq other label ≡ first → is_some (if first then Some place else place_from place before label) ≡ false
        → (is_some (place_from place before label) ≡ false → place_from place (before ++ Label label left ∷ []) name ≡ (if bytes_eq label name then Some end else place_from place before name))
        → (if bytes_eq other name then Some place else place_from place (before ++ Label label left ∷ []) name) ≡ (if bytes_eq label name then Some end else (if bytes_eq other name then Some place else place_from place before name))
    by_first true f h more = absurd cc
    by_first false f h more =
        ap (λ o. if bytes_eq other name then Some place else o) (more h)
        ∙ choose (bytes_eq other name) (bytes_eq label name) (place_from place before name)
        (λ same. nat_list_eq_equiv.symm label name ∙ sym (nat_list_eq_equiv.congr other name label same) ∙ f)

-- the map's lookups with one more label
pub place_more : (before : List Line) (label : List ℕ) (left end : ℕ) (lookup : List ℕ → Option ℕ) (name : List ℕ) → end ≡ count before → is_some (place_of before label) ≡ false → lookup name ≡ place_of before name
    → update bytes_eq lookup label (Some end) name ≡ place_of (before ++ Label label left ∷ []) name
place_more before label left end lookup name e h same =
    ap (λ o. if bytes_eq label name then Some end else o) same
    ∙ sym (place_added 0 end before label left name (omega (arith, e)) h)

-- ---- the instructions so far, and those of the lines that are left

abbrev pub after : List Instruction → Result (List Instruction) ℕ → Result (List Instruction) ℕ
after done read = read >>= λ others. Ok (done ++ others)
