-- What is ahead of the reader of a message, line by line.
use Rattle.std.proofs.Common.{◌≡◌, ℕ, ◌+◌, Bool, true, false, ◌&&◌, ◌||◌, add-zero, List, [], ◌∷◌, ◌++◌, refl, sym, ◌∙◌, ap, arith, length, inl, inr, Option, Some, None}
use Rattle.std.specs.List.{flat_map}
use Rattle.std.proofs.lemmas.Bool.{cases_Bool, true≢false}
use Rattle.std.proofs.lemmas.List.{append-nil, length-append}
use Rattle.text_lines.specs.Lines.{TextLine, line_octets, AreLines}
use Rattle.header_fields.specs.Header.{line_length}
use Rattle.mime_tree.specs.PartTree.{Part, is_closing, is_delimiter, ends_child, further_children, multipart_children, parts_of}
use Rattle.mime_tree.specs.Enclosing.{ends_any, first_ends_any, octets_before}
use Rattle.mime_tree.specs.OpenParts.{OpenPart, boundaries_with, boundaries_in, cut, is_last, meets, meets_any, end_from, children_ahead, ended_at, all_ended, finished}
use Rattle.mime_tree.proofs.Enclosing.{one_line, cut_hit, cut_last, cut_on, more_end, empty_ends_none}

pub neither : (a b : Bool) → (a || b) ≡ false → (a ≡ false) × (b ≡ false)
neither true b none = absurd (true≢false none)
neither false b none = (refl, none)

-- ---- which lines end parts

pub with_none : (boundary : Option (List ℕ)) (around : List (List ℕ)) (line : List ℕ) → ends_any around line ≡ false → meets false boundary line ≡ false
    → ends_any (boundaries_with boundary around) line ≡ false
with_none None around line other none = other
with_none (Some boundary) around line other none = rw (none, other) refl

-- a line that meets none of the open parts ends none
pub none_end : (opened : List OpenPart) (around : List (List ℕ)) (line : List ℕ) → ends_any around line ≡ false → meets_any false opened line ≡ false
    → ends_any (boundaries_in around opened) line ≡ false
none_end [] around line other none = other
none_end (part ∷ []) around line other none = with_none part.boundary around line other (neither _ _ none).0
none_end (part ∷ (next ∷ inner)) around line other none =
    none_end (next ∷ inner) (boundaries_with part.boundary around) line (with_none part.boundary around line other (neither _ _ none).0) (neither _ _ none).1

without : (boundary : Option (List ℕ)) (around : List (List ℕ)) (line : List ℕ) → ends_any (boundaries_with boundary around) line ≡ false → ends_any around line ≡ false
without None around line none = none
without (Some boundary) around line none = (neither _ _ none).1

-- what ends none of the parts in some ends none of these
pub outer_none : (opened : List OpenPart) (around : List (List ℕ)) (line : List ℕ) → ends_any (boundaries_in around opened) line ≡ false → ends_any around line ≡ false
outer_none [] around line none = none
outer_none (part ∷ inner) around line none = without part.boundary around line (outer_none inner (boundaries_with part.boundary around) line none)

own_none : (boundary : Option (List ℕ)) (around : List (List ℕ)) (line : List ℕ) → ends_any (boundaries_with boundary around) line ≡ false → meets false boundary line ≡ false
own_none None around line none = refl
own_none (Some boundary) around line none = (neither _ _ none).0

pub none_meet : (opened : List OpenPart) (around : List (List ℕ)) (line : List ℕ) → ends_any (boundaries_in around opened) line ≡ false → meets_any false opened line ≡ false
none_meet [] around line none = refl
none_meet (part ∷ []) around line none = rw (own_none part.boundary around line none) refl
none_meet (part ∷ (next ∷ inner)) around line none =
    let within = boundaries_with part.boundary around in
    let mine : meets false part.boundary line ≡ false = own_none part.boundary around line (outer_none (next ∷ inner) within line none) in
    let rest : meets_any false (next ∷ inner) line ≡ false = none_meet (next ∷ inner) within line none in
    both _ _ mine rest where
      both : (a b : Bool) → a ≡ false → b ≡ false → (a || b) ≡ false
      both true b one two = absurd (true≢false one)
      both false b one two = two

-- an empty line ends no part
pub empty_ends_no : (around : List (List ℕ)) → ends_any around [] ≡ false
empty_ends_no [] = refl
empty_ends_no (boundary ∷ around) = rw (empty_ends_none boundary, empty_ends_no around) refl

pub empty_meets_none : (opened : List OpenPart) → meets_any false opened [] ≡ false
empty_meets_none opened = none_meet opened [] [] (empty_ends_no (boundaries_in [] opened))

pub first_outer_none : (opened : List OpenPart) (around : List (List ℕ)) (lines : List TextLine) → first_ends_any (boundaries_in around opened) lines ≡ false → first_ends_any around lines ≡ false
first_outer_none opened around [] none = refl
first_outer_none opened around (line ∷ lines) none = outer_none opened around line.content none

pub first_more : (boundary : Option (List ℕ)) (around : List (List ℕ)) (lines : List TextLine) → first_ends_any around lines ≡ true → first_ends_any (boundaries_with boundary around) lines ≡ true
first_more None around lines hit = hit
first_more (Some boundary) around lines hit = more_end boundary around lines hit

-- ---- where a part ends

pub end_step : (around : List (List ℕ)) (place end : ℕ) (line : TextLine) (lines : List TextLine) → ends_any around line.content ≡ false
    → end_from around place end (line ∷ lines) ≡ end_from around (place + line_length line) (place + length line.content) lines
end_step around place end line lines other = elim (cases_Bool (first_ends_any around lines)) [
  | inl hit ↦ rw (other, hit) refl
  | inr later ↦ rw (other, later) (omega (arith, length-append (line_octets line) (octets_before around lines), length-append line.content line.break))
]

pub end_any : (around : List (List ℕ)) (place end other : ℕ) (lines : List TextLine) → first_ends_any around lines ≡ false → end_from around place end lines ≡ end_from around place other lines
end_any around place end other lines none = rw none refl

-- ---- the children that come

first_cut : (around : List (List ℕ)) (lines : List TextLine) → first_ends_any around lines ≡ true → cut around lines ≡ []
first_cut around [] hit = refl
first_cut around (line ∷ lines) hit = cut_hit around line lines hit

no_first : (boundary : List ℕ) (place : ℕ) (content : List ℕ) → is_delimiter boundary content ≡ false → multipart_children boundary place (one_line content) ≡ []
no_first boundary place [] other = refl
no_first boundary place (octet ∷ content) other = rw other refl

no_further : (boundary : List ℕ) (place : ℕ) (content : List ℕ) → ends_child boundary content ≡ false → further_children boundary place (one_line content) ≡ []
no_further boundary place [] other = refl
no_further boundary place (octet ∷ content) other =
    let none : is_delimiter boundary (octet ∷ content) ≡ false = (neither _ _ other).0 in
    let going : is_closing boundary (octet ∷ content) ≡ false = (neither _ _ other).1 in
    rw (going, none) refl

children_step : (preamble : Bool) (boundary : Option (List ℕ)) (around : List (List ℕ)) (place : ℕ) (line : TextLine) (lines : List TextLine) → AreLines (line ∷ lines)
    → ends_any around line.content ≡ false → meets preamble boundary line.content ≡ false
    → children_ahead preamble boundary around place (line ∷ lines) ≡ children_ahead preamble boundary around (place + line_length line) lines
children_step preamble None around place line lines are other none = refl
children_step true (Some boundary) around place line lines are other none = elim (cases_Bool (first_ends_any around lines)) [
  | inl hit ↦ ap (multipart_children boundary place) (cut_last around line lines are other hit) ∙ no_first boundary place line.content none
      ∙ sym (ap (multipart_children boundary (place + line_length line)) (first_cut around lines hit))
  | inr later ↦ ap (multipart_children boundary place) (cut_on around line lines are other later) ∙ rw none refl
]
children_step false (Some boundary) around place line lines are other none =
    let no : is_delimiter boundary line.content ≡ false = (neither _ _ none).0 in
    let going : is_closing boundary line.content ≡ false = (neither _ _ none).1 in
    elim (cases_Bool (first_ends_any around lines)) [
      | inl hit ↦ ap (further_children boundary place) (cut_last around line lines are other hit) ∙ no_further boundary place line.content none
          ∙ sym (ap (further_children boundary (place + line_length line)) (first_cut around lines hit))
      | inr later ↦ ap (further_children boundary place) (cut_on around line lines are other later) ∙ rw (going, no) refl
    ]

pub no_children : (preamble : Bool) (boundary : Option (List ℕ)) (around : List (List ℕ)) (place : ℕ) (lines : List TextLine) → cut around lines ≡ [] → children_ahead preamble boundary around place lines ≡ []
no_children preamble None around place lines none = refl
no_children true (Some boundary) around place lines none = ap (multipart_children boundary place) none
no_children false (Some boundary) around place lines none = ap (further_children boundary place) none

-- ---- what the parts become

pub joined : (at end other : ℕ) (parts more : List Part) (ahead behind : List Part) → end ≡ other → parts ≡ more → ahead ≡ behind → ended_at at end (parts ++ ahead) ≡ ended_at at other (more ++ behind)
joined at end other parts more ahead behind e p a = ap (λ n. ended_at at n (parts ++ ahead)) e ∙ ap (λ (ps : List Part). ended_at at other (ps ++ ahead)) p ∙ ap (λ (ps : List Part). ended_at at other (more ++ ps)) a

-- a line that meets no part is passed
pub finished_step : (preamble : Bool) (around : List (List ℕ)) (place end : ℕ) (line : TextLine) (lines : List TextLine) (opened : List OpenPart) (parts : List Part) → AreLines (line ∷ lines)
    → ends_any around line.content ≡ false → meets_any preamble opened line.content ≡ false
    → finished preamble around place end (line ∷ lines) opened parts ≡ finished preamble around (place + line_length line) (place + length line.content) lines opened parts
finished_step preamble around place end line lines [] parts are other none = refl
finished_step preamble around place end line lines (part ∷ []) parts are other none =
    joined part.at _ _ parts parts _ _ (end_step around place end line lines other) refl
    (ap (flat_map (parts_of part.levels part.default)) (children_step preamble part.boundary around place line lines are other (neither _ _ none).0))
finished_step preamble around place end line lines (part ∷ (next ∷ inner)) parts are other none =
    let mine = (neither _ _ none).0 in
    joined part.at _ _ _ _ _ _ (end_step around place end line lines other)
    (finished_step preamble (boundaries_with part.boundary around) place end line lines (next ∷ inner) parts are (with_none part.boundary around line.content other mine) (neither _ _ none).1)
    (ap (flat_map (parts_of part.levels part.default)) (children_step false part.boundary around place line lines are other mine))

-- where the lines before end doesn't matter, where the next line ends no part
pub finished_any : (opened : List OpenPart) (around : List (List ℕ)) (place end other : ℕ) (lines : List TextLine) (parts : List Part) → first_ends_any (boundaries_in around opened) lines ≡ false
    → finished false around place end lines opened parts ≡ finished false around place other lines opened parts
finished_any [] around place end other lines parts none = refl
finished_any (part ∷ inner) around place end other lines parts none =
    joined part.at _ _ _ _ _ _ (end_any around place end other lines (first_outer_none (part ∷ inner) around lines none))
    (finished_any inner (boundaries_with part.boundary around) place end other lines parts none) refl

pub finished_append : (preamble : Bool) (outer : List OpenPart) (around : List (List ℕ)) (place end : ℕ) (lines : List TextLine) (this : OpenPart) (inner : List OpenPart) (parts : List Part)
    → finished preamble around place end lines (outer ++ this ∷ inner) parts
    ≡ finished false around place end lines outer (finished preamble (boundaries_in around outer) place end lines (this ∷ inner) parts)
finished_append preamble [] around place end lines this inner parts = refl
finished_append preamble (part ∷ []) around place end lines this inner parts = refl
finished_append preamble (part ∷ (next ∷ outer)) around place end lines this inner parts =
    joined part.at _ _ _ _ _ _ refl (finished_append preamble (next ∷ outer) (boundaries_with part.boundary around) place end lines this inner parts) refl

-- the parts within a multipart end before its next line
pub inner_ended : (preamble : Bool) (inner : List OpenPart) (around : List (List ℕ)) (place end : ℕ) (lines : List TextLine) (parts : List Part) → first_ends_any around lines ≡ true
    → finished preamble around place end lines inner parts ≡ all_ended end inner parts
inner_ended preamble [] around place end lines parts hit = refl
inner_ended preamble (part ∷ inner) around place end lines parts hit =
    joined part.at _ _ _ _ _ _ (rw hit refl) (inner_ended preamble inner (boundaries_with part.boundary around) place end lines parts (first_more part.boundary around lines hit))
    (ap (flat_map (parts_of part.levels part.default)) (no_children (is_last inner && preamble) part.boundary around place lines (first_cut around lines hit)))
    ∙ ap (ended_at part.at end) (append-nil (all_ended end inner parts))

-- all parts end with the text
pub none_left : (preamble : Bool) (opened : List OpenPart) (around : List (List ℕ)) (place end : ℕ) (parts : List Part) → finished preamble around place end [] opened parts ≡ all_ended place opened parts
none_left preamble [] around place end parts = refl
none_left preamble (part ∷ inner) around place end parts =
    joined part.at _ _ _ _ _ _ (add-zero place) (none_left preamble inner (boundaries_with part.boundary around) place end parts)
    (ap (flat_map (parts_of part.levels part.default)) (no_children (is_last inner && preamble) part.boundary around place [] refl))
    ∙ ap (ended_at part.at place) (append-nil (all_ended place inner parts))
