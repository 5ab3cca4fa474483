-- A delimiter or closing line of an open part.
use Rattle.std.proofs.Common.{◌≡◌, ℕ, ◌+◌, Bool, true, false, ◌&&◌, add-zero, List, [], ◌∷◌, ◌++◌, refl, sym, ◌∙◌, ap, arith, length, codes, inl, inr, Option, Some, None}
use Rattle.std.specs.List.{flat_map}
use Rattle.std.proofs.lemmas.Bool.{cases_Bool, true≢false, false≢true}
use Rattle.std.proofs.lemmas.List.{append_assoc, append-nil, length-append}
use Rattle.std.proofs.lemmas.Slice.Eq.{bytes_eq-Decides}
use Rattle.text_lines.specs.Lines.{TextLine, AreLines}
use Rattle.header_fields.specs.Header.{line_length}
use Rattle.octets.specs.Blank.{without_trailing_blanks}
use Rattle.mime_tree.specs.PartTree.{Part, Stretch, is_closing, is_delimiter, ends_child, child_at, further_children, multipart_children, parts_of}
use Rattle.mime_tree.specs.Enclosing.{ends_any, first_ends_any, octets_before}
use Rattle.mime_tree.specs.OpenParts.{OpenPart, boundaries_with, boundaries_in, cut, is_last, meets_any, end_from, children_ahead, parts_ahead, ended_at, all_ended, finished, parts_begun, break_alone}
use Rattle.mime_tree.proofs.Enclosing.{one_line, cut_last, cut_on, cut_cut, lines_after, empty_ends_none, break_ends}
use Rattle.mime_tree.proofs.Ahead.{neither, none_end, empty_ends_no, empty_meets_none, first_more, end_step, no_children, joined, finished_step, finished_append, inner_ended}

-- no line is both
pub not_both : (boundary line : List ℕ) → is_delimiter boundary line ≡ true → is_closing boundary line ≡ false
not_both boundary line is = elim (cases_Bool (is_closing boundary line)) [
  | inl closing ↦
      let one : without_trailing_blanks line ≡ codes "--" ++ boundary = (bytes_eq-Decides _ _).0 is in
      let two : without_trailing_blanks line ≡ codes "--" ++ (boundary ++ codes "--") = (bytes_eq-Decides _ _).0 closing in
      let same : 2 + length boundary ≡ 2 + length (boundary ++ codes "--") = omega (arith, ap length (sym one ∙ two)) in
      absurd (omega (arith, same, length-append boundary (codes "--")))
  | inr going ↦ going
]

pub boundaries_append : (outer : List OpenPart) (around : List (List ℕ)) (this : OpenPart) → boundaries_in around (outer ++ this ∷ []) ≡ boundaries_with this.boundary (boundaries_in around outer)
boundaries_append [] around this = refl
boundaries_append (part ∷ outer) around this = boundaries_append outer (boundaries_with part.boundary around) this

-- ---- the break of a line whose part ends before it

pub break_are : (around : List (List ℕ)) (line : TextLine) (lines : List TextLine) → AreLines (line ∷ lines) → first_ends_any around lines ≡ true → AreLines (break_alone line ∷ lines)
break_are around line lines (inl (ended, more)) hit = inl (break_ends line ended, more)
break_are around line lines (inr (last, none)) hit = absurd (false≢true (sym (ap (first_ends_any around) none) ∙ hit))

pub past_break : (place : ℕ) (line : TextLine) → place + line_length line ≡ place + length line.content + line_length (break_alone line)
past_break place line = omega arith

pub end_mid : (around : List (List ℕ)) (place end other : ℕ) (line : TextLine) (lines : List TextLine) → ends_any around line.content ≡ false
    → end_from around place end (line ∷ lines) ≡ end_from around (place + length line.content) other (break_alone line ∷ lines)
end_mid around place end other line lines none =
    let here = place + length line.content in
    end_step around place end line lines none
    ∙ ap (λ n. end_from around n here lines) (past_break place line)
    ∙ ap (λ n. end_from around (here + line_length (break_alone line)) n lines) (sym (add-zero here))
    ∙ sym (end_step around here other (break_alone line) lines (empty_ends_no around))

pub finished_mid : (opened : List OpenPart) (around : List (List ℕ)) (place end other : ℕ) (line : TextLine) (lines : List TextLine) (parts : List Part) → AreLines (line ∷ lines) → AreLines (break_alone line ∷ lines)
    → ends_any around line.content ≡ false → meets_any false opened line.content ≡ false
    → finished false around place end (line ∷ lines) opened parts ≡ finished false around (place + length line.content) other (break_alone line ∷ lines) opened parts
finished_mid opened around place end other line lines parts are alone none meet =
    let here = place + length line.content in
    finished_step false around place end line lines opened parts are none meet
    ∙ ap (λ n. finished false around n here lines opened parts) (past_break place line)
    ∙ ap (λ n. finished false around (here + line_length (break_alone line)) n lines opened parts) (sym (add-zero here))
    ∙ sym (finished_step false around here other (break_alone line) lines opened parts alone (empty_ends_no around) (empty_meets_none opened))

-- ---- the children from a delimiter line on

delimiter_first : (boundary : List ℕ) (place : ℕ) (content : List ℕ) → is_delimiter boundary content ≡ true
    → multipart_children boundary place (one_line content) ≡ record { place = place + length content; octets = [] } ∷ []
delimiter_first boundary place [] is = absurd (true≢false (sym is ∙ (neither _ _ (empty_ends_none boundary)).0))
delimiter_first boundary place (octet ∷ content) is = rw is (ap (λ n. child_at boundary n [] ∷ []) (omega arith))

delimiter_further : (boundary : List ℕ) (place : ℕ) (content : List ℕ) → is_delimiter boundary content ≡ true
    → further_children boundary place (one_line content) ≡ record { place = place + length content; octets = [] } ∷ []
delimiter_further boundary place [] is = absurd (true≢false (sym is ∙ (neither _ _ (empty_ends_none boundary)).0))
delimiter_further boundary place (octet ∷ content) is =
    let going : is_closing boundary (octet ∷ content) ≡ false = not_both boundary (octet ∷ content) is in
    rw (going, is) (ap (λ n. child_at boundary n [] ∷ []) (omega arith))

-- the next line ends a part around
child_empty : (preamble : Bool) (boundary : List ℕ) (around : List (List ℕ)) (place : ℕ) (line : TextLine) (lines : List TextLine) → AreLines (line ∷ lines)
    → ends_any around line.content ≡ false → first_ends_any around lines ≡ true → is_delimiter boundary line.content ≡ true
    → children_ahead preamble (Some boundary) around place (line ∷ lines) ≡ record { place = place + length line.content; octets = [] } ∷ []
child_empty true boundary around place line lines are other hit is = ap (multipart_children boundary place) (cut_last around line lines are other hit) ∙ delimiter_first boundary place line.content is
child_empty false boundary around place line lines are other hit is = ap (further_children boundary place) (cut_last around line lines are other hit) ∙ delimiter_further boundary place line.content is

-- it doesn't
child_begins : (preamble : Bool) (boundary : List ℕ) (around : List (List ℕ)) (place : ℕ) (line : TextLine) (lines : List TextLine) → AreLines (line ∷ lines)
    → ends_any around line.content ≡ false → first_ends_any around lines ≡ false → is_delimiter boundary line.content ≡ true
    → children_ahead preamble (Some boundary) around place (line ∷ lines)
    ≡ record { place = place + line_length line; octets = octets_before (boundary ∷ around) lines } ∷ children_ahead false (Some boundary) around (place + line_length line) lines
child_begins true boundary around place line lines are other later is =
    let after = place + line_length line in
    ap (multipart_children boundary place) (cut_on around line lines are other later) ∙ rw is refl
    ∙ ap (λ (octets : List ℕ). record { place = after; octets = octets } ∷ further_children boundary after (cut around lines)) (cut_cut boundary around lines (lines_after line lines are))
child_begins false boundary around place line lines are other later is =
    let after = place + line_length line in
    let going : is_closing boundary line.content ≡ false = not_both boundary line.content is in
    ap (further_children boundary place) (cut_on around line lines are other later) ∙ rw (going, is) refl
    ∙ ap (λ (octets : List ℕ). record { place = after; octets = octets } ∷ further_children boundary after (cut around lines)) (cut_cut boundary around lines (lines_after line lines are))

closing_none : (boundary : List ℕ) (place : ℕ) (content : List ℕ) → is_closing boundary content ≡ true → further_children boundary place (one_line content) ≡ []
closing_none boundary place [] is = refl
closing_none boundary place (octet ∷ content) is = rw is refl

closed : (boundary : List ℕ) (around : List (List ℕ)) (place : ℕ) (line : TextLine) (lines : List TextLine) → AreLines (line ∷ lines)
    → ends_any around line.content ≡ false → is_closing boundary line.content ≡ true → children_ahead false (Some boundary) around place (line ∷ lines) ≡ []
closed boundary around place line lines are other is = elim (cases_Bool (first_ends_any around lines)) [
  | inl hit ↦ ap (further_children boundary place) (cut_last around line lines are other hit) ∙ closing_none boundary place line.content is
  | inr later ↦ ap (further_children boundary place) (cut_on around line lines are other later) ∙ rw is refl
]

-- ---- what the parts become at such a line

pub delimiter_ends_any : (boundary : Option (List ℕ)) (name : List ℕ) (around : List (List ℕ)) (line : List ℕ) → boundary ≡ Some name → ends_child name line ≡ true
    → ends_any (boundaries_with boundary around) line ≡ true
delimiter_ends_any None name around line is ends = absurd (cc)
delimiter_ends_any (Some boundary) name around line is ends =
    let same : boundary ≡ name = cc in
    let here : ends_child boundary line ≡ true = ap (λ (b : List ℕ). ends_child b line) same ∙ ends in
    rw here refl

-- this part, and the parts within it
this_on : (preamble : Bool) (around : List (List ℕ)) (place end after stop : ℕ) (lines later : List TextLine) (this next : OpenPart) (inner : List OpenPart) (parts new : List Part)
    → this.at ≡ next.at → first_ends_any (boundaries_with this.boundary around) lines ≡ true → end_from around place end lines ≡ end_from around after stop later
    → parts_ahead (is_last inner && preamble) this around place lines ≡ new ++ parts_ahead false next around after later
    → finished preamble around place end lines (this ∷ inner) parts ≡ finished false around after stop later (next ∷ []) (all_ended end inner parts ++ new)
this_on preamble around place end after stop lines later this next inner parts new at hit ends ahead =
    joined this.at _ _ _ _ _ _ ends (inner_ended preamble inner (boundaries_with this.boundary around) place end lines parts hit) ahead
    ∙ ap (ended_at this.at (end_from around after stop later)) (sym (append_assoc (all_ended end inner parts) new (parts_ahead false next around after later)))
    ∙ ap (λ n. ended_at n (end_from around after stop later) ((all_ended end inner parts ++ new) ++ parts_ahead false next around after later)) at

-- a closing line
pub hit_closes : (preamble : Bool) (outer : List OpenPart) (this : OpenPart) (inner : List OpenPart) (boundary : List ℕ) (place end : ℕ) (line : TextLine) (lines : List TextLine) (parts : List Part)
    → AreLines (line ∷ lines) → meets_any false outer line.content ≡ false → this.boundary ≡ Some boundary → is_closing boundary line.content ≡ true → (is_last inner && preamble) ≡ false
    → finished preamble [] place end (line ∷ lines) (outer ++ this ∷ inner) parts
    ≡ finished false [] (place + line_length line) (place + length line.content) lines (outer ++ record this { boundary = None } ∷ []) (all_ended end inner parts)
hit_closes preamble outer this inner boundary place end line lines parts are none is closing begun =
    let around = boundaries_in [] outer in
    let other : ends_any around line.content ≡ false = none_end outer [] line.content refl none in
    let after = place + line_length line in
    let here = place + length line.content in
    let next : OpenPart = record this { boundary = None } in
    let ends : ends_child boundary line.content ≡ true = ends_closing boundary line.content closing in
    let ahead : parts_ahead (is_last inner && preamble) this around place (line ∷ lines) ≡ [] =
    ap (λ f. parts_ahead f this around place (line ∷ lines)) begun
    ∙ ap (λ b. flat_map (parts_of this.levels this.default) (children_ahead false b around place (line ∷ lines))) is
    ∙ ap (flat_map (parts_of this.levels this.default)) (closed boundary around place line lines are other closing) in
    finished_append preamble outer [] place end (line ∷ lines) this inner parts
    ∙ ap (finished false [] place end (line ∷ lines) outer)
    (this_on preamble around place end after here (line ∷ lines) lines this next inner parts [] refl (delimiter_ends_any this.boundary boundary around line.content is ends)
    (end_step around place end line lines other) ahead
    ∙ ap (λ (ps : List Part). finished false around after here lines (next ∷ []) ps) (append-nil (all_ended end inner parts)))
    ∙ finished_step false [] place end line lines outer (finished false around after here lines (next ∷ []) (all_ended end inner parts)) are refl none
    ∙ sym (finished_append false outer [] after here lines next [] (all_ended end inner parts)) where
      ends_closing : (boundary line : List ℕ) → is_closing boundary line ≡ true → ends_child boundary line ≡ true
      ends_closing boundary line closing = elim (cases_Bool (is_delimiter boundary line)) [
        | inl is ↦ rw is refl
        | inr other ↦ rw (other, closing) refl
      ]

-- a delimiter line, and the next line ends no part around
pub hit_begins : (preamble : Bool) (outer : List OpenPart) (this : OpenPart) (inner : List OpenPart) (boundary : List ℕ) (place end : ℕ) (line : TextLine) (lines : List TextLine) (parts : List Part)
    → AreLines (line ∷ lines) → meets_any false outer line.content ≡ false → this.boundary ≡ Some boundary → is_delimiter boundary line.content ≡ true
    → first_ends_any (boundaries_in [] outer) lines ≡ false
    → finished preamble [] place end (line ∷ lines) (outer ++ this ∷ inner) parts
    ≡ finished false [] (place + line_length line) (place + length line.content) lines (outer ++ this ∷ [])
    (all_ended end inner parts ++ parts_begun (boundaries_in [] (outer ++ this ∷ [])) this.levels this.default (place + line_length line) lines)
hit_begins preamble outer this inner boundary place end line lines parts are none is delimiter later =
    let around = boundaries_in [] outer in
    let other : ends_any around line.content ≡ false = none_end outer [] line.content refl none in
    let after = place + line_length line in
    let here = place + length line.content in
    let ends : ends_child boundary line.content ≡ true = rw delimiter refl in
    let new = parts_begun (boundaries_in [] (outer ++ this ∷ [])) this.levels this.default after lines in
    let within : boundary ∷ around ≡ boundaries_in [] (outer ++ this ∷ []) = sym (boundaries_append outer [] this ∙ ap (λ b. boundaries_with b around) is) in
    let children : children_ahead (is_last inner && preamble) this.boundary around place (line ∷ lines)
    ≡ record { place = after; octets = octets_before (boundaries_in [] (outer ++ this ∷ [])) lines } ∷ children_ahead false this.boundary around after lines =
    ap (λ b. children_ahead (is_last inner && preamble) b around place (line ∷ lines)) is
    ∙ child_begins (is_last inner && preamble) boundary around place line lines are other later delimiter
    ∙ ap (λ bs. record { place = after; octets = octets_before bs lines } ∷ children_ahead false (Some boundary) around after lines) within
    ∙ ap (λ b. record { place = after; octets = octets_before (boundaries_in [] (outer ++ this ∷ [])) lines } ∷ children_ahead false b around after lines) (sym is) in
    finished_append preamble outer [] place end (line ∷ lines) this inner parts
    ∙ ap (finished false [] place end (line ∷ lines) outer)
    (this_on preamble around place end after here (line ∷ lines) lines this this inner parts new refl (delimiter_ends_any this.boundary boundary around line.content is ends)
    (end_step around place end line lines other) (ap (flat_map (parts_of this.levels this.default)) children))
    ∙ finished_step false [] place end line lines outer (finished false around after here lines (this ∷ []) (all_ended end inner parts ++ new)) are refl none
    ∙ sym (finished_append false outer [] after here lines this [] (all_ended end inner parts ++ new))

-- a delimiter line, and the next line ends a part around
pub hit_begins_last : (preamble : Bool) (outer : List OpenPart) (this : OpenPart) (inner : List OpenPart) (boundary : List ℕ) (place end : ℕ) (line : TextLine) (lines : List TextLine) (parts : List Part)
    → AreLines (line ∷ lines) → meets_any false outer line.content ≡ false → this.boundary ≡ Some boundary → is_delimiter boundary line.content ≡ true
    → first_ends_any (boundaries_in [] outer) lines ≡ true
    → finished preamble [] place end (line ∷ lines) (outer ++ this ∷ inner) parts
    ≡ finished false [] (place + length line.content) (place + length line.content) (break_alone line ∷ lines) (outer ++ this ∷ [])
    (all_ended end inner parts ++ parts_begun (boundaries_in [] (outer ++ this ∷ [])) this.levels this.default (place + length line.content) (break_alone line ∷ lines))
hit_begins_last preamble outer this inner boundary place end line lines parts are none is delimiter hit =
    let around = boundaries_in [] outer in
    let other : ends_any around line.content ≡ false = none_end outer [] line.content refl none in
    let here = place + length line.content in
    let left = break_alone line ∷ lines in
    let alone : AreLines left = break_are around line lines are hit in
    let ends : ends_child boundary line.content ≡ true = rw delimiter refl in
    let all = boundaries_in [] (outer ++ this ∷ []) in
    let new = parts_begun all this.levels this.default here left in
    let within : boundaries_with this.boundary around ≡ all = sym (boundaries_append outer [] this) in
    let nothing : [] ≡ octets_before all left = sym (ap (λ bs. octets_before bs left) (sym within) ∙ no_octets (boundaries_with this.boundary around) line lines (first_more this.boundary around lines hit)) in
    let none_more : children_ahead false this.boundary around here left ≡ [] = no_children false this.boundary around here left (cut_last around (break_alone line) lines alone (empty_ends_no around) hit) in
    let children : children_ahead (is_last inner && preamble) this.boundary around place (line ∷ lines)
    ≡ record { place = here; octets = octets_before all left } ∷ children_ahead false this.boundary around here left =
    ap (λ b. children_ahead (is_last inner && preamble) b around place (line ∷ lines)) is
    ∙ child_empty (is_last inner && preamble) boundary around place line lines are other hit delimiter
    ∙ ap (λ (octets : List ℕ). record { place = here; octets = octets } ∷ []) nothing
    ∙ ap (λ (more : List Stretch). record { place = here; octets = octets_before all left } ∷ more) (sym none_more) in
    finished_append preamble outer [] place end (line ∷ lines) this inner parts
    ∙ ap (finished false [] place end (line ∷ lines) outer)
    (this_on preamble around place end here here (line ∷ lines) left this this inner parts new refl (delimiter_ends_any this.boundary boundary around line.content is ends)
    (end_mid around place end here line lines other) (ap (flat_map (parts_of this.levels this.default)) children))
    ∙ finished_mid outer [] place end here line lines (finished false around here here left (this ∷ []) (all_ended end inner parts ++ new)) are alone refl none
    ∙ sym (finished_append false outer [] here here left this [] (all_ended end inner parts ++ new)) where
      no_octets : (around : List (List ℕ)) (line : TextLine) (lines : List TextLine) → first_ends_any around lines ≡ true → octets_before around (break_alone line ∷ lines) ≡ []
      no_octets around line lines hit = let none : ends_any around [] ≡ false = empty_ends_no around in rw (none, hit) refl
