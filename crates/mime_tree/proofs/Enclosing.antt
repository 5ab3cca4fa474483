-- A part goes up to the next line that ends a part of any multipart around it.
use Rattle.std.proofs.Common.{◌≡◌, ◌≢◌, ℕ, zero, suc, ◌+◌, ◌-◌, ◌<◌, Bool, true, false, ◌==◌, ◌&&◌, ◌||◌, get_or, drop-drop, add-zero, List, [], ◌∷◌, ◌++◌, map, All, refl, sym, ◌∙◌, ap, subst, arith, length, drop, codes, inl, inr, if◌then◌else◌, Option, Some, None}
use Rattle.std.specs.List.{flat_map}
use Rattle.std.proofs.lemmas.Bool.{cases_Bool, ne_eqb}
use Rattle.std.proofs.lemmas.List.{append_assoc, append-nil, length-append, length-map, map-append}
use Rattle.std.proofs.lemmas.List.Elements.{All-nil, All-cons, All-append, All-head, All-tail}
use Rattle.std.proofs.Math.Seq.{drop-append_seam, drop-length}
use Rattle.text_lines.specs.Lines.{TextLine, lines_of, line_octets, octets_of, IsEndedLine, AreLines, IsNotFeed}
use Rattle.text_lines.proofs.FirstLine.{only_line}
use Rattle.text_lines.proofs.Broken.{AreLines-lines_of, lines_of-ended, lines_of-octets_of, octets_of-lines_of}
use Rattle.header_fields.specs.Header.{is_empty, line_length, header_length, body_start_of}
use Rattle.octets.specs.Ascii.{is_word}
use Rattle.mime_tree.specs.PartTree.{Part, Stretch, is_plain, is_closing, is_delimiter, ends_child, first_ends_child, child_octets, child_at, further_children, multipart_children, children_between, body_stretch, children_of, default_below, part_at, parts_of}
use Rattle.mime_params.specs.MediaValue.{value_named}
use Rattle.mime_params.specs.declared.media.MediaType.{MediaType}
use Rattle.octets.specs.Limits.{max_depth}
use Rattle.octets.specs.Blank.{without_trailing_blanks}
use Rattle.mime_tree.specs.Enclosing.{Enclosed, IsEnded, boundary_between, boundary_of, enclosed_of, ends_any, first_ends_any, octets_before}
use Rattle.mime_tree.specs.OpenParts.{cut}
use Rattle.mime_tree.proofs.Delimiters.{no_delimiter}

-- ---- lines that are cut

abbrev pub one_line : List ℕ → List TextLine
one_line [] = []
one_line (octet ∷ octets) = record { content = octet ∷ octets; break = [] } ∷ []

lines_of_content : (line : TextLine) (lines : List TextLine) → AreLines (line ∷ lines) → lines_of line.content ≡ one_line line.content
lines_of_content line lines are = of_content line.content (no_feeds are) where
  no_feeds : AreLines (line ∷ lines) → (k : ℕ) → k < length line.content → get_or line.content k 0 ≢ 10
  no_feeds (inl (ended, more)) = λ k lt. ended.no_feed k 0 lt
  no_feeds (inr (last, none)) = λ k lt. last.no_feed k 0 lt

  of_content : (content : List ℕ) → ((k : ℕ) → k < length content → get_or content k 0 ≢ 10) → lines_of content ≡ one_line content
  of_content [] none = refl
  of_content (octet ∷ content) none = only_line (octet ∷ content) (omega arith) none

-- the first of them ends a part
pub cut_hit : (around : List (List ℕ)) (line : TextLine) (lines : List TextLine) → ends_any around line.content ≡ true → cut around (line ∷ lines) ≡ []
cut_hit around line lines hit = rw hit refl

-- the one after the first does
pub cut_last : (around : List (List ℕ)) (line : TextLine) (lines : List TextLine) → AreLines (line ∷ lines)
    → ends_any around line.content ≡ false → first_ends_any around lines ≡ true → cut around (line ∷ lines) ≡ one_line line.content
cut_last around line lines are other hit = rw (other, hit) (lines_of_content line lines are)

-- neither does
pub cut_on : (around : List (List ℕ)) (line : TextLine) (lines : List TextLine) → AreLines (line ∷ lines)
    → ends_any around line.content ≡ false → first_ends_any around lines ≡ false → cut around (line ∷ lines) ≡ line ∷ cut around lines
cut_on around line lines (inl (ended, more)) other later =
    rw (other, later)
    (ap (λ t. lines_of (t ++ octets_before around lines)) (sym (append-nil (line_octets line))) ∙ lines_of-ended (line ∷ []) (octets_before around lines) (ended, tt))
cut_on around line lines (inr (last, none)) other later =
    rw (other, later, none) (lines_of-octets_of (line ∷ []) (inr (last, refl)))

-- ---- a cut within a cut

pub empty_ends_none : (boundary : List ℕ) → ends_child boundary [] ≡ false
empty_ends_none boundary =
    rw (← no_delimiter boundary [] (λ rest e. cc), ← no_delimiter (boundary ++ codes "--") [] (λ rest e. cc)) refl

first_of_one : (boundary content : List ℕ) → first_ends_child boundary (one_line content) ≡ ends_child boundary content
first_of_one boundary [] = sym (empty_ends_none boundary)
first_of_one boundary (octet ∷ content) = refl

pub or_false : (b : Bool) → (b || false) ≡ b
or_false true = refl
or_false false = refl

pub or_true : (b : Bool) → (b || true) ≡ true
or_true true = refl
or_true false = refl

first_of_cut : (boundary : List ℕ) (around : List (List ℕ)) (lines : List TextLine) → AreLines lines → first_ends_any around lines ≡ false
    → first_ends_child boundary (cut around lines) ≡ first_ends_any (boundary ∷ around) lines
first_of_cut boundary around [] are other = refl
first_of_cut boundary around (line ∷ lines) are other =
    let mine : (ends_child boundary line.content || ends_any around line.content) ≡ ends_child boundary line.content = rw other (or_false (ends_child boundary line.content)) in
    elim (cases_Bool (first_ends_any around lines)) [
      | inl hit ↦ ap (first_ends_child boundary) (cut_last around line lines are other hit) ∙ first_of_one boundary line.content ∙ sym mine
      | inr later ↦ ap (first_ends_child boundary) (cut_on around line lines are other later) ∙ sym mine
    ]

pub lines_after : (line : TextLine) (lines : List TextLine) → AreLines (line ∷ lines) → AreLines lines
lines_after line lines (inl (ended, more)) = more
lines_after line lines (inr (last, none)) = rw none tt

-- with one more boundary, what ends a part still does
pub more_end : (boundary : List ℕ) (around : List (List ℕ)) (lines : List TextLine) → first_ends_any around lines ≡ true → first_ends_any (boundary ∷ around) lines ≡ true
more_end boundary around [] hit = hit
more_end boundary around (line ∷ lines) hit = rw hit (or_true (ends_child boundary line.content))

-- the part of the innermost multipart that begins with lines which the others cut goes up to the first line that ends any
pub cut_cut : (boundary : List ℕ) (around : List (List ℕ)) (lines : List TextLine) → AreLines lines
    → child_octets boundary (cut around lines) ≡ octets_before (boundary ∷ around) lines
cut_cut boundary around [] are = refl
cut_cut boundary around (line ∷ lines) are =
    let rest = cut_cut boundary around lines (lines_after line lines are) in
    let mine = ends_child boundary line.content in
    elim (cases_Bool (ends_any around line.content)) [
      | inl hit ↦ ap (child_octets boundary) (cut_hit around line lines hit) ∙ rw (hit, or_true mine) refl
      | inr other ↦ elim (cases_Bool (first_ends_any around lines)) [
        | inl hit ↦ ap (child_octets boundary) (cut_last around line lines are other hit) ∙ of_one line.content ∙ rw (other, or_false mine, more_end boundary around lines hit) refl
        | inr later ↦ ap (child_octets boundary) (cut_on around line lines are other later) ∙ rw (first_of_cut boundary around lines (lines_after line lines are) later, rest, other, or_false mine) refl
      ]
    ] where
      nothing : (b : Bool) → child_octets boundary (one_line []) ≡ (if b then [] else [])
      nothing true = refl
      nothing false = refl

      of_one : (content : List ℕ) → child_octets boundary (one_line content) ≡ (if ends_child boundary content then [] else content)
      of_one [] = nothing (ends_child boundary [])
      of_one (octet ∷ content) = ap (λ t. if ends_child boundary (octet ∷ content) then [] else t) (append-nil (octet ∷ content ++ []) ∙ append-nil (octet ∷ content))

-- ---- lines and their places

-- the lines after the first, by their place in the text
pub lines_from : (text : List ℕ) (place : ℕ) (line : TextLine) (lines : List TextLine) → lines_of (drop place text) ≡ line ∷ lines → lines_of (drop (place + line_length line) text) ≡ lines
lines_from text place line lines first =
    let are : AreLines (line ∷ lines) = subst AreLines first (AreLines-lines_of (drop place text)) in
    let whole : line_octets line ++ octets_of lines ≡ drop place text = sym (ap octets_of first) ∙ octets_of-lines_of (drop place text) in
    let long : length (line_octets line) ≡ line_length line = length-append line.content line.break in
    let rest : drop (line_length line) (drop place text) ≡ octets_of lines =
    ap (drop (line_length line)) (sym whole) ∙ ap (λ n. drop n (line_octets line ++ octets_of lines)) (sym long) ∙ drop-append_seam (line_octets line) (octets_of lines) in
    ap lines_of (sym (drop-drop (line_length line) place text) ∙ rest) ∙ lines_of-octets_of lines (lines_after line lines are)

-- the line's break, before the lines after it
pub break_from : (text : List ℕ) (place : ℕ) (line : TextLine) (lines : List TextLine) → lines_of (drop place text) ≡ line ∷ lines
    → drop (place + length line.content) text ≡ line.break ++ octets_of lines
break_from text place line lines first =
    let whole : line.content ++ (line.break ++ octets_of lines) ≡ drop place text = sym (append_assoc line.content line.break (octets_of lines)) ∙ sym (ap octets_of first) ∙ octets_of-lines_of (drop place text) in
    sym (drop-drop (length line.content) place text) ∙ ap (drop (length line.content)) (sym whole) ∙ drop-append_seam line.content (line.break ++ octets_of lines)

-- a break alone is an empty line
no_last : (before : List ℕ) → [] ≢ before ++ 13 ∷ []
no_last [] e = cc
no_last (octet ∷ before) e = cc

pub break_ends : (line : TextLine) → IsEndedLine line → IsEndedLine (record { content = []; break = line.break })
break_ends line ended = record {
  no_feed = All-nil IsNotFeed;
  ended = elim ended.ended [
    | inl crlf ↦ inl crlf
    | inr feed ↦ inr (feed.0, no_last)
  ];
}

-- before a line that ends a part nothing is left of a break
no_break_left : (around : List (List ℕ)) (line : TextLine) (lines : List TextLine) → AreLines (line ∷ lines) → first_ends_any around lines ≡ true
    → octets_before around (lines_of (line.break ++ octets_of lines)) ≡ []
no_break_left around line lines (inl (ended, more)) hit =
    let empty : TextLine = record { content = []; break = line.break } in
    let first : lines_of (line.break ++ octets_of lines) ≡ empty ∷ lines =
    ap (λ t. lines_of (t ++ octets_of lines)) (sym (append-nil line.break)) ∙ lines_of-ended (empty ∷ []) (octets_of lines) (break_ends line ended, tt)
    ∙ ap (λ ls. empty ∷ ls) (lines_of-octets_of lines more) in
    ap (octets_before around) first ∙ rw hit (either (ends_any around [])) where
      either : (b : Bool) → if◌then◌else◌ {A = List ℕ} b [] [] ≡ []
      either true = refl
      either false = refl
no_break_left around line lines (inr (last, none)) hit =
    let never : false ≡ true = sym (ap (first_ends_any around) none) ∙ hit in
    cc

-- ---- the children of a multipart

-- a stretch of the text goes up to the next line that ends a part
abbrev IsCut : List ℕ → List (List ℕ) → Stretch → Type 0
IsCut text around stretch = stretch.octets ≡ octets_before around (lines_of (drop stretch.place text))

-- a child begins with these lines
child_cut : (text boundary : List ℕ) (around : List (List ℕ)) (place : ℕ) (lines : List TextLine) → lines_of (drop place text) ≡ lines
    → IsCut text (boundary ∷ around) (child_at boundary place (cut around lines))
child_cut text boundary around place lines here =
    cut_cut boundary around lines (subst AreLines here (AreLines-lines_of (drop place text))) ∙ ap (octets_before (boundary ∷ around)) (sym here)

-- a child that begins after the last line before a cut is empty
last_cut : (text boundary : List ℕ) (around : List (List ℕ)) (place : ℕ) (line : TextLine) (lines : List TextLine) → lines_of (drop place text) ≡ line ∷ lines
    → first_ends_any around lines ≡ true → IsCut text (boundary ∷ around) (child_at boundary (place + length line.content) [])
last_cut text boundary around place line lines here hit =
    let are : AreLines (line ∷ lines) = subst AreLines here (AreLines-lines_of (drop place text)) in
    sym (ap (λ t. octets_before (boundary ∷ around) (lines_of t)) (break_from text place line lines here) ∙ no_break_left (boundary ∷ around) line lines are (more_end boundary around lines hit))

further_of_one : (boundary : List ℕ) (place : ℕ) (content : List ℕ) (P : Stretch → Type 0) → P (child_at boundary (place + length content) []) → All P (further_children boundary place (one_line content))
further_of_one boundary place [] P last = All-nil P
further_of_one boundary place (octet ∷ content) P last = elim (cases_Bool (is_closing boundary (octet ∷ content))) [
  | inl closing ↦ rw closing (All-nil P)
  | inr other ↦ elim (cases_Bool (is_delimiter boundary (octet ∷ content))) [
    | inl delimiter ↦ rw (other, delimiter) (All-cons P _ [] (subst (λ n. P (child_at boundary n [])) (omega arith) last) (All-nil P))
    | inr none ↦ rw (other, none) (All-nil P)
  ]
]

further_cut : (text boundary : List ℕ) (around : List (List ℕ)) (lines : List TextLine) (place : ℕ) → lines_of (drop place text) ≡ lines
    → All (IsCut text (boundary ∷ around)) (further_children boundary place (cut around lines))
further_cut text boundary around [] place here = All-nil (IsCut text (boundary ∷ around))
further_cut text boundary around (line ∷ lines) place here =
    let P : Stretch → Type 0 = IsCut text (boundary ∷ around) in
    let are : AreLines (line ∷ lines) = subst AreLines here (AreLines-lines_of (drop place text)) in
    let after : lines_of (drop (place + line_length line) text) ≡ lines = lines_from text place line lines here in
    let rest = further_cut text boundary around lines (place + line_length line) after in
    elim (cases_Bool (ends_any around line.content)) [
      | inl hit ↦ rw (cut_hit around line lines hit) (All-nil P)
      | inr other ↦ elim (cases_Bool (first_ends_any around lines)) [
        | inl hit ↦ rw (cut_last around line lines are other hit) (further_of_one boundary place line.content P (last_cut text boundary around place line lines here hit))
        | inr later ↦ rw (cut_on around line lines are other later) (elim (cases_Bool (is_closing boundary line.content)) [
          | inl closing ↦ rw closing (All-nil P)
          | inr going ↦ elim (cases_Bool (is_delimiter boundary line.content)) [
            | inl delimiter ↦ rw (going, delimiter) (All-cons P _ _ (child_cut text boundary around (place + line_length line) lines after) rest)
            | inr none ↦ rw (going, none) rest
          ]
        ])
      ]
    ]

multipart_of_one : (boundary : List ℕ) (place : ℕ) (content : List ℕ) (P : Stretch → Type 0) → P (child_at boundary (place + length content) []) → All P (multipart_children boundary place (one_line content))
multipart_of_one boundary place [] P last = All-nil P
multipart_of_one boundary place (octet ∷ content) P last = elim (cases_Bool (is_delimiter boundary (octet ∷ content))) [
  | inl delimiter ↦ rw delimiter (All-cons P _ [] (subst (λ n. P (child_at boundary n [])) (omega arith) last) (All-nil P))
  | inr none ↦ rw none (All-nil P)
]

multipart_cut : (text boundary : List ℕ) (around : List (List ℕ)) (lines : List TextLine) (place : ℕ) → lines_of (drop place text) ≡ lines
    → All (IsCut text (boundary ∷ around)) (multipart_children boundary place (cut around lines))
multipart_cut text boundary around [] place here = All-nil (IsCut text (boundary ∷ around))
multipart_cut text boundary around (line ∷ lines) place here =
    let P : Stretch → Type 0 = IsCut text (boundary ∷ around) in
    let are : AreLines (line ∷ lines) = subst AreLines here (AreLines-lines_of (drop place text)) in
    let after : lines_of (drop (place + line_length line) text) ≡ lines = lines_from text place line lines here in
    let rest = multipart_cut text boundary around lines (place + line_length line) after in
    let further = further_cut text boundary around lines (place + line_length line) after in
    elim (cases_Bool (ends_any around line.content)) [
      | inl hit ↦ rw (cut_hit around line lines hit) (All-nil P)
      | inr other ↦ elim (cases_Bool (first_ends_any around lines)) [
        | inl hit ↦ rw (cut_last around line lines are other hit) (multipart_of_one boundary place line.content P (last_cut text boundary around place line lines here hit))
        | inr later ↦ rw (cut_on around line lines are other later) (elim (cases_Bool (is_delimiter boundary line.content)) [
          | inl delimiter ↦ rw delimiter (All-cons P _ _ (child_cut text boundary around (place + line_length line) lines after) further)
          | inr none ↦ rw none rest
        ])
      ]
    ]

-- ---- the body of a part

body_of_one : (text : List ℕ) (around : List (List ℕ)) (place : ℕ) (content : List ℕ)
    → content ≡ octets_before around (lines_of (drop place text)) → octets_before around (lines_of (drop (place + length content) text)) ≡ []
    → drop (header_length (one_line content)) content ≡ octets_before around (lines_of (drop (place + header_length (one_line content)) text))
body_of_one text around place [] all none = all ∙ ap (λ n. octets_before around (lines_of (drop n text))) (sym (add-zero place))
body_of_one text around place (octet ∷ content) all none =
    let only : TextLine = record { content = octet ∷ content; break = [] } in
    let some : is_empty only ≡ false = ne_eqb (suc (length content)) 0 (λ e. cc) in
    let long : header_length (only ∷ []) ≡ length (octet ∷ content) = rw some (omega arith) in
    rw long (drop-length (octet ∷ content) ∙ sym none)

pub body_cut : (text : List ℕ) (around : List (List ℕ)) (lines : List TextLine) (place : ℕ) → lines_of (drop place text) ≡ lines
    → drop (header_length (cut around lines)) (octets_before around lines) ≡ octets_before around (lines_of (drop (place + header_length (cut around lines)) text))
body_cut text around [] place here = sym (ap (λ n. octets_before around (lines_of (drop n text))) (add-zero place) ∙ ap (octets_before around) here)
body_cut text around (line ∷ lines) place here =
    let are : AreLines (line ∷ lines) = subst AreLines here (AreLines-lines_of (drop place text)) in
    let after : lines_of (drop (place + line_length line) text) ≡ lines = lines_from text place line lines here in
    let rest = body_cut text around lines (place + line_length line) after in
    elim (cases_Bool (ends_any around line.content)) [
      | inl hit ↦ rw (cut_hit around line lines hit, add-zero, here, hit) refl
      | inr other ↦ elim (cases_Bool (first_ends_any around lines)) [
        | inl hit ↦
            let whole : octets_before around (line ∷ lines) ≡ line.content = rw (other, hit) refl in
            let none : octets_before around (lines_of (drop (place + length line.content) text)) ≡ [] =
            ap (λ t. octets_before around (lines_of t)) (break_from text place line lines here) ∙ no_break_left around line lines are hit in
            rw (cut_last around line lines are other hit, whole) (body_of_one text around place line.content (sym whole ∙ ap (octets_before around) (sym here)) none)
        | inr later ↦
            let whole : octets_before around (line ∷ lines) ≡ line_octets line ++ octets_before around lines = rw (other, later) refl in
            rw (cut_on around line lines are other later, whole) (on_line line (octets_before around lines) (cut around lines) place (ap (octets_before around) (sym after)) rest)
      ]
    ] where
      on_line : (line : TextLine) (more : List ℕ) (left : List TextLine) (place : ℕ) → more ≡ octets_before around (lines_of (drop (place + line_length line) text))
          → drop (header_length left) more ≡ octets_before around (lines_of (drop (place + line_length line + header_length left) text))
          → drop (header_length (line ∷ left)) (line_octets line ++ more) ≡ octets_before around (lines_of (drop (place + header_length (line ∷ left)) text))
      on_line line more left place next rest =
          let long : length (line_octets line) ≡ line_length line = length-append line.content line.break in
          let one : drop (line_length line) (line_octets line ++ more) ≡ more = ap (λ n. drop n (line_octets line ++ more)) (sym long) ∙ drop-append_seam (line_octets line) more in
          elim (cases_Bool (is_empty line)) [
            | inl empty ↦ rw empty (one ∙ next)
            | inr some ↦ rw some (sym (drop-drop (header_length left) (line_length line) (line_octets line ++ more)) ∙ ap (drop (header_length left)) one ∙ rest
                ∙ ap (λ n. octets_before around (lines_of (drop n text))) (omega arith))
          ]

-- ---- the children of a part

body_is_cut : (text : List ℕ) (around : List (List ℕ)) (depth : ℕ) (default : MediaType) (stretch : Stretch) → IsCut text around stretch
    → IsCut text around (body_stretch (part_at depth default stretch))
body_is_cut text around depth default stretch is =
    let lines = lines_of (drop stretch.place text) in
    subst (λ raw. drop (body_start_of raw) raw ≡ octets_before around (lines_of (drop (stretch.place + body_start_of raw) text))) (sym is) (body_cut text around lines stretch.place refl)

between_cut : (text : List ℕ) (around : List (List ℕ)) (value : Option (List ℕ)) (body : Stretch) → IsCut text around body
    → All (IsCut text (boundary_between value ++ around)) (children_between value body)
between_cut text around None body is = All-nil (IsCut text around)
between_cut text around (Some value) body is =
    let boundary = without_trailing_blanks value in
    elim (cases_Bool (length boundary == 0)) [
      | inl none ↦ rw none (All-nil (IsCut text around))
      | inr some ↦ rw (some, is) (multipart_cut text boundary around (lines_of (drop body.place text)) body.place refl)
    ]

children_cut : (text : List ℕ) (around : List (List ℕ)) (part : Part) → IsCut text around (body_stretch part) → All (IsCut text (boundary_of part ++ around)) (children_of part)
children_cut text around part is = elim (cases_Bool (is_plain part.encoding)) [
  | inr coded ↦ rw coded (All-nil (IsCut text around))
  | inl plain ↦ elim (cases_Bool (is_word part.media.main (codes "multipart"))) [
    | inl several ↦ rw (plain, several) (between_cut text around (value_named (codes "boundary") part.media.params) (body_stretch part) is)
    | inr other ↦ elim (cases_Bool (is_word part.media.main (codes "message") && is_word part.media.sub (codes "rfc822"))) [
      | inl message ↦ rw (plain, other, message) (All-cons (IsCut text around) (body_stretch part) [] is (All-nil (IsCut text around)))
      | inr leaf ↦ rw (plain, other, leaf) (All-nil (IsCut text around))
    ]
  ]
]

-- ---- the tree

all_of_each : {A B : Type 0} (P : A → Type 0) (Q : B → Type 0) (f : A → List B) (xs : List A) → ((x : A) → P x → All Q (f x)) → All P xs → All Q (flat_map f xs)
all_of_each P Q f [] each all = All-nil Q
all_of_each P Q f (x ∷ xs) each all = All-append Q (f x) (flat_map f xs) (each x (All-head P x xs all)) (all_of_each P Q f xs each (All-tail P x xs all))

pub enclosed_cut : (text : List ℕ) (levels : ℕ) (default : MediaType) (around : List (List ℕ)) (stretch : Stretch) → IsCut text around stretch → All (IsEnded text) (enclosed_of levels default around stretch)
unfolding enclosed_of
enclosed_cut text zero default around stretch is =
    All-cons (IsEnded text) (record { part = part_at max_depth default stretch; boundaries = around }) [] is (All-nil (IsEnded text))
enclosed_cut text (suc levels) default around stretch is =
    let part = part_at (max_depth - suc levels) default stretch in
    let within = boundary_of part ++ around in
    let inside = flat_map (enclosed_of levels (default_below part.media) within) (children_of part) in
    All-cons (IsEnded text) (record { part = record part { below = length inside }; boundaries = around }) inside is
    (all_of_each (IsCut text within) (IsEnded text) (enclosed_of levels (default_below part.media) within) (children_of part)
    (enclosed_cut text levels (default_below part.media) within)
    (children_cut text around part (body_is_cut text around (max_depth - suc levels) default stretch is)))

map_of_each : {A B C : Type 0} (g : B → C) (f : A → List B) (h : A → List C) (xs : List A) → ((x : A) → map g (f x) ≡ h x) → map g (flat_map f xs) ≡ flat_map h xs
map_of_each g f h [] each = refl
map_of_each g f h (x ∷ xs) each = map-append g (f x) (flat_map f xs) ∙ rw (each x, map_of_each g f h xs each) refl

pub enclosed_parts : (levels : ℕ) (default : MediaType) (around : List (List ℕ)) (stretch : Stretch) → map (λ (e : Enclosed). e.part) (enclosed_of levels default around stretch) ≡ parts_of levels default stretch
unfolding enclosed_of parts_of
enclosed_parts zero default around stretch = refl
enclosed_parts (suc levels) default around stretch =
    let part = part_at (max_depth - suc levels) default stretch in
    let within = boundary_of part ++ around in
    let inside = flat_map (enclosed_of levels (default_below part.media) within) (children_of part) in
    let same : map (λ (e : Enclosed). e.part) inside ≡ flat_map (parts_of levels (default_below part.media)) (children_of part) =
    map_of_each (λ (e : Enclosed). e.part) _ _ (children_of part) (enclosed_parts levels (default_below part.media) within) in
    let many : length inside ≡ length (flat_map (parts_of levels (default_below part.media)) (children_of part)) = sym (length-map inside (λ (e : Enclosed). e.part)) ∙ ap length same in
    rw (same, many) refl

-- without a multipart around it a text goes to its end
nothing_around : (lines : List TextLine) → octets_before [] lines ≡ octets_of lines
nothing_around [] = refl
nothing_around (line ∷ []) = refl
nothing_around (line ∷ (next ∷ lines)) = ap (λ t. line_octets line ++ t) (nothing_around (next ∷ lines))

pub whole_text : (text : List ℕ) → text ≡ octets_before [] (lines_of text)
whole_text text = sym (nothing_around (lines_of text) ∙ octets_of-lines_of text)
