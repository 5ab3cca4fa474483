-- Where the children of a part stand.
use Rattle.std.proofs.Common.{◌≡◌, ℕ, ◌+◌, ◌≤◌, List, [], ◌∷◌, ◌++◌, Option, Some, None, refl, sym, ◌∙◌, ap, arith, length, take, drop, inl, inr, ◌==◌, ◌&&◌, subst, if◌then◌else◌, length-take, codes}
use Rattle.std.proofs.lemmas.Bool.{cases_Bool}
use Rattle.std.proofs.lemmas.List.{append_assoc, append-nil, length-append, length-drop, take-append-drop}
use Rattle.octets.specs.Blank.{without_trailing_blanks}
use Rattle.text_lines.specs.Lines.{TextLine, lines_of, line_octets, octets_of}
use Rattle.text_lines.proofs.Broken.{octets_of-lines_of}
use Rattle.header_fields.specs.Header.{line_length}
use Rattle.mime_params.specs.declared.media.MediaType.{MediaType}
use Rattle.mime_params.specs.MediaValue.{value_named}
use Rattle.octets.specs.Ascii.{is_word}
use Rattle.mime_tree.specs.PartTree.{Part, Stretch, is_plain, is_delimiter, is_closing, ends_child, first_ends_child, child_octets, further_children, multipart_children, children_between, children_in, children_of, body_stretch}
use Rattle.mime_tree.proofs.Children.{closing_ends}

-- a stretch within another
pub record IsIn (whole stretch : Stretch) : Type 0 where
  pub before : List ℕ
  pub after : List ℕ
  pub octets : whole.octets ≡ before ++ (stretch.octets ++ after)
  pub place : stretch.place ≡ whole.place + length before

pub in_itself : (whole : Stretch) → IsIn whole whole
in_itself whole = record { before = []; after = []; octets = sym (append-nil whole.octets); place = omega arith }

pub in_through : (whole stretch inner : Stretch) → IsIn whole stretch → IsIn stretch inner → IsIn whole inner
in_through whole stretch inner outside inside = record {
  before = outside.before ++ inside.before;
  after = inside.after ++ outside.after;
  octets = outside.octets ∙ ap (λ (x : List ℕ). outside.before ++ (x ++ outside.after)) inside.octets
      ∙ simp append_assoc;
  place = omega (arith, outside.place, inside.place, length-append outside.before inside.before);
}

-- stretches one after the other between two places, each within another
abbrev pub AreIn : Stretch → ℕ → ℕ → List Stretch → Type 0
AreIn whole from to [] = from ≤ to
AreIn whole from to (stretch ∷ stretches) = (from ≤ stretch.place) × IsIn whole stretch × AreIn whole (stretch.place + length stretch.octets) to stretches

pub in_between : (whole : Stretch) (from to low : ℕ) (stretches : List Stretch) → low ≤ from → AreIn whole from to stretches → AreIn whole low to stretches
in_between whole from to low [] le are = omega arith
in_between whole from to low (stretch ∷ stretches) le are = (omega (arith, are.0), are.1, are.2)

pub in_larger : (whole stretch : Stretch) (from to : ℕ) (stretches : List Stretch) → IsIn whole stretch → AreIn stretch from to stretches → AreIn whole from to stretches
in_larger whole stretch from to [] inside are = are
in_larger whole stretch from to (inner ∷ stretches) inside are =
    (are.0, in_through whole stretch inner inside are.1, in_larger whole stretch (inner.place + length inner.octets) to stretches inside are.2)

-- ---- the children of lines

abbrev stretch_of : ℕ → List TextLine → Stretch
stretch_of place lines = record { place = place; octets = octets_of lines }

-- the lines after the first
after_first : (place : ℕ) (line : TextLine) (lines : List TextLine) → IsIn (stretch_of place (line ∷ lines)) (stretch_of (place + line_length line) lines)
after_first place line lines = record {
  before = line_octets line;
  after = [];
  octets = ap (λ (x : List ℕ). line_octets line ++ x) (sym (append-nil (octets_of lines)));
  place = omega (arith, length-append line.content line.break);
}

-- a child is the beginning of its lines
child_first : (boundary : List ℕ) (lines : List TextLine) → (rest : List ℕ) × (octets_of lines ≡ child_octets boundary lines ++ rest)
child_first boundary [] = ([], refl)
child_first boundary (line ∷ lines) = elim (cases_Bool (ends_child boundary line.content)) [
  | inl ends ↦ rw ends (octets_of (line ∷ lines), refl)
  | inr more ↦ elim (cases_Bool (first_ends_child boundary lines)) [
    | inl last ↦ rw (more, last) (line.break ++ octets_of lines, append_assoc line.content line.break (octets_of lines))
    | inr other ↦
        let later = child_first boundary lines in
        rw (more, other) (later.0, ap (λ (x : List ℕ). line_octets line ++ x) later.1 ∙ sym (append_assoc (line_octets line) (child_octets boundary lines) later.0))
  ]
]

child_in : (boundary : List ℕ) (place : ℕ) (lines : List TextLine) → IsIn (stretch_of place lines) (record { place = place; octets = child_octets boundary lines })
child_in boundary place lines = let first = child_first boundary lines in record { before = []; after = first.0; octets = first.1; place = omega arith }

length_after : (line : TextLine) (lines : List TextLine) → length (octets_of (line ∷ lines)) ≡ line_length line + length (octets_of lines)
length_after line lines = omega (arith, length-append (line_octets line) (octets_of lines), length-append line.content line.break)

child_longer : (boundary : List ℕ) (line : TextLine) (lines : List TextLine)
    → length (if first_ends_child boundary lines then line.content else line_octets line ++ child_octets boundary lines) ≤ line_length line + length (child_octets boundary lines)
child_longer boundary line lines = elim (cases_Bool (first_ends_child boundary lines)) [
  | inl last ↦ rw last (omega arith)
  | inr other ↦ rw other (omega (arith, length-append (line_octets line) (child_octets boundary lines), length-append line.content line.break))
]

-- the further children come after the one that the lines begin with
further_in : (boundary : List ℕ) (place : ℕ) (lines : List TextLine)
    → AreIn (stretch_of place lines) (place + length (child_octets boundary lines)) (place + length (octets_of lines)) (further_children boundary place lines)
further_in boundary place [] = omega arith
further_in boundary place (line ∷ lines) =
    let after = place + line_length line in
    let end : after + length (octets_of lines) ≡ place + length (octets_of (line ∷ lines)) = omega (arith, length_after line lines) in
    let later = in_larger (stretch_of place (line ∷ lines)) (stretch_of after lines) _ _ (further_children boundary after lines) (after_first place line lines) (further_in boundary after lines) in
    elim (cases_Bool (is_closing boundary line.content)) [
      | inl closing ↦ rw (closing_ends boundary line.content closing, closing) (omega arith)
      | inr going ↦ elim (cases_Bool (is_delimiter boundary line.content)) [
        | inl is ↦ rw (going, is, ← end) (omega arith, in_through _ _ _ (after_first place line lines) (child_in boundary after lines), later)
        | inr other ↦ rw (going, other, ← end) (in_between (stretch_of place (line ∷ lines)) _ _ _ (further_children boundary after lines) (omega (arith, child_longer boundary line lines)) later)
      ]
    ]

multipart_in : (boundary : List ℕ) (place : ℕ) (lines : List TextLine) → AreIn (stretch_of place lines) place (place + length (octets_of lines)) (multipart_children boundary place lines)
multipart_in boundary place [] = omega arith
multipart_in boundary place (line ∷ lines) =
    let after = place + line_length line in
    let whole = stretch_of place (line ∷ lines) in
    let end : after + length (octets_of lines) ≡ place + length (octets_of (line ∷ lines)) = omega (arith, length_after line lines) in
    elim (cases_Bool (is_delimiter boundary line.content)) [
      | inl is ↦ rw (is, ← end) (
        omega arith,
        in_through whole (stretch_of after lines) _ (after_first place line lines) (child_in boundary after lines),
        in_larger whole (stretch_of after lines) _ _ (further_children boundary after lines) (after_first place line lines) (further_in boundary after lines),
      )
      | inr other ↦ rw (other, ← end) (in_between whole after _ place (multipart_children boundary after lines) (omega arith)
          (in_larger whole (stretch_of after lines) _ _ (multipart_children boundary after lines) (after_first place line lines) (multipart_in boundary after lines)))
    ]

-- ---- the children of a part

between_in : (value : Option (List ℕ)) (body : Stretch) → AreIn body body.place (body.place + length body.octets) (children_between value body)
between_in None body = omega arith
between_in (Some value) body =
    let boundary = without_trailing_blanks value in
    elim (cases_Bool (length boundary == 0)) [
      | inl empty ↦ rw empty (omega arith)
      | inr some ↦ rw some (
          let P : List ℕ → Type 0 = λ octets. AreIn (record { place = body.place; octets = octets }) body.place (body.place + length octets) (multipart_children boundary body.place (lines_of body.octets)) in
          subst P (octets_of-lines_of body.octets) (multipart_in boundary body.place (lines_of body.octets)))
    ]

body_in : (media : MediaType) (body : Stretch) → AreIn body body.place (body.place + length body.octets) (children_in media body)
body_in media body = elim (cases_Bool (is_word media.main (codes "multipart"))) [
  | inl multipart ↦ rw multipart (between_in (value_named (codes "boundary") media.params) body)
  | inr other ↦ elim (cases_Bool (is_word media.main (codes "message") && is_word media.sub (codes "rfc822"))) [
    | inl message ↦ rw (other, message) (omega arith, in_itself body, omega arith)
    | inr leaf ↦ rw (other, leaf) (omega arith)
  ]
]

-- the octets of a part
abbrev pub raw_stretch : Part → Stretch
raw_stretch part = record { place = part.place; octets = part.raw }

pub body_of_raw : (part : Part) → part.header.body_start ≤ length part.raw → IsIn (raw_stretch part) (body_stretch part)
body_of_raw part within = record {
  before = take part.header.body_start part.raw;
  after = [];
  octets = sym (take-append-drop part.header.body_start part.raw) ∙ ap (λ (x : List ℕ). take part.header.body_start part.raw ++ x) (sym (append-nil (drop part.header.body_start part.raw)));
  place = omega (arith, length-take part.header.body_start part.raw);
}

-- the children of a part stand in order behind its header
pub children_stand : (part : Part) → part.header.body_start ≤ length part.raw
    → AreIn (raw_stretch part) (part.place + part.header.body_start) (part.place + length part.raw) (children_of part)
children_stand part within =
    let start = part.header.body_start in
    let end : part.place + start + length (drop start part.raw) ≡ part.place + length part.raw = omega (arith, length-drop start part.raw) in
    elim (cases_Bool (is_plain part.encoding)) [
      | inl plain ↦ rw (plain, ← end) (in_larger (raw_stretch part) (body_stretch part) (part.place + start) _ (children_in part.media (body_stretch part)) (body_of_raw part within) (body_in part.media (body_stretch part)))
      | inr encoded ↦ rw encoded (omega arith)
    ]
