-- A part that begins, and what is below it.
use Rattle.std.proofs.Common.{◌≡◌, ◌≢◌, ℕ, zero, suc, ◌+◌, ◌-◌, ◌≤◌, Bool, true, false, ◌&&◌, ◌==◌, drop-drop, List, [], ◌∷◌, ◌++◌, refl, sym, ◌∙◌, ap, arith, length, take, drop, codes, inl, inr, if◌then◌else◌, Option, Some, None}
use Rattle.std.specs.List.{flat_map}
use Rattle.std.specs.Prelude.{nat_lt}
use Rattle.std.proofs.lemmas.Bool.{cases_Bool, false≢true, ne_eqb, lt-ltb}
use Rattle.std.proofs.lemmas.List.{append_assoc, append-nil}
use Rattle.std.proofs.lemmas.Slice.Eq.{bytes_eq-Decides}
use Rattle.std.proofs.Math.Seq.{take-append_seam, drop-append_seam}
use Rattle.text_lines.specs.Lines.{TextLine, lines_of, octets_of, AreLines}
use Rattle.text_lines.proofs.Broken.{lines_of-octets_of, octets_of-lines_of, AreLines-lines_of}
use Rattle.header_fields.specs.Header.{Header, header_length}
use Rattle.octets.specs.Limits.{max_depth}
use Rattle.octets.specs.Ascii.{lowercase_of, is_word}
use Rattle.octets.specs.Blank.{without_trailing_blanks}
use Rattle.mime_params.specs.MediaValue.{value_named}
use Rattle.mime_params.specs.declared.media.MediaType.{MediaType}
use Rattle.header_fields.specs.Fields.{first_value}
use Rattle.mime_tree.specs.PartTree.{Part, Stretch, is_plain, media_or, encoding_or_7bit, text_plain, part_at, with_below, default_below, children_between, children_of, body_of, body_stretch, multipart_children, parts_of, default_media}
use Rattle.mime_tree.specs.Enclosing.{octets_before}
use Rattle.mime_tree.specs.OpenParts.{OpenPart, boundaries_with, boundaries_in, cut, end_from, children_ahead, parts_ahead, ended_at, finished, parts_begun, part_read, named_boundary, boundary_inside, boundary_of_child, holds_message, lines_at, message_below, opening}
use Rattle.mime_tree.specs.Reading.{IsBeginning, wanted_from}
use Rattle.mime_tree.specs.declared.media.DefaultType.TheVariants.{Text}
use Rattle.mime_tree.specs.declared.reader.Beginning.{Beginning}
use Rattle.mime_tree.proofs.Enclosing.{body_cut}
use Rattle.mime_tree.proofs.Ahead.{finished_append}
use Rattle.mime_tree.proofs.Hits.{boundaries_append}
use Rattle.mime_tree.proofs.Heading.{finished_through, end_through, raw_taken, header_taken}
use Rattle.mime_tree.proofs.Below.{parts_zero, parts_more}

-- ---- the children of a part

-- a message is no multipart
message_alone : (media : MediaType) → is_word media.main (codes "message") ≡ true → is_word media.main (codes "multipart") ≡ false
message_alone media message = elim (cases_Bool (is_word media.main (codes "multipart"))) [
  | inr other ↦ other
  | inl several ↦
      let one : lowercase_of media.main ≡ lowercase_of (codes "message") = (bytes_eq-Decides _ _).0 message in
      let two : lowercase_of media.main ≡ lowercase_of (codes "multipart") = (bytes_eq-Decides _ _).0 several in
      absurd (false≢true ((bytes_eq-Decides (lowercase_of (codes "message")) (lowercase_of (codes "multipart"))).1 (sym one ∙ two)))
]

both : (a b : Bool) → (a && b) ≡ true → (a ≡ true) × (b ≡ true)
both true b is = (refl, is)
both false b is = absurd (false≢true is)

message_has : (part : Part) → holds_message part ≡ true → (is_plain part.encoding ≡ true) × (is_word part.media.main (codes "multipart") ≡ false)
    × ((is_word part.media.main (codes "message") && is_word part.media.sub (codes "rfc822")) ≡ true)
message_has part holds =
    let plain = both (is_plain part.encoding) _ holds in
    (plain.0, message_alone part.media (both (is_word part.media.main (codes "message")) _ plain.1).0, plain.1)

message_children : (part : Part) → holds_message part ≡ true → children_of part ≡ body_stretch part ∷ []
message_children part holds =
    let plain : is_plain part.encoding ≡ true = (message_has part holds).0 in
    let other : is_word part.media.main (codes "multipart") ≡ false = (message_has part holds).1 in
    let message : (is_word part.media.main (codes "message") && is_word part.media.sub (codes "rfc822")) ≡ true = (message_has part holds).2 in
    rw (plain, other, message) refl

message_boundary : (part : Part) → holds_message part ≡ true → boundary_inside part ≡ None
message_boundary part holds =
    let plain : is_plain part.encoding ≡ true = (message_has part holds).0 in
    let other : is_word part.media.main (codes "multipart") ≡ false = (message_has part holds).1 in
    rw (plain, other) refl

message_default : (part : Part) → holds_message part ≡ true → default_below part.media ≡ text_plain
message_default part holds =
    let other : is_word part.media.main (codes "multipart") ≡ false = (message_has part holds).1 in
    rw other refl

-- the children between boundaries, if there are any
abbrev between : Option (List ℕ) → ℕ → List TextLine → List Stretch
between None place lines = []
between (Some boundary) place lines = multipart_children boundary place lines

several_children : (value : Option (List ℕ)) (body : Stretch) → children_between value body ≡ between (named_boundary value) body.place (lines_of body.octets)
several_children None body = refl
several_children (Some value) body =
    let boundary = without_trailing_blanks value in
    elim (cases_Bool (length boundary == 0)) [
      | inl none ↦ rw none refl
      | inr some ↦ rw some refl
    ]

other_children : (part : Part) → holds_message part ≡ false → children_of part ≡ between (boundary_inside part) (part.place + part.header.body_start) (lines_of (body_of part))
other_children part holds = elim (cases_Bool (is_plain part.encoding)) [
  | inr coded ↦ rw coded refl
  | inl plain ↦ elim (cases_Bool (is_word part.media.main (codes "multipart"))) [
    | inl several ↦ rw (plain, several) (several_children (value_named (codes "boundary") part.media.params) (body_stretch part))
    | inr other ↦
        let none : (is_word part.media.main (codes "message") && is_word part.media.sub (codes "rfc822")) ≡ false =
        sym (ap (λ b. b && (is_word part.media.main (codes "message") && is_word part.media.sub (codes "rfc822"))) plain) ∙ holds in
        rw (plain, other, none) refl
  ]
]

-- ---- a part with what is below it

-- what is left after a header of what is left of a part
left_octets : (around : List (List ℕ)) (lines : List TextLine) → AreLines lines
    → let n = header_length (cut around lines) in
    drop n (octets_before around lines) ≡ octets_before around (lines_of (drop n (octets_of lines)))
left_octets around lines are =
    let n = header_length (cut around lines) in
    let none : 0 + n ≡ n = omega arith in
    body_cut (octets_of lines) around lines 0 (lines_of-octets_of lines are) ∙ ap (λ k. octets_before around (lines_of (drop k (octets_of lines)))) none

abbrev with_header : ℕ → MediaType → ℕ → List ℕ → Header → Part
with_header depth default place raw header = record {
  depth = depth;
  below = 0;
  place = place;
  raw = raw;
  header = header;
  media = media_or default (first_value (codes "Content-Type") header.fields);
  encoding = encoding_or_7bit (first_value (codes "Content-Transfer-Encoding") header.fields);
}

-- the part by its area
pub read_is : (depth : ℕ) (default : MediaType) (place : ℕ) (around : List (List ℕ)) (lines : List TextLine)
    → part_read depth default place (octets_of lines) (header_length (cut around lines))
    ≡ record (part_at depth default (record { place = place; octets = octets_before around lines })) { raw = octets_of lines }
read_is depth default place around lines = ap (with_header depth default place (octets_of lines)) (header_taken around lines)

first_ends : (parts inner : List Part) (part : Part) (at end : ℕ) → at ≡ length parts
    → ended_at at end (parts ++ part ∷ inner) ≡ parts ++ record part { below = length inner; raw = take (end - part.place) part.raw } ∷ inner
first_ends parts inner part at end is = rw (is, take-append_seam, drop-append_seam) refl

-- a part that begins, after its header
pub part_opened : (preamble : Bool) (levels place end : ℕ) (default : MediaType) (lines : List TextLine) (outer : List OpenPart) (new : OpenPart) (parts begun : List Part) → AreLines lines → end ≤ place → new.at ≡ length parts
    → let around = boundaries_in [] outer in
    let n = header_length (cut around lines) in
    let left = lines_of (drop n (octets_of lines)) in
    let depth = max_depth - levels in
    parts_begun around levels default place lines ≡ with_below (part_at depth default (record { place = place; octets = octets_before around lines })) (begun ++ parts_ahead preamble new around (place + n) left)
    → finished false [] place end lines outer (parts ++ parts_begun around levels default place lines)
    ≡ finished preamble [] (place + n) end left (outer ++ new ∷ []) ((parts ++ part_read depth default place (octets_of lines) n ∷ []) ++ begun)
part_opened preamble levels place end default lines outer new parts begun are le at made =
    let around = boundaries_in [] outer in
    let n = header_length (cut around lines) in
    let rest = octets_of lines in
    let left = lines_of (drop n rest) in
    let depth = max_depth - levels in
    let raw = octets_before around lines in
    let whole = part_at depth default (record { place = place; octets = raw }) in
    let part = part_read depth default place rest n in
    let ahead = parts_ahead preamble new around (place + n) left in
    let inner = begun ++ ahead in
    let stop = end_from around (place + n) end left in
    let taken : take (stop - place) rest ≡ raw = ap (λ e. take (e - place) rest) (sym (end_through around lines place end are)) ∙ raw_taken around place end lines le in
    let ended : ended_at new.at stop (((parts ++ part ∷ []) ++ begun) ++ ahead) ≡ parts ++ with_below whole inner =
    ap (ended_at new.at stop) (append_assoc (parts ++ part ∷ []) begun ahead ∙ append_assoc parts (part ∷ []) inner)
    ∙ first_ends parts inner part new.at stop at
    ∙ ap (λ (p : Part). parts ++ record p { below = length inner; raw = take (stop - p.place) p.raw } ∷ inner) (read_is depth default place around lines)
    ∙ ap (λ (octets : List ℕ). parts ++ record whole { below = length inner; raw = octets } ∷ inner) taken in
    finished_through outer (parts ++ parts_begun around levels default place lines) lines place end are
    ∙ ap (λ (ps : List Part). finished false [] (place + n) end left outer (parts ++ ps)) made
    ∙ ap (finished false [] (place + n) end left outer) (sym ended)
    ∙ sym (finished_append preamble outer [] (place + n) end left new [] ((parts ++ part ∷ []) ++ begun))

-- ---- with what is below it

-- the body of such a part
body_left : (depth : ℕ) (default : MediaType) (place : ℕ) (around : List (List ℕ)) (lines : List TextLine) → AreLines lines
    → let n = header_length (cut around lines) in
    body_stretch (part_at depth default (record { place = place; octets = octets_before around lines }))
    ≡ record { place = place + n; octets = octets_before around (lines_of (drop n (octets_of lines))) }
body_left depth default place around lines are =
    ap (λ (octets : List ℕ). record { place = place + header_length (cut around lines); octets = octets }) (left_octets around lines are)

no_more : (preamble : Bool) (new : OpenPart) (around : List (List ℕ)) (place : ℕ) (lines : List TextLine) → new.boundary ≡ None → parts_ahead preamble new around place lines ≡ []
no_more preamble new around place lines none = ap (λ b. flat_map (parts_of new.levels new.default) (children_ahead preamble b around place lines)) none

some_levels : (levels : ℕ) → nat_lt 0 levels ≡ true → levels ≢ 0
some_levels zero lt e = false≢true lt
some_levels (suc levels) lt e = cc

-- a message
message_made : (at levels place : ℕ) (default : MediaType) (outer : List OpenPart) (lines : List TextLine) → AreLines lines
    → let around = boundaries_in [] outer in
    let n = header_length (cut around lines) in
    let left = lines_of (drop n (octets_of lines)) in
    let part = part_at (max_depth - levels) default (record { place = place; octets = octets_before around lines }) in
    let new = opening at levels part in
    message_below levels part ≡ true
    → parts_begun around levels default place lines ≡ with_below part (parts_begun (boundaries_in [] (outer ++ new ∷ [])) (levels - 1) text_plain (place + n) left ++ parts_ahead false new around (place + n) left)
message_made at levels place default outer lines are holds =
    let around = boundaries_in [] outer in
    let n = header_length (cut around lines) in
    let left = lines_of (drop n (octets_of lines)) in
    let stretch : Stretch = record { place = place; octets = octets_before around lines } in
    let part = part_at (max_depth - levels) default stretch in
    let new = opening at levels part in
    let below = both (nat_lt 0 levels) (holds_message part) holds in
    let none : new.boundary ≡ None = ap (λ b. if levels == 0 then None else b) (message_boundary part below.1) ∙ either (levels == 0) in
    let within : around ≡ boundaries_in [] (outer ++ new ∷ []) = sym (boundaries_append outer [] new ∙ ap (λ b. boundaries_with b around) none) in
    parts_more levels default stretch (some_levels levels below.0)
    ∙ ap (λ (cs : List Stretch). with_below part (flat_map (parts_of (levels - 1) (default_below part.media)) cs)) (message_children part below.1)
    ∙ ap (λ media. with_below part (parts_of (levels - 1) media (body_stretch part) ++ [])) (message_default part below.1)
    ∙ ap (λ (s : Stretch). with_below part (parts_of (levels - 1) text_plain s ++ [])) (body_left (max_depth - levels) default place around lines are)
    ∙ ap (λ bs. with_below part (parts_begun bs (levels - 1) text_plain (place + n) left ++ [])) within
    ∙ ap (λ (ps : List Part). with_below part (parts_begun (boundaries_in [] (outer ++ new ∷ [])) (levels - 1) text_plain (place + n) left ++ ps)) (sym (no_more false new around (place + n) left none)) where
      either : (b : Bool) → if◌then◌else◌ {A = Option (List ℕ)} b None None ≡ None
      either true = refl
      either false = refl

between_ahead : (boundary : Option (List ℕ)) (around : List (List ℕ)) (place : ℕ) (lines : List TextLine) → between boundary place (cut around lines) ≡ children_ahead true boundary around place lines
between_ahead None around place lines = refl
between_ahead (Some boundary) around place lines = refl

-- any other part
other_made : (at levels place : ℕ) (default : MediaType) (outer : List OpenPart) (lines : List TextLine) → AreLines lines
    → let around = boundaries_in [] outer in
    let n = header_length (cut around lines) in
    let left = lines_of (drop n (octets_of lines)) in
    let part = part_at (max_depth - levels) default (record { place = place; octets = octets_before around lines }) in
    let new = opening at levels part in
    message_below levels part ≡ false
    → parts_begun around levels default place lines ≡ with_below part ([] ++ parts_ahead true new around (place + n) left)
other_made at zero place default outer lines are holds = parts_zero default (record { place = place; octets = octets_before (boundaries_in [] outer) lines })
other_made at (suc levels) place default outer lines are holds =
    let around = boundaries_in [] outer in
    let n = header_length (cut around lines) in
    let left = lines_of (drop n (octets_of lines)) in
    let stretch : Stretch = record { place = place; octets = octets_before around lines } in
    let part = part_at (max_depth - suc levels) default stretch in
    let media = default_below part.media in
    let none : holds_message part ≡ false = sym (ap (λ b. b && holds_message part) (lt-ltb 0 (suc levels) (omega arith))) ∙ holds in
    let boundary : boundary_of_child (suc levels) part ≡ boundary_inside part = ap (λ b. if b then None else boundary_inside part) (ne_eqb (suc levels) 0 (λ e. cc)) in
    parts_more (suc levels) default stretch (λ e. cc)
    ∙ ap (λ (cs : List Stretch). with_below part (flat_map (parts_of (suc levels - 1) media) cs))
    (other_children part none
    ∙ ap (λ (octets : List ℕ). between (boundary_inside part) (place + n) (lines_of octets)) (left_octets around lines are)
    ∙ between_ahead (boundary_inside part) around (place + n) left
    ∙ ap (λ b. children_ahead true b around (place + n) left) (sym boundary))

-- ---- as the reader has it

pub record Opened (text : List ℕ) (beginning : Beginning) (header : ℕ) (opened new_opened : List OpenPart) (parts new_parts : List Part) (part : Part) : Type 0 where
  pub is : IsBeginning text beginning
  pub long : header ≡ header_length (cut (boundaries_in [] opened) (lines_at text beginning.place))
  pub read : part ≡ part_read (max_depth - beginning.levels) (default_media beginning.default) beginning.place (drop beginning.place text) header
  pub opened_as : new_opened ≡ opened ++ opening (length parts) beginning.levels part ∷ []
  pub parts_as : new_parts ≡ parts ++ part ∷ []

-- by the lines of the text
record Standing (text : List ℕ) (beginning : Beginning) (header : ℕ) (opened new_opened : List OpenPart) (parts new_parts : List Part) (part : Part) : Type 0 where
  pub lines : List TextLine
  pub here : lines_at text beginning.place ≡ lines
  pub are : AreLines lines
  pub long : header ≡ header_length (cut (boundaries_in [] opened) lines)
  pub left : lines_at text (beginning.place + header_length (cut (boundaries_in [] opened) lines)) ≡ lines_of (drop (header_length (cut (boundaries_in [] opened) lines)) (octets_of lines))
  pub read : part ≡ part_read (max_depth - beginning.levels) (default_media beginning.default) beginning.place (octets_of lines) (header_length (cut (boundaries_in [] opened) lines))
  pub like : part ≡ record (part_at (max_depth - beginning.levels) (default_media beginning.default) (record { place = beginning.place; octets = octets_before (boundaries_in [] opened) lines })) { raw = octets_of lines }

standing : (text : List ℕ) (beginning : Beginning) (header : ℕ) (opened new_opened : List OpenPart) (parts new_parts : List Part) (part : Part)
    → Opened text beginning header opened new_opened parts new_parts part → Standing text beginning header opened new_opened parts new_parts part
standing text beginning header opened new_opened parts new_parts part o =
    let place = beginning.place in
    let lines = lines_at text place in
    let around = boundaries_in [] opened in
    let n = header_length (cut around lines) in
    let depth = max_depth - beginning.levels in
    let default = default_media beginning.default in
    let whole : octets_of lines ≡ drop place text = octets_of-lines_of (drop place text) in
    let read : part ≡ part_read depth default place (octets_of lines) n =
    o.read ∙ ap (λ (rest : List ℕ). part_read depth default place rest header) (sym whole) ∙ ap (part_read depth default place (octets_of lines)) o.long in
    record {
      lines = lines;
      here = refl;
      are = AreLines-lines_of (drop place text);
      long = o.long;
      left = ap lines_of (sym (drop-drop n place text) ∙ ap (drop n) (sym whole));
      read = read;
      like = read ∙ read_is depth default place around lines;
    }

pub message_opened : (text : List ℕ) (beginning : Beginning) (header : ℕ) (opened new_opened : List OpenPart) (parts new_parts : List Part) (part : Part) → Opened text beginning header opened new_opened parts new_parts part
    → message_below beginning.levels part ≡ true
    → wanted_from text (record { place = beginning.place + header; end = beginning.end; levels = beginning.levels - 1; default = Text }) new_opened new_parts ≡ wanted_from text beginning opened parts
message_opened text beginning header opened new_opened parts new_parts part o holds =
    let s = standing text beginning header opened new_opened parts new_parts part o in
    let place = beginning.place in
    let end = beginning.end in
    let levels = beginning.levels in
    let lines = s.lines in
    let n = header_length (cut (boundaries_in [] opened) lines) in
    let left = lines_of (drop n (octets_of lines)) in
    let depth = max_depth - levels in
    let default = default_media beginning.default in
    let whole = part_at depth default (record { place = place; octets = octets_before (boundaries_in [] opened) lines }) in
    let read = part_read depth default place (octets_of lines) n in
    let new = opening (length parts) levels whole in
    let becomes : ℕ → List TextLine → List OpenPart → List Part → List Part =
    λ h ls os ps. finished false [] (place + h) end ls os (ps ++ parts_begun (boundaries_in [] os) (levels - 1) text_plain (place + h) ls) in
    let is_opened : new_opened ≡ opened ++ new ∷ [] = o.opened_as ∙ ap (λ (p : Part). opened ++ opening (length parts) levels p ∷ []) s.like in
    let is_parts : new_parts ≡ parts ++ read ∷ [] = o.parts_as ∙ ap (λ (p : Part). parts ++ p ∷ []) s.read in
    ap (λ h. becomes h (lines_at text (place + h)) new_opened new_parts) s.long
    ∙ ap (λ ls. becomes n ls new_opened new_parts) s.left
    ∙ ap (λ os. becomes n left os new_parts) is_opened
    ∙ ap (becomes n left (opened ++ new ∷ [])) is_parts
    ∙ sym (part_opened false levels place end default lines opened new parts (parts_begun (boundaries_in [] (opened ++ new ∷ [])) (levels - 1) text_plain (place + n) left) s.are o.is.before refl
    (message_made (length parts) levels place default opened lines s.are (sym (ap (message_below levels) s.like) ∙ holds)))
    ∙ ap (λ ls. finished false [] place end ls opened (parts ++ parts_begun (boundaries_in [] opened) levels default place ls)) (sym s.here)

pub other_opened : (text : List ℕ) (beginning : Beginning) (header : ℕ) (opened new_opened : List OpenPart) (parts new_parts : List Part) (part : Part) → Opened text beginning header opened new_opened parts new_parts part
    → message_below beginning.levels part ≡ false
    → finished true [] (beginning.place + header) beginning.end (lines_at text (beginning.place + header)) new_opened new_parts ≡ wanted_from text beginning opened parts
other_opened text beginning header opened new_opened parts new_parts part o holds =
    let s = standing text beginning header opened new_opened parts new_parts part o in
    let place = beginning.place in
    let end = beginning.end in
    let levels = beginning.levels in
    let lines = s.lines in
    let n = header_length (cut (boundaries_in [] opened) lines) in
    let left = lines_of (drop n (octets_of lines)) in
    let depth = max_depth - levels in
    let default = default_media beginning.default in
    let whole = part_at depth default (record { place = place; octets = octets_before (boundaries_in [] opened) lines }) in
    let read = part_read depth default place (octets_of lines) n in
    let new = opening (length parts) levels whole in
    let is_opened : new_opened ≡ opened ++ new ∷ [] = o.opened_as ∙ ap (λ (p : Part). opened ++ opening (length parts) levels p ∷ []) s.like in
    let is_parts : new_parts ≡ (parts ++ read ∷ []) ++ [] = o.parts_as ∙ ap (λ (p : Part). parts ++ p ∷ []) s.read ∙ sym (append-nil (parts ++ read ∷ [])) in
    ap (λ h. finished true [] (place + h) end (lines_at text (place + h)) new_opened new_parts) s.long
    ∙ ap (λ ls. finished true [] (place + n) end ls new_opened new_parts) s.left
    ∙ ap (λ os. finished true [] (place + n) end left os new_parts) is_opened
    ∙ ap (finished true [] (place + n) end left (opened ++ new ∷ [])) is_parts
    ∙ sym (part_opened true levels place end default lines opened new parts [] s.are o.is.before refl
    (other_made (length parts) levels place default opened lines s.are (sym (ap (message_below levels) s.like) ∙ holds)))
    ∙ ap (λ ls. finished false [] place end ls opened (parts ++ parts_begun (boundaries_in [] opened) levels default place ls)) (sym s.here)
