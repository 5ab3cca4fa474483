-- The tree of a message's parts (RFC 2046, sections 5.1 and 5.2.1; RFC 2045, sections 5.2 and 6).
use Rattle.std.specs.Prelude.{ℕ, zero, suc, ◌+◌, ◌-◌, ◌==◌, ◌&&◌, ◌||◌, Bool, true, false, List, [], ◌∷◌, ◌++◌, length, drop, flat_map, Option, None, Some, codes, bytes_eq, if◌then◌else◌}
use Rattle.octets.specs.Limits.{max_depth}
use Rattle.octets.specs.Ascii.{is_word}
use Rattle.octets.specs.Blank.{without_trailing_blanks}
use Rattle.text_lines.specs.Lines.{TextLine, lines_of, line_octets}
use Rattle.header_fields.specs.Fields.{first_value}
use Rattle.header_fields.specs.Header.{Header, header_of, line_length}
use Rattle.mime_params.specs.MediaValue.{media_type_of, value_named}
use Rattle.mime_params.specs.Encodings.{encoding_of}
use Rattle.mime_params.specs.declared.media.MediaType.{MediaType}
use Rattle.mime_params.specs.declared.encoding.TransferEncoding.{TransferEncoding}
use Rattle.mime_params.specs.declared.encoding.TransferEncoding.TheVariants.{SevenBit, EightBit, Binary, QuotedPrintable, Base64, Unknown}
use Rattle.mime_tree.specs.declared.media.DefaultType.{DefaultType}
use Rattle.mime_tree.specs.declared.media.DefaultType.TheVariants.{Text, Message}

-- a stretch of the message: the place where it begins, and its octets
pub record Stretch : Type 0 where
  pub place : ℕ
  pub octets : List ℕ

-- a part: its depth, the message's own being 1; how many parts are below it; the place in the message where it begins;
-- its octets; its header; its media type; how its body is encoded
pub record Part : Type 0 where
  pub depth : ℕ
  pub below : ℕ
  pub place : ℕ
  pub raw : List ℕ
  pub header : Header
  pub media : MediaType
  pub encoding : TransferEncoding

-- its octets after its header
abbrev pub body_of : Part → List ℕ
body_of part = drop part.header.body_start part.raw

abbrev pub text_plain : MediaType
text_plain = record { main = codes "text"; sub = codes "plain"; params = [] }

abbrev pub message_rfc822 : MediaType
message_rfc822 = record { main = codes "message"; sub = codes "rfc822"; params = [] }

-- a media type that was read; one that has no reading is text/plain
abbrev pub or_text_plain : Option MediaType → MediaType
or_text_plain None = text_plain
or_text_plain (Some media) = media

-- a media type without its parameters
abbrev pub without_params : MediaType → MediaType
without_params media = record media { params = [] }

-- the media type of a Content-Type's value; without that field there is a default
abbrev pub media_or : MediaType → Option (List ℕ) → MediaType
media_or default None = default
media_or default (Some value) = or_text_plain (media_type_of value)

-- the encoding of a Content-Transfer-Encoding's value; without that field it is 7bit
abbrev pub encoding_or_7bit : Option (List ℕ) → TransferEncoding
encoding_or_7bit None = SevenBit
encoding_or_7bit (Some value) = encoding_of value

-- the body stands as it is written, so that it may have parts
abbrev pub is_plain : TransferEncoding → Bool
is_plain SevenBit = true
is_plain EightBit = true
is_plain Binary = true
is_plain QuotedPrintable = false
is_plain Base64 = false
is_plain Unknown = false

-- a line is `--` and a boundary, after which SP and TAB may stand; so the closing line is that of the boundary and `--`
abbrev pub is_delimiter : List ℕ → List ℕ → Bool
is_delimiter boundary line = bytes_eq (without_trailing_blanks line) (codes "--" ++ boundary)

abbrev pub is_closing : List ℕ → List ℕ → Bool
is_closing boundary line = is_delimiter (boundary ++ codes "--") line

abbrev pub ends_child : List ℕ → List ℕ → Bool
ends_child boundary line = is_delimiter boundary line || is_closing boundary line

abbrev pub first_ends_child : List ℕ → List TextLine → Bool
first_ends_child boundary [] = false
first_ends_child boundary (line ∷ lines) = ends_child boundary line.content

-- the octets of the lines up to the next delimiter or closing line, whose break before it isn't theirs; without one those of all lines
abbrev pub child_octets : List ℕ → List TextLine → List ℕ
child_octets boundary [] = []
child_octets boundary (line ∷ lines) =
    if ends_child boundary line.content then []
    else if first_ends_child boundary lines then line.content
    else line_octets line ++ child_octets boundary lines

-- the child that begins with these lines, at this place
abbrev pub child_at : List ℕ → ℕ → List TextLine → Stretch
child_at boundary place lines = record { place = place; octets = child_octets boundary lines }

-- the children after the first delimiter line: each further one begins another, up to the closing line
abbrev pub further_children : List ℕ → ℕ → List TextLine → List Stretch
further_children boundary place [] = []
further_children boundary place (line ∷ lines) =
    let after = place + line_length line in
    if is_closing boundary line.content then []
    else if is_delimiter boundary line.content then child_at boundary after lines ∷ further_children boundary after lines
    else further_children boundary after lines

-- the children of a multipart, whose lines begin at this place: what stands before the first delimiter line doesn't count
abbrev pub multipart_children : List ℕ → ℕ → List TextLine → List Stretch
multipart_children boundary place [] = []
multipart_children boundary place (line ∷ lines) =
    let after = place + line_length line in
    if is_delimiter boundary line.content then child_at boundary after lines ∷ further_children boundary after lines
    else multipart_children boundary after lines

-- a multipart's boundary ends before its trailing SP and TAB; without one, or with an empty one, it has no children
abbrev pub children_between : Option (List ℕ) → Stretch → List Stretch
children_between None body = []
children_between (Some value) body =
    let boundary = without_trailing_blanks value in
    if length boundary == 0 then [] else multipart_children boundary body.place (lines_of body.octets)

-- the children of a body of this type: a message has one, its body
abbrev pub children_in : MediaType → Stretch → List Stretch
children_in media body =
    if is_word media.main (codes "multipart") then children_between (value_named (codes "boundary") media.params) body
    else if is_word media.main (codes "message") && is_word media.sub (codes "rfc822") then body ∷ []
    else []

-- the body of a part, where it stands
abbrev pub body_stretch : Part → Stretch
body_stretch part = record { place = part.place + part.header.body_start; octets = body_of part }

-- the children of a part
abbrev pub children_of : Part → List Stretch
children_of part = if is_plain part.encoding then children_in part.media (body_stretch part) else []

-- the media type of a part's child that has no Content-Type
abbrev pub default_below : MediaType → MediaType
default_below media =
    if is_word media.main (codes "multipart") && is_word media.sub (codes "digest") then message_rfc822 else text_plain

-- the part that a stretch is, without those below it
abbrev pub part_at : ℕ → MediaType → Stretch → Part
part_at depth default stretch =
    let header = header_of stretch.octets in
    record {
      depth = depth;
      below = 0;
      place = stretch.place;
      raw = stretch.octets;
      header = header;
      media = media_or default (first_value (codes "Content-Type") header.fields);
      encoding = encoding_or_7bit (first_value (codes "Content-Transfer-Encoding") header.fields);
    }

-- a part, and the parts below it
abbrev pub with_below : Part → List Part → List Part
with_below part parts = record part { below = length parts } ∷ parts

-- the parts of a stretch in preorder, where so many further levels may be below it
unfoldable pub parts_of : ℕ → MediaType → Stretch → List Part
parts_of zero default stretch = part_at max_depth default stretch ∷ []
parts_of (suc levels) default stretch =
    let part = part_at (max_depth - suc levels) default stretch in
    with_below part (flat_map (parts_of levels (default_below part.media)) (children_of part))

-- the parts of a message
abbrev pub tree_of : List ℕ → List Part
tree_of octets = parts_of (max_depth - 1) text_plain (record { place = 0; octets = octets })

-- the media type of a part that has no Content-Type
abbrev pub default_media : DefaultType → MediaType
default_media Text = text_plain
default_media Message = message_rfc822
