-- What filters know of a message.
use Rattle.std.specs.Prelude.{◌≡◌, ℕ, ◌<◌, ◌≤◌, List, length, map, slice_get, sum_by, Some}
use Rattle.octets.specs.Limits.{max_message, max_parts}
use Rattle.header_fields.specs.Fields.{Field}
use Rattle.header_fields.specs.Extent.{fields_extent}
use Rattle.mime_params.specs.declared.media.MediaType.{MediaType}
use Rattle.mime_params.specs.declared.encoding.TransferEncoding.{TransferEncoding}
use Rattle.mime_tree.specs.Order.{Nests}
use Rattle.mime_tree.specs.PartTree as tree
use Rattle.mime_tree.specs.Readable as readable
use Rattle.mime_decode.specs.Content.{content_of}

-- a part: its depth, counted from 1; the number of parts below it; its header's fields; its media type; how its body is encoded;
-- its octets, those after its header, and what these stand for
pub record Part : Type 0 where
  pub depth : ℕ
  pub below : ℕ
  pub fields : List Field
  pub media : MediaType
  pub encoding : TransferEncoding
  pub raw : List ℕ
  pub body : List ℕ
  pub content : List ℕ

-- a message: its octets, and its parts in preorder
pub record Mail : Type 0 where
  pub octets : List ℕ
  pub parts : List Part

-- how many octets it has
abbrev pub size_of : Mail → ℕ
size_of mail = length mail.octets

-- how many octets the fields of all parts take at least
abbrev pub parts_extent : List Part → ℕ
parts_extent parts = sum_by (λ (p : Part). fields_extent p.fields) parts

-- how many parts are below a part
abbrev pub below_of : Part → ℕ
below_of part = part.below

-- a part's content is no longer than its body, and that no longer than the message
pub record IsWithin (mail : Mail) (part : Part) : Type 0 where
  pub content : length part.content ≤ length part.body
  pub body : length part.body ≤ size_of mail

-- what holds of every message that was read
pub record IsMail (mail : Mail) : Type 0 where
  pub small : size_of mail ≤ max_message
  pub has_root : 0 < length mail.parts
  pub few_parts : length mail.parts ≤ max_parts
  pub nests : (place : ℕ) (part : Part) → slice_get mail.parts place ≡ Some part → Nests below_of mail.parts place part
  pub within : (place : ℕ) (part : Part) → slice_get mail.parts place ≡ Some part → IsWithin mail part
  pub fields : parts_extent mail.parts ≤ size_of mail

-- a part of the tree, as filters know it
abbrev pub part_of : tree.Part → Part
part_of part =
    record {
      depth = part.depth;
      below = part.below;
      fields = part.header.fields;
      media = part.media;
      encoding = part.encoding;
      raw = part.raw;
      body = tree.body_of part;
      content = content_of part.encoding (tree.body_of part);
    }

-- the mail that octets are
unfoldable pub mail_of : List ℕ → Mail
mail_of octets = record { octets = octets; parts = map part_of (tree.tree_of octets) }

-- octets that can be read as a message: they and their parts are few enough
abbrev pub IsReadable : List ℕ → Type 0
IsReadable octets = readable.IsReadable octets
