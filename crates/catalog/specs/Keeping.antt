-- What a catalog keeps of the content of an entry.
use Rattle.std.specs.Prelude.{ℕ, List, if◌then◌else◌, Option, Some, None, option_map}
use Rattle.std.specs.Rc.{rc_value}
use Rattle.mime_decode.specs.Mail.{Mail, mail_of}
use Rattle.serde_json.specs.Data.{Data}
use Rattle.serde_json.specs.View.{view}
use Rattle.catalog.specs.Catalog.{Filed, row_of_filed}
use Rattle.catalog.specs.Fields.{fields_value, own_fields}
use Rattle.catalog.specs.Rows.{Row, row_of}
use Rattle.catalog.specs.Stored.{digests_of}
use Rattle.catalog.specs.declared.keeping.Kept.{Kept}
use Rattle.catalog.specs.declared.entry.Listed.{Listed}
use Rattle.catalog.specs.declared.outline.Outline.{Outline}

-- of a message: the digests of its parts, and the object of its fields
pub record Outlined : Type 0 where
  pub digests : List (List ℕ)
  pub fields : Data

abbrev pub outlined : Mail → Outlined
outlined mail = record { digests = digests_of mail; fields = fields_value (own_fields mail.parts) }

abbrev pub outlined_as : Outline → Outlined
outlined_as outline = record { digests = outline.digests.items; fields = view outline.fields }

-- of an entry: what its line has, and of a message that, too
pub record Known : Type 0 where
  pub row : Row
  pub outline : Option Outlined

abbrev pub known_of : Filed → Known
known_of filed = record { row = row_of_filed filed; outline = if filed.is_message then Some (outlined (mail_of filed.octets)) else None }

abbrev pub known_as : Kept → Known
known_as kept = record { row = row_of kept.entry; outline = option_map outlined_as (option_map rc_value kept.outline) }

-- an entry of the list, with the octets of its content
abbrev pub filed_as : Listed → List ℕ → Filed
filed_as listed octets =
    record { number = listed.number; folder = listed.folder.now; name = listed.name.now; media = listed.media.now; is_message = listed.is_message; octets = octets }
