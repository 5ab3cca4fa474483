-- The entries that actions file (RFC 5228, sections 2.10.2 and 4.1; RFC 2183, section 2.3).
use Rattle.std.specs.Prelude.{ℕ, List, [], Option, None, Some, codes, map, slice_get, unwrap_or}
use Rattle.bytecode_format.specs.declared.action.Action.{Action}
use Rattle.bytecode_format.specs.declared.action.Action.TheVariants.{Keep, File, Store}
use Rattle.mime_params.specs.MediaValue.{disposition_of, media_text, value_named}
use Rattle.mime_params.specs.declared.media.Disposition.{Disposition}
use Rattle.header_fields.specs.Fields.{first_value}
use Rattle.mime_tree.specs.PartTree.{message_rfc822}
use Rattle.mime_decode.specs.Mail.{Mail, Part}
use Rattle.part_store.specs.Entries.{Draft}
use Rattle.part_store.specs.declared.entry.Kind.TheVariants as kinds

-- the folder of a message that is kept
abbrev pub inbox : List ℕ
inbox = codes "INBOX"

-- the file name that a disposition has
abbrev pub file_name : Option Disposition → Option (List ℕ)
file_name None = None
file_name (Some disposition) = value_named (codes "filename") disposition.params

-- the file name that the value of a Content-Disposition has
abbrev pub file_name_in : Option (List ℕ) → Option (List ℕ)
file_name_in None = None
file_name_in (Some value) = file_name (disposition_of value)

-- a part's name: the file name of its first Content-Disposition, else the name of its media type, else none
abbrev pub name_of : Part → List ℕ
name_of part =
    unwrap_or (file_name_in (first_value (codes "Content-Disposition") part.fields))
    (unwrap_or (value_named (codes "name") part.media.params) [])

-- the whole message, in a folder
abbrev pub message_draft : List ℕ → Mail → Draft
message_draft folder mail =
    record { folder = folder; kind = kinds.Message; name = []; media = media_text message_rfc822; octets = mail.octets }

-- the content of a part, in a folder
abbrev pub part_draft : List ℕ → Part → Draft
part_draft folder part =
    record { folder = folder; kind = kinds.Part; name = name_of part; media = media_text part.media; octets = part.content }

-- the same of a part that may be there; of no part, which no action names, there is no octet
abbrev pub stored_draft : List ℕ → Option Part → Draft
stored_draft folder None = record { folder = folder; kind = kinds.Part; name = []; media = []; octets = [] }
stored_draft folder (Some part) = part_draft folder part

-- what an action files
abbrev pub draft_of_action : Mail → Action → Draft
draft_of_action mail Keep = message_draft inbox mail
draft_of_action mail (File folder) = message_draft folder mail
draft_of_action mail (Store folder part) = stored_draft folder (slice_get mail.parts part)

-- what actions file, in their order
abbrev pub drafts_of : Mail → List Action → List Draft
drafts_of mail actions = map (draft_of_action mail) actions
