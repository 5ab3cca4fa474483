-- Names and media types of parts, and names of users, by computation.
use Rattle.std.proofs.Common.{◌≡◌, ℕ, List, [], ◌∷◌, ◌++◌, true, false, codes, replicate, refl}
use Rattle.header_fields.specs.Fields.{Field}
use Rattle.mime_params.specs.MediaValue.{disposition_of, media_type_of, param_at}
use Rattle.mime_params.specs.declared.encoding.TransferEncoding.TheVariants.{SevenBit}
use Rattle.mime_params.specs.declared.media.MediaType.{MediaType}
use Rattle.mime_tree.specs.PartTree.{or_text_plain, text_plain}
use Rattle.mime_decode.specs.Mail.{Mail, Part}
use Rattle.bytecode_format.specs.declared.action.Action.TheVariants.{Keep, File, Store}
use Rattle.part_store.specs.Entries.{Draft}
use Rattle.part_store.specs.declared.entry.Kind.TheVariants as kinds
use Rattle.depot_actions.specs.Drafts.{drafts_of, name_of}
use Rattle.mime_params.specs.MediaValue.{media_text}
use Rattle.depot_actions.specs.Users.{is_user_name}

abbrev field : List ℕ → List ℕ → Field
field name value = record { name = name; value = value; folded = false }

abbrev part : List Field → MediaType → List ℕ → Part
part fields media content =
    record { depth = 1; below = 0; fields = fields; media = media; encoding = SevenBit; raw = []; body = content; content = content }

abbrev quoted : List ℕ → List ℕ
quoted text = 34 ∷ (text ++ 34 ∷ [])

abbrev named_type : MediaType
named_type = or_text_plain (media_type_of (codes "Image/PNG; name=b.png"))

-- ---- names

by_file_name : name_of (part (field (codes "content-disposition") (codes "attachment; filename=" ++ quoted (codes "a.txt")) ∷ []) named_type []) ≡ codes "a.txt"
unfolding disposition_of param_at media_type_of
by_file_name = refl

by_empty_file_name : name_of (part (field (codes "Content-Disposition") (codes "attachment; filename=" ++ quoted []) ∷ []) named_type []) ≡ []
unfolding disposition_of param_at media_type_of
by_empty_file_name = refl

by_first_disposition : name_of (part (field (codes "Content-Disposition") (codes "inline") ∷ field (codes "Content-Disposition") (codes "inline; filename=a") ∷ []) text_plain []) ≡ []
unfolding disposition_of param_at
by_first_disposition = refl

by_type_without_reading : name_of (part (field (codes "Content-Disposition") (codes "; filename=a.txt") ∷ []) named_type []) ≡ codes "b.png"
unfolding disposition_of param_at media_type_of
by_type_without_reading = refl

by_type_without_file_name : name_of (part (field (codes "Content-Disposition") (codes "inline; size=3") ∷ []) named_type []) ≡ codes "b.png"
unfolding disposition_of param_at media_type_of
by_type_without_file_name = refl

without_name : name_of (part [] text_plain []) ≡ []
without_name = refl

-- ---- media types

in_lower_case : media_text named_type ≡ codes "image/png"
unfolding media_type_of param_at
in_lower_case = refl

by_default : media_text text_plain ≡ codes "text/plain"
by_default = refl

-- ---- what actions file

abbrev mail : Mail
mail = record { octets = codes "whole"; parts = part [] text_plain (codes "root") ∷ part [] named_type (codes "inner") ∷ [] }

abbrev message_in : List ℕ → Draft
message_in folder = record { folder = folder; kind = kinds.Message; name = []; media = codes "message/rfc822"; octets = codes "whole" }

filed_in_order : drafts_of mail (Store (codes "att") 1 ∷ File (codes "x") ∷ Keep ∷ [])
    ≡ record { folder = codes "att"; kind = kinds.Part; name = codes "b.png"; media = codes "image/png"; octets = codes "inner" }
    ∷ message_in (codes "x") ∷ message_in (codes "INBOX") ∷ []
unfolding media_type_of param_at
filed_in_order = refl

-- ---- users

shortest_user : is_user_name (codes "a") ≡ true
shortest_user = refl

each_kind_of_octet : is_user_name (codes "az09._-") ≡ true
each_kind_of_octet = refl

longest_user : is_user_name (replicate 64 97) ≡ true
longest_user = refl

no_user_of_65 : is_user_name (replicate 65 97) ≡ false
no_user_of_65 = refl

no_user_of_none : is_user_name [] ≡ false
no_user_of_none = refl

no_user_in_upper_case : is_user_name (codes "Ann") ≡ false
no_user_in_upper_case = refl

no_user_around_the_ranges : is_user_name (codes "`") ≡ false
no_user_around_the_ranges = refl
