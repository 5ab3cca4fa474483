-- The lines of a message's parts, and that a script has no fault.
use Rattle.std.specs.Prelude.{ℕ, suc, List, [], ◌∷◌, ◌++◌, length, codes}
use Rattle.std.specs.Fmt.{decimal}
use Rattle.mime_params.specs.declared.media.MediaType.{MediaType}
use Rattle.mime_params.specs.MediaValue.{media_text}
use Rattle.mime_decode.specs.Content.{digest_of}
use Rattle.mime_decode.specs.Mail.{Part}
use Rattle.printing.specs.Printed.{line}

-- a part of a message: its place, its depth, its media type, how many octets its content has, and their digest
abbrev pub part_text : ℕ → ℕ → MediaType → List ℕ → List ℕ
part_text place depth media content =
    decimal place ++ codes " " ++ decimal depth ++ codes " " ++ media_text media ++ codes " "
    ++ decimal (length content) ++ codes " " ++ digest_of content

-- a line for each part, of which the first has this place
abbrev pub parts_text_from : ℕ → List Part → List ℕ
parts_text_from place [] = []
parts_text_from place (part ∷ parts) = line (part_text place part.depth part.media part.content)
    ++ parts_text_from (suc place) parts

-- a line for each part of a message
abbrev pub parts_text : List Part → List ℕ
parts_text parts = parts_text_from 0 parts

-- a script has no fault
abbrev pub ok_text : List ℕ
ok_text = codes "ok"
