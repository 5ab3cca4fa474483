-- The line of an event.
use Rattle.std.specs.Prelude.{ℕ, Bool, true, false, List, [], ◌∷◌, ◌++◌, ◌&&◌, ◌==◌, slice_get, not, nat_le, codes, Option, None, Some, if◌then◌else◌}
use Rattle.std.specs.List.{flat_map}
use Rattle.std.specs.Fmt.{decimal}
use Rattle.readable_text.specs.Quoted.{escape, quoted_start}
use Rattle.mail_matching.specs.declared.finding.Finding.{Finding}
use Rattle.mail_matching.specs.declared.finding.Finding.TheVariants.{Pair, NoneOf}
use Rattle.mime_decode.specs.Mail.{Mail, Part as MailPart}
use Rattle.mime_params.specs.MediaValue.{media_text}
use Rattle.bytecode_format.specs.declared.question.Question.{Question}
use Rattle.sieve_meaning.specs.Traced.{Event, Occurrence, asked, negated, all_held, any_held, acted, turned}
use Rattle.sieve_trace.specs.Words.{act_text, comparison_word, question_word}

-- an octet of the name of a file that is printed as it is: all but control characters of ASCII, so that other letters can
-- be read
abbrev pub is_plain : ℕ → Bool
is_plain octet = nat_le 32 octet && not (octet == 127)

-- an octet of such a name: itself, or a backslash and its two hexadecimal digits
unfoldable pub named_octet : ℕ → List ℕ
named_octet octet = if is_plain octet then octet ∷ [] else escape octet

-- the name of a file
abbrev pub named : List ℕ → List ℕ
named = flat_map named_octet

-- whether a test is true
abbrev pub value_text : Bool → List ℕ
value_text true = codes " yes"
value_text false = codes " no"

-- so many values
abbrev pub values_text : ℕ → List ℕ
values_text number = decimal number ++ (if number == 1 then codes " value" else codes " values")

-- what a question finds: the value and the key that match; or how many values there are, none of which matches
unfoldable pub finding_text : Question → Option Finding → List ℕ
finding_text question None = []
finding_text question (Some (Pair value key)) =
    codes " " ++ quoted_start value ++ codes " " ++ comparison_word question ++ codes " " ++ quoted_start key
finding_text question (Some (NoneOf number)) = codes ", " ++ values_text number

-- what came of a test or a command, behind its word
unfoldable pub occurrence_text : Occurrence → List ℕ
occurrence_text (asked question value finding) = question_word question ++ value_text value ++ finding_text question finding
occurrence_text (negated value) = codes "not" ++ value_text value
occurrence_text (all_held value) = codes "allof" ++ value_text value
occurrence_text (any_held value) = codes "anyof" ++ value_text value
occurrence_text (acted act text) = act_text act text
occurrence_text turned = codes "foreverypart"

-- the media type of a part, if there is one
abbrev pub media_of : Option MailPart → List ℕ
media_of None = []
media_of (Some part) = media_text part.media

-- where it came: in a turn of a loop the part, by its number and media type; nothing outside of loops
unfoldable pub part_text : Mail → Option ℕ → List ℕ
part_text mail None = []
part_text mail (Some number) = codes " part " ++ decimal number ++ codes " " ++ media_of (slice_get mail.parts number)

-- where it came, and what it was; of a turn itself, what it was comes first
unfoldable pub event_text : Mail → Option ℕ → Occurrence → List ℕ
event_text mail part turned = codes " " ++ occurrence_text turned ++ part_text mail part
event_text mail part what = part_text mail part ++ codes " " ++ occurrence_text what

-- the line and the column, where the token has a place
abbrev pub place_in : Option (List ℕ) → List ℕ
place_in None = codes ":"
place_in (Some place) = place

-- what lines are printed by: the name of the script as it is printed, the places of its tokens, and the message
pub record Sheet : Type 0 where
  pub label : List ℕ
  pub places : List (List ℕ)
  pub mail : Mail

abbrev pub sheet : List ℕ → List (List ℕ) → Mail → Sheet
sheet name places mail = record { label = named name; places = places; mail = mail }

-- the line of an event
unfoldable pub event_line : Sheet → Event → List ℕ
event_line page e =
    page.label ++ place_in (slice_get page.places e.at) ++ event_text page.mail e.part e.what ++ 10 ∷ []

-- the lines of events
abbrev pub told : Sheet → List Event → List ℕ
told page = flat_map (event_line page)
