-- The printed lines.
use Rattle.std.specs.Prelude.{ℕ, Bool, List, [], ◌∷◌, ◌++◌, ◌&&◌, ◌||◌, ◌==◌, nat_le, codes, if◌then◌else◌}
use Rattle.std.specs.List.{flat_map}
use Rattle.std.specs.Fmt.{decimal}
use Rattle.bytecode_format.specs.declared.action.Action.{Action}
use Rattle.bytecode_format.specs.declared.action.Action.TheVariants.{Keep, File, Store}
use Rattle.readable_text.specs.Quoted as quoting
use Rattle.readable_text.specs.Quoted.{escape}
use Rattle.refusals.specs.Lines.{refusal_text}
use Rattle.refusals.specs.declared.refusal.Refusal.{Refusal}
use Rattle.printing.specs.declared.piece.Setting.{Setting}
use Rattle.printing.specs.declared.piece.Setting.TheVariants.{Quotes, Text}

-- the text and the end of its line
abbrev pub line : List ℕ → List ℕ
line text = text ++ 10 ∷ []

-- an octet that is printed as it is: between quotes, as in a listing; in a text also the quote, the backslash and a line
-- break
abbrev pub is_plain : Setting → ℕ → Bool
is_plain Quotes octet = quoting.is_plain octet
is_plain Text octet = (nat_le 32 octet && nat_le octet 126) || octet == 10

-- an octet among others: itself, or a backslash and its two hexadecimal digits
abbrev pub escaped_octet : Setting → ℕ → List ℕ
escaped_octet setting octet = if is_plain setting octet then octet ∷ [] else escape octet

-- octets among others
abbrev pub escaped : Setting → List ℕ → List ℕ
escaped setting = flat_map (escaped_octet setting)

-- octets between quotes, as in a listing
abbrev pub quoted : List ℕ → List ℕ
quoted octets = quoting.quoted octets

-- a text that may have been written by anyone
abbrev pub shown : List ℕ → List ℕ
shown = escaped Text

-- what an action does
abbrev pub action_text : Action → List ℕ
action_text Keep = codes "keep"
action_text (File folder) = codes "fileinto " ++ quoted folder
action_text (Store folder part) = codes "store " ++ quoted folder ++ codes " " ++ decimal part

-- a line for each action, or one that there is none
abbrev pub actions_text : List Action → List ℕ
actions_text [] = line (codes "none")
actions_text (action ∷ actions) = flat_map (λ a. line (action_text a)) (action ∷ actions)

-- what a run charged, and what it may charge
abbrev pub charge_text : ℕ → ℕ → List ℕ
charge_text charged limit = codes "charged " ++ decimal charged ++ codes " of " ++ decimal limit

-- the lines of a run
abbrev pub report_text : List Action → ℕ → ℕ → List ℕ
report_text actions charged limit = actions_text actions ++ line (charge_text charged limit)

-- how many octets a program was written with
abbrev pub wrote_text : ℕ → List ℕ
wrote_text octets = codes "wrote " ++ decimal octets ++ codes " octets"

-- the line of a refusal
abbrev pub refusal_line : Refusal → List ℕ
refusal_line refusal = line (refusal_text refusal)
