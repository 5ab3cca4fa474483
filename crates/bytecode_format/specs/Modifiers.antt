-- The modifiers of a variable's value, what they make of a text, and their number.
use Rattle.std.specs.Prelude.{ℕ, ◌+◌, ◌*◌, ◌/◌, ◌%◌, Bool, true, false, ◌&&◌, ◌||◌, not, ◌==◌, nat_lt, List, [], ◌∷◌, ◌++◌, take, drop, Option, Some, None, if◌then◌else◌}
use Rattle.std.specs.List.{flat_map, count_by}
use Rattle.std.specs.Fmt.{decimal}
use Rattle.octets.specs.Ascii.{uppercase_of, lowercase_of}
use Rattle.bytecode_format.specs.declared.modifiers.Case.{Case}
use Rattle.bytecode_format.specs.declared.modifiers.Case.TheVariants.{Lower, Upper}
use Rattle.bytecode_format.specs.declared.modifiers.Modifiers.{Modifiers}

-- the text with its letters in a case, if one is named
abbrev pub cased : Option Case → List ℕ → List ℕ
cased None text = text
cased (Some Lower) text = lowercase_of text
cased (Some Upper) text = uppercase_of text

-- the text with its first octet in a case
abbrev pub first_cased : Option Case → List ℕ → List ℕ
first_cased case text = cased case (take 1 text) ++ drop 1 text

-- asterisk, question mark and backslash
abbrev pub is_quotable : ℕ → Bool
is_quotable octet = (octet == 42) || (octet == 63) || (octet == 92)

-- the octet, behind a backslash where a pattern reads it as more than itself
abbrev pub quoted_octet : ℕ → List ℕ
quoted_octet octet = if is_quotable octet then 92 ∷ octet ∷ [] else octet ∷ []

-- the text, so that a pattern of it fits it alone
abbrev pub quoted : Bool → List ℕ → List ℕ
quoted false text = text
quoted true text = flat_map quoted_octet text

-- 0x80 to 0xBF: the octets of a character in UTF-8 after its first
abbrev pub continues_character : ℕ → Bool
continues_character octet = not (nat_lt octet 0x80) && nat_lt octet 0xC0

-- how many octets of the text begin a character
abbrev pub characters : List ℕ → ℕ
characters text = count_by (λ octet. not (continues_character octet)) text

-- the number of characters, in decimal digits, in place of the text
abbrev pub counted : Bool → List ℕ → List ℕ
counted false text = text
counted true text = decimal (characters text)

-- the text modified: the case of all letters first, then that of the first octet, then backslashes, the count last
abbrev pub modified : Modifiers → List ℕ → List ℕ
modified m text = counted m.length (quoted m.quote_wildcard (first_cased m.first (cased m.letters text)))

-- no modifier
abbrev pub no_modifiers : Modifiers
no_modifiers = record { letters = None; first = None; quote_wildcard = false; length = false }

-- a case, if one is named, as two bits
abbrev pub case_number : Option Case → ℕ
case_number None = 0
case_number (Some Lower) = 1
case_number (Some Upper) = 2

abbrev pub flag : Bool → ℕ
flag false = 0
flag true = 1

-- the modifiers as one number: bits 0 and 1 the case of all letters, bits 2 and 3 that of the first
-- octet, bit 4 backslashes, bit 5 the count
abbrev pub modifiers_number : Modifiers → ℕ
modifiers_number m = case_number m.letters + 4 * case_number m.first + 16 * flag m.quote_wildcard + 32 * flag m.length

abbrev pub case_numbered : ℕ → Option Case
case_numbered n = if n == 1 then Some Lower else (if n == 2 then Some Upper else None)

-- the modifiers of a number; None where two bits name no case, or a bit above 5 is set
abbrev pub modifiers_numbered : ℕ → Option Modifiers
modifiers_numbered n =
    if nat_lt n 64 && nat_lt (n % 4) 3 && nat_lt (n / 4 % 4) 3
    then Some (record { letters = case_numbered (n % 4); first = case_numbered (n / 4 % 4); quote_wildcard = n / 16 % 2 == 1; length = n / 32 % 2 == 1 })
    else None
