-- Which arguments each command has, and what the text of each has to be.
use Rattle.std.specs.Prelude.{◌≡◌, ◌⊎◌, ◌≤◌, ℕ, List, [], ◌∷◌, Some, IfSome, ⊤}
use Rattle.std.specs.Str.Parse.{IsNumeral, digits_value, without_leading_plus}
use Rattle.clap.specs.Words.{Row, Text, first_of}
use Rattle.octets.specs.Limits.{max_entry_number}
use Rattle.depot_words.specs.Commands.{Arguments, Range, any_text, encoding_name, encoding_names, entry_number, number_from, optional}

-- the text is the number of an entry: decimal digits, perhaps after a plus sign, of 1 to the most
abbrev pub IsEntryNumber : Text → Type 0
IsEntryNumber text =
    IsNumeral 10 (without_leading_plus text) × (1 ≤ digits_value 10 (without_leading_plus text))
    × (digits_value 10 (without_leading_plus text) ≤ max_entry_number)

-- the text is a number from the least to the most, in decimal digits, perhaps after a plus sign
abbrev pub IsNumberFrom : ℕ → ℕ → Text → Type 0
IsNumberFrom least most text =
    IsNumeral 10 (without_leading_plus text) × (least ≤ digits_value 10 (without_leading_plus text))
    × (digits_value 10 (without_leading_plus text) ≤ most)

abbrev pub IsOneOf : Text → List Text → Type 0
IsOneOf text [] = ⊥
IsOneOf text (name ∷ names) = (text ≡ name) ⊎ IsOneOf text names

-- the text is in the range
abbrev pub IsInRange : Range → Text → Type 0
IsInRange any_text text = ⊤
IsInRange entry_number text = IsEntryNumber text
IsInRange (number_from least most) text = IsNumberFrom least most text
IsInRange encoding_name text = IsOneOf text encoding_names
IsInRange (optional range) text = IsInRange range text

-- the matches have a text for the argument of this name, unless it can be left out, and it is in this range
abbrev pub HasArgument : List Row → Text → Range → Type 0
HasArgument rows name (optional range) = IfSome (first_of name rows) (IsInRange range)
HasArgument rows name range = (text : Text) × (first_of name rows ≡ Some text) × IsInRange range text

abbrev pub HasArguments : List Row → Arguments → Type 0
HasArguments rows [] = ⊤
HasArguments rows (argument ∷ more) = HasArgument rows argument.0 argument.1 × HasArguments rows more

-- the matches of a command of this name have the arguments that this list gives it, each in its range
abbrev pub AreComplete : List (Text × Arguments) → Text → List Row → Type 0
AreComplete [] name rows = ⊤
AreComplete (command ∷ others) name rows =
    (name ≡ command.0 → HasArguments rows command.1) × AreComplete others name rows
