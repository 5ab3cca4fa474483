-- Header fields, and the first of a name.
use Rattle.std.specs.Prelude.{ℕ, Bool, List, [], ◌∷◌, Option, Some, None, if◌then◌else◌}
use Rattle.octets.specs.Ascii.{is_word}

-- a header field: its name, its value without folds and outer blanks, and whether the value is folded, that is, stands on several lines
pub record Field : Type 0 where
  pub name : List ℕ
  pub value : List ℕ
  pub folded : Bool

-- the value of the first field of this name
abbrev pub first_value : List ℕ → List Field → Option (List ℕ)
first_value name [] = None
first_value name (field ∷ fields) = if is_word field.name name then Some field.value else first_value name fields
