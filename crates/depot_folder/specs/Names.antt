-- The names of the volumes of a depot in a folder.
use Rattle.std.specs.Prelude.{◌≡◌, ◌++◌, ℕ, List, length, codes}
use Rattle.std.specs.Str.Parse.{AllDigits, digits_value}

-- the name of the volume with this number: eight decimal digits, which write the number, and `.depot`
pub record IsVolumeName (number : ℕ) (name : List ℕ) : Type 0 where
  pub digits : List ℕ
  pub is : name ≡ digits ++ codes ".depot"
  pub eight : length digits ≡ 8
  pub decimal : AllDigits 10 digits
  pub writes : digits_value 10 digits ≡ number

-- and no other name is
abbrev pub IsOnlyNameOf : ℕ → List ℕ → Type 0
IsOnlyNameOf number name = IsVolumeName number name × ((other : List ℕ) → IsVolumeName number other → other ≡ name)

-- the path of that name in a folder
abbrev pub IsVolumePath : List ℕ → ℕ → List ℕ → Type 0
IsVolumePath folder number path = (name : List ℕ) × IsVolumeName number name × (path ≡ folder ++ codes "/" ++ name)
