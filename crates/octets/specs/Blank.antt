-- SP and TAB around a text.
use Rattle.std.specs.Prelude.{ℕ, Bool, List, [], ◌∷◌, ◌||◌, ◌==◌, cond, reverse}

-- SP or TAB
abbrev pub is_blank : ℕ → Bool
is_blank octet = (octet == 32) || (octet == 9)

-- the text without the blanks that it begins with
abbrev pub without_leading_blanks : List ℕ → List ℕ
without_leading_blanks [] = []
without_leading_blanks (x ∷ xs) = cond (is_blank x) (without_leading_blanks xs) (x ∷ xs)

-- the text without the blanks that it ends with
abbrev pub without_trailing_blanks : List ℕ → List ℕ
without_trailing_blanks text = reverse (without_leading_blanks (reverse text))

-- the text without outer blanks
abbrev pub without_outer_blanks : List ℕ → List ℕ
without_outer_blanks text = without_trailing_blanks (without_leading_blanks text)
