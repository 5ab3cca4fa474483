-- Tables of words, and words that are one letter off.
use Rattle.std.specs.Prelude.{ℕ, ◌+◌, Bool, not, ◌&&◌, ◌||◌, if◌then◌else◌, List, [], ◌∷◌, length, take, drop}
use Rattle.std.specs.List.{list_any, range_with_len}
use Rattle.octets.specs.Ascii.{is_word}

-- ---- tables

-- names, and the words for each of them
pub record Hint : Type 0 where
  pub names : List (List ℕ)
  pub words : List ℕ

abbrev pub hint : List (List ℕ) → List ℕ → Hint
hint names words = record { names = names; words = words }

-- the words of the first row that has the name, or none
abbrev pub words_for : List ℕ → List Hint → List ℕ
words_for name [] = []
words_for name (row ∷ rows) = if list_any (is_word name) row.names then row.words else words_for name rows

-- one text where there are words, and another where there are none
abbrev pub with_words : List ℕ → List ℕ → List ℕ → List ℕ
with_words [] some none = none
with_words (c ∷ words) some none = some

-- ---- words that are near

-- the first two octets are swapped, and all else is the same
abbrev pub begin_swapped : List ℕ → List ℕ → Bool
begin_swapped a b = is_word (take 1 a) (take 1 (drop 1 b)) && is_word (take 1 (drop 1 a)) (take 1 b)
    && is_word (drop 2 a) (drop 2 b)

-- the first octet is another one, is missing, is one too many, or is swapped with the next, and all else is the same
unfoldable pub begin_off : List ℕ → List ℕ → Bool
begin_off a b = is_word (drop 1 a) (drop 1 b) || is_word a (drop 1 b) || is_word (drop 1 a) b || begin_swapped a b

-- it is so at the place, before which both are the same
unfoldable pub differ_at : List ℕ → List ℕ → ℕ → Bool
differ_at a b place = is_word (take place a) (take place b) && begin_off (drop place a) (drop place b)

-- the name is the word but for one letter, or but for the case of ASCII letters
unfoldable pub is_near : List ℕ → List ℕ → Bool
is_near name word = list_any (differ_at name word) (range_with_len 0 (length word + 1))

-- the first of the words that is near and isn't a word that was found before, or nothing
abbrev pub nearest_but : List ℕ → List ℕ → List (List ℕ) → List ℕ
nearest_but name found [] = []
nearest_but name found (word ∷ words) =
    if is_near name word && not (is_word word found) then word else nearest_but name found words

-- the first of the words that is near, or nothing
abbrev pub nearest : List ℕ → List (List ℕ) → List ℕ
nearest name words = nearest_but name [] words
