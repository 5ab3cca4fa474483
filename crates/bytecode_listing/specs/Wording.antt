-- The words that say how a test compares, and what it looks at.
use Rattle.std.specs.Prelude.{ℕ, ◌/◌, ◌%◌, List, [], ◌∷◌, ◌++◌, Option, Some, None, slice_get, bytes_eq, codes}
use Rattle.std.specs.List.{position}
use Rattle.std.specs.Fmt.{decimal}
use Rattle.bytecode_format.specs.Selection.{keys_in, params_in}
use Rattle.bytecode_verifier.specs.declared.row.Range.{Range}
use Rattle.bytecode_verifier.specs.declared.row.Range.TheVariants as ranges
use Rattle.bytecode_listing.specs.declared.wording.Facet.{Facet}
use Rattle.bytecode_listing.specs.declared.wording.Facet.TheVariants.{Match, Comparator, Scope, Selector}

-- the words of a facet: the number of each is its place
abbrev pub words : Facet → List (List ℕ)
words Match = codes "is" ∷ codes "contains" ∷ codes "matches" ∷ []
words Comparator = codes "casemap" ∷ codes "octet" ∷ []
words Scope = codes "message" ∷ codes "part" ∷ codes "below" ∷ []
words Selector =
    codes "value" ∷ codes "type" ∷ codes "subtype" ∷ codes "contenttype" ∷ codes "param" ∷ []

-- the word of a number, if it has one
abbrev pub word_of : Facet → ℕ → Option (List ℕ)
word_of facet n = slice_get (words facet) n

-- the number of a word, if it is one of the facet's
abbrev pub number_of : Facet → List ℕ → Option ℕ
number_of facet word = position (λ listed. bytes_eq listed word) (words facet)

-- two words with a space between, where both are there
abbrev pub both : Option (List ℕ) → Option (List ℕ) → Option (List ℕ)
both None second = None
both (Some first) None = None
both (Some first) (Some second) = Some (first ++ codes " " ++ second)

-- a match number in words
abbrev pub match_words : ℕ → Option (List ℕ)
match_words a = both (word_of Match (a % 4)) (word_of Comparator (a / 4))

-- the scope and the selector of a selection in words
abbrev pub scope_words : ℕ → Option (List ℕ)
scope_words a = both (word_of Scope (a / 8 % 4)) (word_of Selector (a / 32))

-- a selection in words
abbrev pub selection_words : ℕ → Option (List ℕ)
selection_words a = both (match_words (a % 8)) (scope_words a)

-- the field a in words, where its numbers are those of ways to compare or of what is looked at
abbrev pub a_words : Range → ℕ → Option (List ℕ)
a_words ranges.FieldTest a = selection_words a
a_words ranges.Scope a = word_of Scope a
a_words ranges.Match a = match_words a
a_words _ a = None

-- the counts of HEADER: of parameters, and of keys
abbrev pub counts_words : ℕ → List ℕ
counts_words c = codes " c " ++ decimal (params_in c) ++ codes " params " ++ decimal (keys_in c) ++ codes " keys"

-- the field with its words
abbrev pub said_a : List ℕ → List ℕ
said_a words = codes "a " ++ words

-- what follows the words of a
abbrev pub after_a : Range → ℕ → List ℕ
after_a ranges.FieldTest c = counts_words c
after_a _ c = []
