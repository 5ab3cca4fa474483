-- What is known of each tag, one row each.
use Rattle.std.specs.Prelude.{ℕ, Bool, true, false, List, [], ◌∷◌, codes}
use Rattle.glob_match.specs.declared.match_type.MatchType.{MatchType}
use Rattle.glob_match.specs.declared.match_type.MatchType.TheVariants.{Is, Contains, Matches}
use Rattle.bytecode_format.specs.declared.modifiers.Case.{Case}
use Rattle.bytecode_format.specs.declared.modifiers.Case.TheVariants.{Lower, Upper}
use Rattle.bytecode_format.specs.declared.selection.Selector.{Selector}
use Rattle.bytecode_format.specs.declared.selection.Selector.TheVariants.{Value, Main, Sub, ContentType, Param}
use Rattle.bytecode_format.specs.declared.question.Order.{Order as Ordering}
use Rattle.bytecode_format.specs.declared.question.Order.TheVariants.{Over, Under}
use Rattle.sieve_check.specs.declared.names.Tag.{Tag}
use Rattle.sieve_check.specs.declared.names.Tag.TheVariants.{Order, Kind, Comparator, Letters, FirstLetter, QuoteWildcard, Length, Mime, AnyChild, Select, Name, First}
use Rattle.sieve_check.specs.declared.tag_table.Family.{Family}
use Rattle.sieve_check.specs.declared.tag_table.Family.TheVariants as family

pub record TagRow : Type 0 where
  -- what it is called, without its colon and in lower case
  pub word : List ℕ
  -- what takes it takes all of its family, each in its turn
  pub family : Family
  -- an argument of its own stands behind it
  pub waits : Bool

abbrev pub order_word : Ordering → List ℕ
order_word Over = codes "over"
order_word Under = codes "under"

abbrev pub kind_word : MatchType → List ℕ
kind_word Is = codes "is"
kind_word Contains = codes "contains"
kind_word Matches = codes "matches"

abbrev pub letters_word : Case → List ℕ
letters_word Lower = codes "lower"
letters_word Upper = codes "upper"

abbrev pub first_letter_word : Case → List ℕ
first_letter_word Lower = codes "lowerfirst"
first_letter_word Upper = codes "upperfirst"

-- the value is taken where no tag says otherwise: it has none
abbrev pub selector_word : Selector → List ℕ
selector_word Value = []
selector_word Main = codes "type"
selector_word Sub = codes "subtype"
selector_word ContentType = codes "contenttype"
selector_word Param = codes "param"

abbrev pub selector_waits : Selector → Bool
selector_waits Value = false
selector_waits Main = false
selector_waits Sub = false
selector_waits ContentType = false
selector_waits Param = true

abbrev pub tag_row : Tag → TagRow
-- RFC 5228, sections 2.7 and 5.9
tag_row (Order order) = record { word = order_word order; family = family.Ordering; waits = false }
tag_row (Kind kind) = record { word = kind_word kind; family = family.Matching; waits = false }
tag_row Comparator = record { word = codes "comparator"; family = family.Matching; waits = true }
-- RFC 5229, section 4.1
tag_row (Letters case) = record { word = letters_word case; family = family.Modifying; waits = false }
tag_row (FirstLetter case) = record { word = first_letter_word case; family = family.Modifying; waits = false }
tag_row QuoteWildcard = record { word = codes "quotewildcard"; family = family.Modifying; waits = false }
tag_row Length = record { word = codes "length"; family = family.Modifying; waits = false }
-- RFC 5703, sections 3 and 4.1
tag_row Mime = record { word = codes "mime"; family = family.Scoping; waits = false }
tag_row AnyChild = record { word = codes "anychild"; family = family.Scoping; waits = false }
tag_row (Select selector) = record { word = selector_word selector; family = family.Selecting; waits = selector_waits selector }
tag_row Name = record { word = codes "name"; family = family.Naming; waits = true }
-- of our own
tag_row First = record { word = codes "first"; family = family.Limiting; waits = true }

-- those that can be written
abbrev pub all_tags : List Tag
all_tags =
    Order Over ∷ Order Under ∷ Kind Is ∷ Kind Contains ∷ Kind Matches ∷ Comparator ∷ Letters Lower ∷ Letters Upper ∷ FirstLetter Lower
    ∷ FirstLetter Upper ∷ QuoteWildcard ∷ Length ∷ Mime ∷ AnyChild ∷ Select Main ∷ Select Sub ∷ Select ContentType ∷ Select Param ∷ Name
    ∷ First ∷ []

abbrev pub tag_word : Tag → List ℕ
tag_word tag = (tag_row tag).word
