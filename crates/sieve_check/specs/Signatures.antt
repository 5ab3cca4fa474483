-- What commands and tests take (RFC 5228, section 2.6; RFC 5229, section 4; RFC 5703, sections 3
-- and 4).
use Rattle.std.specs.Prelude.{ℕ, Bool, true, false, not, ◌&&◌, ◌||◌, ◌==◌, if◌then◌else◌, List, [], ◌∷◌, Option, Some, None, is_some, option_map}
use Rattle.sieve_parser.specs.Tree.{ArgumentTree, text, text_list, amount}
use Rattle.bytecode_format.specs.Modifiers.{no_modifiers}
use Rattle.sieve_check.specs.declared.table.CommandName.{CommandName}
use Rattle.sieve_check.specs.declared.table.TestName.{TestName}
use Rattle.sieve_check.specs.declared.names.Tag.{Tag}
use Rattle.sieve_check.specs.declared.names.Tag.TheVariants.{Order, Kind, Comparator, Letters, FirstLetter, QuoteWildcard, Length, Mime, AnyChild, Select, Name, First}
use Rattle.bytecode_format.specs.declared.selection.Selector.{Selector}
use Rattle.bytecode_format.specs.declared.selection.Selector.TheVariants.{Value, Param}
use Rattle.sieve_check.specs.declared.signature.Positional.{Positional}
use Rattle.sieve_check.specs.declared.signature.Positional.TheVariants as positional
use Rattle.sieve_check.specs.declared.signature.Signature.{Signature}
use Rattle.sieve_check.specs.declared.signature.Tags.{Tags}
use Rattle.sieve_check.specs.Names.{comparator_named}
use Rattle.sieve_check.specs.Rows.{command_row, test_row}
use Rattle.sieve_check.specs.TagRows.{tag_row}
use Rattle.sieve_check.specs.declared.tag_table.Family.{Family}
use Rattle.sieve_check.specs.declared.tag_table.Family.TheVariants.{Ordering, Matching, Modifying, Scoping, Selecting, Naming, Limiting}

infixl 10 ◌>>=◌
abbrev pub ◌>>=◌ : {A B : Type 0} → Option A → (A → Option B) → Option B
(Some x) >>= f = f x
None >>= f = None

-- what each command and test takes
abbrev pub command_signature : CommandName → Signature
command_signature name = (command_row name).signature

abbrev pub test_signature : TestName → Signature
test_signature name = (test_row name).signature

-- arguments that were read: the tags, one of each group at most, the argument of `:param` and that
-- of `:name`, if they stand there, and those behind the tags
pub record Read : Type 0 where
  pub tags : Tags
  pub params : List ArgumentTree
  pub name : Option (List ℕ)
  pub positional : List ArgumentTree

abbrev pub no_tag : Tags
no_tag = record { order = None; kind = None; comparator = None; modifiers = no_modifiers; mime = false; any_child = false; selector = Value; named = false; first = None }

-- what was read of the tags
pub record Given : Type 0 where
  pub tags : Tags
  pub params : List ArgumentTree
  pub name : Option (List ℕ)

abbrev pub nothing_given : Given
nothing_given = record { tags = no_tag; params = []; name = None }

-- a tag says what is taken of a field
abbrev pub selects : Selector → Bool
selects Value = false
selects _ = true

-- tags of the family are taken
abbrev pub offers : Signature → Family → Bool
offers signature Ordering = signature.order
offers signature Matching = signature.matching
offers signature Modifying = signature.modifying
offers signature Scoping = signature.scoped
offers signature Selecting = signature.selecting
offers signature Naming = signature.naming
offers signature Limiting = signature.limiting

-- the tag was given, or another of its group
abbrev pub is_given : Tag → Tags → Bool
is_given (Order order) tags = is_some tags.order
is_given (Kind kind) tags = is_some tags.kind
is_given Comparator tags = is_some tags.comparator
is_given (Letters case) tags = is_some tags.modifiers.letters
is_given (FirstLetter case) tags = is_some tags.modifiers.first
is_given QuoteWildcard tags = tags.modifiers.quote_wildcard
is_given Length tags = tags.modifiers.length
is_given Mime tags = tags.mime
is_given AnyChild tags = tags.any_child
is_given (Select selector) tags = selects tags.selector
is_given Name tags = tags.named
is_given First tags = is_some tags.first

-- the signature takes the tag, and none of its group was given
abbrev pub takes_tag : Signature → Tag → Tags → Bool
takes_tag signature tag tags = offers signature (tag_row tag).family && not (is_given tag tags)

-- with one more tag; what one with an argument says comes with that
abbrev pub with_tag : Tag → Tags → Tags
with_tag (Order order) tags = record tags { order = Some order }
with_tag (Kind kind) tags = record tags { kind = Some kind }
with_tag Comparator tags = tags
with_tag (Letters case) tags = record tags { modifiers = record tags.modifiers { letters = Some case } }
with_tag (FirstLetter case) tags = record tags { modifiers = record tags.modifiers { first = Some case } }
with_tag QuoteWildcard tags = record tags { modifiers = record tags.modifiers { quote_wildcard = true } }
with_tag Length tags = record tags { modifiers = record tags.modifiers { length = true } }
with_tag Mime tags = record tags { mime = true }
with_tag AnyChild tags = record tags { any_child = true }
with_tag (Select selector) tags = record tags { selector = selector }
with_tag Name tags = record tags { named = true }
with_tag First tags = tags

abbrev pub tags_with : Signature → Tag → Tags → Option Tags
tags_with signature tag tags = if takes_tag signature tag tags then Some (with_tag tag tags) else None

abbrev pub add_tag : Signature → Tag → Given → Option Given
add_tag signature tag given = option_map (λ tags. record given { tags = tags }) (tags_with signature tag given.tags)

-- the tag, if it takes an argument
abbrev pub awaited : Tag → Option Tag
awaited tag = if (tag_row tag).waits then Some tag else None

-- one string, or one list of strings in square brackets
abbrev pub is_list : ArgumentTree → Bool
is_list (text s) = true
is_list (text_list s ss) = true
is_list _ = false

-- a tag's argument: of a comparator one string, its name; of `:param` a list; of `:name` one
-- string, which is taken as it is written; of `:first` a number, which isn't zero
abbrev pub with_argument : Tag → ArgumentTree → Given → Option Given
with_argument Comparator (text s) given = option_map (λ comparator. record given { tags = record given.tags { comparator = Some comparator } }) (comparator_named s)
with_argument (Select Param) a given = if is_list a then Some (record given { params = a ∷ [] }) else None
with_argument Name (text s) given = Some (record given { name = Some s })
with_argument First (amount n) given = if n == 0 then None else Some (record given { tags = record given.tags { first = Some n } })
with_argument _ _ given = None

-- the arguments are those that have to stand behind the tags
abbrev pub is_positional : Positional → List ArgumentTree → Bool
is_positional positional.Nothing [] = true
is_positional positional.Number (amount n ∷ []) = true
is_positional positional.Text (text s ∷ []) = true
is_positional positional.TwoTexts (text s ∷ text t ∷ []) = true
is_positional positional.OneList (a ∷ []) = is_list a
is_positional positional.TwoLists (a ∷ b ∷ []) = is_list a && is_list b
is_positional _ _ = false

-- tags that stand only with `:mime`
abbrev pub asks_for_mime : Tags → Bool
asks_for_mime tags = tags.any_child || selects tags.selector
