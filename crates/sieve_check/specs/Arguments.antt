-- How a signature reads arguments, or why it can't.
use Rattle.std.specs.Prelude.{ℕ, Bool, true, false, not, ◌&&◌, nat_lt, if◌then◌else◌, List, [], ◌∷◌, length, Option, Some, None, is_some, option_map, Result, Ok, Err}
use Rattle.std.specs.Result.{result_err, result_ok}
use Rattle.std.specs.Option.{option_or}
use Rattle.sieve_parser.specs.Tree.{ArgumentTree, label}
use Rattle.bytecode_format.specs.declared.modifiers.Case.{Case}
use Rattle.bytecode_format.specs.declared.modifiers.Case.TheVariants.{Lower, Upper}
use Rattle.sieve_check.specs.declared.names.Tag.{Tag}
use Rattle.sieve_check.specs.declared.names.Tag.TheVariants.{Letters, FirstLetter, AnyChild, Select}
use Rattle.sieve_check.specs.declared.signature.Positional.{Positional}
use Rattle.sieve_check.specs.declared.signature.Positional.TheVariants.{Nothing, Number, Text, TwoTexts, OneList, TwoLists}
use Rattle.sieve_check.specs.declared.signature.Signature.{Signature}
use Rattle.sieve_check.specs.declared.signature.Tags.{Tags}
use Rattle.sieve_check.specs.Names.{tag_named}
use Rattle.sieve_check.specs.Signatures.{Given, Read, add_tag, asks_for_mime, awaited, is_positional, no_tag, nothing_given, takes_tag, with_argument}
use Rattle.sieve_check.specs.declared.causes.ReasonKind.{ReasonKind}
use Rattle.sieve_check.specs.declared.causes.ReasonKind.TheVariants.{UnknownTag, ForeignTag, RepeatedTag, TwoModifiers, TagArgument, MissingOrder, MissingMime, LateTag, MissingArgument, ExtraArgument, WrongArgument}
use Rattle.sieve_check.specs.Causes.{Cause, about, plain}

-- a case was given, and it is the other one
abbrev pub is_other_case : Option Case → Case → Bool
is_other_case None case = false
is_other_case (Some Lower) Lower = false
is_other_case (Some Lower) Upper = true
is_other_case (Some Upper) Lower = true
is_other_case (Some Upper) Upper = false

-- a modifier after a different one of the same precedence
abbrev pub is_second_modifier : Tag → Tags → Bool
is_second_modifier (Letters case) tags = is_other_case tags.modifiers.letters case
is_second_modifier (FirstLetter case) tags = is_other_case tags.modifiers.first case
is_second_modifier _ tags = false

-- what is wrong with a tag that can't be added to those that were given
abbrev pub untaken_kind : Signature → Tag → Tags → ReasonKind
untaken_kind signature tag tags =
    if not (takes_tag signature tag no_tag) then ForeignTag
    else if is_second_modifier tag tags then TwoModifiers
    else RepeatedTag

-- the name of the first of the arguments that is a tag
abbrev pub first_label : List ArgumentTree → Option (List ℕ)
first_label [] = None
first_label (label name ∷ args) = Some name
first_label (_ ∷ args) = first_label args

-- a tag that stands only with `:mime`
abbrev pub needs_mime : Option Tag → Bool
needs_mime (Some AnyChild) = true
needs_mime (Some (Select selector)) = true
needs_mime _ = false

-- the name of the first of the arguments that is such a tag
abbrev pub label_needing_mime : List ArgumentTree → List ℕ
label_needing_mime [] = []
label_needing_mime (label name ∷ args) = if needs_mime (tag_named name) then name else label_needing_mime args
label_needing_mime (_ ∷ args) = label_needing_mime args

-- how many arguments stand behind the tags
abbrev pub number_of : Positional → ℕ
number_of Nothing = 0
number_of Number = 1
number_of Text = 1
number_of TwoTexts = 2
number_of OneList = 1
number_of TwoLists = 2

-- what is wrong with the arguments behind the tags: a tag is among them, they are too few, too many, or others
abbrev pub positional_cause : Positional → List ArgumentTree → Option Cause
positional_cause positional args =
    option_or (option_map (about LateTag) (first_label args)) (
    if nat_lt (length args) (number_of positional) then Some (plain (MissingArgument positional))
    else if nat_lt (number_of positional) (length args) then Some (plain (ExtraArgument positional))
    else if not (is_positional positional args) then Some (plain (WrongArgument positional))
    else None)

-- what is wrong with tags, of which each is taken: none of a group stands that has to, or one without what it needs
abbrev pub missing_cause : Signature → Tags → List ArgumentTree → Option Cause
missing_cause signature tags args =
    if signature.order && not (is_some tags.order) then Some (plain MissingOrder)
    else if asks_for_mime tags && not tags.mime then Some (about MissingMime (label_needing_mime args))
    else None

-- a tag that awaits its argument, with its name as it is written
pub record Awaiting : Type 0 where
  pub tag : Tag
  pub name : List ℕ

abbrev pub named_so : List ℕ → Tag → Awaiting
named_so name tag = record { tag = tag; name = name }

-- the tag of that name, if it takes an argument
abbrev pub awaiting : List ℕ → Tag → Option Awaiting
awaiting name tag = option_map (named_so name) (awaited tag)

-- what follows a value that has to be there; the cause, where it isn't there
abbrev pub expected : {A B : Type 0} → Option A → Cause → (A → Result B Cause) → Result B Cause
expected None cause next = Err cause
expected (Some x) cause next = next x

-- a value with which nothing is wrong, or what is wrong with it
abbrev pub sound : {A : Type 0} → Option Cause → A → Result A Cause
sound None x = Ok x
sound (Some cause) x = Err cause

-- after these tags of all the arguments, of which the last may await its argument: those that are
-- still to come, and the arguments behind them
abbrev pub rest_read : Signature → List ArgumentTree → Given → Option Awaiting → List ArgumentTree → Result Read Cause
rest_read signature all given None (label name ∷ args) =
    expected (tag_named name) (about UnknownTag name) (λ tag.
    expected (add_tag signature tag given) (about (untaken_kind signature tag given.tags) name) (λ more.
    rest_read signature all more (awaiting name tag) args))
rest_read signature all given None args =
    sound (option_or (positional_cause signature.positional args) (missing_cause signature given.tags all))
    (record { tags = given.tags; params = given.params; name = given.name; positional = args })
rest_read signature all given (Some last) (a ∷ args) =
    expected (with_argument last.tag a given) (about (TagArgument last.tag) last.name)
    (λ more. rest_read signature all more None args)
rest_read signature all given (Some last) [] = Err (about (TagArgument last.tag) last.name)

-- the arguments, read by a signature: tags in any order, then the others; or what is wrong with them
abbrev pub arguments_read : Signature → List ArgumentTree → Result Read Cause
arguments_read signature args = rest_read signature args nothing_given None args

abbrev pub reading : Signature → List ArgumentTree → Option Read
reading signature args = result_ok (arguments_read signature args)

abbrev pub arguments_cause : Signature → List ArgumentTree → Option Cause
arguments_cause signature args = result_err (arguments_read signature args)
