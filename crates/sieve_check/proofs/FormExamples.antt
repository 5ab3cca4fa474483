-- Forms that were worked out by hand.
use Rattle.std.proofs.Common.{◌≡◌, true, false, List, [], ◌∷◌, Some, None, refl}
use Rattle.std.specs.Prelude.{codes}
use Rattle.bytecode_format.specs.declared.modifiers.Case.TheVariants.{Lower, Upper}
use Rattle.glob_match.specs.declared.comparator.Comparator.TheVariants.{Octet, Casemap}
use Rattle.glob_match.specs.declared.match_type.Match.{Match}
use Rattle.glob_match.specs.declared.match_type.MatchType.{MatchType}
use Rattle.glob_match.specs.declared.match_type.MatchType.TheVariants.{Is, Contains, Matches}
use Rattle.bytecode_format.specs.declared.question.Order.TheVariants.{Over}
use Rattle.bytecode_format.specs.declared.question.Question.TheVariants as question
use Rattle.bytecode_format.specs.declared.question.Question.TheVariants.{Constant, Header, Exists, Size}
use Rattle.sieve_parser.specs.Tree.{ArgumentTree, amount, InvocationTree, CommandsTree, no_command}
use Rattle.sieve_check.specs.declared.table.CommandName.TheVariants.{Set}
use Rattle.sieve_check.specs.declared.table.TestName.TheVariants as test
use Rattle.bytecode_format.specs.declared.selection.FieldTest.{FieldTest}
use Rattle.bytecode_format.specs.declared.selection.Scope.{Scope}
use Rattle.bytecode_format.specs.declared.selection.Selector.{Selector}
use Rattle.bytecode_format.specs.declared.selection.Selector.TheVariants.{Value, Main, Sub, ContentType, Param}
use Rattle.sieve_check.specs.declared.typed.Act.TheVariants as act
use Rattle.sieve_check.specs.declared.typed.Act.TheVariants.{Keep, FileInto, Stop}
use Rattle.bytecode_format.specs.declared.selection.Scope.TheVariants.{Message, Part, PartAndBelow}
use Rattle.sieve_check.specs.declared.typed.Segment.TheVariants.{Text, Variable, Capture}
use Rattle.sieve_check.specs.FormOf.{IsFormOf, form_of, template_of, test_form_of}
use Rattle.sieve_check.specs.Rows.{test_row}
use Rattle.sieve_check.specs.Rules.{names_by}
use Rattle.sieve_check.specs.Arguments.{reading}
use Rattle.sieve_check.specs.Signatures.{no_tag, command_signature}
use Rattle.sieve_check.specs.Surroundings.{Context, at_start, in_block}
use Rattle.sieve_check.specs.Typed.{Template, Strings, TestForm, asks, CommandForms, does, choice, otherwise, branch}
use Rattle.sieve_check.specs.Typed as typed
use Rattle.sieve_check.specs.Variables.{commands_variables}
use Prim.Native.String.{String}
use Rattle.sieve_check.proofs.Rows.{Gives, str, strs, tag, plain_at, simple_at, last_at, block_at, if_at, read_as, as_written, alone}

-- how is compared without `:comparator`
abbrev caseless : MatchType → Match
caseless kind = record { kind = kind; comparator = Casemap }

abbrev octetwise : Match
octetwise = record { kind = Contains; comparator = Octet }

abbrev fields : Match → Scope → Selector → FieldTest
fields how scope selector = record { how = how; scope = scope; selector = selector }

-- the strings of tests
abbrev no_strings : Strings
no_strings = record { names = []; params = []; keys = [] }

abbrev names_with_keys : List Template → List Template → Strings
names_with_keys names keys = record { names = names; params = []; keys = keys }

abbrev with_params : List Template → List Template → List Template → Strings
with_params names params keys = record { names = names; params = params; keys = keys }

-- a reference to a variable
abbrev value_of : String → Template
value_of name = Variable (codes name) ∷ []

-- ---- commands

forms_of_commands : Gives form_of (
    -- require "fileinto"; fileinto "x";
    (simple_at 0 "require" (str "fileinto" ∷ []) (last_at 3 "fileinto" (str "x" ∷ [])), Some (alone (does FileInto (as_written "x") 3))) ∷
    -- require "mime"; if true {} else { keep; } stop;
    (
      simple_at 0 "require" (str "mime" ∷ []) (if_at 3 "if" (plain_at 4 "true" []) no_command (block_at 7 "else" [] (last_at 9 "keep" []) (last_at 12 "stop" []))),
      Some (typed.command (choice (branch (asks (Constant true) no_strings 4) typed.no_command 3 (otherwise (alone (does Keep [] 9))))) (alone (does Stop [] 12))),
    ) ∷
    -- keep; else {}
    (simple_at 0 "keep" [] (block_at 2 "else" [] no_command no_command), None) ∷ [])
forms_of_commands = refl

-- ---- tests

-- header :mime :param ["a", "b"] :anychild "X" "y"
abbrev mime_header : InvocationTree
mime_header = plain_at 4 "header" (tag "mime" ∷ tag "param" ∷ strs "a" ("b" ∷ []) ∷ tag "AnyChild" ∷ str "X" ∷ str "y" ∷ [])

-- header with one more tag behind :mime
abbrev selecting_header : String → InvocationTree
selecting_header name = plain_at 4 "header" (tag name ∷ tag "mime" ∷ str "X" ∷ str "y" ∷ [])

abbrev selecting_form : Selector → TestForm
selecting_form selector = asks (Header (fields (caseless Is) Part selector)) (names_with_keys (as_written "X" ∷ []) (as_written "y" ∷ [])) 4

forms_of_tests : Gives (test_form_of at_start.required) (
    -- size :over 10
    (plain_at 0 "size" (tag "over" ∷ amount 10 ∷ []), Some (asks (Size Over 10) no_strings 0)) ∷
    -- header "a" ["b", "c"]
    (
      plain_at 1 "header" (str "a" ∷ strs "b" ("c" ∷ []) ∷ []),
      Some (asks (Header (fields (caseless Is) Message Value)) (names_with_keys (as_written "a" ∷ []) (as_written "b" ∷ as_written "c" ∷ [])) 1),
    ) ∷
    -- header :Comparator "i;octet" :contains ["a"] "b", and with its tags the other way round
    (
      plain_at 1 "header" (tag "Comparator" ∷ str "i;octet" ∷ tag "contains" ∷ strs "a" [] ∷ str "b" ∷ []),
      Some (asks (Header (fields octetwise Message Value)) (names_with_keys (as_written "a" ∷ []) (as_written "b" ∷ [])) 1),
    ) ∷
    -- turned header
    (
      plain_at 1 "header" (tag "contains" ∷ tag "comparator" ∷ str "i;octet" ∷ str "a" ∷ str "b" ∷ []),
      Some (asks (Header (fields octetwise Message Value)) (names_with_keys (as_written "a" ∷ []) (as_written "b" ∷ [])) 1),
    ) ∷
    -- exists ["a", "b"]
    (plain_at 1 "exists" (strs "a" ("b" ∷ []) ∷ []), Some (asks (Exists Message) (names_with_keys (as_written "a" ∷ as_written "b" ∷ []) []) 1)) ∷
    -- params form
    (
      mime_header,
      Some (asks (Header (fields (caseless Is) PartAndBelow Param)) (with_params (as_written "X" ∷ []) (as_written "a" ∷ as_written "b" ∷ []) (as_written "y" ∷ [])) 4),
    ) ∷
    (selecting_header "type", Some (selecting_form Main)) ∷  -- type form
    (selecting_header "subtype", Some (selecting_form Sub)) ∷  -- subtype form
    (selecting_header "contenttype", Some (selecting_form ContentType)) ∷  -- content type form
    (selecting_header "is", Some (selecting_form Value)) ∷  -- plain mime form
    -- exists :mime :anychild "X"
    (plain_at 1 "exists" (tag "mime" ∷ tag "anychild" ∷ str "X" ∷ []), Some (asks (Exists PartAndBelow) (names_with_keys (as_written "X" ∷ []) []) 1)) ∷ [])
forms_of_tests = refl

-- ---- strings with references

-- after require "variables";
abbrev with_variables : Context
with_variables = record at_start { required = record at_start.required { variables = true } }

-- names of headers, keys and folders are expanded, also in blocks
inside_too : template_of (in_block [] with_variables).required (codes "${1}") ≡ Capture 1 ∷ []
inside_too = refl

-- names of parameters are expanded, and come between those of fields and the keys
abbrev expanded_params : List ArgumentTree
expanded_params = tag "mime" ∷ tag "param" ∷ str "${b}" ∷ str "${a}" ∷ str "${C}" ∷ []

names_between : names_by with_variables.required expanded_params (Some (test_row test.Header)) ≡ codes "a" ∷ codes "b" ∷ codes "c" ∷ []
names_between = refl

strings_as_written : Gives (template_of at_start.required) (
    -- where they weren't required, a string is as it is written, also one without octets
    (codes "a${b}", Text (codes "a${b}") ∷ []) ∷
    ([], Text [] ∷ []) ∷ [])  -- empty as written
strings_as_written = refl

strings_expanded : Gives (template_of with_variables.required) (
    -- names are in lower case; what is no reference stays in its stretch
    (codes "A${B_9}${07}${}C", Text (codes "A") ∷ Variable (codes "b_9") ∷ Capture 7 ∷ Text (codes "${}C") ∷ []) ∷
    ([], []) ∷ [])  -- empty expanded
strings_expanded = refl

forms_of_expanded_tests : Gives (test_form_of with_variables.required) (
    -- string :matches ["${a}", "b"] "*"
    (
      plain_at 1 "string" (tag "matches" ∷ strs "${a}" ("b" ∷ []) ∷ str "*" ∷ []),
      Some (asks (question.String (caseless Matches)) (names_with_keys (value_of "a" ∷ as_written "b" ∷ []) (as_written "*" ∷ [])) 1),
    ) ∷
    -- expanded exists
    (plain_at 1 "exists" (str "x-${a}" ∷ []), Some (asks (Exists Message) (names_with_keys ((Text (codes "x-") ∷ Variable (codes "a") ∷ []) ∷ []) []) 1)) ∷
    -- params between
    (
      plain_at 1 "header" expanded_params,
      Some (asks (Header (fields (caseless Is) Part Param)) (with_params (value_of "a" ∷ []) (value_of "b" ∷ []) (value_of "c" ∷ [])) 1),
    ) ∷ [])
forms_of_expanded_tests = refl

-- ---- set

-- require "variables"; set :UpperFirst :lower "Name" "${0} ${other}";
abbrev setting : CommandsTree
setting =
    simple_at 0 "require" (str "variables" ∷ [])
    (last_at 3 "set" (tag "UpperFirst" ∷ tag "lower" ∷ str "Name" ∷ str "${0} ${other}" ∷ []))

abbrev set_form : CommandForms
set_form = alone (does (act.Set (record { letters = Some Lower; first = Some Upper; quote_wildcard = false; length = false }) (codes "name"))
    (Capture 0 ∷ Text (codes " ") ∷ Variable (codes "other") ∷ []) 3)

-- the variables of the value come before the one that is set
in_order : commands_variables set_form ≡ codes "other" ∷ codes "name" ∷ []
in_order = refl

abbrev two_texts : List ArgumentTree
two_texts = str "a" ∷ str "b" ∷ []

one_set : IsFormOf setting set_form
one_set = refl

readings_of_set : Gives (reading (command_signature Set)) (
    (two_texts, read_as no_tag two_texts) ∷  -- no modifier
    -- of each precedence at most one, in any order
    (
      tag "length" ∷ tag "quotewildcard" ∷ tag "lowerfirst" ∷ tag "upper" ∷ two_texts,
      read_as (record no_tag { modifiers = record { letters = Some Upper; first = Some Lower; quote_wildcard = true; length = true } }) two_texts,
    ) ∷
    (tag "lower" ∷ tag "upper" ∷ two_texts, None) ∷  -- two cases
    (tag "upperfirst" ∷ tag "upperfirst" ∷ two_texts, None) ∷  -- two first cases
    (tag "length" ∷ tag "length" ∷ two_texts, None) ∷  -- length twice
    (tag "quotewildcard" ∷ tag "quotewildcard" ∷ two_texts, None) ∷  -- quoted twice
    -- a modifier between, one string, three, a list, and a tag of tests
    (str "a" ∷ tag "lower" ∷ str "b" ∷ [], None) ∷
    (str "a" ∷ [], None) ∷  -- one text
    (str "c" ∷ two_texts, None) ∷  -- three texts
    (str "a" ∷ strs "b" [] ∷ [], None) ∷  -- bracketed value
    (tag "is" ∷ two_texts, None) ∷ [])  -- kind of set
readings_of_set = refl
