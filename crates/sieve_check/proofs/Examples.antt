-- Rows that were worked out by hand.
use Rattle.std.proofs.Common.{◌≡◌, ℕ, zero, suc, ◌+◌, List, [], ◌∷◌, Some, None, refl}
use Rattle.std.specs.Prelude.{codes, map}
use Rattle.bytecode_format.specs.declared.question.Order.TheVariants.{Over}
use Rattle.sieve_parser.specs.Tree.{ArgumentTree, text_list, amount, InvocationTree, invocation, test_list, last, next, CommandsTree, no_command}
use Rattle.sieve_check.specs.declared.error.CheckError.TheVariants.{MissingCapability, UnknownCapability, BadArguments, Limit}
use Rattle.sieve_check.specs.declared.causes.ReasonKind.TheVariants as kind
use Rattle.sieve_check.specs.declared.names.Capability.TheVariants.{Mime, FileInto, Depot}
use Rattle.sieve_check.specs.declared.table.TestName.TheVariants.{Header, Exists, Size}
use Rattle.sieve_check.specs.Causes.{plain, refusal_for}
use Rattle.sieve_check.specs.Rules.{Visit, refused_among, fault_of, after_invocation}
use Rattle.sieve_check.specs.Arguments.{reading}
use Rattle.sieve_check.specs.Signatures.{no_tag, test_signature}
use Rattle.sieve_check.specs.Surroundings.{Context, at_start, first_lacking}
use Prim.Native.String.{String}
use Rattle.sieve_check.proofs.Rows.{Gives, str, strs, tag, plain_at, simple_at, last_at, block_at, if_at, read_as}

abbrev keep_at : ℕ → CommandsTree → CommandsTree
keep_at n others = simple_at n "keep" [] others

abbrev true_at : ℕ → InvocationTree
true_at n = plain_at n "true" []

-- what was required is there afterwards, and nothing else
required : first_lacking (Mime ∷ []) (after_invocation at_start (plain_at 0 "require" (strs "fileinto" ("mime" ∷ []) ∷ []))).required ≡ None
required = refl

not_all_required : first_lacking (FileInto ∷ []) (after_invocation at_start (plain_at 0 "require" (str "mime" ∷ []))).required ≡ Some FileInto
not_all_required = refl

-- of several the first that isn't there is named, whatever was required before or behind it
abbrev mime_alone : Context
mime_alone = after_invocation at_start (plain_at 0 "require" (str "mime" ∷ []))

first_of_two : first_lacking (FileInto ∷ Depot ∷ []) mime_alone.required ≡ Some FileInto
first_of_two = refl

second_of_two : first_lacking (Mime ∷ Depot ∷ []) mime_alone.required ≡ Some Depot
second_of_two = refl

none_of_none : first_lacking [] mime_alone.required ≡ None
none_of_none = refl

-- so many names, none the same as another
abbrev names_numbered : ℕ → List (List ℕ)
names_numbered zero = []
names_numbered (suc n) = ((128 + n) ∷ []) ∷ names_numbered n

abbrev brings : ℕ → List (List ℕ) → Visit
brings token names = record { token = token; name = codes "set"; names = names; cause = None; lacks = [] }

-- 128 names, of which some come again
enough_names : map refusal_for (refused_among [] (brings 0 (names_numbered 127) ∷ brings 4 (codes "a" ∷ codes "a" ∷ names_numbered 9) ∷ brings 7 (codes "a" ∷ []) ∷ [])) ≡ []
enough_names = refl

-- the 129th is named where it comes, and each after it; a fault of the same visit is named before it
too_many_names : map refusal_for (refused_among [] (brings 0 (names_numbered 127) ∷ brings 4 (codes "a" ∷ []) ∷ brings 7 (codes "b" ∷ []) ∷ brings 9 (codes "a" ∷ []) ∷ brings 12 (codes "c" ∷ []) ∷ [])) ≡ Limit 7 ∷ Limit 12 ∷ []
too_many_names = refl

least_fault : map refusal_for (refused_among [] (brings 0 (names_numbered 128) ∷ record { token = 4; name = codes "set"; names = codes "a" ∷ []; cause = Some (plain kind.Misplaced); lacks = [] } ∷ [])) ≡ BadArguments 4 ∷ []
least_fault = refl

faults_of_scripts : Gives fault_of (
    -- keep; require "regex";
    (keep_at 0 (last_at 2 "require" (str "regex" ∷ [])), Some (UnknownCapability 2)) ∷
    -- require ["mime", "regex"] "fileinto";
    (last_at 0 "require" (strs "mime" ("regex" ∷ []) ∷ str "fileinto" ∷ []), Some (UnknownCapability 0)) ∷
    -- else {} vacation;
    (block_at 0 "else" [] no_command (last_at 3 "vacation" []), Some (BadArguments 0)) ∷
    -- if anyof (true, size 10 :over) { vacation; }
    (
      if_at 0 "if" (invocation 1 (codes "anyof") [] (test_list (true_at 3) (next (plain_at 5 "size" (amount 10 ∷ tag "over" ∷ [])) last))) (last_at 10 "vacation" []) no_command,
      Some (BadArguments 5),
    ) ∷
    -- Require ["fileinto", "mime"]; IF true {} elsif size :Over 10 { keep; } Else { keep; } keep;
    (
      simple_at 0 "Require" (strs "fileinto" ("mime" ∷ []) ∷ []) (if_at 7 "IF" (true_at 8) no_command (if_at 11 "elsif" (plain_at 12 "size" (tag "Over" ∷ amount 10 ∷ [])) (keep_at 16 no_command) (block_at 19 "Else" [] (keep_at 21 no_command) (keep_at 24 no_command)))),
      None,
    ) ∷ [])
faults_of_scripts = refl

readings_of_size : Gives (reading (test_signature Size)) (
    -- size :over 10, with one tag, with none, with two, and with the tag behind the number
    (tag "over" ∷ amount 10 ∷ [], read_as (record no_tag { order = Some Over }) (amount 10 ∷ [])) ∷
    (amount 10 ∷ [], None) ∷  -- no tag read
    (tag "over" ∷ tag "under" ∷ amount 10 ∷ [], None) ∷  -- two tags read
    (amount 10 ∷ tag "over" ∷ [], None) ∷ [])  -- tag behind
readings_of_size = refl

-- ---- strings in tests

-- so many empty strings
abbrev strings_numbered : ℕ → List (List ℕ)
strings_numbered zero = []
strings_numbered (suc n) = [] ∷ strings_numbered n

abbrev if_test : InvocationTree → CommandsTree
if_test t = if_at 0 "if" t no_command no_command

readings_of_header : Gives (reading (test_signature Header)) (
    -- a tag behind a positional argument, an unknown comparator, one in brackets, and one that isn't there
    (str "a" ∷ tag "is" ∷ str "b" ∷ [], None) ∷
    (tag "comparator" ∷ str "I;OCTET" ∷ str "a" ∷ str "b" ∷ [], None) ∷  -- unknown comparator
    (tag "comparator" ∷ strs "i;octet" [] ∷ str "a" ∷ str "b" ∷ [], None) ∷  -- bracketed comparator
    (tag "comparator" ∷ [], None) ∷  -- no comparator
    -- two tags of one group
    (tag "is" ∷ tag "contains" ∷ str "a" ∷ str "b" ∷ [], None) ∷ [])
readings_of_header = refl

-- a tag of another test
kind_of_exists : reading (test_signature Exists) (tag "is" ∷ str "a" ∷ []) ≡ None
kind_of_exists = refl

faults_of_strings : Gives fault_of (
    -- 512 strings in both lists, beside that of a comparator, and one more
    (
      if_test (plain_at 1 "header" (tag "comparator" ∷ str "i;octet" ∷ text_list [] (strings_numbered 255) ∷ text_list [] (strings_numbered 255) ∷ [])),
      None,
    ) ∷
    -- too many strings
    (if_test (plain_at 1 "header" (text_list [] (strings_numbered 255) ∷ text_list [] (strings_numbered 256) ∷ [])), Some (Limit 1)) ∷ [])
faults_of_strings = refl

-- ---- tests with :mime

-- if and a test with these arguments, after a require of a capability
abbrev if_after : String → String → List ArgumentTree → CommandsTree
if_after capability name args =
    simple_at 0 "require" (str capability ∷ []) (if_at 3 "if" (plain_at 4 name args) no_command no_command)

abbrev after_mime : String → List ArgumentTree → CommandsTree
after_mime name args = if_after "mime" name args

abbrev after_another : String → List ArgumentTree → CommandsTree
after_another name args = if_after "fileinto" name args

abbrev field_and_key : List ArgumentTree
field_and_key = str "X" ∷ str "y" ∷ []

-- header :mime :param ["a", "b"] :anychild "X" "y"
abbrev of_params : List ArgumentTree
of_params = tag "mime" ∷ tag "param" ∷ strs "a" ("b" ∷ []) ∷ tag "anychild" ∷ field_and_key

-- 512 strings in the three lists, and one more
abbrev three_lists : ℕ → List ArgumentTree
three_lists n = tag "mime" ∷ tag "param" ∷ text_list [] (strings_numbered n) ∷ text_list [] (strings_numbered 169) ∷ text_list [] (strings_numbered 170) ∷ []

faults_of_mime : Gives fault_of (
    (after_mime "header" of_params, None) ∷  -- mime accepted
    (after_mime "exists" (tag "anychild" ∷ tag "mime" ∷ str "X" ∷ []), None) ∷  -- exists accepted
    -- without the capability, also where the tag stands behind an argument, and as that of a comparator
    (after_another "header" of_params, Some (MissingCapability 4)) ∷
    (after_another "header" (str "X" ∷ tag "MIME" ∷ str "y" ∷ []), Some (MissingCapability 4)) ∷  -- mime missing behind
    (after_another "header" (tag "comparator" ∷ tag "mime" ∷ field_and_key), Some (MissingCapability 4)) ∷  -- mime missing compared
    (after_another "exists" (tag "mime" ∷ str "X" ∷ []), Some (MissingCapability 4)) ∷  -- exists missing
    (after_mime "header" (str "X" ∷ tag "mime" ∷ str "y" ∷ []), Some (BadArguments 4)) ∷  -- mime behind
    -- what stands only with :mime, with the capability and without
    (after_mime "header" (tag "anychild" ∷ field_and_key), Some (BadArguments 4)) ∷
    (after_another "header" (tag "anychild" ∷ field_and_key), Some (BadArguments 4)) ∷  -- below alone too
    (after_mime "exists" (tag "anychild" ∷ str "X" ∷ []), Some (BadArguments 4)) ∷  -- exists below alone
    (after_mime "header" (tag "type" ∷ field_and_key), Some (BadArguments 4)) ∷  -- type alone
    (after_mime "header" (tag "param" ∷ str "a" ∷ field_and_key), Some (BadArguments 4)) ∷  -- params alone
    -- tests that don't know the tags, and tags that come twice
    (after_another "size" (tag "mime" ∷ tag "over" ∷ amount 1 ∷ []), Some (BadArguments 4)) ∷
    (after_mime "exists" (tag "mime" ∷ tag "type" ∷ str "X" ∷ []), Some (BadArguments 4)) ∷  -- type of exists
    (after_mime "header" (tag "mime" ∷ tag "mime" ∷ field_and_key), Some (BadArguments 4)) ∷  -- mime twice
    (after_mime "header" (tag "mime" ∷ tag "anychild" ∷ tag "anychild" ∷ field_and_key), Some (BadArguments 4)) ∷  -- below twice
    (after_mime "header" (tag "mime" ∷ tag "type" ∷ tag "param" ∷ str "a" ∷ field_and_key), Some (BadArguments 4)) ∷  -- type and params
    -- params twice
    (after_mime "header" (tag "mime" ∷ tag "param" ∷ str "a" ∷ tag "param" ∷ str "b" ∷ field_and_key), Some (BadArguments 4)) ∷
    -- :param with a number, with a tag, and with nothing
    (after_mime "header" (tag "mime" ∷ tag "param" ∷ amount 1 ∷ field_and_key), Some (BadArguments 4)) ∷
    (after_mime "header" (tag "mime" ∷ tag "param" ∷ tag "is" ∷ field_and_key), Some (BadArguments 4)) ∷  -- params of tag
    (after_mime "header" (tag "mime" ∷ tag "param" ∷ []), Some (BadArguments 4)) ∷  -- no params
    (after_mime "header" (three_lists 170), None) ∷  -- enough of three
    (after_mime "header" (three_lists 171), Some (Limit 4)) ∷ [])  -- too many of three
faults_of_mime = refl
