-- Scripts with loops over parts that were worked out by hand.
use Rattle.std.proofs.Common.{◌≡◌, ℕ, List, [], ◌∷◌, ◌++◌, true, Option, Some, None, refl}
use Rattle.std.specs.Prelude.{codes, map}
use Rattle.glob_match.specs.declared.comparator.Comparator.TheVariants.{Octet, Casemap}
use Rattle.glob_match.specs.declared.match_type.MatchType.TheVariants.{Is, Contains}
use Rattle.bytecode_format.specs.declared.question.Order.TheVariants.{Under}
use Rattle.bytecode_format.specs.declared.question.Question.TheVariants.{Constant, PartSize, PartBody, PartDigest}
use Rattle.sieve_parser.specs.Tree.{ArgumentTree, amount, CommandsTree, no_command}
use Rattle.sieve_check.specs.declared.error.CheckError.TheVariants.{MissingCapability, BadArguments, Limit}
use Rattle.sieve_check.specs.declared.table.CommandName.TheVariants.{Break, ForEveryPart, Take}
use Rattle.sieve_check.specs.declared.typed.Act.TheVariants as act
use Rattle.sieve_check.specs.declared.typed.Act.TheVariants.{Keep, Store, Leave}
use Rattle.sieve_check.specs.declared.typed.Segment.TheVariants.{Text, Variable}
use Rattle.sieve_check.specs.FormOf.{form_of}
use Rattle.sieve_check.specs.Causes.{refusal_for}
use Rattle.sieve_check.specs.Rules.{fault_of, reasons_of}
use Rattle.sieve_check.specs.Arguments.{reading}
use Rattle.sieve_check.specs.Signatures.{Read, no_tag, command_signature}
use Rattle.sieve_check.specs.Surroundings.{nameless, called, unreadable, loops_left}
use Rattle.sieve_check.specs.Typed as typed
use Rattle.sieve_check.specs.Typed.{Template, Strings, TestForm, asks, CommandForm, CommandForms, does, for_every_part, choice, no_branch, branch}
use Prim.Native.String.{String}
use Rattle.sieve_check.proofs.Rows.{Gives, str, strs, tag, plain_at, simple_at, last_at, block_at, if_at, read_as, as_written, alone}

-- the last command, a loop; and its form, with one command within it
abbrev loop_at : ℕ → List ArgumentTree → CommandsTree → CommandsTree
loop_at n args body = block_at n "foreverypart" args body no_command

abbrev looped : ℕ → CommandForm → CommandForms
looped n c = alone (for_every_part (alone c) n)

-- the strings of a test of the current part
abbrev keys_as : List Template → Strings
keys_as keys = record { names = []; params = []; keys = keys }

-- :name with this name
abbrev named : String → List ArgumentTree
named name = tag "name" ∷ str name ∷ []

-- require "foreverypart"; and require ["foreverypart", "vnd.depot"]; and commands after it
abbrev with_loops : CommandsTree → CommandsTree
with_loops others = simple_at 0 "require" (str "foreverypart" ∷ []) others

abbrev with_parts : CommandsTree → CommandsTree
with_parts others = simple_at 0 "require" (strs "foreverypart" ("vnd.depot" ∷ []) ∷ []) others

abbrev with_expansion : CommandsTree → CommandsTree
with_expansion others = simple_at 0 "require" (strs "foreverypart" ("vnd.depot" ∷ "variables" ∷ []) ∷ []) others

-- ---- loops within loops

-- foreverypart { foreverypart { keep; } }
abbrev two_loops : CommandsTree
two_loops = with_loops (loop_at 3 [] (loop_at 5 [] (last_at 7 "keep" [])))

abbrev four_loops : List ArgumentTree → CommandsTree
four_loops args = with_loops (loop_at 3 [] (loop_at 5 [] (loop_at 7 [] (loop_at 9 args no_command))))

-- the block of a loop too many isn't looked at, but what stands behind it is; each that is refused is told, in order
all_refused : map refusal_for (reasons_of (with_loops (loop_at 3 [] (loop_at 5 [] (loop_at 7 [] (block_at 9 "foreverypart" [] (last_at 11 "kep" []) (last_at 14 "store" [])))))))
    ≡ Limit 9 ∷ MissingCapability 14 ∷ []
all_refused = refl

faults_of_loops : Gives fault_of (
    (two_loops, None) ∷  -- two loops accepted
    -- three, and a fourth within them
    (with_loops (loop_at 3 [] (loop_at 5 [] (loop_at 7 [] (last_at 9 "keep" [])))), None) ∷
    (four_loops [], Some (Limit 9)) ∷  -- fourth loop
    -- with an argument too many, which is of less number
    (four_loops (str "x" ∷ []), Some (BadArguments 9)) ∷
    -- four, one after another
    (
      with_loops (block_at 3 "foreverypart" [] no_command (block_at 6 "ForEveryPart" [] no_command (block_at 9 "foreverypart" [] no_command (loop_at 12 [] no_command)))),
      None,
    ) ∷ [])
faults_of_loops = refl

forms_of_loops : Gives form_of (
    (two_loops, Some (looped 3 (for_every_part (alone (does Keep [] 7)) 5))) ∷  -- two loops form
    (four_loops [], None) ∷ [])  -- fourth loop form
forms_of_loops = refl

-- ---- which loop is left

-- foreverypart :name "o" { foreverypart { ... } store "s"; }
abbrev outer_and_inner : CommandsTree → CommandsTree
outer_and_inner body = with_parts (loop_at 7 (named "o") (block_at 11 "foreverypart" [] body (last_at 16 "store" (str "s" ∷ []))))

abbrev outer_and_inner_form : CommandForm → CommandForms
outer_and_inner_form c = alone (for_every_part (typed.command (for_every_part (alone c) 11) (alone (does Store (as_written "s") 16))) 7)

-- of two loops of one name the nearest is left, also by a break that stands in an if
abbrev same_names : CommandsTree
same_names =
    with_loops (loop_at 3 (named "a") (loop_at 7 (named "a")
    (if_at 11 "if" (plain_at 12 "true" []) (last_at 14 "break" (named "a")) no_command)))

-- of the loops around, the innermost first
second_meant : loops_left (Some (codes "a")) (nameless ∷ called (codes "a") ∷ called (codes "a") ∷ []) ≡ Some 2
second_meant = refl

-- one whose arguments can't be read may have the name
may_be_meant : loops_left (Some (codes "a")) (called (codes "b") ∷ unreadable ∷ called (codes "a") ∷ []) ≡ Some 2
may_be_meant = refl

-- foreverypart :name 5 { break :name "a"; } foreverypart :name "b" { break :name "a"; }
told_of_breaks : map refusal_for (reasons_of (with_loops (block_at 3 "foreverypart" (tag "name" ∷ amount 5 ∷ []) (last_at 7 "break" (named "a")) (loop_at 12 (named "b") (last_at 16 "break" (named "a"))))))
    ≡ BadArguments 3 ∷ BadArguments 16 ∷ []
told_of_breaks = refl

none_open : loops_left None [] ≡ None
none_open = refl

forms_of_breaks : Gives form_of (
    (outer_and_inner (last_at 13 "break" []), Some (outer_and_inner_form (does (Leave 1) [] 13))) ∷  -- inner left
    (outer_and_inner (last_at 13 "break" (named "o")), Some (outer_and_inner_form (does (Leave 2) [] 13))) ∷  -- outer left
    -- nearest left
    (same_names, Some (alone (for_every_part (looped 7 (choice (branch (asks (Constant true) (keys_as []) 12) (alone (does (Leave 1) [] 14)) 11 no_branch))) 3))) ∷ [])
forms_of_breaks = refl

faults_of_breaks : Gives fault_of (
    (outer_and_inner (last_at 13 "break" []), None) ∷  -- inner left accepted
    (outer_and_inner (last_at 13 "break" (named "o")), None) ∷  -- outer left accepted
    (outer_and_inner (last_at 13 "break" (named "p")), Some (BadArguments 13)) ∷  -- no such loop
    -- names are taken with their case
    (outer_and_inner (last_at 13 "break" (named "O")), Some (BadArguments 13)) ∷ [])
faults_of_breaks = refl

-- ---- wrong places

-- if partbody "x" {}
abbrev if_body : CommandsTree
if_body = if_at 7 "if" (plain_at 8 "partbody" (str "x" ∷ [])) no_command no_command

faults_of_places : Gives fault_of (
    -- break; with the capability and without, and behind a loop
    (with_loops (last_at 3 "break" []), Some (BadArguments 3)) ∷
    (last_at 0 "break" [], Some (MissingCapability 0)) ∷  -- break without
    (loop_at 0 [] no_command, Some (MissingCapability 0)) ∷  -- loop without
    -- break behind
    (with_loops (block_at 3 "foreverypart" (named "a") no_command (last_at 8 "break" (named "a"))), Some (BadArguments 8)) ∷
    (with_parts (last_at 7 "store" (str "s" ∷ [])), Some (BadArguments 7)) ∷  -- lone store
    (with_loops (loop_at 3 [] (last_at 5 "store" (str "s" ∷ []))), Some (MissingCapability 5)) ∷  -- store without
    (if_body, Some (MissingCapability 8)) ∷  -- body without
    (with_parts if_body, Some (BadArguments 8)) ∷  -- lone body
    (with_parts (loop_at 7 [] if_body), None) ∷  -- body in loop
    -- an else doesn't follow a loop
    (with_loops (block_at 3 "foreverypart" [] no_command (block_at 6 "else" [] no_command no_command)), Some (BadArguments 6)) ∷ [])
faults_of_places = refl

-- ---- names of loops

-- a name isn't expanded: it may have what would be a reference, also a wrong one, and is compared as it is written
abbrev named_like : String → String → CommandsTree
named_like name other = with_expansion (loop_at 9 (named name) (last_at 13 "break" (named other)))

one_name : reading (command_signature ForEveryPart) (named "a")
    ≡ Some (let r : Read = record { tags = record no_tag { named = true }; params = []; name = Some (codes "a"); positional = [] } in r)
one_name = refl

faults_of_names : Gives fault_of (
    (with_loops (loop_at 3 (tag "name" ∷ strs "x" [] ∷ []) no_command), Some (BadArguments 3)) ∷  -- bracketed name
    (last_at 0 "keep" (named "a"), Some (BadArguments 0)) ∷  -- name of keep
    (with_loops (last_at 3 "foreverypart" []), Some (BadArguments 3)) ∷  -- loop without block
    (named_like "${a}" "${a}", None) ∷  -- like a reference
    (named_like "${a.b}" "${a.b}", None) ∷  -- like a wrong one
    (named_like "${a}" "${A}", Some (BadArguments 13)) ∷  -- like another
    (named_like "" "${a}", Some (BadArguments 13)) ∷ [])  -- like its value
faults_of_names = refl

readings_of_break : Gives (reading (command_signature Break)) (
    (tag "name" ∷ str "a" ∷ tag "name" ∷ str "a" ∷ [], None) ∷  -- two names
    (tag "name" ∷ [], None) ∷  -- no name
    (str "a" ∷ [], None) ∷  -- name without tag
    (tag "name" ∷ amount 1 ∷ [], None) ∷ [])  -- number for name
readings_of_break = refl

empty_name : form_of (named_like "" "") ≡ Some (looped 9 (does (Leave 1) [] 13))
empty_name = refl

-- ---- parts

-- foreverypart { if ... {} }
abbrev tested : String → List ArgumentTree → CommandsTree
tested name args = with_parts (loop_at 7 [] (if_at 9 "if" (plain_at 10 name args) no_command no_command))

abbrev tested_form : TestForm → Option CommandForms
tested_form t = Some (looped 7 (choice (branch t typed.no_command 9 no_branch)))

forms_of_parts : Gives form_of (
    -- foreverypart { store "x${a}"; }
    (
      with_expansion (loop_at 9 [] (last_at 11 "store" (str "x${a}" ∷ []))),
      Some (looped 9 (does Store (Text (codes "x") ∷ Variable (codes "a") ∷ []) 11)),
    ) ∷
    (tested "partsize" (tag "under" ∷ amount 10 ∷ []), tested_form (asks (PartSize Under 10) (keys_as []) 10)) ∷  -- size form
    -- body form
    (
      tested "PartBody" (tag "contains" ∷ tag "comparator" ∷ str "i;octet" ∷ strs "b" ("c" ∷ []) ∷ []),
      tested_form (asks (PartBody (record { kind = Contains; comparator = Octet })) (keys_as (as_written "b" ∷ as_written "c" ∷ [])) 10),
    ) ∷
    -- plain body form
    (tested "partbody" (str "b" ∷ []), tested_form (asks (PartBody (record { kind = Is; comparator = Casemap })) (keys_as (as_written "b" ∷ [])) 10)) ∷
    (tested "partdigest" (str "b" ∷ []), tested_form (asks PartDigest (keys_as (as_written "b" ∷ [])) 10)) ∷ [])  -- digest form
forms_of_parts = refl

faults_of_parts : Gives fault_of (
    (tested "partsize" (amount 10 ∷ []), Some (BadArguments 10)) ∷  -- size without order
    (tested "partdigest" (tag "is" ∷ str "b" ∷ []), Some (BadArguments 10)) ∷ [])  -- matched digest
faults_of_parts = refl

-- ---- what is taken of a part

-- take ARGUMENTS; and with the loop and all that it needs around it
abbrev take_at : ℕ → List ArgumentTree → CommandsTree
take_at n args = last_at n "take" args

abbrev taking : List ArgumentTree → CommandsTree
taking args = with_expansion (loop_at 9 [] (take_at 11 args))

-- :first with this number
abbrev number_first : ℕ → List ArgumentTree
number_first n = tag "first" ∷ amount n ∷ []

abbrev named_v : List ArgumentTree
named_v = str "V" ∷ []

forms_of_takes : Gives form_of (
    -- Take :First 3 "V"; the name is in lower case in the form
    (taking (tag "First" ∷ amount 3 ∷ named_v), Some (looped 9 (does (act.Take 3 (codes "v")) [] 11))) ∷
    -- as much as a value may have, where no number is given or a larger one
    (taking named_v, Some (looped 9 (does (act.Take 4096 (codes "v")) [] 11))) ∷
    (taking (number_first 4097 ++ named_v), Some (looped 9 (does (act.Take 4096 (codes "v")) [] 11))) ∷ [])  -- no more taken
forms_of_takes = refl

faults_of_takes : Gives fault_of (
    (taking (tag "First" ∷ amount 3 ∷ named_v), None) ∷  -- three accepted
    (taking (number_first 0 ++ named_v), Some (BadArguments 11)) ∷  -- none taken
    (taking (number_first 3 ++ number_first 3 ++ named_v), Some (BadArguments 11)) ∷  -- number twice
    (taking (tag "first" ∷ named_v), Some (BadArguments 11)) ∷  -- numberless
    (taking (named_v ++ number_first 3), Some (BadArguments 11)) ∷  -- number behind
    (with_expansion (loop_at 9 [] (last_at 11 "store" (number_first 3 ++ named_v))), Some (BadArguments 11)) ∷  -- number of store
    (taking (number_first 3), Some (BadArguments 11)) ∷  -- nameless
    -- outside of a loop, and without a capability
    (with_expansion (take_at 9 named_v), Some (BadArguments 9)) ∷
    (with_parts (loop_at 7 [] (take_at 9 named_v)), Some (MissingCapability 9)) ∷  -- take without variables
    -- take without depot
    (simple_at 0 "require" (strs "foreverypart" ("variables" ∷ []) ∷ []) (loop_at 7 [] (take_at 9 named_v)), Some (MissingCapability 9)) ∷
    -- a name is taken as it is written: what would be a reference is no name, and is checked as that of a set
    (taking (str "${v}" ∷ []), Some (BadArguments 11)) ∷
    (taking (str "aaaaaaaaaaaaaaaaaaaaaaaaaaaaaaaaa" ∷ []), Some (Limit 11)) ∷  -- long name taken
    (taking (str "aaaaaaaaaaaaaaaaaaaaaaaaaaaaaaaa" ∷ []), None) ∷  -- longest name taken
    (taking (str "${aaaaaaaaaaaaaaaaaaaaaaaaaaaaaaaaa}" ∷ []), Some (BadArguments 11)) ∷ [])  -- long and no name
faults_of_takes = refl

one_number_read : reading (command_signature Take) (number_first 3 ++ named_v) ≡ read_as (record no_tag { first = Some 3 }) named_v
one_number_read = refl
