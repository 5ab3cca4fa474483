-- Reasons that were worked out by hand.
use Rattle.std.proofs.Common.{◌≡◌, ℕ, List, [], ◌∷◌, Option, Some, refl}
use Rattle.std.specs.Prelude.{codes, map, slice_get}
use Rattle.sieve_parser.specs.Tree.{ArgumentTree, amount, InvocationTree, invocation, one_test, test_list, last, next, CommandsTree, simple, block, no_command, command}
use Rattle.sieve_check.specs.declared.names.Capability.TheVariants as capability
use Rattle.sieve_check.specs.declared.names.Tag.TheVariants.{Comparator, Select, Name, First}
use Rattle.bytecode_format.specs.declared.selection.Selector.TheVariants.{Param}
use Rattle.sieve_check.specs.declared.signature.Positional.TheVariants.{Text, TwoLists}
use Rattle.sieve_check.specs.declared.signature.Tests.TheVariants as tests
use Rattle.sieve_check.specs.declared.signature.Ending.TheVariants.{Block}
use Rattle.sieve_check.specs.declared.causes.ReasonKind.{ReasonKind}
use Rattle.sieve_check.specs.declared.causes.ReasonKind.TheVariants.{UnknownCommand, UnknownTest, MissingCapability, UnknownCapability, UnknownTag, ForeignTag, RepeatedTag, TwoModifiers, TagArgument, MissingOrder, MissingMime, LateTag, MissingArgument, ExtraArgument, WrongArgument, WrongTests, WrongEnding, Namespace, CaptureIndex, VariableName, NoSuchLoop, Misplaced, ManyLoops, LongName}
use Rattle.sieve_check.specs.declared.error.CheckError.TheVariants.{UnknownCommand as Unknown, MissingCapability as Lacking, BadArguments}
use Rattle.sieve_check.specs.Causes.{Refused, refusal_for}
use Rattle.sieve_check.specs.Rules.{reasons_of}
use Prim.Native.String.{String}
use Rattle.sieve_check.proofs.Rows.{Gives, str, strs, tag, plain_at, simple_at, last_at, block_at, if_at}

-- the first reason
abbrev reason_of : CommandsTree → Option Refused
reason_of script = slice_get (reasons_of script) 0

-- NAME ARGUMENTS; at the fourth token, and NAME OTHER; of which the other is taken for a test
abbrev plainly : String → List ArgumentTree → CommandsTree
plainly name args = last_at 4 name args

abbrev followed : String → String → InvocationTree
followed name other = invocation 4 (codes name) [] (one_test (plain_at 5 other []))

-- require CAPABILITY; before others
abbrev requiring : String → CommandsTree → CommandsTree
requiring capability others = simple_at 0 "require" (str capability ∷ []) others

-- require ["variables", "vnd.depot"]; before others
abbrev requiring_both : CommandsTree → CommandsTree
requiring_both others = simple_at 0 "require" (strs "variables" ("vnd.depot" ∷ []) ∷ []) others

-- require "variables"; set ARGUMENTS;
abbrev setting : List ArgumentTree → CommandsTree
setting args = requiring "variables" (plainly "set" args)

-- if TEST { keep; }
abbrev testing : InvocationTree → CommandsTree
testing test = if_at 3 "if" test (last_at 9 "keep" []) no_command

-- refused at a token, for that
abbrev because_at : ℕ → ReasonKind → String → String → Option Refused
because_at token kind name subject = Some (record { token = token; reason = record { kind = kind; name = codes name; subject = codes subject } })

abbrev because : ReasonKind → String → String → Option Refused
because kind name subject = because_at 4 kind name subject

abbrev loop_at : ℕ → CommandsTree → CommandsTree
loop_at n body = block_at n "foreverypart" [] body no_command

-- a test of a list is refused behind the others, and a command in a block behind its tests
abbrev nested : String → CommandsTree
nested name =
    if_at 0 "if" (invocation 1 (codes "anyof") [] (test_list (plain_at 3 "true" []) (next (invocation 5 (codes "not") [] (one_test (plain_at 6 name []))) last))) (last_at 9 "kep" [])
    no_command

first_reasons : Gives reason_of (
    -- vacation;
    (plainly "vacation" [], because UnknownCommand "vacation" "") ∷
    -- if addres { keep; }
    (testing (plain_at 4 "addres" []), because UnknownTest "addres" "") ∷
    -- FileInto "x";
    (plainly "FileInto" (str "x" ∷ []), because (MissingCapability capability.FileInto) "FileInto" "") ∷
    -- take "v"; where nothing was required, and after require "variables"; the first capability that lacks is named
    (plainly "take" (str "v" ∷ []), because (MissingCapability capability.Variables) "take" "") ∷
    (requiring "variables" (plainly "take" (str "v" ∷ [])), because (MissingCapability capability.Depot) "take" "") ∷
    (requiring "vnd.depot" (plainly "take" (str "v" ∷ [])), because (MissingCapability capability.Variables) "take" "") ∷
    -- require ["fileinto", "copy", "regex"];
    (plainly "require" (strs "fileinto" ("copy" ∷ "regex" ∷ []) ∷ []), because UnknownCapability "require" "copy") ∷
    -- fileinto :copy "x";
    (requiring "fileinto" (plainly "fileinto" (tag "copy" ∷ str "x" ∷ [])), because UnknownTag "fileinto" "copy") ∷
    -- fileinto :is "x";
    (requiring "fileinto" (plainly "fileinto" (tag "is" ∷ str "x" ∷ [])), because ForeignTag "fileinto" "is") ∷
    -- header :is :contains "a" "b"
    (testing (plain_at 4 "header" (tag "is" ∷ tag "contains" ∷ str "a" ∷ str "b" ∷ [])), because RepeatedTag "header" "contains") ∷
    -- set :lower :upper "a" "b"; set :lower :LOWER "a" "b";
    (setting (tag "lower" ∷ tag "upper" ∷ str "a" ∷ str "b" ∷ []), because TwoModifiers "set" "upper") ∷
    (setting (tag "lower" ∷ tag "LOWER" ∷ str "a" ∷ str "b" ∷ []), because RepeatedTag "set" "LOWER") ∷
    -- header :comparator "i;ascii-numeric" "a" "b"
    (
      testing (plain_at 4 "header" (tag "comparator" ∷ str "i;ascii-numeric" ∷ str "a" ∷ str "b" ∷ [])),
      because (TagArgument Comparator) "header" "comparator",
    ) ∷
    -- header :mime :param 1 "a" "b"
    (
      requiring "mime" (testing (plain_at 4 "header" (tag "mime" ∷ tag "param" ∷ amount 1 ∷ str "a" ∷ str "b" ∷ []))),
      because (TagArgument (Select Param)) "header" "param",
    ) ∷
    -- break :name;
    (requiring "foreverypart" (plainly "break" (tag "name" ∷ [])), because (TagArgument Name) "break" "name") ∷
    -- require ["variables", "vnd.depot"]; take :first 0 "v";
    (requiring_both (plainly "take" (tag "first" ∷ amount 0 ∷ str "v" ∷ [])), because (TagArgument First) "take" "first") ∷
    -- and take "v"; outside of a loop
    (requiring_both (plainly "take" (str "v" ∷ [])), because Misplaced "take" "") ∷
    -- size 100
    (testing (plain_at 4 "size" (amount 100 ∷ [])), because MissingOrder "size" "") ∷
    -- header :is :anychild "a" "b"
    (testing (plain_at 4 "header" (tag "is" ∷ tag "anychild" ∷ str "a" ∷ str "b" ∷ [])), because MissingMime "header" "anychild") ∷
    -- header "a" :is "b"
    (testing (plain_at 4 "header" (str "a" ∷ tag "is" ∷ str "b" ∷ [])), because LateTag "header" "is") ∷
    -- header "a"; header "a" "b" "c"; fileinto ["a"];
    (testing (plain_at 4 "header" (str "a" ∷ [])), because (MissingArgument TwoLists) "header" "") ∷
    (testing (plain_at 4 "header" (str "a" ∷ str "b" ∷ str "c" ∷ [])), because (ExtraArgument TwoLists) "header" "") ∷  -- too many
    (requiring "fileinto" (plainly "fileinto" (strs "a" [] ∷ [])), because (WrongArgument Text) "fileinto" "") ∷  -- no text
    -- keep true; allof true
    (command (simple (followed "keep" "true")) no_command, because (WrongTests tests.Nothing) "keep" "") ∷
    (testing (followed "allof" "true"), because (WrongTests tests.Bracketed) "allof" "") ∷  -- unbracketed
    -- else;
    (plainly "else" [], because (WrongEnding Block) "else" "") ∷
    -- require "variables"; set "a" "${b.c}"; set "a" "${1}${10}${b.c}"; set "1a" "x";
    (setting (str "a" ∷ str "${b.c}" ∷ []), because Namespace "set" "${b.c}") ∷
    (setting (str "a" ∷ str "${1}${10}${b.c}" ∷ []), because CaptureIndex "set" "${1}${10}${b.c}") ∷
    (setting (str "1a" ∷ str "x" ∷ []), because VariableName "set" "1a") ∷  -- misnamed
    -- keep; require "variables"; where the require stands too late
    (simple_at 2 "keep" [] (requiring "variables" no_command), because_at 0 Misplaced "require" "") ∷
    -- break :name "o"; break;
    (requiring "foreverypart" (plainly "break" (tag "name" ∷ str "o" ∷ [])), because NoSuchLoop "break" "o") ∷
    (requiring "foreverypart" (plainly "break" []), because Misplaced "break" "") ∷  -- lone break
    -- set "aaaaaaaaaaaaaaaaaaaaaaaaaaaaaaaaa" "x"; of 33 letters, where variables were required
    (setting (str "aaaaaaaaaaaaaaaaaaaaaaaaaaaaaaaaa" ∷ str "x" ∷ []), because LongName "set" "aaaaaaaaaaaaaaaaaaaaaaaaaaaaaaaaa") ∷
    -- the fourth loop within others
    (requiring "foreverypart" (loop_at 1 (loop_at 2 (loop_at 3 (loop_at 4 no_command)))), because ManyLoops "foreverypart" "") ∷
    (nested "fals", because_at 6 UnknownTest "fals" "") ∷  -- second test
    (nested "false", because_at 9 UnknownCommand "kep" "") ∷ [])  -- in block
first_reasons = refl

-- ---- more than one

abbrev refused_string : Refused → ℕ × List ℕ
refused_string found = (found.token, found.reason.subject)

abbrev refused_kind : Refused → ReasonKind
refused_kind found = found.reason.kind

-- keep discard; for `keep; discard;`: what stands behind it isn't looked at
semicolon_forgotten : map refusal_for (reasons_of (command (simple (followed "keep" "discard")) no_command)) ≡ BadArguments 4 ∷ []
semicolon_forgotten = refl

-- if true {} elseif true {} else {}: the `else` is as if the word weren't there
misspelled : map refusal_for
    (reasons_of
    (if_at 0 "if" (plain_at 1 "true" []) no_command
    (if_at 4 "elseif" (plain_at 5 "true" []) no_command
    (block_at 8 "else" [] no_command no_command))))
    ≡ Unknown 4 ∷ []
misspelled = refl

-- a capability that is lacking is told once, each other fault by itself
lacking_once : map refusal_for
    (reasons_of
    (simple_at 0 "fileinto" (str "a" ∷ [])
    (simple_at 3 "set" []
    (simple_at 6 "fileinto" []
    (last_at 9 "keep" (str "a" ∷ []))))))
    ≡ Lacking 0 ∷ Lacking 3 ∷ BadArguments 9 ∷ []
lacking_once = refl

-- each capability that a command lacks is told, where it wasn't told before
each_lack_told : map refused_kind (reasons_of (simple_at 0 "set" [] (simple_at 2 "take" (str "v" ∷ []) (last_at 5 "take" (str "w" ∷ [])))))
    ≡ MissingCapability capability.Variables ∷ MissingCapability capability.Depot ∷ []
each_lack_told = refl

-- each string of a require that is no capability is told, once of each require
each_unknown_told : map refused_string
    (reasons_of
    (simple_at 0 "require" (strs "copy" ("fileinto" ∷ "regex" ∷ "copy" ∷ []) ∷ str "x" ∷ [])
    (last_at 10 "require" (str "copy" ∷ []))))
    ≡ (0, codes "copy") ∷ (0, codes "regex") ∷ (0, codes "x") ∷ (10, codes "copy") ∷ []
each_unknown_told = refl

-- NAME ARGUMENTS before the command that it swallowed, with its block, before others
abbrev swallowed : String → List ArgumentTree → InvocationTree → CommandsTree → CommandsTree → CommandsTree
swallowed name args test body others = command (block (invocation 0 (codes name) args (one_test test)) body) others

abbrev if_true : InvocationTree
if_true = invocation 3 (codes "if") [] (one_test (plain_at 4 "true" []))

-- behind a forgotten semicolon nothing is told that isn't wrong
nothing_false_told : Gives (λ script. map refusal_for (reasons_of script)) (
    -- require "fileinto" if true { fileinto "a"; } fileinto "b";
    (swallowed "require" (str "fileinto" ∷ []) if_true (last_at 6 "fileinto" (str "a" ∷ [])) (last_at 10 "fileinto" (str "b" ∷ [])), BadArguments 0 ∷ []) ∷
    -- require "fileinto" require "variables" if true { set "a" "b"; fileinto "a"; }
    (swallowed "require" (str "fileinto" ∷ []) (invocation 2 (codes "require") (str "variables" ∷ []) (one_test if_true)) (simple_at 6 "set" (str "a" ∷ str "b" ∷ []) (last_at 10 "fileinto" (str "a" ∷ []))) no_command, BadArguments 0 ∷ []) ∷
    -- keep if true {} else {} else {}
    (swallowed "keep" [] if_true no_command (block_at 7 "else" [] no_command (block_at 10 "else" [] no_command no_command)), BadArguments 0 ∷ BadArguments 10 ∷ []) ∷
    -- require ["foreverypart", "vnd.depot"] foreverypart { store "a"; } store "a";
    (swallowed "require" (strs "foreverypart" ("vnd.depot" ∷ []) ∷ []) (plain_at 5 "foreverypart" []) (last_at 7 "store" (str "a" ∷ [])) (last_at 11 "store" (str "a" ∷ [])), BadArguments 0 ∷ BadArguments 11 ∷ []) ∷
    -- if keep {} require "fileinto";
    (swallowed "if" [] (plain_at 1 "keep" []) no_command (last_at 4 "require" (str "fileinto" ∷ [])), Unknown 1 ∷ BadArguments 4 ∷ []) ∷
    [])
nothing_false_told = refl
