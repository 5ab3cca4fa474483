-- The fault of a script, without why: that of least number of the first command or test that has one.
use Rattle.std.specs.Prelude.{ℕ, Bool, false, ◌||◌, not, nat_lt, bytes_eq, if◌then◌else◌, List, [], ◌∷◌, ◌++◌, length, Option, Some, None, is_some, option_map}
use Rattle.std.specs.List.{list_any}
use Rattle.std.specs.Option.{option_or}
use Rattle.octets.specs.Limits.{max_variables}
use Rattle.octets.specs.Once.{with_more}
use Rattle.sieve_references.specs.References.{is_identifier}
use Rattle.sieve_parser.specs.Tree.{ArgumentTree, InvocationTree, invocation, TestsTree, no_test, one_test, test_list, MoreTests, last, next, CommandTree, simple, block, CommandsTree, no_command, command}
use Rattle.sieve_check.specs.declared.error.CheckError.{CheckError}
use Rattle.sieve_check.specs.declared.error.Fault.{Fault}
use Rattle.sieve_check.specs.declared.error.Fault.TheVariants.{UnknownCommand, MissingCapability, UnknownCapability, BadArguments, Limit}
use Rattle.sieve_check.specs.declared.names.Capability.{Capability}
use Rattle.sieve_check.specs.declared.signature.Ending.{Ending}
use Rattle.sieve_check.specs.declared.signature.Ending.TheVariants.{Semicolon, Block}
use Rattle.sieve_check.specs.declared.signature.Tests.{Tests}
use Rattle.sieve_check.specs.declared.string_flaws.StringFlaw.TheVariants.{Unknown, Long, Wrong, Large}
use Rattle.sieve_check.specs.declared.surroundings.Capabilities.{Capabilities}
use Rattle.sieve_check.specs.Arguments.{reading}
use Rattle.sieve_check.specs.Causes.{refusal}
use Rattle.sieve_check.specs.Names.{row_named}
use Rattle.sieve_check.specs.Rows.{Row, is_test}
use Rattle.sieve_check.specs.Signatures.{Read}
use Rattle.sieve_check.specs.Rules.{Mentions, after_invocation, are_many, capability_arguments, invocation_of, is_long_name, kind_of, loops_opened, may_stand, mentions_of, names_by, needs_of, opened_by, same_ending, same_tests, string_has, strings_of, where_required}
use Rattle.sieve_check.specs.Surroundings.{Context, at_start, first_lacking, in_block, opens_many}

-- one of the capabilities wasn't required
abbrev pub lacks : Capabilities → List Capability → Bool
lacks required needed = is_some (first_lacking needed required)

-- one of the strings is no capability, is too long, has a wrong reference, or too many segments or too long a name
abbrev pub has_unknown : List ArgumentTree → Bool
has_unknown args = list_any (string_has Unknown) (strings_of args)

abbrev pub has_long : List ArgumentTree → Bool
has_long args = list_any (string_has Long) (strings_of args)

abbrev pub has_wrong : Mentions → Bool
has_wrong mentions = list_any (string_has Wrong) mentions.expanded || list_any (λ name. not (is_identifier name)) mentions.set

abbrev pub has_large : Mentions → Bool
has_large mentions = list_any (string_has Large) mentions.expanded || list_any is_long_name mentions.set

-- what is wrong with arguments: they can't be read, or it is wrong as they were read
abbrev pub fault_read : (Read → Option Fault) → Option Read → Option Fault
fault_read fault None = Some BadArguments
fault_read fault (Some read) = fault read

-- it ends otherwise than it has to
abbrev pub ends_otherwise : Option Ending → Option Ending → Bool
ends_otherwise (Some wanted) (Some ending) = not (same_ending wanted ending)
ends_otherwise _ _ = false

-- the fault of least number of a command of which that is known, and which ends so, or of a test
abbrev pub read_fault : Context → Row → List ArgumentTree → Tests → Option Ending → Read → Option Fault
read_fault s row args tests ending read =
    let mentions = where_required s.required (mentions_of row.role read) in
    if not (same_tests row.signature.tests tests) || ends_otherwise row.ending ending || has_wrong mentions || not (may_stand s row.place read.name) then Some BadArguments
    else if has_long args || are_many (is_test row.ending) read || has_large mentions || opens_many (opened_by row args) s then Some Limit
    else None

abbrev pub known_fault : Context → List ArgumentTree → Tests → Option Ending → Row → Option Fault
known_fault s args tests ending row =
    if lacks s.required (needs_of row args) then Some MissingCapability
    else if has_unknown (capability_arguments row.follows args) then Some UnknownCapability
    else fault_read (read_fault s row args tests ending) (reading row.signature args)

-- by what is known of it
abbrev pub fault_by : (Row → Option Fault) → Option Row → Option Fault
fault_by fault None = Some UnknownCommand
fault_by fault (Some row) = fault row

-- a command or test: the number of its identifier's token, the names of variables that it brings, in
-- lower case, and its fault, if it has one by itself
pub record Seen : Type 0 where
  pub token : ℕ
  pub names : List (List ℕ)
  pub fault : Option Fault

abbrev pub seen_of : Option Ending → Context → ℕ → List ℕ → List ArgumentTree → Tests → Seen
seen_of ending s token name args tests = record {
  token = token;
  names = names_by s.required args (row_named ending name);
  fault = fault_by (known_fault s args tests ending) (row_named ending name);
}

abbrev mutual
  -- a command, which ends so, or a test, and then its tests
  pub all_of : Option Ending → Context → InvocationTree → List Seen
  all_of ending s (invocation token name args tests) = seen_of ending s token name args (kind_of tests) ∷ all_of_tests s tests

  pub all_of_tests : Context → TestsTree → List Seen
  all_of_tests s no_test = []
  all_of_tests s (one_test t) = all_of None s t
  all_of_tests s (test_list t ts) = all_of None s t ++ all_of_more s ts

  pub all_of_more : Context → MoreTests → List Seen
  all_of_more s last = []
  all_of_more s (next t ts) = all_of None s t ++ all_of_more s ts

abbrev mutual
  -- a command, its tests, and then its block
  pub all_of_command : Context → CommandTree → List Seen
  all_of_command s (simple i) = all_of (Some Semicolon) s i
  all_of_command s (block i cs) = all_of (Some Block) s i ++ all_of_commands (in_block (loops_opened i) s) cs

  pub all_of_commands : Context → CommandsTree → List Seen
  all_of_commands s no_command = []
  all_of_commands s (command c cs) = all_of_command s c ++ all_of_commands (after_invocation s (invocation_of c)) cs

-- its own fault, or else that the script has too many names with those before it
abbrev pub fault_after : List (List ℕ) → Seen → Option Fault
fault_after names seen =
    option_or seen.fault (if nat_lt max_variables (length (with_more bytes_eq names seen.names)) then Some Limit else None)

-- the refusal of the first that has a fault, after names
abbrev pub first_fault : List (List ℕ) → List Seen → Option CheckError
first_fault names [] = None
first_fault names (seen ∷ others) =
    option_or (option_map (refusal seen.token) (fault_after names seen))
    (first_fault (with_more bytes_eq names seen.names) others)

-- the fault of a script, if it has one
abbrev pub least_fault : CommandsTree → Option CheckError
least_fault script = first_fault [] (all_of_commands at_start script)
