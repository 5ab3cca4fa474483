-- What is wrong with the commands and tests of a script, and which fault is named.
use Rattle.std.specs.Prelude.{ℕ, Bool, true, false, ◌&&◌, ◌||◌, ◌==◌, filter, not, nat_lt, bytes_eq, if◌then◌else◌, List, [], ◌∷◌, ◌++◌, map, length, take, drop, flat_map, Option, Some, None, is_some, option_map, slice_get}
use Rattle.std.specs.List.{find, list_any}
use Rattle.std.specs.Option.{option_and_then, option_map_or, option_or}
use Rattle.octets.specs.Ascii.{lowercase_of}
use Rattle.octets.specs.Limits.{max_name, max_segments, max_string, max_test_strings, max_variables}
use Rattle.octets.specs.Once.{with_more}
use Rattle.sieve_references.specs.References.{Segment, variable, beyond, foreign, segments, is_identifier, names_in}
use Rattle.sieve_parser.specs.Tree.{ArgumentTree, text, text_list, label, InvocationTree, invocation, TestsTree, no_test, one_test, test_list, MoreTests, last, next, CommandTree, simple, block, CommandsTree, no_command, command}
use Rattle.sieve_check.specs.declared.causes.ReasonKind.{ReasonKind}
use Rattle.sieve_check.specs.declared.causes.ReasonKind.TheVariants.{UnknownCommand, UnknownTest, MissingCapability, UnknownCapability, WrongTests, WrongEnding, Namespace, CaptureIndex, VariableName, NoSuchLoop, Misplaced, LongString, ManyStrings, ManySegments, LongName, ManyLoops, ManyVariables}
use Rattle.sieve_check.specs.declared.error.CheckError.{CheckError}
use Rattle.sieve_check.specs.declared.names.Capability.{Capability}
use Rattle.sieve_check.specs.declared.names.Capability.TheVariants as capability
use Rattle.sieve_check.specs.declared.string_flaws.StringFlaw.{StringFlaw}
use Rattle.sieve_check.specs.declared.string_flaws.StringFlaw.TheVariants.{Unknown, Long, Wrong, Large}
use Rattle.sieve_check.specs.declared.signature.Tests.{Tests}
use Rattle.sieve_check.specs.declared.signature.Tests.TheVariants.{Nothing, One, Bracketed}
use Rattle.sieve_check.specs.declared.signature.Ending.{Ending}
use Rattle.sieve_check.specs.declared.signature.Ending.TheVariants.{Semicolon, Block}
use Rattle.sieve_check.specs.declared.signature.Signature.{Signature}
use Rattle.sieve_check.specs.declared.surroundings.Capabilities.{Capabilities}
use Rattle.sieve_check.specs.declared.names.Tag.{Tag}
use Rattle.sieve_check.specs.declared.names.Tag.TheVariants.{Mime}
use Rattle.sieve_check.specs.Arguments.{arguments_cause, reading}
use Rattle.sieve_check.specs.Causes.{Cause, Refused, about, plain, refusal_for, refused_for}
use Rattle.sieve_check.specs.declared.table.Follows.{Follows}
use Rattle.sieve_check.specs.declared.table.Follows.TheVariants.{Requires, Branches, Others}
use Rattle.sieve_check.specs.declared.table.Place.{Place}
use Rattle.sieve_check.specs.declared.table.Place.TheVariants.{Anywhere, AtTop, AfterIf, InLoop, ToLeave}
use Rattle.sieve_check.specs.declared.table.Role.{Role}
use Rattle.sieve_check.specs.declared.table.Role.TheVariants.{Expanded, AsWritten, NameThenValue, NameAlone}
use Rattle.sieve_check.specs.Names.{capability_named, command_known, row_named, tag_named}
use Rattle.sieve_check.specs.Rows.{Row, is_test}
use Rattle.sieve_check.specs.Signatures.{Read}
use Rattle.sieve_check.specs.Surroundings.{Loop, nameless, called, unreadable, Context, at_start, first_lacking, following, has_capability, same_capability, swallowing, in_block, in_loop, loops_left, opens_many}

-- the strings of arguments, with those in brackets
abbrev pub strings_in : ArgumentTree → List (List ℕ)
strings_in (text s) = s ∷ []
strings_in (text_list s ss) = s ∷ ss
strings_in _ = []

abbrev pub strings_of : List ArgumentTree → List (List ℕ)
strings_of args = flat_map strings_in args

abbrev pub is_mime : Option Tag → Bool
is_mime (Some Mime) = true
is_mime _ = false

-- the argument is `:mime`
abbrev pub is_mime_tag : ArgumentTree → Bool
is_mime_tag (label name) = is_mime (tag_named name)
is_mime_tag _ = false

-- `:mime` stands somewhere among the arguments
abbrev pub mime_where_given : List ArgumentTree → List Capability
mime_where_given args = if list_any is_mime_tag args then capability.Mime ∷ [] else []

-- where it is taken
abbrev pub mime_needs : Signature → List ArgumentTree → List Capability
mime_needs signature args = if signature.scoped then mime_where_given args else []

-- what a command or test with these arguments needs
abbrev pub needs_of : Row → List ArgumentTree → List Capability
needs_of row args = row.needs ++ mime_needs row.signature args

-- it stands where it may, with the name of a loop, if it gives one
abbrev pub may_stand : Context → Place → Option (List ℕ) → Bool
may_stand s Anywhere name = true
may_stand s AtTop name = s.takes_require
may_stand s AfterIf name = s.after_if
may_stand s InLoop name = in_loop s
may_stand s ToLeave name = is_some (loops_left name s.loops)

-- a loop, by the argument of `:name`, if it has one
abbrev pub loop_named : Option (List ℕ) → Loop
loop_named None = nameless
loop_named (Some name) = called name

-- a loop, by its arguments, if they could be read
abbrev pub loop_read : Option Read → Loop
loop_read None = unreadable
loop_read (Some read) = loop_named read.name

-- the loop that is opened around its block
abbrev pub opened_by : Row → List ArgumentTree → List Loop
opened_by row args = if row.opens then loop_read (reading row.signature args) ∷ [] else []

-- a reference into a namespace, or to a capture that there can't be
abbrev pub is_wrong : Segment → Bool
is_wrong beyond = true
is_wrong foreign = true
is_wrong _ = false

abbrev pub is_long_name : List ℕ → Bool
is_long_name name = nat_lt max_name (length name)

-- a reference by a name that is longer than the limit
abbrev pub is_long : Segment → Bool
is_long (variable name) = is_long_name name
is_long _ = false

-- what may be wrong with a string: it is no capability, or longer than the limit; as one that is
-- expanded it has a wrong reference, or too many segments or too long a name
abbrev pub string_has : StringFlaw → List ℕ → Bool
string_has Unknown s = not (is_some (capability_named s))
string_has Long s = nat_lt max_string (length s)
string_has Wrong s = list_any is_wrong (segments s)
string_has Large s = nat_lt max_segments (length (segments s)) || list_any is_long (segments s)

-- what was read behind the tags, with the list of `:param`, if it stands there, after the first: in
-- the order of the typed form
abbrev pub lists_read : Read → List ArgumentTree
lists_read read = take 1 read.positional ++ read.params ++ drop 1 read.positional

-- the lists have more strings than one test may have
abbrev pub has_many_strings : Read → Bool
has_many_strings read = nat_lt max_test_strings (length (strings_of (lists_read read)))

abbrev pub same_tests : Tests → Tests → Bool
same_tests Nothing Nothing = true
same_tests One One = true
same_tests Bracketed Bracketed = true
same_tests _ _ = false

abbrev pub same_ending : Ending → Ending → Bool
same_ending Semicolon Semicolon = true
same_ending Block Block = true
same_ending _ _ = false

-- the strings of a command or test that variables have to do with: those that are expanded, and the names that are set
pub record Mentions : Type 0 where
  pub expanded : List (List ℕ)
  pub set : List (List ℕ)

abbrev pub no_mention : Mentions
no_mention = record { expanded = []; set = [] }

abbrev pub expanding : List (List ℕ) → Mentions
expanding strings = record { expanded = strings; set = [] }

-- the first argument, where it is one string
abbrev pub first_text : List ArgumentTree → List (List ℕ)
first_text (text name ∷ args) = name ∷ []
first_text _ = []

-- those of the list of `:param` and of the arguments behind the tags, by what variables have to do with them
abbrev pub mentions_by : Role → List ArgumentTree → List ArgumentTree → Mentions
mentions_by Expanded params args = expanding (strings_of (take 1 args ++ params ++ drop 1 args))
mentions_by AsWritten params args = no_mention
mentions_by NameThenValue params args = record { expanded = strings_of (params ++ drop 1 args); set = first_text args }
mentions_by NameAlone params args = record { expanded = []; set = first_text args }

-- those of arguments as they were read, where they could be
abbrev pub mentions_of : Role → Read → Mentions
mentions_of role read = mentions_by role read.params read.positional

abbrev pub mentions_read : Role → Option Read → Mentions
mentions_read role None = no_mention
mentions_read role (Some read) = mentions_of role read

-- variables are there only where they were required
abbrev pub where_required : Capabilities → Mentions → Mentions
where_required required mentions = if has_capability capability.Variables required then mentions else no_mention

-- those of a command or test of which that is known, where its arguments could be read
abbrev pub row_mentions : Capabilities → Row → List ArgumentTree → Mentions
row_mentions required row args = where_required required (mentions_read row.role (reading row.signature args))

-- the names of variables, in lower case
abbrev pub names_mentioned : Mentions → List (List ℕ)
names_mentioned mentions = flat_map names_in mentions.expanded ++ map lowercase_of mentions.set

-- ---- what is wrong with capabilities

abbrev pub lacking : Capability → Cause
lacking capability = plain (MissingCapability capability)

-- the first capability that is needed and wasn't required
abbrev pub lacking_cause : Capabilities → List Capability → Option Cause
lacking_cause required needed = option_map lacking (first_lacking needed required)

-- each capability that is needed and wasn't required
abbrev pub lacking_causes : Capabilities → List Capability → List Cause
lacking_causes required needed = map lacking (filter (λ capability. not (has_capability capability required)) needed)

-- the arguments whose strings have to be capabilities, wherever they stand and however they are written
abbrev pub capability_arguments : Follows → List ArgumentTree → List ArgumentTree
capability_arguments Requires args = args
capability_arguments Branches args = []
capability_arguments Others args = []

-- the first of their strings that is none
abbrev pub unknown_cause : Row → List ArgumentTree → Option Cause
unknown_cause row args = option_map (about UnknownCapability) (find (string_has Unknown) (strings_of (capability_arguments row.follows args)))

-- each of these strings that is no capability
abbrev pub unknown_causes : List (List ℕ) → List Cause
unknown_causes strings = map (about UnknownCapability) (filter (string_has Unknown) strings)

-- ---- what is wrong behind the arguments, with references and names, and with the place

abbrev pub tests_cause : Signature → Tests → Option Cause
tests_cause signature tests = if same_tests signature.tests tests then None else Some (plain (WrongTests signature.tests))

-- a command ends otherwise than it has to
abbrev pub ending_cause : Option Ending → Option Ending → Option Cause
ending_cause (Some wanted) (Some ending) = if same_ending wanted ending then None else Some (plain (WrongEnding wanted))
ending_cause _ _ = None

-- by the first wrong reference of a string that has one: to a capture after the last one, or into a namespace
abbrev pub reference_kind : List Segment → ReasonKind
reference_kind [] = Namespace
reference_kind (foreign ∷ others) = Namespace
reference_kind (beyond ∷ others) = CaptureIndex
reference_kind (_ ∷ others) = reference_kind others

abbrev pub reference_cause : List ℕ → Cause
reference_cause string = about (reference_kind (segments string)) string

-- the first string with a wrong reference, or else what is set and is no name
abbrev pub mention_cause : Mentions → Option Cause
mention_cause mentions =
    option_or (option_map reference_cause (find (string_has Wrong) mentions.expanded))
    (option_map (about VariableName) (find (λ name. not (is_identifier name)) mentions.set))

-- a wrong place: of what leaves a loop that it names, that no loop around it has that name
abbrev pub misplaced : Place → Option (List ℕ) → Cause
misplaced Anywhere name = plain Misplaced
misplaced AtTop name = plain Misplaced
misplaced AfterIf name = plain Misplaced
misplaced InLoop name = plain Misplaced
misplaced ToLeave name = option_map_or (about NoSuchLoop) name (plain Misplaced)

abbrev pub place_cause : Context → Place → Option (List ℕ) → Option Cause
place_cause s place name = if may_stand s place name then None else Some (misplaced place name)

-- ---- what is beyond a limit

abbrev pub long_string_cause : List ArgumentTree → Option Cause
long_string_cause args = option_map (about LongString) (find (string_has Long) (strings_of args))

-- more strings than a test may have, where it is one
abbrev pub are_many : Bool → Read → Bool
are_many tests read = tests && has_many_strings read

abbrev pub many_strings_cause : Bool → Read → Option Cause
many_strings_cause tests read = if are_many tests read then Some (plain ManyStrings) else None

-- the first name of a variable that is longer than the limit
abbrev pub long_name : List Segment → Option (List ℕ)
long_name [] = None
long_name (variable name ∷ others) = if is_long_name name then Some name else long_name others
long_name (_ ∷ others) = long_name others

-- of a string of too many segments or with too long a name: such a name, or else the string
abbrev pub large_cause : List ℕ → Cause
large_cause string = option_map_or (about LongName) (long_name (segments string)) (about ManySegments string)

-- the first string of too many segments or with too long a name, or else too long a name that is set
abbrev pub large_mention_cause : Mentions → Option Cause
large_mention_cause mentions =
    option_or (option_map large_cause (find (string_has Large) mentions.expanded))
    (option_map (about LongName) (find is_long_name mentions.set))

abbrev pub many_loops_cause : Context → List Loop → Option Cause
many_loops_cause s opened = if opens_many opened s then Some (plain ManyLoops) else None

-- ---- what is wrong with a command or test: the first that holds

-- the tests and the end behind the arguments, and the references and names among them
abbrev pub ill_formed : Row → Tests → Option Ending → Mentions → Option Cause
ill_formed row tests ending mentions =
    option_or (tests_cause row.signature tests) (option_or (ending_cause row.ending ending) (mention_cause mentions))

-- as its arguments were read
abbrev pub oversized : Context → Row → List ArgumentTree → Read → Mentions → Option Cause
oversized s row args read mentions =
    option_or (long_string_cause args)
    (option_or (many_strings_cause (is_test row.ending) read)
    (option_or (large_mention_cause mentions) (many_loops_cause s (opened_by row args))))

-- where the arguments were read, apart from them, with its place and the limits
abbrev pub read_cause : Context → Row → List ArgumentTree → Tests → Option Ending → Read → Option Cause
read_cause s row args tests ending read =
    let mentions = where_required s.required (mentions_of row.role read) in
    option_or (ill_formed row tests ending mentions)
    (option_or (place_cause s row.place read.name) (oversized s row args read mentions))

-- of a known one, which ends so, if it is a command
abbrev pub known_cause : Context → List ArgumentTree → Tests → Option Ending → Row → Option Cause
known_cause s args tests ending row =
    option_or (lacking_cause s.required (needs_of row args))
    (option_or (unknown_cause row args)
    (option_or (arguments_cause row.signature args)
    (option_and_then (read_cause s row args tests ending) (reading row.signature args))))

-- what it is that isn't known: what has an ending is a command
abbrev pub unknown_as : Option Ending → ReasonKind
unknown_as ending = if is_test ending then UnknownTest else UnknownCommand

-- what is wrong with a command or test, by what is known of it; else that it isn't known
abbrev pub cause_of : ReasonKind → (Row → Option Cause) → Option Row → Option Cause
cause_of unknown cause None = Some (plain unknown)
cause_of unknown cause (Some row) = cause row

-- the names that a command or test brings, by what is known of it; one that isn't known brings none
abbrev pub names_by : Capabilities → List ArgumentTree → Option Row → List (List ℕ)
names_by required args None = []
names_by required args (Some row) = names_mentioned (row_mentions required row args)

-- each capability that it lacks, or that it names and there isn't
abbrev pub lacks_by : Capabilities → List ArgumentTree → Option Row → List Cause
lacks_by required args None = []
lacks_by required args (Some row) =
    lacking_causes required (needs_of row args) ++ unknown_causes (strings_of (capability_arguments row.follows args))

-- a visited command or test: the number of its identifier's token, its name as it is written, the
-- names of variables that it brings, in lower case, what is wrong with it by itself, if anything is,
-- and all that it lacks, of which the first is what is wrong with it, if it lacks something
pub record Visit : Type 0 where
  pub token : ℕ
  pub name : List ℕ
  pub names : List (List ℕ)
  pub cause : Option Cause
  pub lacks : List Cause

-- of a command, which ends so, or of a test
abbrev pub visit_of : Option Ending → Context → ℕ → List ℕ → List ArgumentTree → Tests → Visit
visit_of ending s token name args tests = record {
  token = token;
  name = name;
  names = names_by s.required args (row_named ending name);
  cause = cause_of (unknown_as ending) (known_cause s args tests ending) (row_named ending name);
  lacks = lacks_by s.required args (row_named ending name);
}

abbrev pub kind_of : TestsTree → Tests
kind_of no_test = Nothing
kind_of (one_test t) = One
kind_of (test_list t ts) = Bracketed

abbrev pub takes_tests : Tests → Bool
takes_tests Nothing = false
takes_tests _ = true

-- the tests of a command or test are looked at, by what is known of it, but where it takes none: what stands there may be meant as
-- something else
abbrev pub looks_inside : Option Row → Bool
looks_inside None = true
looks_inside (Some row) = takes_tests row.signature.tests

abbrev mutual
  -- the visits of a command, which ends so, or of a test, before those of its tests
  pub visits_of : Option Ending → Context → InvocationTree → List Visit
  visits_of ending s (invocation token name args tests) = visit_of ending s token name args (kind_of tests)
      ∷ (if looks_inside (row_named ending name) then tests_visits s tests else [])

  -- the visits of tests, in order
  pub tests_visits : Context → TestsTree → List Visit
  tests_visits s no_test = []
  tests_visits s (one_test t) = visits_of None s t
  tests_visits s (test_list t ts) = visits_of None s t ++ more_visits s ts

  pub more_visits : Context → MoreTests → List Visit
  more_visits s last = []
  more_visits s (next t ts) = visits_of None s t ++ more_visits s ts

abbrev pub invocation_of : CommandTree → InvocationTree
invocation_of (simple i) = i
invocation_of (block i cs) = i

-- the loop that a command opens around its block, by what is known of it
abbrev pub loops_by : Option Row → List ArgumentTree → List Loop
loops_by None args = []
loops_by (Some row) args = opened_by row args

abbrev pub loops_opened : InvocationTree → List Loop
loops_opened (invocation token name args tests) = loops_by (command_known name) args

-- after a command
abbrev pub after_invocation : Context → InvocationTree → Context
after_invocation s (invocation token name args tests) = following s (command_known name) (strings_of args)

abbrev mutual
  -- after the test of a command of which that is known: one that takes none has one where the `;` before the next command is forgotten,
  -- which so reads as a test
  pub past_tests : Context → Option Row → TestsTree → Context
  past_tests s known no_test = s
  past_tests s known (one_test t) = if looks_inside known then s else past_swallowed s t
  past_tests s known (test_list t ts) = s

  pub past_swallowed : Context → InvocationTree → Context
  past_swallowed s (invocation token name args tests) =
      past_tests (swallowing s (command_known name) (strings_of args)) (command_known name) tests

-- after a command, and after those that it swallowed
abbrev pub past_invocation : Context → InvocationTree → Context
past_invocation s (invocation token name args tests) =
    past_tests (following s (command_known name) (strings_of args)) (command_known name) tests

abbrev pub opens : Option Row → Bool
opens None = false
opens (Some row) = row.opens

abbrev mutual
  -- the loop around the block of a command, or of the last one that it swallowed
  pub opened_past : InvocationTree → List Loop
  opened_past (invocation token name args tests) = opened_or (command_known name) args tests

  pub opened_or : Option Row → List ArgumentTree → TestsTree → List Loop
  opened_or known args no_test = loops_by known args
  opened_or known args (one_test t) = if looks_inside known || opens known then loops_by known args else opened_past t
  opened_or known args (test_list t ts) = loops_by known args

abbrev mutual
  -- the visits of a command: itself, its tests, its block, but where that is a loop too many
  pub command_visits : Context → CommandTree → List Visit
  command_visits s (simple i) = visits_of (Some Semicolon) s i
  command_visits s (block i cs) =
      visits_of (Some Block) s i
      ++ (let past = past_invocation s i in if opens_many (opened_past i) past then [] else commands_visits (in_block (opened_past i) past) cs)

  -- the visits of commands, in order
  pub commands_visits : Context → CommandsTree → List Visit
  commands_visits s no_command = []
  commands_visits s (command c cs) = command_visits s c ++ commands_visits (past_invocation s (invocation_of c)) cs

-- the names so far, with those of a visit, each once
abbrev pub names_with : List (List ℕ) → Visit → List (List ℕ)
names_with names visit = with_more bytes_eq names visit.names

-- what is told of a visit: what is wrong with it by itself, and all that it lacks; or else that the script has too many
-- names with it, if it has
abbrev pub causes_by : Option Cause → List Cause → Bool → List Cause
causes_by (Some cause) lacks many = cause ∷ lacks
causes_by None lacks many = if many then plain ManyVariables ∷ [] else []

-- the same of a visit after names
abbrev pub visit_causes : List (List ℕ) → Visit → List Cause
visit_causes names visit = causes_by visit.cause visit.lacks (nat_lt max_variables (length (names_with names visit)))

-- why a visit after names is refused, if it is
abbrev pub refused_after : List (List ℕ) → Visit → List Refused
refused_after names visit = map (refused_for visit.token visit.name) (visit_causes names visit)

-- the names after a visit: with its own, as far as there may be so many, if nothing is wrong with it by itself
abbrev pub names_past : List (List ℕ) → Visit → List (List ℕ)
names_past names visit = if is_some visit.cause then names else take max_variables (names_with names visit)

-- the visits that are refused, after names, and why
abbrev pub refused_among : List (List ℕ) → List Visit → List Refused
refused_among names [] = []
refused_among names (v ∷ vs) = refused_after names v ++ refused_among (names_past names v) vs

-- the same is lacking: a capability, or room for variables
abbrev pub same_lack : ReasonKind → ReasonKind → Bool
same_lack (MissingCapability capability) (MissingCapability other) = same_capability capability other
same_lack ManyVariables ManyVariables = true
same_lack _ _ = false

-- strings are no capabilities
abbrev pub are_unknown : ReasonKind → ReasonKind → Bool
are_unknown UnknownCapability UnknownCapability = true
are_unknown _ _ = false

-- the same string of the same require is no capability
abbrev pub same_string : Refused → Refused → Bool
same_string found other = are_unknown found.reason.kind other.reason.kind && found.token == other.token
    && bytes_eq found.reason.subject other.reason.subject

abbrev pub same_reason : Refused → Refused → Bool
same_reason found other = same_lack found.reason.kind other.reason.kind || same_string found other

-- the commands and tests that are refused of a script, in order, and why; what is lacking is told once, and so is a string
-- of a require that is no capability
abbrev pub reasons_of : CommandsTree → List Refused
reasons_of script = with_more same_reason [] (refused_among [] (commands_visits at_start script))

-- the fault of a script that is named, if it has one: that of the first of them
abbrev pub fault_of : CommandsTree → Option CheckError
fault_of script = option_map refusal_for (slice_get (reasons_of script) 0)

-- the most that are told of a script
abbrev pub max_reasons : ℕ
max_reasons = 20

-- the most that are looked for: one more, which says that there are more than these
abbrev pub max_found : ℕ
max_found = 21
