-- What is said of a command or test that isn't accepted: a sentence for each reason.
use Rattle.std.specs.List.{list_any}
use Rattle.std.specs.Prelude.{ℕ, List, [], ◌∷◌, ◌||◌, if◌then◌else◌, is_some, codes}
use Rattle.octets.specs.Limits.{max_loops, max_name, max_segments, max_string, max_test_strings, max_variables}
use Rattle.octets.specs.Ascii.{is_word}
use Rattle.sieve_check.specs.Names.{command_named}
use Rattle.sieve_check.specs.declared.names.Capability.{Capability}
use Rattle.sieve_check.specs.declared.names.Capability.TheVariants as capability
use Rattle.sieve_check.specs.declared.names.Tag.{Tag}
use Rattle.sieve_check.specs.declared.names.Tag.TheVariants as tag
use Rattle.sieve_check.specs.declared.signature.Ending.{Ending}
use Rattle.sieve_check.specs.declared.signature.Ending.TheVariants as ending
use Rattle.sieve_check.specs.declared.signature.Positional.{Positional}
use Rattle.sieve_check.specs.declared.signature.Positional.TheVariants as positional
use Rattle.sieve_check.specs.declared.signature.Tests.{Tests}
use Rattle.sieve_check.specs.declared.signature.Tests.TheVariants as tests
use Rattle.sieve_check.specs.Causes.{Reason}
use Rattle.sieve_check.specs.declared.causes.ReasonKind.{ReasonKind}
use Rattle.sieve_check.specs.declared.causes.ReasonKind.TheVariants.{UnknownCommand, UnknownTest, MissingCapability, UnknownCapability, UnknownTag, ForeignTag, RepeatedTag, TwoModifiers, TagArgument, MissingOrder, MissingMime, LateTag, MissingArgument, ExtraArgument, WrongArgument, WrongTests, WrongEnding, Namespace, CaptureIndex, VariableName, NoSuchLoop, Misplaced, LongString, ManyStrings, ManySegments, LongName, ManyLoops, ManyVariables}
use Rattle.sieve_explain.specs.Hints.{unknown_capability, unknown_command, unknown_tag, unknown_test}
use Rattle.sieve_explain.specs.Sentences.{Blanks}

-- a capability, as a `require` names it
abbrev pub capability_words : Capability → List ℕ
capability_words capability.FileInto = codes "fileinto"
capability_words capability.Variables = codes "variables"
capability_words capability.Mime = codes "mime"
capability_words capability.ForEveryPart = codes "foreverypart"
capability_words capability.Depot = codes "vnd.depot"
capability_words capability.OctetComparator = codes "comparator-i;octet"
capability_words capability.CasemapComparator = codes "comparator-i;ascii-casemap"

-- what stands behind the tags
abbrev pub positional_words : Positional → List ℕ
positional_words positional.Nothing = codes "none"
positional_words positional.Number = codes "one number"
positional_words positional.Text = codes "one string without brackets"
positional_words positional.TwoTexts = codes "two strings, each without brackets"
positional_words positional.OneList = codes "one string or list of strings"
positional_words positional.TwoLists = codes "two, each a string or a list of strings"

-- one that takes no argument, by its name
unfoldable pub no_argument_words : List ℕ → List ℕ
no_argument_words name =
    if list_any (is_word name) (codes "if" ∷ codes "elsif" ∷ codes "not" ∷ []) then codes "none before its test" else
    if list_any (is_word name) (codes "allof" ∷ codes "anyof" ∷ []) then codes "none before its tests" else
    codes "none"

-- the same of what was given too many arguments, by its name: they may stand before its test
abbrev pub extra_words : Positional → List ℕ → List ℕ
extra_words positional.Nothing name = no_argument_words name
extra_words taken name = positional_words taken

-- what takes no test, by its name: what may be missing before the test behind it
unfoldable pub no_test_words : List ℕ → List ℕ
no_test_words name =
    if is_word name (codes "else") then codes "takes no test: did you mean `elsif`, or is its opening brace missing?" else
    if is_word name (codes "foreverypart") then codes "takes no test: is its opening brace missing?" else
    if is_some (command_named name) then codes "takes no test: is a semicolon missing at its end?" else
    codes "takes no test: is a comma or a brace missing after it, or `allof` or `anyof` before it?"

-- the tests that stand behind the arguments
abbrev pub tests_words : Tests → List ℕ → List ℕ
tests_words tests.Nothing name = no_test_words name
tests_words tests.One name = codes "needs one test after it, without brackets around it"
tests_words tests.Bracketed name = codes "takes tests in round brackets, with commas between them"

-- how a command ends
abbrev pub ending_words : Ending → List ℕ
ending_words ending.Semicolon = codes "has to end with a semicolon"
ending_words ending.Block = codes "needs a block in braces"

-- the argument of a tag
abbrev pub tag_words : Tag → List ℕ
tag_words tag.Comparator = codes "the name of a comparator, \"i;octet\" or \"i;ascii-casemap\""
tag_words (tag.Select piece) = codes "the names of parameters, a string or list of strings"
tag_words tag.Name = codes "the name of a loop, one string without brackets"
tag_words tag.First = codes "a number of bytes, 1 or more"
tag_words (tag.Order order) = codes "its argument"
tag_words (tag.Kind kind) = codes "its argument"
tag_words (tag.Letters case) = codes "its argument"
tag_words (tag.FirstLetter case) = codes "its argument"
tag_words tag.QuoteWildcard = codes "its argument"
tag_words tag.Length = codes "its argument"
tag_words tag.Mime = codes "its argument"
tag_words tag.AnyChild = codes "its argument"

-- the limit that a reason speaks of
abbrev pub reason_limit : ReasonKind → ℕ
reason_limit LongString = max_string
reason_limit ManyStrings = max_test_strings
reason_limit ManySegments = max_segments
reason_limit LongName = max_name
reason_limit ManyLoops = max_loops
reason_limit ManyVariables = max_variables
reason_limit _ = 0

-- where a command or test may stand that stands elsewhere
unfoldable pub place_text : List ℕ → List ℕ
place_text name =
    if is_word name (codes "require") then codes "@ is allowed only before all other commands, outside of blocks" else
    if is_word name (codes "elsif") || is_word name (codes "else") then codes "@ is allowed only directly after the block of an `if` or `elsif`" else
    codes "@ is allowed only inside a `foreverypart`"

-- the text for a reason, by the name of the command or test; none for a name that isn't known
abbrev pub reason_text : ReasonKind → List ℕ → List ℕ
reason_text (MissingCapability needed) name = codes "@ needs `require \"&\"` before it"
reason_text ForeignTag name = codes "@ takes no tag #"
reason_text RepeatedTag name = codes "# is repeated, or used with another tag of its kind"
reason_text TwoModifiers name = codes "# can't be used with another modifier of the same precedence"
reason_text (TagArgument given) name = codes "# needs &"
reason_text MissingOrder name = codes "@ needs `:over` or `:under`"
reason_text MissingMime name = codes "# is allowed only with `:mime`, which needs `require \"mime\"`"
reason_text LateTag name = codes "the tag # has to come before the other arguments"
reason_text (MissingArgument taken) name = codes "@ has too few arguments: it takes &"
reason_text (ExtraArgument taken) name = codes "@ has too many arguments: it takes &"
reason_text (WrongArgument taken) name = codes "@ has an argument of the wrong kind: it takes &"
reason_text (WrongTests taken) name = codes "@ &"
reason_text (WrongEnding taken) name = codes "@ &"
reason_text Namespace name = codes "$ refers to a namespace, but depot has none"
reason_text CaptureIndex name = codes "$ refers to a number above 9, but there are only 0 to 9"
reason_text VariableName name = codes "$ isn't a valid name of a variable"
reason_text NoSuchLoop name = codes "no `foreverypart` around this @ has the name $"
reason_text Misplaced name = place_text name
reason_text LongString name = codes "the string $ has more than % bytes"
reason_text ManyStrings name = codes "the lists of @ have more than % strings"
reason_text ManySegments name = codes "the string $ has more than % references and pieces of text between them"
reason_text LongName name = codes "the name of a variable, $, has more than % bytes"
reason_text ManyLoops name = codes "more than % loops are nested here"
reason_text ManyVariables name = codes "with this @ the script has more than % variables"
reason_text _ name = []

-- the words for it
abbrev pub reason_words : ReasonKind → List ℕ → List ℕ
reason_words (MissingCapability needed) name = capability_words needed
reason_words (TagArgument given) name = tag_words given
reason_words (MissingArgument taken) name = positional_words taken
reason_words (ExtraArgument taken) name = extra_words taken name
reason_words (WrongArgument taken) name = positional_words taken
reason_words (WrongTests taken) name = tests_words taken name
reason_words (WrongEnding taken) name = ending_words taken
reason_words _ name = []

-- a reason that is no unknown name
unfoldable pub other_blanks : Reason → Blanks
other_blanks found = record {
  text = reason_text found.kind found.name;
  name = found.name;
  subject = found.subject;
  words = reason_words found.kind found.name;
  others = [];
  number = reason_limit found.kind;
}

abbrev pub kind_blanks : ReasonKind → Reason → Blanks
kind_blanks UnknownCommand found = unknown_command found.name
kind_blanks UnknownTest found = unknown_test found.name
kind_blanks UnknownCapability found = unknown_capability found.subject
kind_blanks UnknownTag found = unknown_tag found.subject
kind_blanks _ found = other_blanks found

-- 15 to 19, by the reason
abbrev pub reason_blanks : Reason → Blanks
reason_blanks found = kind_blanks found.kind found
