-- What is told of a refused script.
use Rattle.std.specs.Prelude.{◌≡◌, ◌≢◌, ℕ, ◌+◌, ◌-◌, Bool, true, false, ◌&&◌, IsTrue, List, [], ◌∷◌, ◌++◌, if◌then◌else◌, flat_map, length, map, nat_lt, take, take_while, drop, min, Option, Some, None, option_map, codes, slice_range}
use Rattle.std.specs.Fmt.{decimal}
use Rattle.std.specs.List.{Contains, slice_get}
use Rattle.std.specs.Option.{option_or}
use Rattle.octets.specs.Limits.{max_script}
use Rattle.refusals.specs.declared.fault_kind.FaultKind.{FaultKind}
use Rattle.refusals.specs.Scripts.{IsScriptRefusal}
use Rattle.refusals.specs.declared.refusal.Refusal.{Refusal}
use Rattle.refusals.specs.declared.refusal.Refusal.TheVariants as refused
use Rattle.sieve_check.specs.declared.error.Fault.{Fault}
use Rattle.sieve_check.specs.declared.error.Fault.TheVariants.{BadArguments}
use Rattle.sieve_lexer.specs.Tokens.{AreTokens}
use Rattle.sieve_lexer.specs.Values.{string_value}
use Rattle.sieve_lexer.specs.declared.token.Token.{Token}
use Rattle.sieve_parser.specs.Scripts.{IsParsed}
use Rattle.sieve_parser.specs.Tree.{CommandsTree}
use Rattle.sieve_check.specs.declared.causes.ReasonKind.{ReasonKind}
use Rattle.sieve_check.specs.declared.causes.ReasonKind.TheVariants as kind
use Rattle.sieve_check.specs.declared.signature.Positional.TheVariants as positional
use Rattle.sieve_check.specs.declared.signature.Tests.TheVariants as tests
use Rattle.sieve_check.specs.Causes.{Reason, Refused, fault_of_kind}
use Rattle.sieve_check.specs.Rules.{fault_of, max_reasons, reasons_of}
use Rattle.sieve_explain.specs.declared.explanation.Explanation.{Explanation}
use Rattle.sieve_explain.specs.Faults.{colon_blanks, end_blanks, lexical_blanks, listing_blanks, look_text, more_blanks, token_blanks, too_deep_blanks, too_long_blanks, unclosed_blanks, unit_blanks, word_blanks}
use Rattle.sieve_explain.specs.Marks.{arguments_behind, bare_behind, has_unit, is_name, is_of_arguments, is_string, is_word_in_list, label_behind, string_among, text_of, unclosed}
use Rattle.sieve_explain.specs.Notes.{max_notes, more_notes_blanks, note_blanks, notes_of}
use Rattle.sieve_explain.specs.declared.notes.Noted.{Noted}
use Rattle.readable_text.specs.Places.{line_number, octets_before}
use Rattle.sieve_explain.specs.Reasons.{reason_blanks}
use Rattle.sieve_explain.specs.Sentences.{Blanks, filled, plain}
use Rattle.sieve_explain.specs.Characters.{pieces}
use Rattle.sieve_explain.specs.Shown.{excerpt, line, shown, shown_name}
use Rattle.sieve_explain.specs.declared.shown.Style.TheVariants.{Line}

-- a colon, and the number
unfoldable pub numbered : ℕ → List ℕ
numbered number = codes ":" ++ decimal number

-- the column of a place in its line, in characters, the first being 1
unfoldable pub column : List ℕ → ℕ → ℕ
column script place = length (pieces (slice_range script (place - octets_before script place) place)) + 1

-- the line and the column of a place in the script, and what kind of remark it is
unfoldable pub heading : List ℕ → List ℕ → ℕ → List ℕ
heading kind script place = numbered (line_number script place) ++ numbered (column script place) ++ kind

-- a remark of that kind about a place of the script, at most its end, with the line of the place and a mark under it
unfoldable pub remark : List ℕ → List ℕ → ℕ → Blanks → List ℕ
remark kind script place blanks =
    let at = min place (length script) in line (heading kind script at ++ filled blanks) ++ excerpt script at

-- a remark about the whole file; the same, if there is something to remark
unfoldable pub note : Blanks → List ℕ
note blanks = line (codes ": note: " ++ filled blanks)

abbrev pub note_if : Bool → Blanks → List (List ℕ)
note_if some blanks = if some then note blanks ∷ [] else []

-- what is wrong at a place
abbrev pub told : List ℕ → ℕ → Blanks → List (List ℕ)
told script place blanks = remark (codes ": error: ") script place blanks ∷ []

-- remarks as they are printed: before each stands the name of the script as it can be printed, and all behind it is escaped
abbrev pub printed_one : List ℕ → List ℕ → List ℕ
printed_one name remark = shown_name name ++ shown Line (pieces remark)

abbrev pub printed : List ℕ → List (List ℕ) → List ℕ
printed name = flat_map (printed_one name)

-- where a token begins; behind the last one the script's end
abbrev pub start_of : List ℕ → Option Token → ℕ
start_of script None = length script
start_of script (Some token) = token.start

-- where the brace stands that is never closed
unfoldable pub opened : List ℕ → Option Token → List (List ℕ)
opened script None = []
opened script (Some brace) = remark (codes ": note: ") script brace.start unclosed_blanks ∷ []

-- of the end, and which brace is never closed, where one isn't
unfoldable pub end_told : List ℕ → List Token → List (List ℕ)
end_told script tokens = told script (length script) end_blanks ++ opened script (unclosed tokens)

-- of the token at fault, by the token before it
abbrev pub misplaced_blanks : List ℕ → Option Token → Token → Blanks
misplaced_blanks script before token =
    if is_word_in_list before token then word_blanks (text_of script token) else token_blanks script token

-- of the token at fault, or of the end
abbrev pub token_told : List ℕ → Option Token → Option Token → List Token → List (List ℕ)
token_told script before None tokens = end_told script tokens
token_told script before (Some token) tokens = told script token.start (misplaced_blanks script before token)

-- 13, at the token with that number, the first being 0
unfoldable pub syntax_told : List ℕ → ℕ → List Token → List (List ℕ)
syntax_told script number tokens = token_told script (slice_get tokens (number - 1)) (slice_get tokens number) tokens

-- 14
unfoldable pub depth_told : List ℕ → ℕ → List Token → List (List ℕ)
depth_told script number tokens = told script (start_of script (slice_get tokens number)) too_deep_blanks

-- under a string that is no capability, else under the command
abbrev pub marked_by : ReasonKind → Option Token → Option Token → Option Token
marked_by kind.UnknownCapability string command = string
marked_by _ string command = command

-- strings are missing
abbrev pub lacks_strings : ReasonKind → Bool
lacks_strings (kind.MissingArgument positional.Text) = true
lacks_strings (kind.MissingArgument positional.TwoTexts) = true
lacks_strings (kind.MissingArgument positional.OneList) = true
lacks_strings (kind.MissingArgument positional.TwoLists) = true
lacks_strings _ = false

-- the tokens behind the one with that number
abbrev pub tokens_behind : List Token → ℕ → List Token
tokens_behind tokens number = drop 1 (drop number tokens)

-- the word that stands in the place of a string that is missing, behind a name with the number of its token, if there is one
unfoldable pub word_behind : List ℕ → List Token → ℕ → ReasonKind → List ℕ → Option Token
word_behind script tokens number kind name =
    if lacks_strings kind then bare_behind script name (tokens_behind tokens number) else None

abbrev pub bare_word : List ℕ → List Token → Refused → Option Token
bare_word script tokens found = word_behind script tokens found.token found.reason.kind found.reason.name

-- the token under which the mark stands: such a word, else by the kind of the reason
unfoldable pub marked_token : List ℕ → List Token → Refused → Option Token
marked_token script tokens found = option_or (bare_word script tokens found) (marked_by found.reason.kind
    (string_among script found.reason.subject (drop found.token tokens)) (slice_get tokens found.token))

-- the mark stands under a word, no string, behind its own arguments
abbrev pub MarksWord : List ℕ → List Token → Refused → Token → Type 0
MarksWord script tokens found word =
    let behind = tokens_behind tokens found.token in
    (marked_token script tokens found ≡ Some word) × IsTrue (is_name word.kind)
    × (slice_get behind (length (take_while is_of_arguments behind)) ≡ Some word)

-- the mark stands under the name of the command or test that is refused
abbrev pub MarksName : List ℕ → List Token → Refused → Type 0
MarksName script tokens found = (token : Token) × (marked_token script tokens found ≡ Some token)
    × (slice_get tokens found.token ≡ Some token) × (text_of script token ≡ found.reason.name)

-- the mark stands under one of the strings among its own arguments, and that string is what is at fault
abbrev pub MarksString : List ℕ → List Token → Refused → Type 0
MarksString script tokens found = (token : Token) × (marked_token script tokens found ≡ Some token)
    × Contains (arguments_behind found.token tokens) token × IsTrue (is_string token.kind)
    × (string_value token.kind (text_of script token) ≡ found.reason.subject)

abbrev pub MarksFault : ReasonKind → List ℕ → List Token → Refused → Type 0
MarksFault kind.UnknownCapability script tokens found = MarksString script tokens found
MarksFault _ script tokens found = MarksName script tokens found

abbrev pub MarksEither : Option Token → List ℕ → List Token → Refused → Type 0
MarksEither (Some word) script tokens found = MarksWord script tokens found word
MarksEither None script tokens found = MarksFault found.reason.kind script tokens found

-- the mark stands under what is at fault
abbrev pub IsMarked : List ℕ → List Token → Refused → Type 0
IsMarked script tokens found = MarksEither (bare_word script tokens found) script tokens found

-- something is wrong with arguments
abbrev pub is_argument_fault : Fault → Bool
is_argument_fault BadArguments = true
is_argument_fault _ = false

-- an argument may be missing, or it has a test that it doesn't take
abbrev pub may_lack_label : ReasonKind → Bool
may_lack_label (kind.MissingArgument taken) = true
may_lack_label (kind.WrongTests tests.Nothing) = true
may_lack_label _ = false

-- a name that a tag has, or another reason
abbrev pub label_blanks : List ℕ → Reason → Blanks
label_blanks [] reason = reason_blanks reason
label_blanks (c ∷ label) reason = if may_lack_label reason.kind then colon_blanks (c ∷ label) else reason_blanks reason

-- arguments with a wrong unit, a tag without its colon behind them, or another reason
abbrev pub argument_blanks : List ℕ → List Token → Refused → Blanks
argument_blanks script behind found =
    if is_argument_fault (fault_of_kind found.reason.kind) && has_unit script behind then unit_blanks
    else label_blanks (label_behind script behind) found.reason

-- of a word in a string's place, if there is one
abbrev pub word_or : List ℕ → Option Token → Blanks → Blanks
word_or script None other = other
word_or script (Some word) other = word_blanks (text_of script word)

-- a word in a string's place, or what else is wrong with the arguments, or another reason
unfoldable pub fault_blanks : List ℕ → List Token → Refused → Blanks
fault_blanks script tokens found =
    word_or script (bare_word script tokens found) (argument_blanks script (tokens_behind tokens found.token) found)

-- why a command or test is refused
unfoldable pub reason_told : List ℕ → List Token → Refused → List ℕ
reason_told script tokens found =
    remark (codes ": error: ") script (start_of script (marked_token script tokens found)) (fault_blanks script tokens found)

-- 15 to 19: why each of them is, in order, up to `max_reasons` of them, and whether there are more
abbrev pub reasons_told : List ℕ → CommandsTree → List Token → List (List ℕ)
reasons_told script commands tokens =
    map (reason_told script tokens) (take max_reasons (reasons_of commands))
    ++ note_if (nat_lt max_reasons (length (reasons_of commands))) more_blanks

-- the text is what is told by the script's tokens
abbrev pub Tells : List ℕ → List ℕ → (List Token → List (List ℕ)) → List ℕ → Type 0
Tells name script told text = (tokens : List Token) × AreTokens script tokens × (text ≡ printed name (told tokens))

abbrev pub TellsReasons : List ℕ → List ℕ → List ℕ → Type 0
TellsReasons name script text =
    (commands : CommandsTree) × IsParsed script commands × Tells name script (reasons_told script commands) text

-- what is told of a refused script: the refusal's place, a sentence and the line; a script gets no other refusal
abbrev pub TellsFault : List ℕ → List ℕ → Refusal → List ℕ → Type 0
TellsFault name script (refused.Lexical place) text =
    text ≡ printed name (told script place (lexical_blanks (drop place script)))
TellsFault name script refused.ScriptTooLong text = text ≡ printed name (told script max_script too_long_blanks)
TellsFault name script (refused.Syntax number) text = Tells name script (syntax_told script number) text
TellsFault name script (refused.TooDeep number) text = Tells name script (depth_told script number) text
TellsFault name script (refused.UnknownCommand number) text = TellsReasons name script text
TellsFault name script (refused.MissingCapability number) text = TellsReasons name script text
TellsFault name script (refused.UnknownCapability number) text = TellsReasons name script text
TellsFault name script (refused.BadArguments number) text = TellsReasons name script text
TellsFault name script (refused.Limit number) text = TellsReasons name script text
TellsFault name script _ text = ⊥

-- what the file looks like, where it looks like something else than a script
abbrev pub look_told : List ℕ → List (List ℕ)
look_told text = note_if (nat_lt 0 (length text)) (plain text)

-- all that is told of a refused script: of the refusal, and what the file looks like
pub record Explains (name script : List ℕ) (refusal : Refusal) (text : List ℕ) : Type 0 where
  pub fault : List ℕ
  pub tells : TellsFault name script refusal fault
  pub whole : text ≡ fault ++ printed name (look_told (look_text script))

-- a note about a script with which nothing is wrong
unfoldable pub note_told : List ℕ → Noted → List ℕ
note_told script noted = remark (codes ": note: ") script noted.place (note_blanks noted.kind)

-- notes, in order, up to `max_notes` of them, and whether there are more; those of the script
abbrev pub listed_told : List ℕ → List Noted → List (List ℕ)
listed_told script notes =
    map (note_told script) (take max_notes notes) ++ note_if (nat_lt max_notes (length notes)) more_notes_blanks

abbrev pub notes_told : List ℕ → List Token → List (List ℕ)
notes_told script tokens = listed_told script (notes_of script tokens)

-- what is remarked of a script with which nothing is wrong
abbrev pub IsRemarked : List ℕ → List ℕ → List ℕ → Type 0
IsRemarked name script text = Tells name script (notes_told script) text

-- nothing is wrong with the script; or this is its refusal, and this is told of it
abbrev pub IsExplained : List ℕ → List ℕ → Option Explanation → Type 0
IsExplained name script None = (commands : CommandsTree) × IsParsed script commands × (fault_of commands ≡ None)
IsExplained name script (Some found) = (found.refusal ≢ refused.Memory) × IsScriptRefusal script found.refusal
    × Explains name script found.refusal found.text.items

-- what is answered: the refusal, and what is told of it
abbrev pub answer_of : Option Explanation → Option (Refusal × List ℕ)
answer_of answer = option_map (λ (found : Explanation). (found.refusal, found.text.items)) answer

-- what is told of a listing of a program, whose fault is of that kind: its place, a sentence and the line
abbrev pub listing_told : List ℕ → List ℕ → ℕ → FaultKind → List ℕ
listing_told name listing place kind = printed name (told listing place (listing_blanks kind (drop place listing)))
