-- The notes on a script without faults: tests and commands that can't mean what they say. Each test and each command has at most one.
use Rattle.std.specs.Prelude.{ℕ, zero, suc, ◌+◌, ◌-◌, Bool, true, false, not, ◌&&◌, ◌||◌, ◌==◌, if◌then◌else◌, List, [], ◌∷◌, length, drop, max, take, take_while, nat_le, nat_lt, Option, Some, None, is_some, option_map, bytes_eq, codes}
use Rattle.std.specs.Char.{is_ascii_hexdigit, is_ascii_uppercase}
use Rattle.std.specs.List.{cons_option, count_by, filter, find, list_all, list_any, range_with_len, slice_get}
use Rattle.std.specs.Option.{option_and_then, option_or}
use Rattle.octets.specs.Ascii.{is_word}
use Rattle.octets.specs.Limits.{max_message, max_value}
use Rattle.sieve_lexer.specs.Classes.{continues_identifier}
use Rattle.sieve_lexer.specs.Values.{below_limit, inner, number_value}
use Rattle.sieve_lexer.specs.declared.token.Token.{Token}
use Rattle.sieve_lexer.specs.declared.token.TokenKind.{TokenKind}
use Rattle.sieve_lexer.specs.declared.token.TokenKind.TheVariants.{ClosingBrace, ClosingBracket, ClosingParenthesis, OpeningBrace, OpeningBracket, OpeningParenthesis, QuotedString, Tag}
use Rattle.sieve_references.specs.References.{is_identifier}
use Rattle.sieve_explain.specs.Marks.{is_amount, is_comma, is_name, is_of_arguments, is_opening, is_separator, is_string, text_of}
use Rattle.sieve_explain.specs.Sentences.{Blanks, plain}
use Rattle.sieve_explain.specs.declared.notes.NoteKind.{NoteKind}
use Rattle.sieve_explain.specs.declared.notes.NoteKind.TheVariants.{Foreign, Colon, Space, StarInContains, StarInIs, NoWildcard, SlashInPiece, NoSlash, NoDigest, LongKey, CapitalKey, LargeSize, NoCapture, FewWildcards, NoValue, Unread, PartField, RootField, TwoEntries, StoresAll, BehindFalse, AfterTrue, AfterStop, AfterBreak, AfterIf}
use Rattle.sieve_explain.specs.declared.notes.Noted.{Noted}

-- how many notes on a script are printed
abbrev pub max_notes : ℕ
max_notes = 20

-- ---- the table of notes

-- the sentence of each
unfoldable pub note_text : NoteKind → List ℕ
note_text Foreign = codes "fields are compared without decoding, and mail usually encodes such letters, as in =?UTF-8?..?=: this rarely matches"
note_text Colon = codes "no field name ends in a colon: remove the colon"
note_text Space = codes "no field name contains a blank: remove the blank"
note_text StarInContains = codes "`*` matches only itself here: remove it, or use `:matches` if it should match any text"
note_text StarInIs = codes "`*` matches only itself here: use `:matches` if it should match any text"
note_text NoWildcard = codes "this `:matches` has no `*` and no `?`, so it compares whole values like `:is`: write `:is`, or add a wildcard"
note_text SlashInPiece = codes "`:type` and `:subtype` give only one side of the `/` in a type such as image/png: use `:contenttype` for this key"
note_text NoSlash = codes "`:contenttype` gives a whole type such as image/png: add `/` and a subtype to this key, or use `:type`"
note_text NoDigest = codes "no part has this digest: write 64 hexadecimal digits, with lower-case letters"
note_text LongKey = codes "a variable holds at most % bytes, so this key never matches: write a shorter one"
note_text CapitalKey = codes "this key has upper-case letters, and each `set` of the variable has `:lower`, so the key never matches: write it in lower case"
note_text LargeSize = codes "no message is larger than % bytes, so this is never true: write a smaller number"
note_text NoCapture = codes "this string has a numbered reference, but the script has no test with `:matches` to set it"
note_text FewWildcards = codes "this string has a numbered reference, but no test with `:matches` has that many wildcards"
note_text NoValue = codes "this string refers to a variable, but no `set` or `take` gives it a value"
note_text Unread = codes "no other command or test reads this variable: remove this command, or check how references spell its name"
note_text PartField = codes "without `:mime` this tests the field of the message, not of the current part: add `:mime`, or move the test out of the loop"
note_text RootField = codes "parts other than attached messages usually don't have this field: remove `:anychild` to test only the message"
note_text TwoEntries = codes "this files the message into INBOX a second time: remove this command or the one before it"
note_text StoresAll = codes "this also stores each multipart, which contains its parts again: put it in an `if` that tests the type of the part"
note_text BehindFalse = codes "this test looks always false, which switches its block off: change the test, or remove the block"
note_text AfterTrue = codes "the test before this branch looks always true, which switches the branch off: change the test, or remove the branch"
note_text AfterStop = codes "this comes after `stop`, which ends the script: move it before the `stop`"
note_text AfterBreak = codes "this comes after `break`, which leaves the loop: move it before the `break`"
note_text AfterIf = codes "this comes after an `if` whose branches all have a `stop` or `break`: move it before the `if`, or remove it"

-- the number in it
abbrev pub note_number : NoteKind → ℕ
note_number LongKey = max_value
note_number _ = max_message

abbrev pub note_blanks : NoteKind → Blanks
note_blanks kind = record (plain (note_text kind)) { number = note_number kind }

-- after the last of the notes that are printed
abbrev pub more_notes_blanks : Blanks
more_notes_blanks = record (plain (codes "only the first % notes are shown")) { number = max_notes }

-- ---- tokens that are noted by themselves

-- the octet isn't ASCII; is a blank; may be a wildcard, or begin a reference to a variable
abbrev pub is_beyond : ℕ → Bool
is_beyond octet = nat_lt 127 octet

abbrev pub is_blank : ℕ → Bool
is_blank octet = octet == 32 || octet == 9

abbrev pub is_wildcard : ℕ → Bool
is_wildcard octet = (octet == 42 || octet == 63) || octet == 36

abbrev pub is_star : List ℕ → Bool
is_star text = bytes_eq text (codes "*")

-- a star comes first or last, and something else than a star stands beside it
abbrev pub begins_with_star : List ℕ → Bool
begins_with_star text = (nat_lt 1 (length text) && is_star (take 1 text)) && not (is_star (take 1 (drop 1 text)))

abbrev pub ends_with_star : List ℕ → Bool
ends_with_star text =
    let end = drop (length text - 2) text in
    (nat_lt 1 (length text) && is_star (drop 1 end)) && not (is_star (take 1 end))

abbrev pub ends_with_colon : List ℕ → Bool
ends_with_colon text = bytes_eq (drop (length text - 1) text) (codes ":")

-- a digest is written with it
abbrev pub is_digit : ℕ → Bool
is_digit octet = is_ascii_hexdigit octet && not (is_ascii_uppercase octet)

abbrev pub is_digest : List ℕ → Bool
is_digest text = length text == 64 && list_all is_digit text

-- a reference to what a wildcard matched comes first, with a number above this one, up to 9
abbrev pub is_number_above : ℕ → ℕ → Bool
is_number_above most octet = (nat_le 48 octet && nat_le octet 57) && nat_lt most (octet - 48)

abbrev pub begins_capture : ℕ → List ℕ → Bool
begins_capture most text =
    (bytes_eq (take 2 text) (codes "${") && list_any (is_number_above most) (take 1 (drop 2 text)))
    && bytes_eq (take 1 (drop 3 text)) (codes "}")

-- there is one at that place; anywhere
abbrev pub captures_at : ℕ → List ℕ → ℕ → Bool
captures_at most text place = begins_capture most (drop place text)

abbrev pub has_capture : ℕ → List ℕ → Bool
has_capture most text = list_any (captures_at most text) (range_with_len 0 (length text))

-- a key with a slash; one without, which isn't empty and has no reference either
abbrev pub is_slash : ℕ → Bool
is_slash octet = octet == 47

abbrev pub is_slash_or_dollar : ℕ → Bool
is_slash_or_dollar octet = octet == 47 || octet == 36

abbrev pub is_bare : List ℕ → Bool
is_bare text = nat_lt 0 (length text) && not (list_any is_slash_or_dollar text)

-- the octet begins a reference to a variable, or an escape
abbrev pub is_unclear : ℕ → Bool
is_unclear octet = octet == 36 || octet == 92

-- a key with more octets than a variable holds; with an upper-case letter; without a reference and without an escape
abbrev pub is_long : List ℕ → Bool
is_long text = nat_lt max_value (length text) && not (list_any is_unclear text)

abbrev pub is_capital : List ℕ → Bool
is_capital text = list_any is_ascii_uppercase text && not (list_any is_unclear text)

-- a field of each part
unfoldable pub is_part_field : List ℕ → Bool
is_part_field name =
    list_any (is_word name) (codes "content-type" ∷ codes "content-disposition" ∷ codes "content-transfer-encoding"
    ∷ codes "content-id" ∷ codes "content-description" ∷ [])

-- a field that a message has and other parts don't
unfoldable pub is_root_field : List ℕ → Bool
is_root_field name = list_any (is_word name) (codes "subject" ∷ codes "from" ∷ codes "to" ∷ codes "list-id" ∷ [])

-- the text between a string's quotes gets a note of this kind
abbrev pub is_noted_text : NoteKind → List ℕ → Bool
is_noted_text Foreign text = list_any is_beyond text
is_noted_text Colon text = ends_with_colon text
is_noted_text Space text = list_any is_blank text
is_noted_text StarInContains text = begins_with_star text
is_noted_text StarInIs text = begins_with_star text || ends_with_star text
is_noted_text NoWildcard text = true
is_noted_text SlashInPiece text = list_any is_slash text
is_noted_text NoSlash text = is_bare text
is_noted_text NoDigest text = not (is_digest text || list_any is_unclear text)
is_noted_text LongKey text = is_long text
is_noted_text CapitalKey text = is_capital text
is_noted_text PartField text = is_part_field text
is_noted_text RootField text = is_root_field text
is_noted_text _ text = false

-- a number that no message's size is over
abbrev pub is_large : Option ℕ → Bool
is_large None = false
is_large (Some number) = nat_le max_message number

abbrev pub is_quoted : TokenKind → Bool
is_quoted QuotedString = true
is_quoted _ = false

-- the token is noted so
unfoldable pub is_noted : List ℕ → NoteKind → Token → Bool
is_noted script LongKey token = is_quoted token.kind && is_noted_text LongKey (inner (text_of script token))
is_noted script SlashInPiece token = is_quoted token.kind && is_noted_text SlashInPiece (inner (text_of script token))
is_noted script NoSlash token = is_quoted token.kind && is_noted_text NoSlash (inner (text_of script token))
is_noted script CapitalKey token = is_quoted token.kind && is_noted_text CapitalKey (inner (text_of script token))
is_noted script LargeSize token = is_amount token.kind && is_large (below_limit (number_value (text_of script token)))
is_noted script kind token = is_string token.kind && is_noted_text kind (inner (text_of script token))

abbrev pub noted_as : NoteKind → Token → Noted
noted_as kind token = record { place = token.start; kind = kind }

-- the first of the tokens that is noted so
abbrev pub note_in : List ℕ → NoteKind → List Token → Option Noted
note_in script kind tokens = option_map (noted_as kind) (find (is_noted script kind) tokens)

-- ---- the arguments of a test

-- the arguments behind its name, without a comma behind them
abbrev pub arguments_of : List Token → List Token
arguments_of rest =
    let size = length (take_while is_of_arguments rest) in
    take (if is_separator (slice_get rest (size - 1)) then size - 1 else size) rest

abbrev pub is_group_opening : TokenKind → Bool
is_group_opening OpeningParenthesis = true
is_group_opening _ = false

abbrev pub is_group_closing : TokenKind → Bool
is_group_closing ClosingParenthesis = true
is_group_closing _ = false

abbrev pub is_block_closing : TokenKind → Bool
is_block_closing ClosingBrace = true
is_block_closing _ = false

abbrev pub is_tag : TokenKind → Bool
is_tag Tag = true
is_tag _ = false

-- the token is that tag, which is given with its colon
abbrev pub is_tagged : List ℕ → List ℕ → Token → Bool
is_tagged script tag token = is_tag token.kind && is_word (text_of script token) tag

abbrev pub has_tag : List ℕ → List ℕ → List Token → Bool
has_tag script tag arguments = list_any (is_tagged script tag) arguments

abbrev pub opens_list : TokenKind → Bool
opens_list OpeningBracket = true
opens_list _ = false

abbrev pub closes_list : TokenKind → Bool
closes_list ClosingBracket = true
closes_list _ = false

abbrev pub is_inside : Token → Bool
is_inside token = not (closes_list token.kind)

-- the last argument begins with the token: a string behind which nothing stands, or a list
abbrev pub begins_last : Token → List Token → Bool
begins_last token behind =
    if opens_list token.kind then length (take_while is_inside behind) + 1 == length behind else length behind == 0

-- how many tokens of the arguments stand before the last of them
abbrev pub before_last : List Token → ℕ
before_last [] = 0
before_last (token ∷ behind) = if begins_last token behind then 0 else suc (before_last behind)

-- the last argument, and those before it
abbrev pub last_of : List Token → List Token
last_of arguments = drop (before_last arguments) arguments

abbrev pub earlier_of : List Token → List Token
earlier_of arguments = take (before_last arguments) arguments

-- ---- tests

-- names of fields
abbrev pub names_note : List ℕ → List Token → Option Noted
names_note script names = option_or (note_in script Colon names) (note_in script Space names)

abbrev pub has_wildcard : List ℕ → Token → Bool
has_wildcard script token = list_any is_wildcard (text_of script token)

-- keys of `:matches`: that none of them has a wildcard or a reference
abbrev pub patterns_note : List ℕ → List Token → Option Noted
patterns_note script keys = if list_any (has_wildcard script) keys then None else note_in script NoWildcard keys

-- the keys of a test with these arguments, by how it compares
unfoldable pub keys_note : List ℕ → List Token → Option Noted
keys_note script arguments =
    if has_tag script (codes ":matches") arguments then patterns_note script (last_of arguments) else
    if has_tag script (codes ":contains") arguments then note_in script StarInContains (last_of arguments) else
    note_in script StarInIs (last_of arguments)

-- the token is the name of another field than Content-Type
abbrev pub is_other_field : List ℕ → Token → Bool
is_other_field script token = is_string token.kind && not (is_word (inner (text_of script token)) (codes "content-type"))

-- the test compares with a piece of a type; it has another comparison than `:is`
abbrev pub takes_piece : List ℕ → List Token → Bool
takes_piece script arguments = has_tag script (codes ":type") arguments || has_tag script (codes ":subtype") arguments

abbrev pub takes_part : List ℕ → List Token → Bool
takes_part script arguments = has_tag script (codes ":matches") arguments || has_tag script (codes ":contains") arguments

-- the test compares with whole types, which all have a slash: Content-Disposition has none
abbrev pub takes_types : List ℕ → List Token → Bool
takes_types script arguments =
    (has_tag script (codes ":contenttype") arguments && not (takes_part script arguments))
    && not (list_any (is_other_field script) (last_of (earlier_of arguments)))

-- the keys of a `header`, by which piece of a type it compares with
unfoldable pub type_note : List ℕ → List Token → Option Noted
type_note script arguments =
    if takes_piece script arguments then note_in script SlashInPiece (last_of arguments) else
    if takes_types script arguments then note_in script NoSlash (last_of arguments) else
    None

-- of `header`: the names of fields are the last argument but one
unfoldable pub header_note : List ℕ → List Token → Option Noted
header_note script arguments =
    option_or (option_or (option_or (names_note script (last_of (earlier_of arguments))) (keys_note script arguments))
    (type_note script arguments)) (note_in script Foreign arguments)

abbrev pub size_note : List ℕ → List Token → Option Noted
size_note script arguments = if has_tag script (codes ":over") arguments then note_in script LargeSize arguments else None

-- the name of the variable to which a reference comes first, or nothing
abbrev pub referred : List ℕ → List ℕ
referred text =
    let behind = drop 2 text in
    let size = length (take_while continues_identifier behind) in
    if (bytes_eq (take 2 text) (codes "${") && is_identifier (take size behind)) && bytes_eq (take 1 (drop size behind)) (codes "}")
    then take size behind else []

-- the text is a reference to a variable, and nothing else
abbrev pub is_reference : List ℕ → Bool
is_reference text = let name = referred text in nat_lt 0 (length name) && length text == length name + 3

-- the token is a source of a `string`, and something else
abbrev pub is_other_source : List ℕ → Token → Bool
is_other_source script token = is_string token.kind && not (is_reference (inner (text_of script token)))

-- of `string`, if each source, in the last argument but one, is a variable, and its keys are no patterns
unfoldable pub long_note : List ℕ → List Token → Option Noted
long_note script arguments =
    if has_tag script (codes ":matches") arguments || list_any (is_other_source script) (last_of (earlier_of arguments))
    then None else note_in script LongKey (last_of arguments)

-- of the test with that name
unfoldable pub test_note : List ℕ → List ℕ → List Token → Option Noted
test_note script name arguments =
    if is_word name (codes "header") then header_note script arguments else
    if is_word name (codes "string") then option_or (keys_note script arguments) (long_note script arguments) else
    if is_word name (codes "partbody") then keys_note script arguments else
    if is_word name (codes "exists") then names_note script (last_of arguments) else
    if is_word name (codes "partdigest") then note_in script NoDigest arguments else
    if is_word name (codes "size") then size_note script arguments else
    None

-- names of fields in a test with these arguments, where so many braces are open within loops over parts, or it is no loop's: those of
-- the message are meant, unless the test has `:mime`
abbrev pub part_note : List ℕ → ℕ → List Token → List Token → Option Noted
part_note script inside names arguments =
    if inside == 0 || has_tag script (codes ":mime") arguments then None else note_in script PartField names

-- with `:anychild` the fields of all parts below are meant
abbrev pub root_note : List ℕ → List Token → List Token → Option Noted
root_note script names arguments = if has_tag script (codes ":anychild") arguments then note_in script RootField names else None

abbrev pub fields_note : List ℕ → ℕ → List Token → List Token → Option Noted
fields_note script inside names arguments = option_or (part_note script inside names arguments) (root_note script names arguments)

-- of the test with that name
unfoldable pub scope_note : List ℕ → ℕ → List ℕ → List Token → Option Noted
scope_note script inside name arguments =
    if is_word name (codes "exists") then fields_note script inside (last_of arguments) arguments else
    if is_word name (codes "header") then fields_note script inside (last_of (earlier_of arguments)) arguments else
    None

-- ---- commands that never run

-- how many braces are open behind one more token
abbrev pub open_behind : TokenKind → ℕ → ℕ
open_behind OpeningBrace depth = depth + 1
open_behind ClosingBrace depth = depth - 1
open_behind _ depth = depth

-- how many tokens there are up to the one behind which no brace is open, where so many are open before them
abbrev pub block_length : ℕ → List Token → ℕ
block_length depth [] = 0
block_length depth (token ∷ tokens) =
    if open_behind token.kind depth == 0 then 1 else suc (block_length (open_behind token.kind depth) tokens)

-- the token is that word
abbrev pub is_word_at : List ℕ → List ℕ → Option Token → Bool
is_word_at script word None = false
is_word_at script word (Some token) = is_word (text_of script token) word

-- the command that begins with the token, if one does
abbrev pub command_at : NoteKind → Option Token → Option Noted
command_at kind None = None
command_at kind (Some token) = if is_name token.kind then Some (noted_as kind token) else None

-- the token begins another branch
abbrev pub begins_branch : List ℕ → Option Token → Bool
begins_branch script token = is_word_at script (codes "elsif") token || is_word_at script (codes "else") token

abbrev pub is_no_opening : Token → Bool
is_no_opening token = not (is_opening token.kind)

-- the tokens from the first brace on
abbrev pub blocks_of : List Token → List Token
blocks_of tokens = drop (length (take_while is_no_opening tokens)) tokens

-- an `elsif` or `else` behind the first block of the tokens
abbrev pub branch_note : List ℕ → List Token → Option Noted
branch_note script tokens =
    let next = slice_get tokens (block_length 0 tokens) in if begins_branch script next then command_at AfterTrue next else None

-- the tokens begin with that word, or with `not` and the other one
abbrev pub is_literal : List ℕ → List ℕ → List ℕ → List Token → Bool
is_literal script word other tokens =
    is_word_at script word (slice_get tokens 0)
    || (is_word_at script (codes "not") (slice_get tokens 0) && is_word_at script other (slice_get tokens 1))

abbrev pub opens_group : Token → Bool
opens_group token = is_group_opening token.kind

abbrev pub closes_group : Token → Bool
closes_group token = is_group_closing token.kind

-- the token comes directly before a test of a group
abbrev pub precedes_test : Option Token → Bool
precedes_test None = false
precedes_test (Some token) = is_comma token.kind || is_group_opening token.kind

-- that place of the tokens is in the group itself: one bracket more is opened before it than closed
abbrev pub is_member : List Token → ℕ → Bool
is_member tokens place = count_by opens_group (take place tokens) == count_by closes_group (take place tokens) + 1

-- a test begins there, and is that word, or `not` and the other one; it is one of the group itself
abbrev pub begins_literal : List ℕ → List ℕ → List ℕ → List Token → ℕ → Bool
begins_literal script word other tokens place =
    precedes_test (slice_get tokens (place - 1)) && is_literal script word other (drop place tokens)

abbrev pub is_literal_at : List ℕ → List ℕ → List ℕ → List Token → ℕ → Bool
is_literal_at script word other tokens place = is_member tokens place && begins_literal script word other tokens place

-- a test of the group whose tokens these are is that word, or `not` and the other one
abbrev pub has_literal : List ℕ → List ℕ → List ℕ → List Token → Bool
has_literal script word other tokens = is_some (find (is_literal_at script word other tokens) (range_with_len 0 (length tokens)))

-- the test before the block of an `if` is that word, or `not` and the other one, or a group with such a test
unfoldable pub is_constant : List ℕ → List ℕ → List ℕ → List ℕ → List Token → Bool
is_constant script word other group tokens =
    is_literal script word other tokens
    || (is_word_at script group (slice_get tokens 0) && has_literal script word other (take_while is_no_opening tokens))

-- so it is true of every message; is false of every one
abbrev pub is_always_true : List ℕ → List Token → Bool
is_always_true script tokens = is_constant script (codes "true") (codes "false") (codes "anyof") tokens

abbrev pub is_always_false : List ℕ → List Token → Bool
is_always_false script tokens = is_constant script (codes "false") (codes "true") (codes "allof") tokens

-- of an `if` or `elsif` before these tokens
unfoldable pub if_note : List ℕ → List Token → Option Noted
if_note script rest =
    if is_always_true script rest then branch_note script (blocks_of rest) else
    if is_always_false script rest then command_at BehindFalse (slice_get rest 0) else
    None

-- ---- blocks, and what is at their own level

-- the tokens up to the end of the first block, without those before it; the tokens after it
abbrev pub block_of : List Token → List Token
block_of tokens = let blocks = blocks_of tokens in take (block_length 0 blocks) blocks

abbrev pub behind_block : List Token → List Token
behind_block tokens = let blocks = blocks_of tokens in drop (block_length 0 blocks) blocks

abbrev pub opens_block : Token → Bool
opens_block token = is_opening token.kind

abbrev pub closes_block : Token → Bool
closes_block token = is_block_closing token.kind

-- that place is at the block's own level: one brace more is opened before it than closed
abbrev pub is_own : List Token → ℕ → Bool
is_own block place = count_by opens_block (take place block) == count_by closes_block (take place block) + 1

-- the token is one of these words; the first of the block that is one and at the block's own level
abbrev pub is_one_at : List ℕ → List (List ℕ) → Option Token → Bool
is_one_at script words None = false
is_one_at script words (Some token) = list_any (is_word (text_of script token)) words

abbrev pub is_own_word : List ℕ → List (List ℕ) → List Token → ℕ → Bool
is_own_word script words block place = is_own block place && is_one_at script words (slice_get block place)

abbrev pub own_word : List ℕ → List (List ℕ) → List Token → Option Token
own_word script words block = option_and_then (slice_get block) (find (is_own_word script words block) (range_with_len 0 (length block)))

-- after one of its commands no other runs
unfoldable pub ends : List ℕ → List Token → Bool
ends script block = is_some (own_word script (codes "stop" ∷ codes "break" ∷ []) block)

-- ---- an `if` whose branches all end

-- the tokens of each branch on, up to so many branches: the first has these tokens, and each other one begins after the block of the
-- one before it, with `elsif` or `else`
abbrev pub branches : ℕ → List ℕ → List Token → List (List Token)
branches zero script tokens = []
branches (suc most) script tokens =
    let behind = behind_block tokens in
    tokens ∷ (if begins_branch script (slice_get behind 0) then branches most script behind else [])

-- the tokens after the last of them
abbrev pub behind_branches : ℕ → List ℕ → List Token → List Token
behind_branches zero script tokens = []
behind_branches (suc most) script tokens =
    let behind = behind_block tokens in
    if begins_branch script (slice_get behind 0) then behind_branches most script behind else behind

-- the branch is that of `else`; its block ends
abbrev pub is_else : List ℕ → List Token → Bool
is_else script branch = is_word_at script (codes "else") (slice_get branch 0)

abbrev pub branch_ends : List ℕ → List Token → Bool
branch_ends script branch = ends script (block_of branch)

-- of the command after an `if` with these tokens: each of its branches ends, and one of them runs, since its first test is always true
-- or there is an `else`
abbrev pub chain_note : List ℕ → Bool → List Token → Option Noted
chain_note script only tokens =
    let all = branches (length tokens) script tokens in
    if list_all (branch_ends script) all && (only || list_any (is_else script) all)
    then command_at AfterIf (slice_get (behind_branches (length tokens) script tokens) 0)
    else None

-- ---- a `store` for each part

-- the first `store` at the own level of a loop's block
unfoldable pub loop_note : List ℕ → List Token → Option Noted
loop_note script block = command_at StoresAll (own_word script (codes "store" ∷ []) block)

-- ---- two entries for one message

abbrev pub is_inbox : List ℕ → Token → Bool
is_inbox script token = is_string token.kind && bytes_eq (inner (text_of script token)) (codes "INBOX")

-- the tokens from the command on that follows one that ends with a semicolon
abbrev pub next_of : List Token → List Token
next_of rest = drop (length (take_while is_of_arguments rest) + 1) rest

-- these are the arguments of a `fileinto` that files into INBOX; the tokens begin with that command
abbrev pub has_inbox : List ℕ → List Token → Bool
has_inbox script rest = list_any (is_inbox script) (arguments_of rest)

abbrev pub begins_inbox : List ℕ → List Token → Bool
begins_inbox script tokens = is_word_at script (codes "fileinto") (slice_get tokens 0) && has_inbox script (drop 1 tokens)

-- of the command after a `keep`; after a `fileinto`
abbrev pub inbox_note : List ℕ → List Token → Option Noted
inbox_note script next = if begins_inbox script next then command_at TwoEntries (slice_get next 0) else None

abbrev pub kept_note : List ℕ → List Token → List Token → Option Noted
kept_note script rest next =
    if has_inbox script rest && is_word_at script (codes "keep") (slice_get next 0) then command_at TwoEntries (slice_get next 0) else None

-- ---- commands by their names

-- the command behind the arguments of one that ends with a semicolon, if there is one
abbrev pub next_note : NoteKind → List Token → Option Noted
next_note kind rest = command_at kind (slice_get rest (length (take_while is_of_arguments rest) + 1))

-- of the command with that name
unfoldable pub command_note : List ℕ → List ℕ → List Token → Option Noted
command_note script name rest =
    if is_word name (codes "if") then option_or (if_note script rest) (chain_note script (is_always_true script rest) rest) else
    if is_word name (codes "elsif") then if_note script rest else
    if is_word name (codes "stop") then next_note AfterStop rest else
    if is_word name (codes "break") then next_note AfterBreak rest else
    if is_word name (codes "keep") then inbox_note script (next_of rest) else
    if is_word name (codes "fileinto") then kept_note script rest (next_of rest) else
    if is_word name (codes "foreverypart") then loop_note script (block_of rest) else
    None

-- ---- captures

-- the string is the capability for references
abbrev pub is_variables : List ℕ → Token → Bool
is_variables script token = is_string token.kind && bytes_eq (inner (text_of script token)) (codes "variables")

-- the token is a `require` of it, with these tokens behind; the script has one
abbrev pub requires_variables : List ℕ → Token → List Token → Bool
requires_variables script token rest =
    (is_name token.kind && is_word (text_of script token) (codes "require")) && list_any (is_variables script) (arguments_of rest)

abbrev pub expands_references : List ℕ → List Token → Bool
expands_references script [] = false
expands_references script (token ∷ rest) = requires_variables script token rest || expands_references script rest

-- how many wildcards a key has at most: nine, which is as many as have numbers, if it has a reference or a backslash
abbrev pub is_star_or_mark : ℕ → Bool
is_star_or_mark octet = octet == 42 || octet == 63

abbrev pub wildcards_of : List ℕ → Token → ℕ
wildcards_of script token =
    let text = text_of script token in if list_any is_unclear text then 9 else length (filter is_star_or_mark text)

-- the most of the keys; of a test with these arguments, if it has `:matches`
abbrev pub most_of : List ℕ → List Token → ℕ
most_of script [] = 0
most_of script (key ∷ keys) = max (wildcards_of script key) (most_of script keys)

abbrev pub most_in : List ℕ → List Token → ℕ
most_in script arguments = if has_tag script (codes ":matches") arguments then most_of script (last_of arguments) else 0

-- the most of all tests of the script
abbrev pub most_captures : List ℕ → List Token → ℕ
most_captures script [] = 0
most_captures script (token ∷ rest) =
    max (if is_name token.kind then most_in script (arguments_of rest) else 0) (most_captures script rest)

-- the string has a reference to a capture that is always empty
abbrev pub has_empty : List ℕ → ℕ → Token → Bool
has_empty script most token = is_string token.kind && has_capture most (inner (text_of script token))

-- ---- variables

abbrev pub is_text : Token → Bool
is_text token = is_string token.kind

-- the command gives a variable its value; the string with its name
abbrev pub gives_value : List ℕ → Bool
gives_value name = is_word name (codes "set") || is_word name (codes "take")

abbrev pub given_by : List ℕ → Token → List Token → Option Token
given_by script token rest = if is_name token.kind && gives_value (text_of script token) then find is_text rest else None

abbrev pub is_backslash : ℕ → Bool
is_backslash octet = octet == 92

-- the string may be that name: in one with a backslash it isn't looked for
abbrev pub may_name : List ℕ → List ℕ → Token → Bool
may_name script name token =
    let text = inner (text_of script token) in is_word text name || list_any is_backslash text

-- the command gives its variable a value without upper-case letters
abbrev pub lowers : List ℕ → Token → List Token → Bool
lowers script token rest =
    (is_word (text_of script token) (codes "set") && has_tag script (codes ":lower") (arguments_of rest))
    && not (has_tag script (codes ":upperfirst") (arguments_of rest))

-- the string with the name, of any such command, or only of one whose value may have upper-case letters; those of all commands
abbrev pub named_by : List ℕ → Bool → Token → List Token → Option Token
named_by script raised token rest = if raised && lowers script token rest then None else given_by script token rest

abbrev pub given_of : List ℕ → Bool → List Token → List Token
given_of script raised [] = []
given_of script raised (token ∷ rest) = cons_option (named_by script raised token rest) (given_of script raised rest)

-- one of the strings may be that name
abbrev pub is_named_by : List ℕ → List Token → List ℕ → Bool
is_named_by script given name = list_any (may_name script name) given

-- it has no value; the function says which names may have one
abbrev pub refers_to_none : (List ℕ → Bool) → List ℕ → Bool
refers_to_none has text = let name = referred text in nat_lt 0 (length name) && not (has name)

abbrev pub lacks_at : (List ℕ → Bool) → List ℕ → ℕ → Bool
lacks_at has text place = refers_to_none has (drop place text)

abbrev pub lacks_value : (List ℕ → Bool) → List ℕ → Bool
lacks_value has text = list_any (lacks_at has text) (range_with_len 0 (length text))

-- the string has such a reference
abbrev pub has_no_value : List ℕ → (List ℕ → Bool) → Token → Bool
has_no_value script has token = is_quoted token.kind && lacks_value has (inner (text_of script token))

-- ---- variables that nothing reads

-- the text has a reference to the variable of that name
abbrev pub refers_at : List ℕ → List ℕ → ℕ → Bool
refers_at name text place = is_word (referred (drop place text)) name

abbrev pub refers_to : List ℕ → List ℕ → Bool
refers_to name text = list_any (refers_at name text) (range_with_len 0 (length text))

-- the string may have one: in one with a backslash it isn't looked for
abbrev pub may_refer : List ℕ → List ℕ → Token → Bool
may_refer script name token =
    let text = inner (text_of script token) in is_string token.kind && (refers_to name text || list_any is_backslash text)

-- the string, if there is one, is that name
abbrev pub is_named : List ℕ → List ℕ → Option Token → Bool
is_named script name None = false
is_named script name (Some token) = is_word (inner (text_of script token)) name

-- the token is a command or test with an argument that may refer to the variable, and gives it no value itself; the script has one
abbrev pub reads : List ℕ → List ℕ → Token → List Token → Bool
reads script name token rest =
    (is_name token.kind && not (is_named script name (given_by script token rest))) && list_any (may_refer script name) (arguments_of rest)

abbrev pub is_read : List ℕ → List Token → List ℕ → Bool
is_read script [] name = false
is_read script (token ∷ rest) name = reads script name token rest || is_read script rest name

-- the first of the strings that may be that name
abbrev pub first_named : List ℕ → List Token → List ℕ → Option Token
first_named script given name = find (may_name script name) given

-- ---- the notes of a script

-- what is known of the whole script: references are expanded; a test has `:matches`; the most wildcards of a key of one; which names of
-- variables may have a value; which may have one with upper-case letters; the first string that gives one to the name; which names may
-- be read
pub record Known : Type 0 where
  pub expands : Bool
  pub matches : Bool
  pub most : ℕ
  pub has : List ℕ → Bool
  pub raised : List ℕ → Bool
  pub first : List ℕ → Option Token
  pub read : List ℕ → Bool

-- of the arguments of a command or test in it: a capture that is always empty, by whether there is any; a variable without a value
abbrev pub capture_kind : Bool → NoteKind
capture_kind true = FewWildcards
capture_kind false = NoCapture

abbrev pub capture_note : List ℕ → Known → List Token → Option Noted
capture_note script known arguments = option_map (noted_as (capture_kind known.matches)) (find (has_empty script known.most) arguments)

abbrev pub value_note : List ℕ → Known → List Token → Option Noted
value_note script known arguments = option_map (noted_as NoValue) (find (has_no_value script known.has) arguments)

-- octets are compared: that comparator comes directly behind its tag
abbrev pub is_octet_at : List ℕ → Option Token → Bool
is_octet_at script None = false
is_octet_at script (Some token) = is_string token.kind && bytes_eq (inner (text_of script token)) (codes "i;octet")

abbrev pub compares_octets : List ℕ → List Token → Bool
compares_octets script [] = false
compares_octets script (token ∷ rest) =
    (is_tagged script (codes ":comparator") token && is_octet_at script (slice_get rest 0)) || compares_octets script rest

-- a source that is no variable, or one whose value may have upper-case letters; the function says which may
abbrev pub is_raised : List ℕ → (List ℕ → Bool) → Token → Bool
is_raised script raised token =
    let text = inner (text_of script token) in is_string token.kind && (not (is_reference text) || raised (referred text))

-- a key of `string` that has such letters, if no source may have one
unfoldable pub capital_note : List ℕ → Known → List Token → Option Noted
capital_note script known arguments =
    if (compares_octets script arguments && not (has_tag script (codes ":matches") arguments))
    && not (list_any (is_raised script known.raised) (last_of (earlier_of arguments)))
    then note_in script CapitalKey (last_of arguments) else None

-- the same for the test with that name
abbrev pub lower_note : List ℕ → Known → List ℕ → List Token → Option Noted
lower_note script known name arguments = if is_word name (codes "string") then capital_note script known arguments else None

-- the string is the first one
abbrev pub is_first : Token → Option Token → Bool
is_first token None = false
is_first token (Some first) = token.start == first.start

-- nothing reads the variable of that name, which isn't given before: one with a backslash isn't looked for
abbrev pub is_unread : List ℕ → Known → Token → Bool
is_unread script known token =
    let name = inner (text_of script token) in
    (is_first token (known.first name) && not (list_any is_backslash name)) && not (known.read name)

-- of the command or test with that name: the string that names its variable; that nothing reads it
abbrev pub given_in : List ℕ → List Token → Option Token
given_in name arguments = if gives_value name then find is_text arguments else None

abbrev pub unread_note : List ℕ → Known → Option Token → Option Noted
unread_note script known None = None
unread_note script known (Some token) = if is_unread script known token then Some (noted_as Unread token) else None

-- the string of the command is the name of a loop, in which references aren't expanded
abbrev pub names_loop : List ℕ → Bool
names_loop name = is_word name (codes "foreverypart") || is_word name (codes "break")

-- of what is between quotes in the arguments of the command or test with that name
unfoldable pub string_note : List ℕ → Known → List ℕ → List Token → Option Noted
string_note script known name arguments =
    if not known.expands || names_loop name then None else
    option_or (option_or (option_or (capture_note script known arguments) (value_note script known arguments))
    (lower_note script known name arguments)) (unread_note script known (given_in name arguments))

-- of the command or test with that name; so many braces are open within loops, or none
unfoldable pub word_note : List ℕ → ℕ → List ℕ → List Token → Option Noted
word_note script inside name rest =
    option_or (option_or (test_note script name (arguments_of rest)) (command_note script name rest))
    (scope_note script inside name (arguments_of rest))

-- of the command or test that begins with the token
unfoldable pub note_at : List ℕ → Known → ℕ → Token → List Token → Option Noted
note_at script known inside token rest =
    if is_name token.kind
    then option_or (word_note script inside (text_of script token) rest) (string_note script known (text_of script token) (arguments_of rest))
    else None

-- how many braces are open behind one more token, from the outermost loop over parts on: 1 for its own name, and 0 outside of any
abbrev pub inside_behind : List ℕ → Token → ℕ → ℕ
inside_behind script token inside =
    if inside == 0 then (if is_word (text_of script token) (codes "foreverypart") then 1 else 0) else
    let depth = open_behind token.kind inside in if is_block_closing token.kind && nat_le inside 2 then 0 else depth

abbrev pub onto : Option Noted → List Noted → List Noted
onto None notes = notes
onto (Some noted) notes = noted ∷ notes

-- all of them, in the order of these commands and tests
abbrev pub notes_from : List ℕ → Known → ℕ → List Token → List Noted
notes_from script known inside [] = []
notes_from script known inside (token ∷ rest) =
    onto (note_at script known inside token rest) (notes_from script known (inside_behind script token inside) rest)

abbrev pub known_of : List ℕ → List Token → Known
known_of script tokens = record {
  expands = expands_references script tokens;
  matches = has_tag script (codes ":matches") tokens;
  most = most_captures script tokens;
  has = is_named_by script (given_of script false tokens);
  raised = is_named_by script (given_of script true tokens);
  first = first_named script (given_of script false tokens);
  read = is_read script tokens;
}

abbrev pub notes_of : List ℕ → List Token → List Noted
notes_of script tokens = notes_from script (known_of script tokens) 0 tokens
