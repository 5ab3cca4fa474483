-- What an explanation looks for among the tokens of a script.
use Rattle.std.specs.Prelude.{ℕ, ◌-◌, ◌+◌, Bool, true, false, not, ◌&&◌, ◌||◌, ◌==◌, if◌then◌else◌, List, [], ◌∷◌, length, drop, take_while, Option, Some, None, is_some, bytes_eq, codes, slice_range}
use Rattle.std.specs.List.{find, list_any, slice_get}
use Rattle.std.specs.Option.{option_or}
use Rattle.octets.specs.Ascii.{is_word}
use Rattle.sieve_lexer.specs.Values.{string_value}
use Rattle.sieve_check.specs.Names.{command_named, test_named}
use Rattle.sieve_explain.specs.Hints.{known_tags}
use Rattle.sieve_lexer.specs.declared.token.Token.{Token}
use Rattle.sieve_lexer.specs.declared.token.TokenKind.{TokenKind}
use Rattle.sieve_lexer.specs.declared.token.TokenKind.TheVariants.{Identifier, Tag, Number, QuotedString, MultiLineString, Comma, OpeningBrace, ClosingBrace, OpeningBracket, ClosingBracket}

abbrev pub text_of : List ℕ → Token → List ℕ
text_of script token = slice_range script token.start token.end

-- ---- a string of a command

abbrev pub is_string : TokenKind → Bool
is_string QuotedString = true
is_string MultiLineString = true
is_string _ = false

-- the token is a string with that value
unfoldable pub has_value : List ℕ → List ℕ → Token → Bool
has_value script string token =
    is_string token.kind && bytes_eq (string_value token.kind (text_of script token)) string

-- the first of the tokens that is such a string, if there is one
abbrev pub string_among : List ℕ → List ℕ → List Token → Option Token
string_among script string tokens = find (has_value script string) tokens

-- arguments are written with it: strings, numbers, tags, and what stands around and between the strings of a list
abbrev pub writes_arguments : TokenKind → Bool
writes_arguments QuotedString = true
writes_arguments MultiLineString = true
writes_arguments Number = true
writes_arguments Tag = true
writes_arguments Comma = true
writes_arguments OpeningBracket = true
writes_arguments ClosingBracket = true
writes_arguments _ = false

abbrev pub is_comma : TokenKind → Bool
is_comma Comma = true
is_comma _ = false

abbrev pub is_of_arguments : Token → Bool
is_of_arguments token = writes_arguments token.kind

-- the tokens of the arguments of the command or test whose name is the token with that number
abbrev pub arguments_behind : ℕ → List Token → List Token
arguments_behind number tokens = take_while is_of_arguments (drop (number + 1) tokens)

-- ---- a unit with more letters

abbrev pub is_name : TokenKind → Bool
is_name Identifier = true
is_name _ = false

abbrev pub is_amount : TokenKind → Bool
is_amount Number = true
is_amount _ = false

abbrev pub is_number_at : Option Token → Bool
is_number_at None = false
is_number_at (Some token) = is_amount token.kind

-- what people write behind a number, or behind its K, M or G
unfoldable pub is_unit : List ℕ → Bool
is_unit text =
    list_any (is_word text) (codes "b" ∷ codes "kb" ∷ codes "mb" ∷ codes "gb" ∷ codes "ib" ∷ codes "kib" ∷ codes "mib"
    ∷ codes "gib"
    ∷ codes "k" ∷ codes "m" ∷ codes "g" ∷ codes "byte" ∷ codes "bytes" ∷ codes "octets" ∷ [])

abbrev pub is_unit_at : List ℕ → Option Token → Bool
is_unit_at script None = false
is_unit_at script (Some token) = is_unit (text_of script token)

abbrev pub is_no_name : Token → Bool
is_no_name token = not (is_name token.kind)

-- the first identifier of the tokens is such a unit, and stands behind a number
abbrev pub has_unit : List ℕ → List Token → Bool
has_unit script tokens =
    let place = length (take_while is_no_name tokens) in
    is_number_at (slice_get tokens (place - 1)) && is_unit_at script (slice_get tokens place)

-- ---- a tag without its colon

-- the octets of a name that a tag has, or nothing
abbrev pub label_at : List ℕ → Option Token → List ℕ
label_at script None = []
label_at script (Some token) =
    if is_name token.kind && list_any (is_word (text_of script token)) known_tags.names then text_of script token else []

-- the same of what stands behind the arguments with which the tokens begin
unfoldable pub label_behind : List ℕ → List Token → List ℕ
label_behind script tokens = label_at script (slice_get tokens (length (take_while is_of_arguments tokens)))

-- ---- a word in a string's place

-- strings of a list stand behind it
abbrev pub precedes_string : TokenKind → Bool
precedes_string Comma = true
precedes_string OpeningBracket = true
precedes_string _ = false

-- a word where a string of a list has to stand, by the token before it
abbrev pub is_word_in_list : Option Token → Token → Bool
is_word_in_list None token = false
is_word_in_list (Some before) token = precedes_string before.kind && is_name token.kind

abbrev pub is_separator : Option Token → Bool
is_separator None = false
is_separator (Some token) = is_comma token.kind

-- a word that begins no command and no test, and that no tag has; behind `require` any word
abbrev pub is_bare : List ℕ → List ℕ → Bool
is_bare name word = is_word name (codes "require")
    || not (list_any (is_word word) known_tags.names || is_some (command_named word) || is_some (test_named word))

-- the token, if it is such a word behind that name
abbrev pub if_bare : List ℕ → List ℕ → Option Token → Option Token
if_bare script name None = None
if_bare script name (Some token) = if is_name token.kind && is_bare name (text_of script token) then Some token else None

-- the same of what stands behind the arguments with which the tokens begin, if no comma stands before it
abbrev pub bare_behind : List ℕ → List ℕ → List Token → Option Token
bare_behind script name tokens =
    let place = length (take_while is_of_arguments tokens) in
    if is_separator (slice_get tokens (place - 1)) then None else if_bare script name (slice_get tokens place)

-- ---- a brace without its partner

-- how many closing braces have no partner, with one more token before those that have that many
abbrev pub unopened_over : TokenKind → ℕ → ℕ
unopened_over ClosingBrace waiting = waiting + 1
unopened_over OpeningBrace waiting = waiting - 1
unopened_over _ waiting = waiting

abbrev pub unopened : List Token → ℕ
unopened [] = 0
unopened (token ∷ tokens) = unopened_over token.kind (unopened tokens)

abbrev pub is_opening : TokenKind → Bool
is_opening OpeningBrace = true
is_opening _ = false

abbrev pub if_unclosed : Token → ℕ → Option Token
if_unclosed token waiting = if is_opening token.kind && waiting == 0 then Some token else None

-- the last opening brace that has no partner, if there is one
abbrev pub unclosed : List Token → Option Token
unclosed [] = None
unclosed (token ∷ tokens) = option_or (unclosed tokens) (if_unclosed token (unopened tokens))
