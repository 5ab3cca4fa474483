-- What is said of a script that isn't parsed.
use Rattle.std.specs.Prelude.{ℕ, suc, ◌^◌, ◌-◌, ◌==◌, nat_lt, ◌&&◌, ◌||◌, if◌then◌else◌, Bool, List, [], ◌∷◌, drop, length, take, take_while, slice_index, slice_range, bytes_eq, codes}
use Rattle.std.specs.Char.{is_ascii_alphabetic, is_ascii_digit}
use Rattle.octets.specs.Limits.{max_nesting, max_script}
use Rattle.refusals.specs.declared.fault_kind.FaultKind.{FaultKind}
use Rattle.refusals.specs.declared.fault_kind.FaultKind.TheVariants.{Misplaced, SecondLabel, NoLabel, Limits}
use Rattle.sieve_check.specs.Rules.{max_reasons}
use Rattle.sieve_lexer.specs.Classes.{begins_identifier}
use Rattle.sieve_lexer.specs.declared.token.Token.{Token}
use Rattle.sieve_lexer.specs.declared.token.TokenKind.{TokenKind}
use Rattle.sieve_lexer.specs.declared.token.TokenKind.TheVariants.{Identifier, Tag, Number, QuotedString, MultiLineString, Semicolon, Comma, OpeningBrace, ClosingBrace, OpeningParenthesis, ClosingParenthesis, OpeningBracket, ClosingBracket}
use Rattle.sieve_explain.specs.Characters.{first_piece}
use Rattle.sieve_explain.specs.Sentences.{Blanks, plain}
use Rattle.sieve_explain.specs.Words.{with_words}

-- what begins no token and no separator: its first octets, and what is said of it
pub record Beginning : Type 0 where
  pub octets : List ℕ
  pub text : List ℕ

abbrev pub beginning : List ℕ → List ℕ → Beginning
beginning octets text = record { octets = octets; text = text }

abbrev pub typographic : List ℕ
typographic = codes "this is a typographic quote: put strings in straight double quotes, \"like this\""

-- a byte order mark, the four typographic quotes, a single quote, and two slashes; then what is never closed, a colon alone, and
-- what other languages have for operators
unfoldable pub beginnings : List Beginning
beginnings =
    beginning (239 ∷ 187 ∷ 191 ∷ []) (codes "this is a byte order mark: save the script as UTF-8 without one")
    ∷ beginning (226 ∷ 128 ∷ 152 ∷ []) typographic
    ∷ beginning (226 ∷ 128 ∷ 153 ∷ []) typographic
    ∷ beginning (226 ∷ 128 ∷ 156 ∷ []) typographic
    ∷ beginning (226 ∷ 128 ∷ 157 ∷ []) typographic
    ∷ beginning (codes "'") (codes "this is a single quote: put strings in double quotes, \"like this\"")
    ∷ beginning (codes "//") (codes "this begins no comment: write `&` before it, or put it between `/*` and `*/`")
    ∷ beginning (codes "\"") (codes "a string is never closed: this quote, or one before it, has no partner")
    ∷ beginning (codes "/*") (codes "this comment is never closed: add `*/` at its end")
    ∷ beginning (codes ":") (codes "this colon has no tag name directly after it")
    ∷ beginning (codes "&") (codes "Sieve has no @: write `allof (.., ..)`, which is true if all of its tests are")
    ∷ beginning (codes "|") (codes "Sieve has no @: write `anyof (.., ..)`, which is true if one of its tests is")
    ∷ beginning (codes ">") (codes "Sieve has no @: write `:over` before the number, as in `size :over 100K`")
    ∷ beginning (codes "<") (codes "Sieve has no @: write `:under` before the number, as in `size :under 100K`")
    ∷ beginning (codes "=") (codes "Sieve has no @: write `:is` before the strings, as in `header :is \"Subject\" \"text\"`")
    ∷ beginning (codes "!") (codes "Sieve has no @: write `not` before the test, as in `not exists \"Subject\"`")
    ∷ []

-- the text for the first of the rows with which the octets begin, or nothing
abbrev pub text_at : List ℕ → List Beginning → List ℕ
text_at rest [] = []
text_at rest (row ∷ rows) = if bytes_eq (take (length row.octets) rest) row.octets then row.text else text_at rest rows

-- the text for other octets at which neither a token nor a separator begins
abbrev pub other_text : List ℕ → List ℕ
other_text rest =
    let octet = slice_index rest 0 in
    if is_ascii_digit octet then codes "this number is too large: the largest is %" else
    if begins_identifier octet then codes "this multi-line string is never closed: end it with a line that has only a dot, and a line break after it" else
    codes "@ isn't allowed outside of strings and comments"

-- operators of other languages are written with it
abbrev pub is_symbol : ℕ → Bool
is_symbol octet = (octet == 38 || octet == 124) || (octet == 60 || octet == 62) || (octet == 61 || octet == 33)

-- all of the operator with which the octets begin, or the first character, or an octet that begins none
abbrev pub symbol_at : List ℕ → List ℕ
symbol_at rest =
    let size = length (take_while is_symbol rest) in if nat_lt 0 size then take size rest else (first_piece rest).octets

-- 11, by the octets from the place on
unfoldable pub lexical_blanks : List ℕ → Blanks
lexical_blanks rest = let text = text_at rest beginnings in record {
  text = with_words text text (other_text rest);
  name = symbol_at rest;
  subject = [];
  words = codes "#";
  others = [];
  number = 2 ^ 64 - 1;
}

-- 12
abbrev pub too_long_blanks : Blanks
too_long_blanks = record (plain (codes "the script has more than % bytes")) { number = max_script }

-- 13, of a token of the kind
unfoldable pub misplaced_token : TokenKind → List ℕ
misplaced_token Identifier = codes "@ isn't allowed here: is a brace or a semicolon missing before it?"
misplaced_token Tag = codes "@ isn't allowed here: arguments come directly after the name of their command or test"
misplaced_token Number = codes "@ isn't allowed here: arguments come directly after the name of their command or test"
misplaced_token QuotedString = codes "@ isn't allowed here: is a comma missing before it, or the name of its command or test?"
misplaced_token MultiLineString = codes "@ isn't allowed here: is a comma missing before it, or the name of its command or test?"
misplaced_token Semicolon = codes "@ isn't allowed here: is it one too many, or is a bracket missing before it?"
misplaced_token Comma = codes "@ isn't allowed here: put a list of strings in square brackets, and tests in round ones after `allof` or `anyof`"
misplaced_token OpeningBrace = codes "@ isn't allowed here: is a bracket missing before it, or its command?"
misplaced_token ClosingBrace = codes "@ isn't allowed here: is a semicolon missing before it, or its opening brace?"
misplaced_token OpeningParenthesis = codes "@ isn't allowed here: round brackets come after the name of a test, around tests"
misplaced_token ClosingParenthesis = codes "@ isn't allowed here: is a test missing before it, or its opening bracket?"
misplaced_token OpeningBracket = codes "@ isn't allowed here: square brackets come after a name, around strings"
misplaced_token ClosingBracket = codes "@ isn't allowed here: is a string missing before it, or its opening bracket?"

-- 13, of the token at fault
abbrev pub token_blanks : List ℕ → Token → Blanks
token_blanks script token = record (plain (misplaced_token token.kind)) { name = slice_range script token.start token.end }

-- 13, of the end
abbrev pub end_blanks : Blanks
end_blanks = plain (codes "the script ends before its last command is complete")

-- 14
abbrev pub too_deep_blanks : Blanks
too_deep_blanks = record (plain (codes "braces and tests are nested more than % levels deep here")) { number = max_nesting }

-- 13 at the end, of an opening brace that has no partner
abbrev pub unclosed_blanks : Blanks
unclosed_blanks = plain (codes "this brace is never closed")

-- 18, where a unit has more letters, or stands apart from its number
abbrev pub unit_blanks : Blanks
unit_blanks = plain (codes "the units of a number are K, M and G: write the letter directly after the number, with nothing after it, as in 5M")

-- 18, of a test that has the name of a tag, behind what takes none
abbrev pub colon_blanks : List ℕ → Blanks
colon_blanks label = record (plain (codes "@ is a tag: is a colon missing before it?")) { name = label }

-- 18, of a word that stands in the place of a string
abbrev pub word_blanks : List ℕ → Blanks
word_blanks word = record (plain (codes "@ should be a string: put it in quotation marks, \"like this\"")) { name = word }

-- behind the last of the reasons that are told
abbrev pub more_blanks : Blanks
more_blanks = record (plain (codes "only the first % errors are shown")) { number = max_reasons }

-- ---- a file that is no script

-- the name of a header field consists of letters and hyphens, as those do with which mails begin
abbrev pub is_field_octet : ℕ → Bool
is_field_octet octet = is_ascii_alphabetic octet || octet == 45

-- a header field comes first: its name, a colon and a blank
abbrev pub begins_as_mail : List ℕ → Bool
begins_as_mail file =
    let name = length (take_while is_field_octet file) in
    nat_lt 0 name && bytes_eq (take 2 (drop name file)) (codes ": ")

-- what is said of a refused file that begins as a program or a mail does, or nothing
unfoldable pub look_text : List ℕ → List ℕ
look_text file =
    if bytes_eq (take 4 file) (codes "SVBC")
    then codes "the file begins like a compiled program: `depot disassemble` prints the instructions of one"
    else if begins_as_mail file
    then codes "the file begins with a header field, like a mail: is it a script?"
    else []

-- ---- of a listing

abbrev pub is_dark : ℕ → Bool
is_dark octet = nat_lt 32 octet

-- what stands at the place, up to the next blank; nothing at the end
abbrev pub dark_at : List ℕ → List ℕ
dark_at [] = []
dark_at (octet ∷ rest) = take (suc (length (take_while is_dark rest))) (octet ∷ rest)

-- the text for what can't stand there, by the octets from the place on
abbrev pub misplaced_text : List ℕ → List ℕ
misplaced_text [] = codes "the listing ends before its program is complete"
misplaced_text (octet ∷ rest) =
    if octet == 34
    then codes "no string is allowed here, or this one is never closed, too long, or has a backslash without two hexadecimal digits"
    else codes "@ isn't allowed here: the version and the variables are followed by numbers, strings, and then instructions with their fields"

-- the text for a fault of the kind
abbrev pub listing_text : FaultKind → List ℕ → List ℕ
listing_text Misplaced rest = misplaced_text rest
listing_text SecondLabel rest = codes "the label @ is defined a second time"
listing_text NoLabel rest = codes "@ is neither a number nor a label of this listing"
listing_text Limits rest = codes "the program exceeds the limits for programs"

-- 28, by the kind of the fault, and the octets from its place on
unfoldable pub listing_blanks : FaultKind → List ℕ → Blanks
listing_blanks kind rest = record (plain (listing_text kind rest)) { name = dark_at rest }
