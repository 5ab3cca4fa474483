-- Places, lines and sentences that were written by hand.
use Rattle.std.proofs.Common.{◌≡◌, ℕ, ◌++◌, ◌∷◌, [], replicate, refl, true, false}
use Rattle.std.specs.Fmt.{digits}
use Rattle.std.specs.Prelude.{List, None, Some, bytes_eq, codes, is_some}
use Rattle.std.specs.List.{list_all, list_any}
use Rattle.sieve_check.specs.Names.{capability_named, command_named, tag_named, test_named}
use Rattle.sieve_check.specs.declared.names.Capability.{Capability}
use Rattle.sieve_check.specs.declared.names.Capability.TheVariants as capability
use Rattle.sieve_check.specs.declared.names.Capability.TheVariants.{FileInto}
use Rattle.sieve_check.specs.declared.signature.Positional.TheVariants as positional
use Rattle.sieve_check.specs.declared.signature.Positional.TheVariants.{Text}
use Rattle.sieve_check.specs.declared.signature.Tests.TheVariants.{Nothing}
use Rattle.sieve_lexer.specs.declared.token.Token.{Token}
use Rattle.sieve_lexer.specs.declared.token.TokenKind.{TokenKind}
use Rattle.sieve_lexer.specs.declared.token.TokenKind.TheVariants.{ClosingBrace, ClosingBracket, Comma, Identifier, MultiLineString, Number, OpeningBrace, OpeningBracket, QuotedString, Semicolon}
use Rattle.sieve_check.specs.declared.causes.ReasonKind.{ReasonKind}
use Rattle.sieve_check.specs.declared.causes.ReasonKind.TheVariants.{ExtraArgument, ForeignTag, LongString, MissingArgument, MissingCapability, Misplaced, UnknownCapability, UnknownCommand, UnknownTag, UnknownTest, WrongTests}
use Rattle.sieve_explain.specs.Explaining.{column, heading, label_blanks, look_told, note, numbered, printed, remark, told}
use Rattle.sieve_explain.specs.Faults.{beginnings, end_blanks, lexical_blanks, look_text, misplaced_token, more_blanks, token_blanks}
use Rattle.sieve_explain.specs.Hints.{known_capabilities, known_commands, known_tags, known_tests, lacking, meant, meant_too, unknown_capability, unknown_command, unknown_tag, unknown_test}
use Rattle.sieve_explain.specs.Words.{begin_off, differ_at, is_near, nearest}
use Rattle.sieve_explain.specs.Marks.{has_unit, has_value, is_unit, label_behind, string_among, unclosed}
use Rattle.readable_text.specs.Places.{line_number, octets_after, octets_before, without_return}
use Rattle.sieve_explain.specs.Reasons.{capability_words, no_argument_words, no_test_words, other_blanks, place_text, reason_blanks}
use Rattle.sieve_explain.specs.Sentences.{filled, filled_octet}
use Rattle.sieve_explain.specs.Characters.{columns, is_sign, more_octets, pieces}
use Rattle.sieve_explain.specs.Shown.{excerpt, line, marked, name_octet, named, quoted, shown_character, shown_end, shown_name, shown_start}
use Rattle.sieve_explain.specs.declared.shown.Style.TheVariants.{Line, Under}
use Rattle.ucd_category.proofs.Computing.{ucd_category}
use Rattle.unicode_width.proofs.Computing.{unicode_width}

-- TAB, NUL, a letter outside of ASCII, and a backslash; 60 characters, and one too many on either side; a line with its mark, and the
-- empty line at the end
prints :
    (shown_start Line (97 ∷ 9 ∷ 0 ∷ 195 ∷ 164 ∷ 92 ∷ []) ≡ codes "a \\00" ++ 195 ∷ 164 ∷ codes "\\")
    × (shown_start Line (replicate 60 97) ≡ replicate 60 97)
    × (shown_start Line (replicate 61 97) ≡ replicate 60 97 ++ codes "...")
    × (shown_end Line (98 ∷ replicate 60 97) ≡ codes "..." ++ replicate 60 97)
    × (excerpt (codes "if true\n\tstop }\n") 14 ≡ line (codes "   stop }") ++ line (codes "        ^"))
    × (excerpt (codes "if true\n") 8 ≡ line (codes "  ") ++ line (codes "  ^"))
unfolding excerpt pieces more_octets is_sign columns ucd_category unicode_width shown_character shown_start shown_end marked octets_before octets_after without_return
prints = (refl, refl, refl, refl, refl, refl)

-- as it is: an accent that combines with the letter before it, a wide letter, an emoji. Escaped: what turns the direction of writing,
-- a space without width, one that doesn't break, a control character above ASCII, an octet that is none of UTF-8, and the start of a
-- character; whole characters are cut off
characters :
    (shown_start Line (101 ∷ 204 ∷ 129 ∷ 230 ∷ 151 ∷ 165 ∷ 240 ∷ 159 ∷ 152 ∷ 128 ∷ []) ≡ 101 ∷ 204 ∷ 129 ∷ 230 ∷ 151 ∷ 165 ∷ 240 ∷ 159 ∷ 152 ∷ 128 ∷ [])
    × (shown_start Line (226 ∷ 128 ∷ 174 ∷ 226 ∷ 128 ∷ 139 ∷ []) ≡ codes "\\e2\\80\\ae\\e2\\80\\8b")
    × (shown_start Line (194 ∷ 160 ∷ 194 ∷ 155 ∷ 255 ∷ 230 ∷ 151 ∷ []) ≡ codes "\\c2\\a0\\c2\\9b\\ff\\e6\\97")
    × (shown_end Line (98 ∷ 195 ∷ 164 ∷ replicate 59 97) ≡ codes "..." ++ 195 ∷ 164 ∷ replicate 59 97)
unfolding pieces more_octets is_sign ucd_category shown_character shown_start shown_end
characters = (refl, refl, refl, refl)

-- the columns of a letter, of two wide ones, of an accent over another letter, of escapes, and of a TAB
marks :
    (shown_end Under (195 ∷ 188 ∷ []) ≡ codes " ")
    × (shown_end Under (230 ∷ 151 ∷ 165 ∷ 230 ∷ 156 ∷ 172 ∷ []) ≡ codes "    ")
    × (shown_end Under (101 ∷ 204 ∷ 129 ∷ []) ≡ codes " ")
    × (shown_end Under (240 ∷ 159 ∷ 152 ∷ 128 ∷ []) ≡ codes "  ")
    × (shown_end Under (226 ∷ 128 ∷ 174 ∷ 255 ∷ 9 ∷ []) ≡ replicate 13 32)
    × (excerpt (34 ∷ 230 ∷ 151 ∷ 165 ∷ 34 ∷ 59 ∷ []) 5 ≡ line (codes "  \"" ++ 230 ∷ 151 ∷ 165 ∷ codes "\";") ++ line (codes "      ^"))
    × (column (34 ∷ 230 ∷ 151 ∷ 165 ∷ 34 ∷ 59 ∷ []) 5 ≡ 4)
unfolding excerpt column pieces more_octets is_sign columns ucd_category unicode_width shown_character shown_start shown_end marked octets_before octets_after without_return
marks = (refl, refl, refl, refl, refl, refl, refl)

-- what stands between two marks can't end before it does; in the name of a file control characters alone are escaped
delimits :
    (quoted (codes "a\" `b\\22") ≡ codes "\"a\\22 `b\\5c22\"")
    × (named (codes "\"a\"`\t") ≡ codes "`\"a\"\\60\\09`")
    × (shown_name (97 ∷ 27 ∷ 10 ∷ 127 ∷ 195 ∷ 164 ∷ 92 ∷ 32 ∷ []) ≡ codes "a\\1b\\0a\\7f" ++ 195 ∷ 164 ∷ codes "\\ ")
unfolding pieces more_octets shown_character shown_start name_octet
delimits = (refl, refl, refl)

-- what can't be a token, or can't stand where it does
faults_said :
    (filled (lexical_blanks (codes "\"a;")) ≡ codes "a string is never closed: this quote, or one before it, has no partner")
    × (filled (lexical_blanks (codes "18446744073709551616")) ≡ codes "this number is too large: the largest is 18446744073709551615")
    × (filled (lexical_blanks (codes "*;")) ≡ codes "`*` isn't allowed outside of strings and comments")
    × (filled (lexical_blanks (195 ∷ 188 ∷ codes ";")) ≡ codes "`" ++ 195 ∷ 188 ∷ codes "` isn't allowed outside of strings and comments")
    × (filled (lexical_blanks (239 ∷ 187 ∷ 191 ∷ codes "keep;")) ≡ codes "this is a byte order mark: save the script as UTF-8 without one")
    × (filled (lexical_blanks (codes ">= 5")) ≡ codes "Sieve has no `>=`: write `:over` before the number, as in `size :over 100K`")
    × (filled (lexical_blanks (codes "&& x")) ≡ codes "Sieve has no `&&`: write `allof (.., ..)`, which is true if all of its tests are")
    × (filled (lexical_blanks (codes "// bills")) ≡ codes "this begins no comment: write `#` before it, or put it between `/*` and `*/`")
    × (filled (lexical_blanks (codes "/* bills")) ≡ codes "this comment is never closed: add `*/` at its end")
    × (filled (end_blanks) ≡ codes "the script ends before its last command is complete")
    × (filled (token_blanks (codes "stop }") (record { kind = ClosingBrace; start = 5; end = 6 })) ≡ codes "`}` isn't allowed here: is a semicolon missing before it, or its opening brace?")
unfolding digits lexical_blanks misplaced_token filled_octet pieces more_octets is_sign ucd_category shown_character shown_start beginnings
faults_said = (refl, refl, refl, refl, refl, refl, refl, refl, refl, refl, refl)

abbrev said : ReasonKind → List ℕ → List ℕ → List ℕ
said kind name subject = filled (reason_blanks (record { kind = kind; name = name; subject = subject }))

-- a name that isn't known: one that stands elsewhere, one that isn't near, one that is lacking, and one of the other kind
unknown_said :
    (said UnknownCommand (codes "ElseIf") [] ≡ codes "unknown command `ElseIf`, did you mean `elsif`?")
    × (said UnknownCommand (codes "kp") [] ≡ codes "unknown command `kp`")
    × (said UnknownCommand (codes "Stor") [] ≡ codes "unknown command `Stor`, did you mean `stop` or `store`?")
    × (said UnknownTag (codes "header") (codes "ower") ≡ codes "unknown tag `:ower`, did you mean `:over` or `:lower`?")
    × (said UnknownCapability (codes "require") (codes "FileInto") ≡ codes "unknown capability \"FileInto\", did you mean \"fileinto\"?")
    × (said UnknownCapability (codes "require") (codes "vacation") ≡ codes "depot has no \"vacation\": it sends no mail, the mail server can do that")
    × (said UnknownTag (codes "header") (codes "contain") ≡ codes "unknown tag `:contain`, did you mean `:contains`?")
    × (said UnknownCommand (codes "Vacation") [] ≡ codes "depot has no `Vacation`: it sends no mail, the mail server can do that")
    × (said UnknownTest (codes "address") [] ≡ codes "depot has no `address`: `header` tests the whole value of a field, as in `header :matches \"From\" [\"a@b\", \"*<a@b>*\"]`")
    × (said UnknownCommand (codes "header") [] ≡ codes "`header` is a test: is an `if` missing before it?")
    × (said UnknownTest (codes "keep") [] ≡ codes "`keep` is a command, but a test is needed here")
unfolding unknown_command unknown_test unknown_tag unknown_capability filled_octet pieces more_octets shown_character shown_start is_near differ_at begin_off lacking meant meant_too
unknown_said = (refl, refl, refl, refl, refl, refl, refl, refl, refl, refl, refl)

-- other reasons
reasons_said :
    (said (WrongTests Nothing) (codes "ELSE") [] ≡ codes "`ELSE` takes no test: did you mean `elsif`, or is its opening brace missing?")
    × (said (WrongTests Nothing) (codes "keep") [] ≡ codes "`keep` takes no test: is a semicolon missing at its end?")
    × (said (WrongTests Nothing) (codes "header") [] ≡ codes "`header` takes no test: is a comma or a brace missing after it, or `allof` or `anyof` before it?")
    × (said (MissingCapability FileInto) (codes "fileinto") [] ≡ codes "`fileinto` needs `require \"fileinto\"` before it")
    × (said ForeignTag (codes "fileinto") (codes "is") ≡ codes "`fileinto` takes no tag `:is`")
    × (said (ExtraArgument Text) (codes "fileinto") [] ≡ codes "`fileinto` has too many arguments: it takes one string without brackets")
    × (said LongString (codes "fileinto") (codes "a@b") ≡ codes "the string \"a@b\" has more than 16384 bytes")
    × (said (MissingCapability capability.Depot) (codes "take") [] ≡ codes "`take` needs `require \"vnd.depot\"` before it")
    × (said (MissingCapability capability.Variables) (codes "set") [] ≡ codes "`set` needs `require \"variables\"` before it")
    × (said (ExtraArgument positional.Nothing) (codes "if") [] ≡ codes "`if` has too many arguments: it takes none before its test")
    × (said Misplaced (codes "else") [] ≡ codes "`else` is allowed only directly after the block of an `if` or `elsif`")
unfolding digits other_blanks filled_octet pieces more_octets shown_character shown_start place_text no_test_words no_argument_words
reasons_said = (refl, refl, refl, refl, refl, refl, refl, refl, refl, refl, refl)

-- a letter that is another, is missing, is one too many, and two that are swapped; and the case of letters
one_letter_off : list_all (λ name. bytes_eq (meant name known_commands) (codes "keep"))
    (codes "kerp" ∷ codes "leep" ∷ codes "keel" ∷ codes "kep" ∷ codes "eep" ∷ codes "kee" ∷ codes "keepp" ∷ codes "skeep" ∷ codes "ekep" ∷ codes "kepe" ∷ codes "KEP" ∷ []) ≡ true
unfolding is_near differ_at begin_off meant
one_letter_off = refl

two_letters_off : list_any (λ name. is_near name (codes "keep"))
    (codes "kp" ∷ codes "ke" ∷ codes "keepss" ∷ codes "eekp" ∷ codes "peek" ∷ codes "kllp" ∷ []) ≡ false
unfolding is_near differ_at begin_off
two_letters_off = refl

-- a capability is told as a `require` has to name it, and is among those that may be meant
capability_found : (c : Capability) → (capability_named (capability_words c) ≡ Some c)
    × (nearest (capability_words c) known_capabilities.names ≡ capability_words c)
unfolding is_near differ_at begin_off
capability_found capability.FileInto = (refl, refl)
capability_found capability.Variables = (refl, refl)
capability_found capability.Mime = (refl, refl)
capability_found capability.ForEveryPart = (refl, refl)
capability_found capability.Depot = (refl, refl)
capability_found capability.OctetComparator = (refl, refl)
capability_found capability.CasemapComparator = (refl, refl)

-- each name that may be meant is known
meant_known :
    (list_all (λ row. is_some (command_named row.words)) known_commands.elsewhere ≡ true)
    × (list_all (λ name. is_some (command_named name)) known_commands.names ≡ true)
    × (list_all (λ row. is_some (test_named row.words)) known_tests.elsewhere ≡ true)
    × (list_all (λ name. is_some (test_named name)) known_tests.names ≡ true)
    × (list_all (λ name. is_some (tag_named name)) known_tags.names ≡ true)
    × (list_all (λ name. is_some (capability_named name)) known_capabilities.names ≡ true)
meant_known = (refl, refl, refl, refl, refl, refl)

-- no name that depot has is told as lacking
known_not_lacking : list_all (λ name. bytes_eq (lacking name) []) (known_commands.names ++ known_tests.names ++ known_tags.names ++ known_capabilities.names) ≡ true
unfolding lacking
known_not_lacking = refl

-- a token of that kind from one place up to another
abbrev token_of : TokenKind → ℕ → ℕ → Token
token_of kind start end = record { kind = kind; start = start; end = end }

-- the first brace has no partner where two are opened and the second is closed
braces :
    (unclosed (token_of OpeningBrace 0 1 ∷ token_of OpeningBrace 1 2 ∷ token_of ClosingBrace 2 3 ∷ []) ≡ Some (token_of OpeningBrace 0 1))
    × (unclosed (token_of OpeningBrace 0 1 ∷ token_of ClosingBrace 1 2 ∷ token_of OpeningBrace 2 3 ∷ token_of ClosingBrace 3 4 ∷ []) ≡ None)
braces = (refl, refl)

-- the first string with the value, whatever way it is written in: a backslash in it, and a backslash before a letter; lines
strings :
    (string_among (codes "[\"a\",\"b\\c\",\"bc\"]") (codes "bc") (token_of OpeningBracket 0 1 ∷ token_of QuotedString 1 4 ∷ token_of Comma 4 5 ∷ token_of QuotedString 5 10 ∷ token_of Comma 10 11 ∷ token_of QuotedString 11 15 ∷ token_of ClosingBracket 15 16 ∷ []) ≡ Some (token_of QuotedString 5 10))
    × (string_among (codes "\"b\\\\c\" \"bc\"") (codes "b\\c") (token_of QuotedString 0 6 ∷ token_of QuotedString 7 11 ∷ []) ≡ Some (token_of QuotedString 0 6))
    × (string_among (codes "text:\nbc\n.\n") (codes "bc\n") (token_of MultiLineString 0 11 ∷ []) ≡ Some (token_of MultiLineString 0 11))
    × (string_among (codes "bc;") (codes "bc") (token_of Identifier 0 2 ∷ token_of Semicolon 2 3 ∷ []) ≡ None)
unfolding has_value
strings = (refl, refl, refl, refl)

-- a unit with more letters, and none
units :
    (has_unit (codes "5MB{") (token_of Number 0 2 ∷ token_of Identifier 2 3 ∷ token_of OpeningBrace 3 4 ∷ []) ≡ true)
    × (has_unit (codes "5M true") (token_of Number 0 2 ∷ token_of Identifier 3 7 ∷ []) ≡ false)
unfolding is_unit
units = (refl, refl)

-- a test behind the arguments that has the name of a tag, where one may be missing
labels :
    (label_behind (codes "\"Subject\" contains \"x\" {") (token_of QuotedString 0 9 ∷ token_of Identifier 10 18 ∷ token_of QuotedString 19 22 ∷ token_of OpeningBrace 23 24 ∷ []) ≡ codes "contains")
    × (label_behind (codes "\"a\" true") (token_of QuotedString 0 3 ∷ token_of Identifier 4 8 ∷ []) ≡ [])
    × (label_behind (codes "5; name") (token_of Number 0 1 ∷ token_of Semicolon 1 2 ∷ token_of Identifier 3 7 ∷ []) ≡ [])
    × (filled (label_blanks (codes "Contains") (record { kind = MissingArgument Text; name = codes "header"; subject = [] })) ≡ codes "`Contains` is a tag: is a colon missing before it?")
unfolding label_behind filled_octet pieces more_octets shown_character shown_start
labels = (refl, refl, refl, refl)

-- that there is more, and what a file looks like: a program, a mail, and others
notes :
    (note more_blanks ≡ line (codes ": note: only the first 20 errors are shown"))
    × (look_text (codes "SVBC" ++ 2 ∷ []) ≡ codes "the file begins like a compiled program: `depot disassemble` prints the instructions of one")
    × (look_text (codes "Return-Path: <a@b>") ≡ codes "the file begins with a header field, like a mail: is it a script?")
    × (look_text (codes "keep:x") ≡ [])
    × (look_text (codes ": x") ≡ [])
    × (look_text (codes "# Note: x") ≡ [])
    × (look_told [] ≡ [])
unfolding digits note look_text filled_octet
notes = (refl, refl, refl, refl, refl, refl, refl)

-- all of it
whole : printed (codes "my.sieve") (told (codes "keep;\nstop }\n") 11 (token_blanks (codes "keep;\nstop }\n") (record { kind = ClosingBrace; start = 11; end = 12 })))
    ≡ line (codes "my.sieve:2:6: error: `}` isn't allowed here: is a semicolon missing before it, or its opening brace?") ++ line (codes "  stop }") ++ line (codes "       ^")
unfolding digits remark excerpt misplaced_token marked filled_octet column columns unicode_width name_octet pieces more_octets shown_character shown_start shown_end heading numbered line_number octets_before octets_after without_return
whole = refl
