-- The lexer's refusals as those of the parser.
use Rattle.sieve_lexer.specs.declared.error.LexicalError.{LexicalError}
use Rattle.sieve_lexer.specs.declared.error.LexicalError.TheVariants as lexer
use Rattle.sieve_parser.specs.declared.error.ParseError.{ParseError}
use Rattle.sieve_parser.specs.declared.error.ParseError.TheVariants.{Memory, ScriptTooLong, Lexical}

-- a refusal of the tokens as one of the parser
abbrev pub parse_error : LexicalError → ParseError
parse_error lexer.Memory = Memory
parse_error lexer.ScriptTooLong = ScriptTooLong
parse_error (lexer.Lexical place) = Lexical place
