-- What a script says, and what each refusal says of it.
use Rattle.std.specs.Prelude.{ℕ, ◌<◌, ◌≤◌, List, length}
use Rattle.sieve_lexer.specs.Tokens.{AreTokens, IsFault}
use Rattle.octets.specs.Limits.{max_script}
use Rattle.sieve_lexer.specs.declared.token.Token.{Token}
use Rattle.sieve_parser.specs.Tree.{CommandsTree}
use Rattle.sieve_parser.specs.Grammar.{IsScript, commands_spelled}
use Rattle.sieve_parser.specs.Faults.{AreWithinDepth, IsSyntaxFault, IsTooDeep}
use Rattle.sieve_parser.specs.Lexemes.{lexemes}
use Rattle.sieve_parser.specs.declared.error.ParseError.{ParseError}
use Rattle.sieve_parser.specs.declared.error.ParseError.TheVariants.{Memory, ScriptTooLong, Lexical, Syntax, TooDeep}

-- the script's tokens write the commands, none of them deeper than the limit
abbrev pub IsParsed : List ℕ → CommandsTree → Type 0
IsParsed script cs = (length script ≤ max_script) × ((tokens : List Token)
    × (AreTokens script tokens × IsScript (lexemes script tokens) cs × AreWithinDepth (commands_spelled 0 cs)))

-- the commands are those of some script
abbrev pub IsTree : CommandsTree → Type 0
IsTree cs = (script : List ℕ) × IsParsed script cs

-- what a refusal says of the tokens of a script; those of the lexer say nothing of tokens
abbrev pub IsGrammarRefusal : List ℕ → List Token → ParseError → Type 0
IsGrammarRefusal script tokens Memory = Unit {0}
IsGrammarRefusal script tokens (Syntax place) = IsSyntaxFault (lexemes script tokens) place
IsGrammarRefusal script tokens (TooDeep place) = IsTooDeep (lexemes script tokens) place
IsGrammarRefusal script tokens _ = ⊥

-- what each refusal says of the script
abbrev pub IsParseRefusal : List ℕ → ParseError → Type 0
IsParseRefusal script Memory = Unit {0}
IsParseRefusal script ScriptTooLong = max_script < length script
IsParseRefusal script (Lexical place) = (length script ≤ max_script) × IsFault script place
IsParseRefusal script (Syntax place) = (length script ≤ max_script)
    × ((tokens : List Token) × (AreTokens script tokens × IsSyntaxFault (lexemes script tokens) place))
IsParseRefusal script (TooDeep place) = (length script ≤ max_script)
    × ((tokens : List Token) × (AreTokens script tokens × IsTooDeep (lexemes script tokens) place))
