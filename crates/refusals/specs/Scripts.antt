-- The first refusal of octets as a script.
use Rattle.std.specs.Prelude.{◌≡◌, ℕ, List, Some}
use Rattle.sieve_check.specs.declared.error.CheckError.{CheckError}
use Rattle.sieve_check.specs.declared.error.CheckError.TheVariants as checker
use Rattle.sieve_check.specs.Rules.{fault_of}
use Rattle.sieve_parser.specs.Scripts.{IsParsed, IsParseRefusal}
use Rattle.sieve_parser.specs.Tree.{CommandsTree}
use Rattle.sieve_parser.specs.declared.error.ParseError.TheVariants as parser
use Rattle.refusals.specs.declared.refusal.Refusal.{Refusal}
use Rattle.refusals.specs.declared.refusal.Refusal.TheVariants.{Memory, Lexical, ScriptTooLong, Syntax, TooDeep, UnknownCommand, MissingCapability, UnknownCapability, BadArguments, Limit}

-- the octets are a script with this fault
abbrev pub IsFaulty : List ℕ → CheckError → Type 0
IsFaulty octets fault = (tree : CommandsTree) × IsParsed octets tree × (fault_of tree ≡ Some fault)

-- the first refusal of octets as a script; Memory has no cause in them
abbrev pub IsScriptRefusal : List ℕ → Refusal → Type 0
IsScriptRefusal octets Memory = Unit {0}
IsScriptRefusal octets (Lexical place) = IsParseRefusal octets (parser.Lexical place)
IsScriptRefusal octets ScriptTooLong = IsParseRefusal octets parser.ScriptTooLong
IsScriptRefusal octets (Syntax place) = IsParseRefusal octets (parser.Syntax place)
IsScriptRefusal octets (TooDeep place) = IsParseRefusal octets (parser.TooDeep place)
IsScriptRefusal octets (UnknownCommand place) = IsFaulty octets (checker.UnknownCommand place)
IsScriptRefusal octets (MissingCapability place) = IsFaulty octets (checker.MissingCapability place)
IsScriptRefusal octets (UnknownCapability place) = IsFaulty octets (checker.UnknownCapability place)
IsScriptRefusal octets (BadArguments place) = IsFaulty octets (checker.BadArguments place)
IsScriptRefusal octets (Limit place) = IsFaulty octets (checker.Limit place)
IsScriptRefusal octets _ = ⊥
