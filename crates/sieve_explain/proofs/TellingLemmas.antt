-- A refusal that is told is the script's explanation.
use Rattle.std.proofs.Common.{◌≡◌, ◌≢◌, ◌∙◌, ℕ, List, length, map, nat_lt, take, ap, subst, sym}
use Rattle.std.proofs.lemmas.List.{length-map, take-map}
use Rattle.refusals.specs.Causes.{of_checker, of_parser}
use Rattle.refusals.specs.Scripts.{IsFaulty, IsScriptRefusal}
use Rattle.refusals.specs.declared.refusal.Refusal.{Refusal}
use Rattle.refusals.specs.declared.refusal.Refusal.TheVariants.{Memory}
use Rattle.sieve_check.specs.Causes as causes
use Rattle.sieve_check.specs.Causes.{refusal}
use Rattle.sieve_check.specs.ReasonView.{refused_view}
use Rattle.sieve_check.specs.Rules.{max_found, max_reasons}
use Rattle.sieve_check.specs.declared.causes.Refused.{Refused}
use Rattle.sieve_check.specs.declared.error.Fault.{Fault}
use Rattle.sieve_check.specs.declared.error.Fault.TheVariants as fault
use Rattle.sieve_lexer.specs.Tokens.{IsLexicalRefusal}
use Rattle.sieve_lexer.specs.declared.error.LexicalError.{LexicalError}
use Rattle.sieve_lexer.specs.declared.error.LexicalError.TheVariants as lexer
use Rattle.sieve_parser.specs.Refusals.{parse_error}
use Rattle.sieve_parser.specs.Scripts.{IsParseRefusal}
use Rattle.sieve_parser.specs.declared.error.ParseError.{ParseError}
use Rattle.sieve_parser.specs.declared.error.ParseError.TheVariants as parser
use Rattle.sieve_explain.specs.Explaining.{TellsFault, TellsReasons}
use Rattle.sieve_explain.proofs.NoteLemmas.{first_notes, more_notes}

-- what `IsFaultTold` says of a refusal and its text
abbrev pub IsTold : List ℕ → List ℕ → Refusal → List ℕ → Type 0
IsTold name script refusal text = (refusal ≢ Memory) × IsScriptRefusal script refusal × TellsFault name script refusal text

checking : (name script : List ℕ) (place : ℕ) (f : Fault) (text : List ℕ) → IsFaulty script (refusal place f) → TellsReasons name script text
    → IsTold name script (of_checker (refusal place f)) text
checking name script place fault.UnknownCommand text is told = (λ e. absurd (cc), is, told)
checking name script place fault.MissingCapability text is told = (λ e. absurd (cc), is, told)
checking name script place fault.UnknownCapability text is told = (λ e. absurd (cc), is, told)
checking name script place fault.BadArguments text is told = (λ e. absurd (cc), is, told)
checking name script place fault.Limit text is told = (λ e. absurd (cc), is, told)

-- the checker's
pub told_by_checker : (name script : List ℕ) (place : ℕ) (f : Fault) (r : Refusal) (text : List ℕ) → r ≡ of_checker (refusal place f)
    → IsFaulty script (refusal place f) → TellsReasons name script text → IsTold name script r text
told_by_checker name script place f r text same is told = subst (λ (x : Refusal). IsTold name script x text) (sym same) (checking name script place f text is told)

parsing : (name script : List ℕ) (e : ParseError) (text : List ℕ) → IsParseRefusal script e → TellsFault name script (of_parser e) text → IsTold name script (of_parser e) text
parsing name script parser.Memory text is told = absurd told
parsing name script (parser.Lexical place) text is told = (λ e. absurd (cc), is, told)
parsing name script parser.ScriptTooLong text is told = (λ e. absurd (cc), is, told)
parsing name script (parser.Syntax place) text is told = (λ e. absurd (cc), is, told)
parsing name script (parser.TooDeep place) text is told = (λ e. absurd (cc), is, told)

-- the parser's
pub told_by_parser : (name script : List ℕ) (e : ParseError) (r : Refusal) (text : List ℕ) → r ≡ of_parser e
    → IsParseRefusal script e → TellsFault name script (of_parser e) text → IsTold name script r text
told_by_parser name script e r text same is told = subst (λ (x : Refusal). IsTold name script x text) (sym same) (parsing name script e text is told)

-- the lexer's
pub told_by_lexer : (name script : List ℕ) (e : LexicalError) (r : Refusal) (text : List ℕ) → r ≡ of_parser (parse_error e)
    → IsLexicalRefusal script e → TellsFault name script (of_parser (parse_error e)) text → IsTold name script r text
told_by_lexer name script lexer.Memory r text same is told = absurd told
told_by_lexer name script (lexer.Lexical place) r text same is told = told_by_parser name script (parser.Lexical place) r text same is told
told_by_lexer name script lexer.ScriptTooLong r text same is told = told_by_parser name script parser.ScriptTooLong r text same is told

-- the reasons that are found have those first that are told, and say whether there are more
pub first_found : (found : List Refused) (all : List causes.Refused) → map refused_view found ≡ take max_found all → map refused_view (take max_reasons found) ≡ take max_reasons all
first_found found all is = sym (take-map refused_view max_reasons found) ∙ first_notes (map refused_view found) all is

pub more_found : (found : List Refused) (all : List causes.Refused) → map refused_view found ≡ take max_found all → nat_lt max_reasons (length found) ≡ nat_lt max_reasons (length all)
more_found found all is = ap (nat_lt max_reasons) (sym (length-map found refused_view)) ∙ more_notes (map refused_view found) all is
