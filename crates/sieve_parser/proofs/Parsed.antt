-- The whole script, from its commands.
use Rattle.std.proofs.Common.{arith, ℕ, ◌<◌, ◌≤◌, List, [], ◌∷◌, ◌++◌, refl, sym, ◌∙◌, ap, length}
use Rattle.std.specs.Prelude.{None}
use Rattle.std.proofs.lemmas.List.{take_all, drop_all, append-nil}
use Rattle.sieve_lexer.specs.Tokens as lexer
use Rattle.octets.specs.Limits.{max_script}
use Rattle.sieve_lexer.specs.declared.token.Token.{Token}
use Rattle.sieve_parser.specs.declared.error.ParseError.{ParseError}
use Rattle.sieve_parser.specs.declared.error.ParseError.TheVariants as parser
use Rattle.sieve_parser.specs.Lexemes.{Lexeme, lexemes}
use Rattle.sieve_parser.specs.Tree.{CommandsTree}
use Rattle.sieve_parser.specs.Grammar.{IsScript, commands_spelled, lexemes_placed}
use Rattle.sieve_parser.specs.TokenMachine.{body, reading}
use Rattle.sieve_parser.specs.Faults.{AreWithinDepth, IsSyntaxFault, IsTooDeep}
use Rattle.sieve_parser.specs.Parsing.{Beginning, IsAt, IsFaultOf, IsSyntaxFaultIn, IsTooDeepIn, IsIdentifierAt, Stands, lexeme_at}
use Rattle.sieve_parser.specs.Scripts.{IsParsed, IsGrammarRefusal, IsParseRefusal}
use Rattle.sieve_parser.proofs.Faulted.{root, root_grounded, script_of_word, word_of_script, read_script_within}
use Rattle.sieve_parser.proofs.Walk.{stuck}
use Rattle.sieve_parser.proofs.Wrong.{no_command_first}

-- a script is read from its first lexeme on
abbrev pub whole : Beginning
whole = record { place = 0; symbols = root; grounded = root_grounded }

module _ (ls : List Lexeme) where
  pub at_start : IsAt whole ls 0 (body 0 ∷ [])
  at_start = record { from = omega arith; read = body 0 ∷ []; reached = refl; goes_on = λ _. refl; ends = λ _ done. done }

  -- a fault of the reading of a script is one of the script
  syntax_fault : (p : ℕ) → IsSyntaxFaultIn whole ls p → IsSyntaxFault ls p
  syntax_fault p fault = record {
    within = fault.within;
    before =
        let begun = fault.before.1.1 in
        let script = script_of_word (fault.before.0 ++ begun.0) begun.1 in
        (fault.before.0, (fault.before.1.0, (script.0, (begun.0, script.1)), fault.before.1.2));
    here = λ lt viable. fault.here lt viable.0 viable.1.0 (viable.1.1.1.0, word_of_script viable.1.1.0 (viable.0 ++ viable.1.1.1.0) viable.1.1.1.1);
    ended = λ e cs script. fault.ended e (commands_spelled 0 cs) (take_all p ls (omega arith) ∙ script) (word_of_script cs (commands_spelled 0 cs) refl);
  }

  too_deep : (p : ℕ) → IsTooDeepIn whole ls p → IsTooDeep ls p
  too_deep p fault =
      let script = script_of_word ((fault.before ++ fault.deepest ∷ []) ++ fault.begins.0) fault.begins.1 in
      record {
        within = fault.within;
        before = fault.before;
        deepest = fault.deepest;
        same = fault.same;
        begins = (script.0, (fault.begins.0, script.1));
        shallow = fault.shallow;
        too_deep = fault.too_deep;
      }

  pub not_ended : (p : ℕ) → IsAt whole ls p (body 0 ∷ []) → IsIdentifierAt ls p None → p < length ls → IsSyntaxFault ls p
  not_ended p at none lt = syntax_fault p (stuck whole ls p (body 0) [] at lt (no_command_first (lexeme_at ls p) (λ n name e. none n name lt e)))

  pub whole_script : (p : ℕ) (cs : CommandsTree) → Stands ls 0 p (commands_spelled 0 cs) → length ls ≤ p → IsScript ls cs
  whole_script p cs stands past = stands.same ∙ ap (λ w. lexemes_placed (commands_spelled 0 cs) ++ w) (drop_all p ls past) ∙ append-nil (lexemes_placed (commands_spelled 0 cs))

  pub whole_within : (p : ℕ) (cs : CommandsTree) → IsAt whole ls p (body 0 ∷ []) → length ls ≤ p → IsScript ls cs → AreWithinDepth (commands_spelled 0 cs)
  whole_within p cs at past script = read_script_within ls at.read cs (ap reading (sym (take_all p ls past)) ∙ at.reached) script

-- commands that stand at the start of the lexemes and use them all up are the script's
pub whole_parsed : (s : List ℕ) (ts : List Token) (p : ℕ) (cs : CommandsTree) → length s ≤ max_script → lexer.AreTokens s ts → Stands (lexemes s ts) 0 p (commands_spelled 0 cs) → IsAt whole (lexemes s ts) p (body 0 ∷ []) → length (lexemes s ts) ≤ p → IsParsed s cs
whole_parsed s ts p cs short are stands at past =
    let script : IsScript (lexemes s ts) cs = whole_script (lexemes s ts) p cs stands past in
    (short, (ts, (are, script, whole_within (lexemes s ts) p cs at past script)))

pub fault_refused : (script : List ℕ) (tokens : List Token) (e : ParseError) → IsFaultOf whole (lexemes script tokens) e → IsGrammarRefusal script tokens e
fault_refused script tokens parser.Memory h = tt
fault_refused script tokens parser.ScriptTooLong h = absurd h
fault_refused script tokens (parser.Lexical place) h = absurd h
fault_refused script tokens (parser.Syntax place) h = syntax_fault (lexemes script tokens) place h
fault_refused script tokens (parser.TooDeep place) h = too_deep (lexemes script tokens) place h

-- a refusal of the tokens is one of the script
pub refused_by_grammar : (script : List ℕ) (tokens : List Token) (e : ParseError) → length script ≤ max_script → lexer.AreTokens script tokens → IsGrammarRefusal script tokens e → IsParseRefusal script e
refused_by_grammar script tokens parser.Memory short are h = tt
refused_by_grammar script tokens parser.ScriptTooLong short are h = absurd h
refused_by_grammar script tokens (parser.Lexical place) short are h = absurd h
refused_by_grammar script tokens (parser.Syntax place) short are h = (short, (tokens, (are, h)))
refused_by_grammar script tokens (parser.TooDeep place) short are h = (short, (tokens, (are, h)))
