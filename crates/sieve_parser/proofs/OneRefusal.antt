-- A script has one tree or one refusal, but for want of memory.
use Rattle.std.proofs.Common.{◌≡◌, ◌≢◌, ℕ, List, refl, ap, subst, arith}
use Rattle.sieve_lexer.specs.Tokens.{AreTokens, IsFault}
use Rattle.sieve_lexer.specs.declared.token.Token.{Token}
use Rattle.sieve_parser.specs.Lexemes.{Lexeme, lexemes}
use Rattle.sieve_parser.specs.Tree.{CommandsTree}
use Rattle.sieve_parser.specs.Faults.{IsSyntaxFault, IsTooDeep}
use Rattle.sieve_parser.specs.Scripts.{IsParsed, IsParseRefusal}
use Rattle.sieve_parser.specs.declared.error.ParseError.{ParseError}
use Rattle.sieve_parser.specs.declared.error.ParseError.TheVariants.{Memory, ScriptTooLong, Lexical, Syntax, TooDeep}
use Rattle.sieve_parser.proofs.OneAnswer.{no_syntax_fault, no_depth_fault, one_syntax_fault, one_depth_fault, one_kind_of_fault}

module _ (tokens : (script : List ℕ) (ts us : List Token) → AreTokens script ts → AreTokens script us → ts ≡ us)
    (no_fault : (script : List ℕ) (ts : List Token) (place : ℕ) → AreTokens script ts → IsFault script place → ⊥) where
  -- what holds of a script's lexemes holds of them by any of its lists of tokens
  moved : (P : List Lexeme → Type 0) (script : List ℕ) (ts us : List Token) → AreTokens script ts → AreTokens script us → P (lexemes script ts) → P (lexemes script us)
  moved P script ts us a b h = subst (λ w. P (lexemes script w)) (tokens script ts us a b) h

  pub parsed_alone : (script : List ℕ) (cs : CommandsTree) (e : ParseError) → IsParsed script cs → IsParseRefusal script e → e ≡ Memory
  parsed_alone script cs Memory p q = refl
  parsed_alone script cs ScriptTooLong p q = absurd (omega (arith, p.0, q))
  parsed_alone script cs (Lexical place) p q = absurd (no_fault script p.1.0 place p.1.1.0 q.1)
  parsed_alone script cs (Syntax place) p q =
      absurd (no_syntax_fault (lexemes script p.1.0) cs place p.1.1.1 (moved (λ ls. IsSyntaxFault ls place) script q.1.0 p.1.0 q.1.1.0 p.1.1.0 q.1.1.1))
  parsed_alone script cs (TooDeep place) p q =
      absurd (no_depth_fault (lexemes script p.1.0) cs place p.1.1.1 p.1.1.2 (moved (λ ls. IsTooDeep ls place) script q.1.0 p.1.0 q.1.1.0 p.1.1.0 q.1.1.1))

module _ (tokens : (script : List ℕ) (ts us : List Token) → AreTokens script ts → AreTokens script us → ts ≡ us)
    (faults : (script : List ℕ) (place other : ℕ) → IsFault script place → IsFault script other → place ≡ other)
    (no_fault : (script : List ℕ) (ts : List Token) (place : ℕ) → AreTokens script ts → IsFault script place → ⊥) where
  also : (P : List Lexeme → Type 0) (script : List ℕ) (ts us : List Token) → AreTokens script ts → AreTokens script us → P (lexemes script ts) → P (lexemes script us)
  also P script ts us a b h = subst (λ w. P (lexemes script w)) (tokens script ts us a b) h

  pub one_refusal : (script : List ℕ) (e f : ParseError) → IsParseRefusal script e → IsParseRefusal script f → e ≢ Memory → f ≢ Memory → e ≡ f
  one_refusal script Memory f p q m n = absurd (m refl)
  one_refusal script ScriptTooLong Memory p q m n = absurd (n refl)
  one_refusal script (Lexical place) Memory p q m n = absurd (n refl)
  one_refusal script (Syntax place) Memory p q m n = absurd (n refl)
  one_refusal script (TooDeep place) Memory p q m n = absurd (n refl)
  one_refusal script ScriptTooLong ScriptTooLong p q m n = refl
  one_refusal script ScriptTooLong (Lexical other) p q m n = absurd (omega (arith, p, q.0))
  one_refusal script ScriptTooLong (Syntax other) p q m n = absurd (omega (arith, p, q.0))
  one_refusal script ScriptTooLong (TooDeep other) p q m n = absurd (omega (arith, p, q.0))
  one_refusal script (Lexical place) ScriptTooLong p q m n = absurd (omega (arith, p.0, q))
  one_refusal script (Lexical place) (Lexical other) p q m n = ap (λ n. Lexical n) (faults script place other p.1 q.1)
  one_refusal script (Lexical place) (Syntax other) p q m n = absurd (no_fault script q.1.0 place q.1.1.0 p.1)
  one_refusal script (Lexical place) (TooDeep other) p q m n = absurd (no_fault script q.1.0 place q.1.1.0 p.1)
  one_refusal script (Syntax place) ScriptTooLong p q m n = absurd (omega (arith, p.0, q))
  one_refusal script (Syntax place) (Lexical other) p q m n = absurd (no_fault script p.1.0 other p.1.1.0 q.1)
  one_refusal script (Syntax place) (Syntax other) p q m n = ap (λ n. Syntax n) (one_syntax_fault (lexemes script p.1.0) place other p.1.1.1 (also (λ ls. IsSyntaxFault ls other) script q.1.0 p.1.0 q.1.1.0 p.1.1.0 q.1.1.1))
  one_refusal script (Syntax place) (TooDeep other) p q m n = absurd (one_kind_of_fault (lexemes script p.1.0) place other p.1.1.1 (also (λ ls. IsTooDeep ls other) script q.1.0 p.1.0 q.1.1.0 p.1.1.0 q.1.1.1))
  one_refusal script (TooDeep place) ScriptTooLong p q m n = absurd (omega (arith, p.0, q))
  one_refusal script (TooDeep place) (Lexical other) p q m n = absurd (no_fault script p.1.0 other p.1.1.0 q.1)
  one_refusal script (TooDeep place) (Syntax other) p q m n = absurd (one_kind_of_fault (lexemes script p.1.0) other place (also (λ ls. IsSyntaxFault ls other) script q.1.0 p.1.0 q.1.1.0 p.1.1.0 q.1.1.1) p.1.1.1)
  one_refusal script (TooDeep place) (TooDeep other) p q m n = ap (λ n. TooDeep n) (one_depth_fault (lexemes script p.1.0) place other p.1.1.1 (also (λ ls. IsTooDeep ls other) script q.1.0 p.1.0 q.1.1.0 p.1.1.0 q.1.1.1))
