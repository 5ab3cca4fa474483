-- A refusal of a script has one explanation, and a script one answer.
use Rattle.std.proofs.Common.{◌≡◌, ◌≢◌, ◌∙◌, ◌⊎◌, ℕ, List, ◌++◌, ap, sym, subst, refl, inl, inr}
use Rattle.std.specs.Prelude.{Option, Some, None, option_map}
use Rattle.std.proofs.lemmas.Option.{none-some}
use Rattle.refusals.specs.Causes.{of_checker, of_parser}
use Rattle.refusals.specs.Scripts.{IsFaulty, IsScriptRefusal}
use Rattle.refusals.specs.declared.refusal.Refusal.{Refusal}
use Rattle.refusals.specs.declared.refusal.Refusal.TheVariants as refused
use Rattle.sieve_check.specs.Rules.{fault_of}
use Rattle.sieve_check.specs.declared.error.CheckError.{CheckError}
use Rattle.sieve_check.specs.declared.error.CheckError.TheVariants as checker
use Rattle.sieve_lexer.specs.Tokens.{AreTokens}
use Rattle.sieve_lexer.specs.declared.token.Token.{Token}
use Rattle.sieve_parser.specs.Scripts.{IsParsed, IsParseRefusal}
use Rattle.sieve_parser.specs.Tree.{CommandsTree}
use Rattle.sieve_parser.specs.declared.error.ParseError.{ParseError}
use Rattle.sieve_parser.specs.declared.error.ParseError.TheVariants as parser
use Rattle.sieve_explain.specs.declared.explanation.Explanation.{Explanation}
use Rattle.sieve_explain.specs.Explaining.{Explains, IsExplained, IsRemarked, Tells, TellsFault, TellsReasons, answer_of, depth_told, look_told, notes_told, printed, reasons_told, syntax_told}
use Rattle.sieve_explain.specs.Faults.{look_text}

-- the laws that a script has one list of tokens, and one tree
abbrev pub OneList : Type 0
OneList = (script : List ℕ) (tokens others : List Token) → AreTokens script tokens → AreTokens script others → tokens ≡ others

abbrev pub OneTree : Type 0
OneTree = (script : List ℕ) (commands others : CommandsTree) → IsParsed script commands → IsParsed script others → commands ≡ others

one_telling : OneList → (name script : List ℕ) (told : List Token → List (List ℕ)) (text other : List ℕ) → Tells name script told text → Tells name script told other → text ≡ other
one_telling law name script told text other (tokens, are, e) (others, are', e') = e ∙ ap (λ (ts : List Token). printed name (told ts)) (law script tokens others are are') ∙ sym e'

one_reasoning : OneList → OneTree → (name script text other : List ℕ) → TellsReasons name script text → TellsReasons name script other → text ≡ other
one_reasoning law same name script text other (commands, parsed, tells) (others, parsed', tells') =
    one_telling law name script (reasons_told script commands) text other tells
    (subst (λ (cs : CommandsTree). Tells name script (reasons_told script cs) other) (same script others commands parsed' parsed) tells')

one_fault : OneList → OneTree → (name script : List ℕ) (refusal : Refusal) (text other : List ℕ) → TellsFault name script refusal text → TellsFault name script refusal other → text ≡ other
one_fault law same name script (refused.Lexical place) text other p q = p ∙ sym q
one_fault law same name script refused.ScriptTooLong text other p q = p ∙ sym q
one_fault law same name script (refused.Syntax number) text other p q = one_telling law name script (syntax_told script number) text other p q
one_fault law same name script (refused.TooDeep number) text other p q = one_telling law name script (depth_told script number) text other p q
one_fault law same name script (refused.UnknownCommand number) text other p q = one_reasoning law same name script text other p q
one_fault law same name script (refused.MissingCapability number) text other p q = one_reasoning law same name script text other p q
one_fault law same name script (refused.UnknownCapability number) text other p q = one_reasoning law same name script text other p q
one_fault law same name script (refused.BadArguments number) text other p q = one_reasoning law same name script text other p q
one_fault law same name script (refused.Limit number) text other p q = one_reasoning law same name script text other p q
one_fault law same name script _ text other p q = absurd p

pub one_text : OneList → OneTree → (name script : List ℕ) (refusal : Refusal) (text other : List ℕ) → Explains name script refusal text → Explains name script refusal other → text ≡ other
one_text law same name script refusal text other p q =
    p.whole ∙ ap (λ (t : List ℕ). t ++ printed name (look_told (look_text script))) (one_fault law same name script refusal p.fault q.fault p.tells q.tells) ∙ sym q.whole

pub one_remark : OneList → (name script text other : List ℕ) → IsRemarked name script text → IsRemarked name script other → text ≡ other
one_remark law name script text other p q = one_telling law name script (notes_told script) text other p q

-- the laws that a script has one refusal of the parser, and none where it has a tree
abbrev pub OneRefusal : Type 0
OneRefusal = (script : List ℕ) (e f : ParseError) → IsParseRefusal script e → IsParseRefusal script f → e ≢ parser.Memory → f ≢ parser.Memory → e ≡ f

abbrev pub NoRefusal : Type 0
NoRefusal = (script : List ℕ) (commands : CommandsTree) (e : ParseError) → IsParsed script commands → IsParseRefusal script e → e ≡ parser.Memory

-- the script's refusal, if it has one: it is the parser's, or what the checker says of the tree
abbrev Outcome : List ℕ → Option Refusal → Type 0
Outcome script answer = ((e : ParseError) × (e ≢ parser.Memory) × IsParseRefusal script e × (answer ≡ Some (of_parser e)))
    ⊎ ((commands : CommandsTree) × IsParsed script commands × (answer ≡ option_map of_checker (fault_of commands)))

checked : (script : List ℕ) (e : CheckError) → IsFaulty script e → Outcome script (Some (of_checker e))
checked script e (commands, parsed, fault) = inr (commands, parsed, ap (option_map of_checker) (sym fault))

outcome : (script : List ℕ) (refusal : Refusal) → refusal ≢ refused.Memory → IsScriptRefusal script refusal → Outcome script (Some refusal)
outcome script refused.Memory other is = absurd (other refl)
outcome script (refused.Lexical place) other is = inl (parser.Lexical place, (λ e. absurd (cc)), is, refl)
outcome script refused.ScriptTooLong other is = inl (parser.ScriptTooLong, (λ e. absurd (cc)), is, refl)
outcome script (refused.Syntax place) other is = inl (parser.Syntax place, (λ e. absurd (cc)), is, refl)
outcome script (refused.TooDeep place) other is = inl (parser.TooDeep place, (λ e. absurd (cc)), is, refl)
outcome script (refused.UnknownCommand place) other is = checked script (checker.UnknownCommand place) is
outcome script (refused.MissingCapability place) other is = checked script (checker.MissingCapability place) is
outcome script (refused.UnknownCapability place) other is = checked script (checker.UnknownCapability place) is
outcome script (refused.BadArguments place) other is = checked script (checker.BadArguments place) is
outcome script (refused.Limit place) other is = checked script (checker.Limit place) is
outcome script _ other is = absurd is

one_outcome : OneTree → OneRefusal → NoRefusal → (script : List ℕ) (answer other : Option Refusal) → Outcome script answer → Outcome script other → answer ≡ other
one_outcome same one none script answer other (inl (e, it, is, p)) (inl (f, it', is', q)) = p ∙ ap (λ (x : ParseError). Some (of_parser x)) (one script e f is is' it it') ∙ sym q
one_outcome same one none script answer other (inl (e, it, is, p)) (inr (commands, parsed, q)) = absurd (it (none script commands e parsed is))
one_outcome same one none script answer other (inr (commands, parsed, p)) (inl (e, it, is, q)) = absurd (it (none script commands e parsed is))
one_outcome same one none script answer other (inr (commands, parsed, p)) (inr (others, parsed', q)) =
    p ∙ ap (λ (cs : CommandsTree). option_map of_checker (fault_of cs)) (same script commands others parsed parsed') ∙ sym q

no_outcome : (script : List ℕ) (commands : CommandsTree) → IsParsed script commands → fault_of commands ≡ None → Outcome script None
no_outcome script commands parsed none = inr (commands, parsed, ap (option_map of_checker) (sym none))

pub one_answer : OneList → OneTree → OneRefusal → NoRefusal → (name script : List ℕ) (found other : Option Explanation) → IsExplained name script found → IsExplained name script other
    → answer_of found ≡ answer_of other
one_answer law same one none name script None None p q = refl
one_answer law same one none name script None (Some found) p q =
    absurd (none-some found.refusal (one_outcome same one none script None (Some found.refusal) (no_outcome script p.0 p.1 p.2) (outcome script found.refusal q.0 q.1)))
one_answer law same one none name script (Some found) None p q =
    absurd (none-some found.refusal (one_outcome same one none script None (Some found.refusal) (no_outcome script q.0 q.1 q.2) (outcome script found.refusal p.0 p.1)))
one_answer law same one none name script (Some found) (Some other) p q =
    let both : Some found.refusal ≡ Some other.refusal = one_outcome same one none script (Some found.refusal) (Some other.refusal) (outcome script found.refusal p.0 p.1) (outcome script other.refusal q.0 q.1) in
    let it : found.refusal ≡ other.refusal = cc in
    let text = one_text law same name script other.refusal found.text.items other.text.items (subst (λ (r : Refusal). Explains name script r found.text.items) it p.2) q.2 in
    ap (λ (r : Refusal). Some (r, found.text.items)) it ∙ ap (λ (t : List ℕ). Some (other.refusal, t)) text
