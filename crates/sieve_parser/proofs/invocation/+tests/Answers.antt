use Rattle.std.proofs.Common.{suc, ◌+◌, [], ◌∷◌, ◌++◌, map, refl, sym, ◌∙◌, ap, subst, arith, rules}
use Rattle.std.proofs.lemmas.Bool.{false≢true}
use Rattle.std.proofs.lemmas.List.{append-nil, append_assoc}
use Rattle.std.proofs.lemmas.Result.{err_from_is_err_and}
use Rattle.sieve_lexer.specs.declared.token.TokenKind.TheVariants.{Comma, OpeningParenthesis, ClosingParenthesis}
use Rattle.sieve_parser.specs.Grammar.{at_depth, invocation_spelled, more_tests_spelled}
use Rattle.sieve_parser.specs.Lexemes.{comma, opening_parenthesis, closing_parenthesis, lexemes}
use Rattle.sieve_parser.specs.TokenMachine.{arguments, ending, test_end, tests, expand}
use Rattle.sieve_parser.specs.Parsing.{IsAt, IsIdentifierAt, IsInvocationAt, Stands, lexeme_at}
use Rattle.sieve_parser.specs.Tree.{one_test, test_list}
use Rattle.sieve_parser.specs.View.{argument_tree, head_tree, invocation_tree, more_tests_of}
use Rattle.sieve_parser.specs.declared.tree.Head.{Head}
use Rattle.sieve_parser.proofs.Here.{kind_here, not_here}
use Rattle.sieve_parser.proofs.TestSteps.{tree_plain, tree_test, tree_tests, plain_read, test_read, tests_read, IsInvocationRead, tests_comma, tests_more, from_suc, test_answer}
use Rattle.sieve_parser.proofs.Walk.{walk, sunk, stuck_here, stands_one, stands_both}
use Rattle.sieve_parser.proofs.Wrong.{no_test, no_test_end}
use Rattle.sieve_parser.proofs.invocation.+tests.Goals as goal

pub invocation-returns-then-depth-eq-MAX_NESTING : goal.invocation-returns-then-depth-eq-MAX_NESTING
invocation-returns-then-depth-eq-MAX_NESTING t c = λ f stack b at.
    let ls = lexemes c.args.script.now c.args.tokens.now in
    let next = c.in_ok-arguments.next in
    let name = subst (λ o. IsIdentifierAt ls next o) c.in-Some.is c.in_ok-name.ensures in
    sunk b ls next (arguments c.args.depth f) stack (suc c.args.depth) (arguments (suc c.args.depth) f ∷ []) ((c.in_ok-arguments.ensures c.args.depth f stack c.requires.depth).2 b at) name.0
    (ap (expand (arguments c.args.depth f)) name.1) (omega arith)

pub invocation-returns-in_err-test : goal.invocation-returns-in_err-test
invocation-returns-in_err-test t c = λ f stack.
    let ls = lexemes c.args.script.now c.args.tokens.now in
    let next = c.in_ok-arguments.next in
    let name = subst (λ o. IsIdentifierAt ls next o) c.in-Some.is c.in_ok-name.ensures in
    let p = err_from_is_err_and c.from_residual-in_err-test.result c.from_residual-in_err-test.ensures.1 in
    rw (p.1, p.2) (λ b at. c.in_err-test.ensures f stack b (subst (λ k. IsAt b ls (next + 1) (arguments k f ∷ stack)) (from_suc c.args.depth)
    (walk b ls next (arguments c.args.depth f) stack (suc c.args.depth) (arguments (suc c.args.depth) f ∷ []) ((c.in_ok-arguments.ensures c.args.depth f stack c.requires.depth).2 b at) name.0
    (ap (expand (arguments c.args.depth f)) name.1) (omega arith))))

pub invocation-returns-in-Some : goal.invocation-returns-in-Some
invocation-returns-in-Some t c =
    let ls = lexemes c.args.script.now c.args.tokens.now in
    let next = c.in_ok-arguments.next in
    let d = c.args.depth in
    let name = subst (λ o. IsIdentifierAt ls next o) c.in-Some.is c.in_ok-name.ensures in
    let head : Head = record { name = c.args.name; token = c.args.token; arguments = c.in_ok-arguments.arguments } in
    let args = map argument_tree c.in_ok-arguments.arguments.items in
    let inner = subst (λ k. IsInvocationRead ls c.in-Some.name next k (invocation_tree c.in_ok-test.test) c.in_ok-test.after) (sym (from_suc d)) c.in_ok-test.ensures in
    let tree = ap (λ v. head_tree head (one_test (invocation_tree v))) (sym c.in_ok-new.ensures.ok) ∙ sym (tree_test head c.in_ok-new.field-0) in
    subst (λ w. IsInvocationRead ls c.args.name c.args.token d w c.in_ok-test.after) tree
    (test_read ls c.args.name c.in-Some.name c.args.token d next c.in_ok-test.after args (invocation_tree c.in_ok-test.test)
    (λ f stack. c.in_ok-arguments.ensures d f stack c.requires.depth) (omega arith) name.0 name.1 inner)

pub invocation-overflow_add-next : goal.invocation-overflow_add-next
invocation-overflow_add-next t c =
    let here = kind_here c.args.script.now c.args.tokens.now c.in_ok-arguments.next OpeningParenthesis (c.if-stands.ensures.0 refl) in omega (arith, here.0)

pub invocation-test_list-requires : goal.invocation-test_list-requires
invocation-test_list-requires t c =
    let here = kind_here c.args.script.now c.args.tokens.now c.in_ok-arguments.next OpeningParenthesis (c.if-stands.ensures.0 refl) in
    (search rules, (c.requires.tokens, (omega (arith, here.0), (c.requires.short, c.requires.depth))))

pub invocation-returns-in_err-first : goal.invocation-returns-in_err-first
invocation-returns-in_err-first t c = λ f stack.
    let ls = lexemes c.args.script.now c.args.tokens.now in
    let next = c.in_ok-arguments.next in
    let here = kind_here c.args.script.now c.args.tokens.now next OpeningParenthesis (c.if-stands.ensures.0 refl) in
    let p = err_from_is_err_and c.from_residual-in_err-first.result c.from_residual-in_err-first.ensures.1 in
    rw (p.1, p.2) (λ b at. c.in_err-first.ensures (ending f ∷ stack) b
    (walk b ls next (arguments c.args.depth f) stack c.args.depth (tests c.args.depth ∷ ending f ∷ []) ((c.in_ok-arguments.ensures c.args.depth f stack c.requires.depth).2 b at) here.0
    (ap (expand (arguments c.args.depth f)) here.1.1) c.requires.depth))

pub invocation-returns-then-stands : goal.invocation-returns-then-stands
invocation-returns-then-stands t c =
    let ls = lexemes c.args.script.now c.args.tokens.now in
    let next = c.in_ok-arguments.next in
    let d = c.args.depth in
    let here = kind_here c.args.script.now c.args.tokens.now next OpeningParenthesis (c.if-stands.ensures.0 refl) in
    let head : Head = record { name = c.args.name; token = c.args.token; arguments = c.in_ok-arguments.arguments } in
    let args = map argument_tree c.in_ok-arguments.arguments.items in
    let rest = more_tests_of (map invocation_tree c.in_ok-first.rest.items) in
    let tree = ap (λ v. head_tree head (test_list (invocation_tree v) rest)) (sym c.in_ok-new-2.ensures.ok) ∙ sym (tree_tests head c.in_ok-new-2.field-0 c.in_ok-first.rest) in
    subst (λ w. IsInvocationRead ls c.args.name c.args.token d w c.in_ok-first.after) tree
    (tests_read ls c.args.name c.args.token d next c.in_ok-first.after args (invocation_tree c.in_ok-first.first) rest
    (λ f stack. c.in_ok-arguments.ensures d f stack c.requires.depth) c.requires.depth here.0 here.1.1 c.in_ok-first.ensures)

pub invocation-returns : goal.invocation-returns
invocation-returns t c =
    let s = c.args.script.now in
    let ts = c.args.tokens.now in
    let ls = lexemes s ts in
    let next = c.in_ok-arguments.next in
    let d = c.args.depth in
    let none = subst (λ o. IsIdentifierAt ls next o) c.in_default.is c.in_ok-name.ensures in
    let head : Head = record { name = c.args.name; token = c.args.token; arguments = c.in_ok-arguments.arguments } in
    subst (λ w. IsInvocationRead ls c.args.name c.args.token d w next) (sym (tree_plain head))
    (plain_read ls c.args.name c.args.token d next (map argument_tree c.in_ok-arguments.arguments.items) (λ f stack. c.in_ok-arguments.ensures d f stack c.requires.depth)
    (λ m other lt e. none m other lt e) (λ lt. not_here s ts next opening_parenthesis lt (λ k. false≢true (c.if-stands.ensures.1 k)) (λ q. cc)))

pub test_at-returns-in_default : goal.test_at-returns-in_default
test_at-returns-in_default t c = λ stack b at.
    let ls = lexemes c.args.script.now c.args.tokens.now in
    let none = subst (λ o. IsIdentifierAt ls c.args.at o) c.in_default.is c.in_ok-name.ensures in
    stuck_here b ls c.args.at (tests c.args.depth) stack at c.requires.within (λ lt. no_test c.args.depth (lexeme_at ls c.args.at) (λ n name e. none n name lt e)) (λ done. done)

pub test_at-returns-then-depth-eq-MAX_NESTING : goal.test_at-returns-then-depth-eq-MAX_NESTING
test_at-returns-then-depth-eq-MAX_NESTING t c = λ stack b at.
    let ls = lexemes c.args.script.now c.args.tokens.now in
    let d = c.args.depth in
    let name = subst (λ o. IsIdentifierAt ls c.args.at o) c.in-Some.is c.in_ok-name.ensures in
    sunk b ls c.args.at (tests d) stack (suc d) (arguments (suc d) (test_end d) ∷ []) at name.0 (ap (expand (tests d)) name.1) (omega arith)

pub test_at-returns : goal.test_at-returns
test_at-returns t c =
    let ls = lexemes c.args.script.now c.args.tokens.now in
    let name = subst (λ o. IsIdentifierAt ls c.args.at o) c.in-Some.is c.in_ok-name.ensures in
    test_answer ls c.args.at c.args.depth c.in-Some.name c.invocation.result name.0 name.1 (omega arith)
    (subst (λ k. IsInvocationAt ls c.in-Some.name c.args.at k c.invocation.result) (sym (from_suc c.args.depth)) c.invocation.ensures)

pub test_list-tests-init : goal.test_list-tests-init
test_list-tests-init t c =
    let first = c.in_ok-first.ensures in
    let ls = lexemes c.args.script.now c.args.tokens.now in
    let word = invocation_spelled (suc c.args.depth) (invocation_tree c.in_ok-first.first) in (
      (first []).0.within,
      rw c.new-rest.ensures.items (λ stack.
          (subst (λ w. Stands ls c.args.at c.in_ok-first.next w) (sym (append-nil word)) (first stack).0, (first stack).1)),
    )

pub test_list-test_at-requires-in-tests : goal.test_list-test_at-requires-in-tests
test_list-test_at-requires-in-tests t c =
    let here = kind_here c.args.script.now c.args.tokens.now c.tests.next Comma (c.tests-test.ensures.0 refl) in
    (search rules, (c.requires.tokens, (omega (arith, here.0), (c.requires.short, c.requires.depth))))

pub test_list-returns-in_err-test : goal.test_list-returns-in_err-test
test_list-returns-in_err-test t c = λ stack.
    let ls = lexemes c.args.script.now c.args.tokens.now in
    let here = kind_here c.args.script.now c.args.tokens.now c.tests.next Comma (c.tests-test.ensures.0 refl) in
    let p = err_from_is_err_and c.from_residual-in_err-test.result c.from_residual-in_err-test.ensures.1 in
    rw (p.1, p.2) (λ b at. c.in_err-test.ensures stack b
    (tests_comma ls c.args.at c.args.depth (invocation_tree c.tests.first-1) c.tests.next c.tests.rest.items c.tests.invariant.1 c.requires.depth here.0 here.1.1 stack b at))

pub test_list-tests-smaller : goal.test_list-tests-smaller
test_list-tests-smaller t c =
    let here = kind_here c.args.script.now c.args.tokens.now c.tests.next Comma (c.tests-test.ensures.0 refl) in
    let test = (c.in_ok-test.ensures []).0 in
    omega (arith, here.0, test.from, test.within)

pub test_list-tests-preserved : goal.test_list-tests-preserved
test_list-tests-preserved t c =
    let ls = lexemes c.args.script.now c.args.tokens.now in
    let here = kind_here c.args.script.now c.args.tokens.now c.tests.next Comma (c.tests-test.ensures.0 refl) in (
      (c.in_ok-test.ensures []).0.within,
      rw c.in_ok-push.ensures.items
          (tests_more ls c.args.at c.args.depth (invocation_tree c.tests.first-1) c.tests.next c.in_ok-test.after c.tests.rest.items c.in_ok-test.test
          c.tests.invariant.1 c.requires.depth here.0 here.1.1 c.in_ok-test.ensures),
    )

pub test_list-returns-then-stands : goal.test_list-returns-then-stands
test_list-returns-then-stands t c = λ stack.
    let ls = lexemes c.args.script.now c.args.tokens.now in
    let d = c.args.depth in
    let here = kind_here c.args.script.now c.args.tokens.now c.tests.next ClosingParenthesis (c.if-stands.ensures.0 refl) in
    let so_far = c.tests.invariant.1 stack in
    let first = invocation_spelled (suc d) (invocation_tree c.tests.first-1) in
    let more = more_tests_spelled d (more_tests_of (map invocation_tree c.tests.rest.items)) in
    let close = at_depth d closing_parenthesis in (
      subst (λ w. Stands ls c.args.at (c.tests.next + 1) w) (append_assoc first more (close ∷ []))
          (stands_both ls c.args.at c.tests.next (c.tests.next + 1) (first ++ more) (close ∷ []) so_far.0 (stands_one ls c.tests.next close here.0 here.1.1)),
      λ b at. walk b ls c.tests.next (ending (test_end d)) stack d [] (so_far.1 b at) here.0 (ap (expand (ending (test_end d))) here.1.1) c.requires.depth,
    )

pub test_list-returns-else-stands : goal.test_list-returns-else-stands
test_list-returns-else-stands t c = λ stack b at.
    let s = c.args.script.now in
    let ts = c.args.tokens.now in
    let ls = lexemes s ts in
    let next = c.tests.next in
    let d = c.args.depth in
    stuck_here b ls next (ending (test_end d)) stack ((c.tests.invariant.1 stack).1 b at) c.tests.invariant.0
    (λ lt. no_test_end d (lexeme_at ls next)
    (not_here s ts next comma lt (λ k. false≢true (c.tests-test.ensures.1 k)) (λ q. cc))
    (not_here s ts next closing_parenthesis lt (λ k. false≢true (c.if-stands.ensures.1 k)) (λ q. cc)))
    (λ done. done)

pub invocation-returns-in_err-arguments : goal.invocation-returns-in_err-arguments
invocation-returns-in_err-arguments t c = λ f stack.
    let p = err_from_is_err_and c.from_residual.result c.from_residual.ensures.1 in
    rw (p.1, p.2) (λ b a. c.in_err-arguments.ensures c.args.depth f stack c.requires.depth b a)

pub test_list-returns-in_err-first : goal.test_list-returns-in_err-first
test_list-returns-in_err-first t c = λ stack.
    let p = err_from_is_err_and c.from_residual.result c.from_residual.ensures.1 in
    rw (p.1, p.2) (λ b a. c.in_err-first.ensures stack b a)
