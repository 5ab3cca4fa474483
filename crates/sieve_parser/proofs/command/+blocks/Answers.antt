use Rattle.std.proofs.Common.{suc, ◌+◌, [], ◌∷◌, refl, sym, ap, subst, arith, rules}
use Rattle.std.proofs.lemmas.Bool.{false≢true}
use Rattle.std.proofs.lemmas.Result.{err_from_is_err_and}
use Rattle.sieve_lexer.specs.declared.token.TokenKind.TheVariants.{Semicolon, OpeningBrace, ClosingBrace}
use Rattle.sieve_parser.specs.Lexemes.{semicolon, opening_brace, closing_brace, lexemes}
use Rattle.sieve_parser.specs.Grammar.{commands_spelled}
use Rattle.sieve_parser.specs.TokenMachine.{command_end, ending, body, expand}
use Rattle.sieve_parser.specs.Parsing.{Beginning, IsAt, IsIdentifierAt, Stands, lexeme_at}
use Rattle.sieve_parser.specs.View.{invocation_tree, commands_tree}
use Rattle.sieve_parser.proofs.Here.{kind_here, not_here}
use Rattle.sieve_parser.proofs.TestSteps.{from_suc}
use Rattle.sieve_parser.proofs.CommandSteps.{tree_simple, tree_block, simple_read, block_read, IsCommandRead, command_begun, commands_more}
use Rattle.sieve_parser.proofs.Walk.{walk, sunk, stuck_here}
use Rattle.sieve_parser.proofs.Wrong.{no_command_end, no_body}
use Rattle.sieve_parser.proofs.command.+blocks.Goals as goal

pub command-returns-then-stands : goal.command-returns-then-stands
command-returns-then-stands t c =
    let ls = lexemes c.args.script.now c.args.tokens.now in
    let next = c.in_ok-invocation.next in
    let here = kind_here c.args.script.now c.args.tokens.now next Semicolon (c.if-stands.ensures.0 refl) in
    subst (λ w. IsCommandRead ls c.args.name c.args.token c.args.depth w (next + 1)) (sym (tree_simple c.in_ok-invocation.invocation))
    (simple_read ls c.args.name c.args.token c.args.depth next (invocation_tree c.in_ok-invocation.invocation) c.in_ok-invocation.ensures c.requires.depth here.0 here.1.1)

pub command-returns-then-not-stands : goal.command-returns-then-not-stands
command-returns-then-not-stands t c = λ stack b at.
    let s = c.args.script.now in
    let ts = c.args.tokens.now in
    let ls = lexemes s ts in
    let next = c.in_ok-invocation.next in
    let d = c.args.depth in
    let read = c.in_ok-invocation.ensures (command_end d) stack in
    stuck_here b ls next (ending (command_end d)) stack (read.1.2 b at) read.1.1.within
    (λ lt. no_command_end d (lexeme_at ls next)
    (not_here s ts next semicolon lt (λ k. false≢true (c.if-stands.ensures.1 k)) (λ q. cc))
    (not_here s ts next opening_brace lt (λ k. false≢true (c.if-not-stands.ensures.1 k)) (λ q. cc)))
    (λ done. done)

pub command-returns-then-depth-eq-MAX_NESTING : goal.command-returns-then-depth-eq-MAX_NESTING
command-returns-then-depth-eq-MAX_NESTING t c = λ stack b at.
    let ls = lexemes c.args.script.now c.args.tokens.now in
    let next = c.in_ok-invocation.next in
    let d = c.args.depth in
    let here = kind_here c.args.script.now c.args.tokens.now next OpeningBrace (c.if-not-stands.ensures.0 refl) in
    sunk b ls next (ending (command_end d)) stack (suc d) (body (suc d) ∷ []) ((c.in_ok-invocation.ensures (command_end d) stack).1.2 b at) here.0
    (ap (expand (ending (command_end d))) here.1.1) (omega arith)

pub command-overflow_add-next : goal.command-overflow_add-next
command-overflow_add-next t c =
    let here = kind_here c.args.script.now c.args.tokens.now c.in_ok-invocation.next OpeningBrace (c.if-not-stands.ensures.0 refl) in omega (arith, here.0)

pub command-commands-requires : goal.command-commands-requires
command-commands-requires t c =
    let here = kind_here c.args.script.now c.args.tokens.now c.in_ok-invocation.next OpeningBrace (c.if-not-stands.ensures.0 refl) in
    (search rules, (c.requires.tokens, (omega (arith, here.0), (c.requires.short, omega arith))))

pub command-returns-in_err-block : goal.command-returns-in_err-block
command-returns-in_err-block t c = λ stack.
    let ls = lexemes c.args.script.now c.args.tokens.now in
    let next = c.in_ok-invocation.next in
    let d = c.args.depth in
    let here = kind_here c.args.script.now c.args.tokens.now next OpeningBrace (c.if-not-stands.ensures.0 refl) in
    let p = err_from_is_err_and c.from_residual-in_err-block.result c.from_residual-in_err-block.ensures.1 in
    rw (p.1, p.2) (λ b at. c.in_err-block.ensures stack b (subst (λ k. IsAt b ls (next + 1) (body k ∷ stack)) (from_suc d)
    (walk b ls next (ending (command_end d)) stack (suc d) (body (suc d) ∷ []) ((c.in_ok-invocation.ensures (command_end d) stack).1.2 b at) here.0
    (ap (expand (ending (command_end d))) here.1.1) (omega arith))))

pub command-overflow_add-result-then-stands-2 : goal.command-overflow_add-result-then-stands-2
command-overflow_add-result-then-stands-2 t c =
    let here = kind_here c.args.script.now c.args.tokens.now c.in_ok-block.after ClosingBrace (c.if-stands-2.ensures.0 refl) in omega (arith, here.0)

pub command-returns-then-stands-2 : goal.command-returns-then-stands-2
command-returns-then-stands-2 t c =
    let ls = lexemes c.args.script.now c.args.tokens.now in
    let next = c.in_ok-invocation.next in
    let after = c.in_ok-block.after in
    let d = c.args.depth in
    let open_brace = kind_here c.args.script.now c.args.tokens.now next OpeningBrace (c.if-not-stands.ensures.0 refl) in
    let close = kind_here c.args.script.now c.args.tokens.now after ClosingBrace (c.if-stands-2.ensures.0 refl) in
    let cs = commands_tree c.in_ok-block.block.items in
    subst (λ w. IsCommandRead ls c.args.name c.args.token d w (after + 1)) (sym (tree_block c.in_ok-invocation.invocation c.in_ok-block.block))
    (block_read ls c.args.name c.args.token d next after (invocation_tree c.in_ok-invocation.invocation) cs c.in_ok-invocation.ensures (omega arith) open_brace.0 open_brace.1.1
    (λ stack. let inner = c.in_ok-block.ensures stack in (
      subst (λ k. Stands ls (next + 1) after (commands_spelled k cs)) (sym (from_suc d)) inner.0,
      subst (λ k. (b : Beginning) → IsAt b ls (next + 1) (body k ∷ stack) → IsAt b ls after (body k ∷ stack)) (sym (from_suc d)) inner.2,
    ))
    close.0 close.1.1)

pub command-returns-else-stands-2 : goal.command-returns-else-stands-2
command-returns-else-stands-2 t c = λ stack b at.
    let s = c.args.script.now in
    let ts = c.args.tokens.now in
    let ls = lexemes s ts in
    let next = c.in_ok-invocation.next in
    let after = c.in_ok-block.after in
    let d = c.args.depth in
    let here = kind_here s ts next OpeningBrace (c.if-not-stands.ensures.0 refl) in
    let inner = c.in_ok-block.ensures stack in
    let begun = walk b ls next (ending (command_end d)) stack (suc d) (body (suc d) ∷ []) ((c.in_ok-invocation.ensures (command_end d) stack).1.2 b at) here.0
    (ap (expand (ending (command_end d))) here.1.1) (omega arith) in
    let ended = inner.2 b (subst (λ k. IsAt b ls (next + 1) (body k ∷ stack)) (from_suc d) begun) in
    stuck_here b ls after (body (suc d)) stack (subst (λ k. IsAt b ls after (body k ∷ stack)) (sym (from_suc d)) ended) inner.0.within
    (λ lt. no_body d (lexeme_at ls after) (λ n name e. inner.1 n name lt e) (not_here s ts after closing_brace lt (λ k. false≢true (c.if-stands-2.ensures.1 k)) (λ q. cc)))
    (λ done. done)

pub commands-returns-in_err-command : goal.commands-returns-in_err-command
commands-returns-in_err-command t c = λ stack.
    let ls = lexemes c.args.script.now c.args.tokens.now in
    let next = c.commands.next in
    let name = subst (λ o. IsIdentifierAt ls next o) c.in-Some.is c.in_ok-name.ensures in
    let p = err_from_is_err_and c.from_residual-in_err-command.result c.from_residual-in_err-command.ensures.1 in
    rw (p.1, p.2) (λ b at. c.in_err-command.ensures (body c.args.depth ∷ stack) b
    (command_begun ls c.args.at c.args.depth next c.commands.commands.items c.in-Some.name c.commands.invariant.1 c.requires.depth name.0 name.1 stack b at))

pub commands-commands-smaller : goal.commands-commands-smaller
commands-commands-smaller t c =
    let ls = lexemes c.args.script.now c.args.tokens.now in
    let name = subst (λ o. IsIdentifierAt ls c.commands.next o) c.in-Some.is c.in_ok-name.ensures in
    let read = (c.in_ok-command.ensures []).1.1 in
    omega (arith, name.0, read.from, read.within)

pub commands-commands-preserved : goal.commands-commands-preserved
commands-commands-preserved t c =
    let ls = lexemes c.args.script.now c.args.tokens.now in
    let next = c.commands.next in
    let name = subst (λ o. IsIdentifierAt ls next o) c.in-Some.is c.in_ok-name.ensures in (
      (c.in_ok-command.ensures []).1.1.within,
      rw c.in_ok-push.ensures.items
          (commands_more ls c.args.at c.args.depth next c.in_ok-command.after c.commands.commands.items c.in-Some.name c.in_ok-command.command
          c.commands.invariant.1 c.requires.depth name.0 name.1 c.in_ok-command.ensures),
    )

pub commands-returns : goal.commands-returns
commands-returns t c = λ stack.
    let ls = lexemes c.args.script.now c.args.tokens.now in
    let so_far = c.commands.invariant.1 stack in
    (so_far.0, subst (λ o. IsIdentifierAt ls c.commands.next o) c.in_default.is c.in_ok-name.ensures, so_far.1)

pub command-returns-in_err-invocation : goal.command-returns-in_err-invocation
command-returns-in_err-invocation t c = λ stack.
    let p = err_from_is_err_and c.from_residual.result c.from_residual.ensures.1 in
    rw (p.1, p.2) (λ b a. c.in_err-invocation.ensures (command_end c.args.depth) stack b a)

pub command-overflow_add-result : goal.command-overflow_add-result
command-overflow_add-result t c =
    let read = c.in_ok-invocation.ensures (command_end 0) [] in
    omega (arith, read.1.1.within, c.requires.short)
