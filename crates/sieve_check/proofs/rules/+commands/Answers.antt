use Rattle.std.proofs.Common.{◌≡◌, ◌∙◌, ◌+◌, ◌++◌, List, Some, ap, sym, subst, drop}
use Rattle.std.specs.Prelude.{option_map}
use Rattle.std.proofs.lemmas.List.{append-nil, drop_all}
use Rattle.sieve_parser.specs.View.{command_tree, commands_tree, invocation_tree}
use Rattle.sieve_parser.specs.declared.tree.Command.{Command as Tree}
use Rattle.sieve_check.specs.declared.signature.Ending.TheVariants.{Block}
use Rattle.sieve_check.specs.Refusing.{AreVisited, context_of}
use Rattle.sieve_check.specs.Rules.{Visit, past_invocation, invocation_of, opened_past, command_visits, commands_visits, visits_of}
use Rattle.sieve_check.specs.Surroundings.{Context, inside}
use Rattle.sieve_check.proofs.FaultSteps.{block_visits, next_visits}
use Rattle.sieve_check.proofs.OpenLoops.{entered, not_entered}
use Rattle.sieve_check.proofs.Visits.{AreLeft, both_visited, fewer_left, none_left}
use Rattle.sieve_check.proofs.rules.+commands.Goals as goal

pub command-returns-in-Some : goal.command-returns-in-Some
command-returns-in-Some t c =
    let b = c.in-Block in
    let s = context_of c.args.surroundings.now in
    let i = invocation_tree b.first in
    let past = past_invocation s i in
    let is_past : option_map context_of c.in_block_past.result ≡ inside (opened_past i) past = c.in_block_past.ensures ∙ ap (inside (opened_past i)) c.pass.ensures in
    let within = context_of c.in-Some.inside in
    let body = commands_tree b.block.items in
    both_visited c.args.findings.now c.invocation-in-Block.new.findings c.commands.new.findings (command_visits s (command_tree c.args.tree.now)) (visits_of (Some Block) s i) (commands_visits within body)
    (block_visits s c.args.tree.now b.first b.block b.is
    ∙ ap (λ vs. visits_of (Some Block) s i ++ vs) (entered (opened_past i) past (λ around. commands_visits around body) within (ap (option_map context_of) (sym c.in-Some.is) ∙ is_past)))
    c.invocation-in-Block.ensures
    (subst (λ (xs : List Tree). AreVisited c.invocation-in-Block.new.findings (commands_visits within (commands_tree xs)) c.commands.new.findings) c.deref.ensures.value c.commands.ensures)

pub command-returns-in_default : goal.command-returns-in_default
command-returns-in_default t c =
    let b = c.in-Block in
    let s = context_of c.args.surroundings.now in
    let i = invocation_tree b.first in
    let past = past_invocation s i in
    let is_past : option_map context_of c.in_block_past.result ≡ inside (opened_past i) past = c.in_block_past.ensures ∙ ap (inside (opened_past i)) c.pass.ensures in
    let body = commands_tree b.block.items in
    let visits : command_visits s (command_tree c.args.tree.now) ≡ visits_of (Some Block) s i =
    block_visits s c.args.tree.now b.first b.block b.is
    ∙ ap (λ vs. visits_of (Some Block) s i ++ vs) (not_entered (opened_past i) past (λ around. commands_visits around body) (ap (option_map context_of) (sym c.in_default.is) ∙ is_past))
    ∙ append-nil (visits_of (Some Block) s i) in
    subst (λ (vs : List Visit). AreVisited c.args.findings.now vs c.invocation-in-Block.new.findings) (sym visits) c.invocation-in-Block.ensures

pub commands-trees-preserved : goal.commands-trees-preserved
commands-trees-preserved t c =
    let s = context_of c.trees.around in
    let i = c.trees.tree-index in
    let x = command_tree c.tree-item.result in
    let rest = commands_tree (drop (i + 1) c.args.trees.now) in
    let all = commands_visits (context_of c.args.surroundings.now) (commands_tree c.args.trees.now) in
    subst (λ (around : Context). AreLeft c.command.new.findings (commands_visits around rest) c.args.findings.now all) (sym (c.pass.ensures ∙ ap (past_invocation s) c.invocation_in.ensures))
    (fewer_left c.trees.findings c.command.new.findings c.args.findings.now (commands_visits s (commands_tree (drop i c.args.trees.now))) (command_visits s x) (commands_visits (past_invocation s (invocation_of x)) rest) all
    (next_visits s c.args.trees.now i c.tree-item.result c.trees-test.true c.tree-item.is) c.command.ensures c.trees.invariant)

pub commands-returns : goal.commands-returns
commands-returns t c =
    let s = context_of c.trees.around in
    none_left c.trees.findings c.args.findings.now (commands_visits s (commands_tree (drop c.trees.tree-index c.args.trees.now))) (commands_visits (context_of c.args.surroundings.now) (commands_tree c.args.trees.now))
    (ap (λ xs. commands_visits s (commands_tree xs)) (drop_all c.trees.tree-index c.args.trees.now c.trees-test.false)) c.trees.invariant
