use Rattle.std.proofs.Common.{rules, ◌≡◌, ◌∙◌, None, Some, ap, option_map, subst, sym}
use Rattle.sieve_parser.specs.View.{commands_tree, invocation_tree}
use Rattle.sieve_check.specs.declared.form_error.FormError.TheVariants.{Malformed}
use Rattle.sieve_check.specs.Forming.{Formed, commands_formed}
use Rattle.sieve_check.specs.Refusing.{context_of}
use Rattle.sieve_check.specs.Rules.{loops_opened}
use Rattle.sieve_check.specs.Sequences.{part_form}
use Rattle.sieve_check.specs.Surroundings.{inside}
use Rattle.sieve_check.specs.TypedView.{commands_form}
use Rattle.sieve_check.proofs.FormSteps.{part_added, part_missing, part_of_block, part_refused}
use Rattle.sieve_check.proofs.forming.+commands.Goals as goal

pub commands-returns-in_err-part : goal.commands-returns-in_err-part
commands-returns-in_err-part t c =
    let none : c.in_err-part.field-0.0 ≡ Malformed → commands_formed (context_of c.args.surroundings.now) (commands_tree c.args.trees.now) ≡ None = λ malformed.
    sym c.trees.invariant
    ∙ part_missing (context_of c.trees.around) c.args.trees.now c.trees.tree-index c.tree-item.result c.trees-test.true c.tree-item.is c.trees.sequence (c.in_err-part.ensures malformed) in
    search rules

pub commands-returns-in_err-push : goal.commands-returns-in_err-push
commands-returns-in_err-push t c =
    let none : c.in_err-push.field-0.0 ≡ Malformed → commands_formed (context_of c.args.surroundings.now) (commands_tree c.args.trees.now) ≡ None = λ malformed.
    sym c.trees.invariant
    ∙ part_refused (context_of c.trees.around) c.args.trees.now c.trees.tree-index c.tree-item.result c.trees-test.true c.tree-item.is c.trees.sequence c.in_ok-part.part c.in_ok-part.ensures c.push.new.self (c.in_err-push.ensures malformed) in
    search rules

pub commands-trees-preserved : goal.commands-trees-preserved
commands-trees-preserved t c =
    rw c.pass_one.ensures
    (part_added (context_of c.trees.around) c.args.trees.now c.trees.tree-index c.tree-item.result c.trees-test.true c.tree-item.is c.trees.sequence c.in_ok-part.part c.in_ok-part.ensures c.push.new.self c.in_ok-push.ensures
    ∙ c.trees.invariant)

pub part-returns-in_ok-body-in-Block : goal.part-returns-in_ok-body-in-Block
part-returns-in_ok-body-in-Block t c =
    let b = c.in-Block in
    let s = context_of c.args.surroundings.now in
    let around = context_of c.in-Some.inside in
    let body = commands_form c.in_ok-body-in-Block.body.items in
    let room : Some around ≡ inside (loops_opened (invocation_tree b.invocation)) s = ap (option_map context_of) (sym c.in-Some.is) ∙ c.in_block.ensures in
    let formed : commands_formed around (commands_tree b.block.items) ≡ Some body = ap (λ xs. commands_formed around (commands_tree xs)) (sym c.deref.ensures.value) ∙ c.in_ok-body-in-Block.ensures in
    subst (λ form. Formed part_form form c.block_part.result) (sym (part_of_block s c.args.tree.now b.invocation b.block around body b.is room formed)) c.block_part.ensures
