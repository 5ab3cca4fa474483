use Rattle.std.proofs.Common.{◌≡◌, [], ◌∷◌, ◌++◌, map, sym, ◌∙◌, ap, subst, arith}
use Rattle.std.proofs.lemmas.List.{map_push}
use Rattle.std.proofs.lemmas.Result.{err_from_is_err_and}
use Rattle.sieve_parser.specs.Grammar.{argument_spelled, arguments_spelled}
use Rattle.sieve_parser.specs.TokenMachine.{command_end}
use Rattle.sieve_parser.specs.View.{argument_tree}
use Rattle.sieve_parser.specs.Parsing.{Stands}
use Rattle.sieve_parser.specs.Lexemes.{lexemes}
use Rattle.sieve_parser.proofs.ArgumentSteps.{arguments_push}
use Rattle.sieve_parser.proofs.Walk.{stands_both}
use Rattle.sieve_parser.proofs.arguments.arguments.Goals as goal

pub arguments-smaller : goal.arguments-smaller
arguments-smaller c =
    let read = rw c.in-Some.is at (c.in_ok-argument.ensures 0 (command_end 0) [] (omega arith)) in
    omega (arith, read.0, read.1.within)

pub arguments-preserved : goal.arguments-preserved
arguments-preserved c =
    let ls = lexemes c.args.script.now c.args.tokens.now in
    let read = rw c.in-Some.is at (c.in_ok-argument.ensures 0 (command_end 0) [] (omega arith)) in (
      read.1.within,
      rw c.in_ok-push.ensures.items (λ d f stack small.
          let step = rw c.in-Some.is at (c.in_ok-argument.ensures d f stack small) in
          let so_far = c.arguments.invariant.1 d f stack small in
          let items = c.arguments.arguments.items in
          let spelled : arguments_spelled d (map argument_tree items) ++ argument_spelled d (argument_tree c.in-Some.argument) ≡ arguments_spelled d (map argument_tree (items ++ c.in-Some.argument ∷ [])) =
          sym (arguments_push d (map argument_tree items) (argument_tree c.in-Some.argument)) ∙ ap (arguments_spelled d) (sym (map_push argument_tree items c.in-Some.argument)) in (
            subst (λ w. Stands ls c.args.at c.in-Some.after w) spelled
                (stands_both ls c.args.at c.arguments.next c.in-Some.after (arguments_spelled d (map argument_tree items)) (argument_spelled d (argument_tree c.in-Some.argument)) so_far.0 step.1),
            λ b a. step.2 b (so_far.1 b a),
          )),
    )

pub returns : goal.returns
returns c = λ d f stack small.
    let so_far = c.arguments.invariant.1 d f stack small in
    let none = rw c.in_default.is at (c.in_ok-argument.ensures d f stack small) in
    (so_far.0, none, so_far.1)

pub returns-in_err-argument : goal.returns-in_err-argument
returns-in_err-argument c = λ d f stack small.
    let p = err_from_is_err_and c.from_residual.result c.from_residual.ensures.1 in
    rw (p.1, p.2) (λ b a. c.in_err-argument.ensures d f stack small b ((c.arguments.invariant.1 d f stack small).1 b a))
