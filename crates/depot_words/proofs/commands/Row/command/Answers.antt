use Rattle.std.proofs.Common.{◌∙◌, ap, refl}
use Rattle.clap.specs.Words.{app_of, with_rule}
use Rattle.depot_words.specs.Commands.{with_argument}
use Rattle.depot_words.specs.Rows.{argument_of}
use Rattle.depot_words.proofs.TableLemmas.{local_still, one_more}
use Rattle.depot_words.proofs.commands.Row.command.Goals as goal

pub arguments-preserved : goal.arguments-preserved
arguments-preserved c =
    let added = c.in_ok-command.ensures in
    let turn = added.shape c.described.ensures.local ∙ ap (with_rule (app_of c.arguments.command)) c.described.ensures.rule in (
      one_more (with_argument c.args.encodings.now.names) argument_of (app_of c.after_help-command.result) c.args.self.now.arguments.now c.arguments.argument-index _ _ _ _
          c.arguments-test.true refl c.arguments.invariant.0 turn,
      local_still _ _ _ added.globals c.arguments.invariant.1 c.described.ensures.local,
    )
