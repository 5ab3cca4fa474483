use Rattle.std.proofs.Common.{◌∙◌, ap, refl}
use Rattle.clap.specs.Words.{App, app_of, with_subcommand}
use Rattle.depot_words.specs.Commands.{with_command}
use Rattle.depot_words.specs.Rows.{command_of}
use Rattle.depot_words.proofs.TableLemmas.{local_still, one_more}
use Rattle.depot_words.proofs.commands.depot_command.Goals as goal

pub rows-preserved : goal.rows-preserved
rows-preserved c =
    let added = c.in_ok-app.ensures in
    let turn = added.shape c.in_ok-command.ensures.local ∙ ap (λ (a : App). with_subcommand (app_of c.rows.app) a.top) c.in_ok-command.ensures.app in (
      one_more (with_command c.args.names) command_of (app_of c.after_help-app.result) c.rows-rows.result.now c.rows.row-index _ _ _ _ c.rows-test.true refl c.rows.invariant.0 turn,
      local_still _ _ _ added.globals c.rows.invariant.1 c.in_ok-command.ensures.local,
    )
