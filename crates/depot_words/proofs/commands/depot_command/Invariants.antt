use Rattle.std.proofs.Common.{◌≡◌, false, map, take}
use Rattle.std.specs.List.{fold}
use Rattle.clap.specs.Words.{app_of}
use Rattle.clap.specs.declared.builder.command.Command.TheViews.{out-Command as fields_of}
use Rattle.depot_words.specs.Commands.{with_command}
use Rattle.depot_words.specs.Rows.{command_of}
use Rattle.depot_words.proofs.commands.depot_command.Given as goal

abbrev pub invariant-rows : goal.invariant-rows
invariant-rows l =
    (app_of l.app ≡ fold (with_command l.encodings.names) (app_of l.initial.app) (map command_of (take l.row-index l.rows)))
    × ((fields_of l.app).has_globals ≡ false)
