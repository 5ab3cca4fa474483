use Rattle.std.proofs.Common.{◌≡◌, false, map, take}
use Rattle.std.specs.List.{fold}
use Rattle.clap.specs.Words.{app_of}
use Rattle.clap.specs.declared.builder.command.Command.TheViews.{out-Command as fields_of}
use Rattle.depot_words.specs.Commands.{with_argument}
use Rattle.depot_words.specs.Rows.{argument_of}
use Rattle.depot_words.proofs.commands.Row.command.Given as goal

abbrev pub invariant-arguments : goal.invariant-arguments
invariant-arguments l =
    (app_of l.command ≡ fold (with_argument l.encodings.names) (app_of l.initial.command) (map argument_of (take l.argument-index l.arguments)))
    × ((fields_of l.command).has_globals ≡ false)
