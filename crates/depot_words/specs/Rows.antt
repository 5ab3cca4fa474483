-- Private: what the rows of the code's table say.
use Rattle.std.specs.Prelude.{map}
use Rattle.clap.specs.Words.{Text}
use Rattle.depot_words.specs.Commands.{Arguments}
use Rattle.depot_words.specs.Commands as kinds
use Rattle.depot_words.specs.declared.arguments.Argument.{Argument}
use Rattle.depot_words.specs.declared.arguments.Argument.TheVariants.{AnyFile, Depot, Encoding, Filter, Folder, LastSeen, Listing, Message, Number, Octets, OptionalLastSeen, Out, Parts, Program, Script, User}
use Rattle.depot_words.specs.declared.commands.Row.{Row}

abbrev pub argument_of : Argument → kinds.Argument
argument_of Depot = kinds.depot
argument_of AnyFile = kinds.depot
argument_of Folder = kinds.folder
argument_of User = kinds.user
argument_of Number = kinds.number
argument_of LastSeen = kinds.last_seen
argument_of OptionalLastSeen = kinds.optional_last_seen
argument_of Encoding = kinds.encoding
argument_of Script = kinds.script
argument_of Filter = kinds.file
argument_of Program = kinds.program
argument_of Listing = kinds.listing
argument_of Message = kinds.message
argument_of Out = kinds.out
argument_of Octets = kinds.octets
argument_of Parts = kinds.parts

-- the command of a row, with its arguments
abbrev pub command_of : Row → Text × Arguments
command_of row = (row.word.now, map argument_of row.arguments.now)
