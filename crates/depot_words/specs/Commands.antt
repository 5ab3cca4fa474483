-- The commands of the program, and their arguments.
use Rattle.std.specs.Prelude.{◌≡◌, ℕ, pos, List, [], ◌∷◌, Bool, true, false, Option, Some, None, codes, map}
use Rattle.std.specs.Borrow.{Bor}
use Rattle.std.specs.List.{fold}
use Rattle.clap.specs.Words.{App, Rule, Text, new_app, new_rule, with_rule, with_subcommand}
use Rattle.clap.specs.declared.builder.value_parser.ValueParser.{ValueParser}
use Rattle.clap.specs.declared.builder.value_parser.ValueParser.TheVariants as parsers
use Rattle.octets.specs.Limits.{max_entry_number, max_message, max_parts}

-- what the text of an argument has to be: any, the number of an entry, a number from the least to the most, or the name of an encoding; an
-- optional one can be left out
pub data Range : Type 0 where
  any_text : Range
  entry_number : Range
  number_from : ℕ → ℕ → Range
  encoding_name : Range
  optional : Range → Range

-- the name of an argument, and its range
abbrev pub Argument : Type 0
Argument = Text × Range

abbrev pub Arguments : Type 0
Arguments = List Argument

-- the arguments
abbrev pub depot : Argument
depot = (codes "DB", any_text)

abbrev pub folder : Argument
folder = (codes "DIR", any_text)

abbrev pub user : Argument
user = (codes "USER", any_text)

abbrev pub script : Argument
script = (codes "SCRIPT", any_text)

abbrev pub file : Argument
file = (codes "FILE", any_text)

abbrev pub program : Argument
program = (codes "PROGRAM", any_text)

abbrev pub listing : Argument
listing = (codes "LISTING", any_text)

abbrev pub message : Argument
message = (codes "MESSAGE", any_text)

abbrev pub out : Argument
out = (codes "OUT", any_text)

abbrev pub octets : Argument
octets = (codes "OCTETS", number_from 0 max_message)

abbrev pub parts : Argument
parts = (codes "PARTS", number_from 1 max_parts)

abbrev pub number : Argument
number = (codes "NUMBER", entry_number)

abbrev pub last_seen : Argument
last_seen = (codes "NUMBER", number_from 0 max_entry_number)

abbrev pub optional_last_seen : Argument
optional_last_seen = (codes "NUMBER", optional (number_from 0 max_entry_number))

abbrev pub encoding : Argument
encoding = (codes "ENCODING", encoding_name)

-- the commands, with their arguments in order
abbrev pub commands : List (Text × Arguments)
commands =
    (codes "check", script ∷ [])
    ∷ (codes "explain", script ∷ [])
    ∷ (codes "compile", script ∷ out ∷ [])
    ∷ (codes "verify", program ∷ [])
    ∷ (codes "limit", program ∷ octets ∷ parts ∷ [])
    ∷ (codes "run", program ∷ message ∷ [])
    ∷ (codes "disassemble", program ∷ [])
    ∷ (codes "assemble", listing ∷ out ∷ [])
    ∷ (codes "eval", script ∷ message ∷ [])
    ∷ (codes "trace", file ∷ message ∷ [])
    ∷ (codes "parts", message ∷ [])
    ∷ (codes "encode", encoding ∷ [])
    ∷ (codes "decode", encoding ∷ [])
    ∷ (codes "init", folder ∷ [])
    ∷ (codes "script", depot ∷ user ∷ script ∷ [])
    ∷ (codes "code", depot ∷ user ∷ program ∷ [])
    ∷ (codes "program", depot ∷ user ∷ out ∷ [])
    ∷ (codes "deliver", depot ∷ user ∷ message ∷ [])
    ∷ (codes "list", depot ∷ user ∷ [])
    ∷ (codes "since", depot ∷ user ∷ last_seen ∷ [])
    ∷ (codes "catalog", depot ∷ user ∷ optional_last_seen ∷ [])
    ∷ (codes "export", depot ∷ user ∷ number ∷ encoding ∷ [])
    ∷ (codes "remove", depot ∷ user ∷ number ∷ [])
    ∷ (codes "migrate", depot ∷ [])
    ∷ (codes "inspect", depot ∷ [])
    ∷ (codes "scrub", depot ∷ [])
    ∷ (codes "batch", depot ∷ [])
    ∷ []

-- the names of the encodings
abbrev pub encoding_names : List Text
encoding_names = codes "raw" ∷ codes "base64" ∷ codes "base64-mime" ∷ codes "base32" ∷ codes "base32hex"
    ∷ codes "base16" ∷ codes "qp" ∷ []

-- texts, wherever they are kept
abbrev pub Texts : Type 0
Texts = Bor (List (Bor Text))

-- the texts are the names of the encodings
abbrev pub AreEncodings : Texts → Type 0
AreEncodings names = map (λ (name : Bor Text). name.now) names.now ≡ encoding_names

-- how clap tests a text of this range, where these are the names of the encodings
abbrev pub parser_for : Texts → Range → Option ValueParser
parser_for names any_text = None
parser_for names entry_number = Some (parsers.Signed (pos 1) (pos max_entry_number))
parser_for names (number_from least most) = Some (parsers.Unsigned least most)
parser_for names encoding_name = Some (parsers.Names names)
parser_for names (optional range) = parser_for names range

-- whether an argument of this range has to be there
abbrev pub is_required : Range → Bool
is_required (optional range) = false
is_required _ = true

-- an argument whose text is in its range
abbrev pub rule_for : Texts → Argument → Rule
rule_for names argument = record (new_rule argument.0) { parser = parser_for names argument.1; required = is_required argument.1 }

-- a command with one more argument
abbrev pub with_argument : Texts → App → Argument → App
with_argument names app argument = with_rule app (rule_for names argument)

-- a command with its arguments
abbrev pub command_app : Texts → Text × Arguments → App
command_app names command = fold (with_argument names) (new_app command.0) command.1

-- a program with one more command
abbrev pub with_command : Texts → App → Text × Arguments → App
with_command names app command = with_subcommand app (command_app names command).top

-- the program with its commands
abbrev pub depot_app : Texts → App
depot_app names = fold (with_command names) (new_app (codes "depot")) commands

-- the app is that program, wherever the names of the encodings are kept
abbrev pub IsDepot : App → Type 0
IsDepot app = (names : Texts) × AreEncodings names × (app ≡ depot_app names)
