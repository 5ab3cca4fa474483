-- What a command line says.
use Rattle.std.specs.Prelude.{◌≡◌, ◌≢◌, ℕ, ◌<◌, ◌^◌, List, [], Option, Some, IfSome, MatchOption, codes, unwrap_or, ⊤}
use Rattle.std.specs.Str.Parse.{IsNumeral, digits_value, without_leading_plus}
use Rattle.octets.specs.Limits.{max_entry_number, max_message, max_parts}
use Rattle.clap.specs.Words.{App, Row, Text, fault_of, first_of, subcommand_of}
use Rattle.depot_words.specs.Commands.{IsDepot, commands}
use Rattle.depot_words.specs.Ranges.{AreComplete, IsEntryNumber, IsNumberFrom}
use Rattle.encodings.specs.declared.encoding.Encoding.{Encoding}
use Rattle.encodings.specs.declared.encoding.Encoding.TheVariants.{Raw}
use Rattle.encodings.specs.Names.{encoding_of, name_of}
use Rattle.depot_jobs.specs.declared.line.CommandLine.{CommandLine}
use Rattle.depot_jobs.specs.declared.line.CommandLine.TheVariants.{Alone, Init, OnDepot, Program, Inspect, Scrub, Batch}
use Rattle.depot_jobs.specs.Requests.{Request, Work}
use Rattle.depot_jobs.specs.declared.host.Input.{Input}
use Rattle.depot_jobs.specs.declared.host.Input.TheVariants.{Standard, File}
use Rattle.depot_jobs.specs.declared.request.Access.TheVariants.{List as ListAll, Since, Catalog, Remove}
use Rattle.depot_jobs.specs.declared.request.Deposit.{Deposit}
use Rattle.depot_jobs.specs.declared.request.Deposit.TheVariants.{Script, Code, Message}
use Rattle.depot_jobs.specs.declared.request.OnDepot.TheVariants.{FromFile, OnUser, Export, Migrate}
use Rattle.depot_jobs.specs.declared.work.Runner.TheVariants.{Run, Eval, Trace}
use Rattle.depot_jobs.specs.declared.work.Tool.TheVariants.{KeepAll, Check, Explain, Compile, Verify, Limit, Disassemble, Assemble, Parts, Encode, Decode}
use Rattle.depot_jobs.specs.declared.work.WithoutDepot.TheVariants.{OnFile, OnMessage}

-- the text of an argument, empty where it has none
abbrev pub argument : Text → List Row → Text
argument name rows = unwrap_or (first_of name rows) []

-- the encoding of this name; raw stands for any other, which no command line of the program has
abbrev pub encoding_named : Text → Encoding
encoding_named name = unwrap_or (encoding_of name) Raw

-- the matches are those of the command of this name
abbrev pub IsCommand : Text → Option (Text × List Row) → List Row → Type 0
IsCommand name matches rows = matches ≡ Some (name, rows)

-- the text is decimal digits, perhaps after a plus sign, of a number of 32 bits
abbrev pub IsNumberText : Text → Type 0
IsNumberText text = IsNumeral 10 (without_leading_plus text) × (digits_value 10 (without_leading_plus text) < 2 ^ 32)

-- the number that a text is; 0 stands for any text that is none, which no command line of the program has, and for one that is left out
pub record IsNumber (text : Text) (number : ℕ) : Type 0 where
  pub value : IsNumberText text → number ≡ digits_value 10 (without_leading_plus text)
  pub none : (IsNumberText text → ⊥) → number ≡ 0

-- the name isn't that of a command that needs no depot
abbrev pub IsNoWork : Text → Type 0
IsNoWork name =
    (name ≢ codes "check") × (name ≢ codes "explain") × (name ≢ codes "compile") × (name ≢ codes "verify")
    × (name ≢ codes "limit") × (name ≢ codes "run")
    × (name ≢ codes "disassemble") × (name ≢ codes "assemble") × (name ≢ codes "eval") × (name ≢ codes "trace")
    × (name ≢ codes "parts") × (name ≢ codes "encode") × (name ≢ codes "decode")

-- the name isn't that of a command which makes a request of a depot
abbrev pub IsNoRequest : Text → Type 0
IsNoRequest name =
    (name ≢ codes "script") × (name ≢ codes "code") × (name ≢ codes "deliver") × (name ≢ codes "list")
    × (name ≢ codes "since") × (name ≢ codes "catalog") × (name ≢ codes "export") × (name ≢ codes "remove")
    × (name ≢ codes "migrate")

-- nor of any other command on a depot, or of the one that makes a folder of volumes
abbrev pub IsNoDepotCommand : Text → Type 0
IsNoDepotCommand name =
    IsNoRequest name × (name ≢ codes "init") × (name ≢ codes "program") × (name ≢ codes "inspect") × (name ≢ codes "scrub")
    × (name ≢ codes "batch")

-- the file whose name is this argument
abbrev pub IsFile : Text → List Row → Input → Type 0
IsFile name rows (File file) = file.now ≡ argument name rows
IsFile name rows Standard = ⊥

-- the work is what the matches say: which command there is, and its arguments
abbrev pub SaysWork : Work → Option (Text × List Row) → Type 0
SaysWork (OnFile KeepAll message) matches =
    IfSome matches (λ m. IsNoWork m.0 × IsNoDepotCommand m.0) × (message ≡ Standard)
SaysWork (OnFile Check script) matches = (rows : List Row) × IsCommand (codes "check") matches rows
    × IsFile (codes "SCRIPT") rows script
SaysWork (OnFile Explain script) matches = (rows : List Row) × IsCommand (codes "explain") matches rows
    × IsFile (codes "SCRIPT") rows script
SaysWork (OnFile (Compile out) script) matches =
    (rows : List Row) × IsCommand (codes "compile") matches rows × IsFile (codes "SCRIPT") rows script
    × (out.now ≡ argument (codes "OUT") rows)
SaysWork (OnFile Verify program) matches = (rows : List Row) × IsCommand (codes "verify") matches rows
    × IsFile (codes "PROGRAM") rows program
SaysWork (OnFile (Limit octets parts) program) matches =
    (rows : List Row) × IsCommand (codes "limit") matches rows × IsFile (codes "PROGRAM") rows program
    × IsNumber (argument (codes "OCTETS") rows) octets × IsNumber (argument (codes "PARTS") rows) parts
SaysWork (OnFile Disassemble program) matches = (rows : List Row) × IsCommand (codes "disassemble") matches rows
    × IsFile (codes "PROGRAM") rows program
SaysWork (OnFile (Assemble out) listing) matches =
    (rows : List Row) × IsCommand (codes "assemble") matches rows × IsFile (codes "LISTING") rows listing
    × (out.now ≡ argument (codes "OUT") rows)
SaysWork (OnFile Parts message) matches = (rows : List Row) × IsCommand (codes "parts") matches rows
    × IsFile (codes "MESSAGE") rows message
SaysWork (OnFile (Encode encoding) octets) matches =
    (rows : List Row) × IsCommand (codes "encode") matches rows
    × (encoding ≡ encoding_named (argument (codes "ENCODING") rows)) × (octets ≡ Standard)
SaysWork (OnFile (Decode encoding) text) matches =
    (rows : List Row) × IsCommand (codes "decode") matches rows
    × (encoding ≡ encoding_named (argument (codes "ENCODING") rows)) × (text ≡ Standard)
SaysWork (OnMessage Run program message) matches =
    (rows : List Row) × IsCommand (codes "run") matches rows × IsFile (codes "PROGRAM") rows program
    × IsFile (codes "MESSAGE") rows message
SaysWork (OnMessage Eval script message) matches =
    (rows : List Row) × IsCommand (codes "eval") matches rows × IsFile (codes "SCRIPT") rows script
    × IsFile (codes "MESSAGE") rows message
SaysWork (OnMessage Trace file message) matches =
    (rows : List Row) × IsCommand (codes "trace") matches rows × IsFile (codes "FILE") rows file
    × IsFile (codes "MESSAGE") rows message

-- the word of a command with a file, and the name of the file's argument
abbrev pub word_of : Deposit → Text
word_of Script = codes "script"
word_of Code = codes "code"
word_of Message = codes "deliver"

abbrev pub file_argument : Deposit → Text
file_argument Script = codes "SCRIPT"
file_argument Code = codes "PROGRAM"
file_argument Message = codes "MESSAGE"

-- the request is what the matches say: which command there is, and these arguments of it, but for the depot
abbrev pub SaysRequest : Request → Option (Text × List Row) → List Row → Type 0
SaysRequest (FromFile deposit user file) matches rows =
    IsCommand (word_of deposit) matches rows × (user.now ≡ argument (codes "USER") rows)
    × (file.now ≡ argument (file_argument deposit) rows)
SaysRequest (OnUser ListAll user) matches rows = IsCommand (codes "list") matches rows
    × (user.now ≡ argument (codes "USER") rows)
SaysRequest (OnUser (Since number) user) matches rows =
    IsCommand (codes "since") matches rows × (user.now ≡ argument (codes "USER") rows)
    × IsNumber (argument (codes "NUMBER") rows) number
SaysRequest (OnUser (Catalog number) user) matches rows =
    IsCommand (codes "catalog") matches rows × (user.now ≡ argument (codes "USER") rows)
    × IsNumber (argument (codes "NUMBER") rows) number
SaysRequest (OnUser (Remove number) user) matches rows =
    IsCommand (codes "remove") matches rows × (user.now ≡ argument (codes "USER") rows)
    × IsNumber (argument (codes "NUMBER") rows) number
SaysRequest (Export user number encoding) matches rows =
    IsCommand (codes "export") matches rows × (user.now ≡ argument (codes "USER") rows)
    × IsNumber (argument (codes "NUMBER") rows) number
    × (encoding ≡ encoding_named (argument (codes "ENCODING") rows))
SaysRequest Migrate matches rows = IsCommand (codes "migrate") matches rows

-- the command line says what the matches say
abbrev pub Says : CommandLine → Option (Text × List Row) → Type 0
Says (Alone work) matches = SaysWork work matches
Says (Init folder) matches = (rows : List Row) × IsCommand (codes "init") matches rows
    × (folder.now ≡ argument (codes "DIR") rows)
Says (OnDepot depot request) matches = (rows : List Row) × SaysRequest request matches rows
    × (depot.now ≡ argument (codes "DB") rows)
Says (Program depot user out) matches =
    (rows : List Row) × IsCommand (codes "program") matches rows × (depot.now ≡ argument (codes "DB") rows)
    × (user.now ≡ argument (codes "USER") rows) × (out.now ≡ argument (codes "OUT") rows)
Says (Inspect depot) matches = (rows : List Row) × IsCommand (codes "inspect") matches rows
    × (depot.now ≡ argument (codes "DB") rows)
Says (Scrub depot) matches = (rows : List Row) × IsCommand (codes "scrub") matches rows
    × (depot.now ≡ argument (codes "DB") rows)
Says (Batch depot) matches = (rows : List Row) × IsCommand (codes "batch") matches rows
    × (depot.now ≡ argument (codes "DB") rows)

-- The words say this command: clap finds no fault in them, and each of the command's arguments is
-- there, in its range.
pub record IsLine (words : List Text) (line : CommandLine) : Type 0 where
  pub app : App
  pub is_depot : IsDepot app
  pub taken : fault_of app words ≡ []
  pub complete : IfSome (subcommand_of app words) (λ m. AreComplete commands m.0 m.1)
  pub says : Says line (subcommand_of app words)

-- the matches have the name of this encoding
abbrev pub NamesEncoding : Encoding → Option (Text × List Row) → Type 0
NamesEncoding encoding matches = IfSome matches (λ m. first_of (codes "ENCODING") m.1 ≡ Some (name_of encoding))

-- the matches have a text of this number, which an entry may have
abbrev pub WritesNumber : ℕ → Option (Text × List Row) → Type 0
WritesNumber number matches =
    IfSome matches (λ m. (text : Text) × (first_of (codes "NUMBER") m.1 ≡ Some text) × IsEntryNumber text
    × (number ≡ digits_value 10 (without_leading_plus text)))

-- the matches have a text of this number for an argument, from the least to the most
abbrev pub WritesFrom : Text → ℕ → ℕ → ℕ → Option (Text × List Row) → Type 0
WritesFrom name least most number matches =
    IfSome matches (λ m. (text : Text) × (first_of name m.1 ≡ Some text) × IsNumberFrom least most text
    × (number ≡ digits_value 10 (without_leading_plus text)))

-- the same, or they have no text for it, and the number is 0
abbrev pub WritesFromOr0 : Text → ℕ → ℕ → ℕ → Option (Text × List Row) → Type 0
WritesFromOr0 name least most number matches =
    IfSome matches (λ m. MatchOption (first_of name m.1) (number ≡ 0) (λ text. IsNumberFrom least most text
    × (number ≡ digits_value 10 (without_leading_plus text))))

-- the numbers and the encoding of a command are those that the matches have
abbrev pub AreSaid : CommandLine → Option (Text × List Row) → Type 0
AreSaid (Alone (OnFile (Limit octets parts) program)) matches =
    WritesFrom (codes "OCTETS") 0 max_message octets matches × WritesFrom (codes "PARTS") 1 max_parts parts matches
AreSaid (Alone (OnFile (Encode encoding) octets)) matches = NamesEncoding encoding matches
AreSaid (Alone (OnFile (Decode encoding) text)) matches = NamesEncoding encoding matches
AreSaid (OnDepot depot (OnUser (Since number) user)) matches = WritesFrom (codes "NUMBER") 0 max_entry_number number matches
AreSaid (OnDepot depot (OnUser (Catalog number) user)) matches =
    WritesFromOr0 (codes "NUMBER") 0 max_entry_number number matches
AreSaid (OnDepot depot (OnUser (Remove number) user)) matches = WritesNumber number matches
AreSaid (OnDepot depot (Export user number encoding)) matches =
    WritesNumber number matches × NamesEncoding encoding matches
AreSaid line matches = ⊤
