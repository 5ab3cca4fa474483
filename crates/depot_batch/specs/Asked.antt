-- What the words of a line ask for, or why they ask for nothing, and how that is answered.
use Rattle.std.specs.Prelude.{◌≡◌, ◌≢◌, ℕ, ◌≤◌, List, [], ◌∷◌, ◌++◌, Some, None, codes, length}
use Rattle.std.specs.Str.Parse.{digits_value, without_leading_plus}
use Rattle.printing.specs.Printed.{line}
use Rattle.encodings.specs.Names.{encoding_of}
use Rattle.depot_jobs.specs.Words.{IsNoRequest, IsNumberText, word_of}
use Rattle.depot_jobs.specs.declared.request.Access.TheVariants as accesses
use Rattle.depot_jobs.specs.declared.request.Deposit.TheVariants.{Script, Code, Message}
use Rattle.depot_cli.specs.declared.task.WithReply.TheVariants as replied
use Rattle.depot_batch.specs.declared.asked.Asked.{Asked}
use Rattle.depot_batch.specs.declared.asked.Asked.TheVariants.{Reply, Export as IntoFile}
use Rattle.depot_batch.specs.declared.asked.LineFault.{LineFault}
use Rattle.depot_batch.specs.declared.asked.LineFault.TheVariants as faults
use Rattle.depot_batch.specs.declared.asked.Form.{Form}
use Rattle.depot_batch.specs.declared.asked.Form.TheVariants as forms

abbrev pub Text : Type 0
Text = List ℕ

-- ---- the commands

-- a number of an entry: decimal digits, perhaps after a plus sign, of this one to 2^32 - 1
pub record IsNumberFrom (least : ℕ) (text : Text) (number : ℕ) : Type 0 where
  pub numeral : IsNumberText text
  pub value : number ≡ digits_value 10 (without_leading_plus text)
  pub enough : least ≤ number

-- words ask for this
abbrev pub Asks : List Text → Asked → Type 0
Asks words (Reply (replied.FromFile deposit user file)) = words ≡ word_of deposit ∷ user.now ∷ file.now ∷ []
Asks words (Reply (replied.OnUser accesses.List user)) = words ≡ codes "list" ∷ user.now ∷ []
Asks words (Reply (replied.OnUser (accesses.Since number) user)) =
    (digits : Text) × (words ≡ codes "since" ∷ user.now ∷ digits ∷ []) × IsNumberFrom 0 digits number
Asks words (Reply (replied.OnUser (accesses.Catalog number) user)) =
    (digits : Text) × (words ≡ codes "catalog" ∷ user.now ∷ digits ∷ []) × IsNumberFrom 0 digits number
Asks words (Reply (replied.OnUser (accesses.Remove number) user)) =
    (digits : Text) × (words ≡ codes "remove" ∷ user.now ∷ digits ∷ []) × IsNumberFrom 1 digits number
Asks words (Reply replied.Migrate) = words ≡ codes "migrate" ∷ []
Asks words (IntoFile export) =
    (digits name : Text) × (words ≡ codes "export" ∷ export.user.now ∷ digits ∷ name ∷ export.file.now ∷ [])
    × IsNumberFrom 1 digits export.number
    × (encoding_of name ≡ Some export.encoding)

-- the form of a command: its name, how many words come after that, and how a user is told to write it
abbrev pub name_of : Form → Text
name_of (forms.FromFile deposit) = word_of deposit
name_of forms.List = codes "list"
name_of forms.Since = codes "since"
name_of forms.Catalog = codes "catalog"
name_of forms.Export = codes "export"
name_of forms.Remove = codes "remove"
name_of forms.Migrate = codes "migrate"

abbrev pub words_after : Form → ℕ
words_after (forms.FromFile deposit) = 2
words_after forms.List = 1
words_after forms.Since = 2
words_after forms.Catalog = 2
words_after forms.Export = 4
words_after forms.Remove = 2
words_after forms.Migrate = 0

abbrev pub usage_of : Form → Text
usage_of (forms.FromFile Script) = codes "script USER SCRIPT"
usage_of (forms.FromFile Code) = codes "code USER PROGRAM"
usage_of (forms.FromFile Message) = codes "deliver USER MESSAGE"
usage_of forms.List = codes "list USER"
usage_of forms.Since = codes "since USER NUMBER"
usage_of forms.Catalog = codes "catalog USER NUMBER"
usage_of forms.Export = codes "export USER NUMBER ENCODING FILE"
usage_of forms.Remove = codes "remove USER NUMBER"
usage_of forms.Migrate = codes "migrate"

-- the least number that its second word may be
abbrev pub least_number : Form → ℕ
least_number forms.Since = 0
least_number forms.Catalog = 0
least_number form = 1

-- ---- what is no command

-- Why words ask for nothing: the first is no command's name; so many don't come after it; or one
-- that should be a number or an encoding is none.
abbrev pub AskNothing : List Text → LineFault → Type 0
AskNothing words faults.NoCommand = (name : Text) (rest : List Text) → words ≡ name ∷ rest → IsNoRequest name
AskNothing words (faults.Form form) = (rest : List Text) × (words ≡ name_of form ∷ rest)
    × (length rest ≢ words_after form)
AskNothing words (faults.Number form) =
    (user digits : Text) × (rest : List Text) × (words ≡ name_of form ∷ user ∷ digits ∷ rest)
    × ((number : ℕ) → IsNumberFrom (least_number form) digits number → ⊥)
AskNothing words faults.Encoding =
    (name user digits encoding : Text) × (rest : List Text) × (words ≡ name ∷ user ∷ digits ∷ encoding ∷ rest)
    × (encoding_of encoding ≡ None)
AskNothing words fault = ⊥

-- what is wrong with a line, in words
abbrev pub sentence_of : LineFault → Text
sentence_of faults.Unfinished = codes "the input ended within this line"
sentence_of faults.Words = codes "words have one space between them, and others stand in quotes"
sentence_of faults.NotText = codes "a word isn't UTF-8"
sentence_of faults.NoCommand = codes "the commands are script, code, deliver, list, since, catalog, export, remove and migrate"
sentence_of (faults.Form form) = usage_of form
sentence_of (faults.Number forms.Since) = codes "NUMBER is 0 to 4294967295"
sentence_of (faults.Number forms.Catalog) = codes "NUMBER is 0 to 4294967295"
sentence_of (faults.Number form) = codes "NUMBER is 1 to 4294967295"
sentence_of faults.Encoding = codes "ENCODING is raw, base64, base64-mime, base32, base32hex, base16 or qp"

-- the line of that
abbrev pub wrong_line : LineFault → Text
wrong_line fault = codes "? " ++ line (sentence_of fault)
