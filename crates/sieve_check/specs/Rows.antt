-- What is known of each command and test, one row each (RFC 5228, sections 3 to 5; RFC 5229, sections 4 and 5; RFC 5703, sections 3 and
-- 4; `store`, `take`, `partsize`, `partbody` and `partdigest` are of our own).
use Rattle.std.specs.Prelude.{ℕ, Bool, true, false, if◌then◌else◌, List, [], ◌∷◌, Option, Some, None, codes}
use Rattle.sieve_check.specs.declared.names.Capability.{Capability}
use Rattle.sieve_check.specs.declared.names.Capability.TheVariants as capability
use Rattle.sieve_check.specs.declared.table.CommandName.{CommandName}
use Rattle.sieve_check.specs.declared.table.CommandName.TheVariants.{Require, If, Elsif, Else, Stop, Keep, Discard, FileInto, Set, ForEveryPart, Break, Store, Take}
use Rattle.sieve_check.specs.declared.table.TestName.{TestName}
use Rattle.sieve_check.specs.declared.table.TestName.TheVariants.{Constant, Not, AllOf, AnyOf, Header, Exists, Size, String, PartSize, PartBody, PartDigest}
use Rattle.sieve_check.specs.declared.table.Place.{Place}
use Rattle.sieve_check.specs.declared.table.Place.TheVariants.{Anywhere, AtTop, AfterIf, InLoop, ToLeave}
use Rattle.sieve_check.specs.declared.table.Role.{Role}
use Rattle.sieve_check.specs.declared.table.Role.TheVariants.{Expanded, AsWritten, NameThenValue, NameAlone}
use Rattle.sieve_check.specs.declared.table.Follows.{Follows}
use Rattle.sieve_check.specs.declared.table.Follows.TheVariants.{Requires, Branches, Others}
use Rattle.sieve_check.specs.declared.signature.Ending.{Ending}
use Rattle.sieve_check.specs.declared.signature.Ending.TheVariants.{Semicolon, Block}
use Rattle.sieve_check.specs.declared.signature.Positional.{Positional}
use Rattle.sieve_check.specs.declared.signature.Positional.TheVariants as positional
use Rattle.sieve_check.specs.declared.signature.Signature.{Signature}
use Rattle.sieve_check.specs.declared.signature.Tests.{Tests}
use Rattle.sieve_check.specs.declared.signature.Tests.TheVariants as tests

pub record Row : Type 0 where
  -- what it is called, in lower case
  pub word : List ℕ
  -- what has to be required for it; `:mime` needs its own capability besides
  pub needs : List Capability
  -- the arguments and tests that it takes
  pub signature : Signature
  -- how a command ends; a test has no ending
  pub ending : Option Ending
  pub place : Place
  -- what variables have to do with its strings
  pub role : Role
  -- a loop is open around its block
  pub opens : Bool
  -- what its being there means for the commands after it
  pub follows : Follows

-- what has no ending is a test
abbrev pub is_test : Option Ending → Bool
is_test None = true
is_test (Some ending) = false

-- nothing is taken
abbrev pub nothing : Signature
nothing = record {
  order = false;
  matching = false;
  modifying = false;
  scoped = false;
  selecting = false;
  naming = false;
  limiting = false;
  positional = positional.Nothing;
  tests = tests.Nothing;
}

-- these tests alone, or these arguments
abbrev pub bare : Tests → Signature
bare after = record nothing { tests = after }

abbrev pub taking : Positional → Signature
taking arguments = record nothing { positional = arguments }

-- of this name, where no more is said: it may stand anywhere, takes nothing, and its strings are expanded; a test, a command that
-- ends with a semicolon or with a block, and a test of the current part
abbrev pub test : List ℕ → Row
test word = record {
  word = word;
  needs = [];
  signature = nothing;
  ending = None;
  place = Anywhere;
  role = Expanded;
  opens = false;
  follows = Others;
}

abbrev pub command : List ℕ → Row
command word = record (test word) { ending = Some Semicolon }

abbrev pub block : List ℕ → Row
block word = record (test word) { ending = Some Block }

abbrev pub part_test : List ℕ → Row
part_test word = record (test word) { needs = capability.Depot ∷ []; place = InLoop }

abbrev pub command_row : CommandName → Row
command_row Require = record (command (codes "require")) {
  signature = taking positional.OneList;
  place = AtTop;
  role = AsWritten;
  follows = Requires;
}
command_row If = record (block (codes "if")) { signature = bare tests.One; follows = Branches }
command_row Elsif = record (block (codes "elsif")) { signature = bare tests.One; place = AfterIf; follows = Branches }
command_row Else = record (block (codes "else")) { place = AfterIf }
command_row Stop = command (codes "stop")
command_row Keep = command (codes "keep")
command_row Discard = command (codes "discard")
command_row FileInto = record (command (codes "fileinto")) {
  needs = capability.FileInto ∷ [];
  signature = taking positional.Text;
}
command_row Set = record (command (codes "set")) {
  needs = capability.Variables ∷ [];
  signature = record (taking positional.TwoTexts) { modifying = true };
  role = NameThenValue;
}
command_row ForEveryPart = record (block (codes "foreverypart")) {
  needs = capability.ForEveryPart ∷ [];
  signature = record nothing { naming = true };
  opens = true;
}
command_row Break = record (command (codes "break")) {
  needs = capability.ForEveryPart ∷ [];
  signature = record nothing { naming = true };
  place = ToLeave;
}
command_row Store = record (command (codes "store")) {
  needs = capability.Depot ∷ [];
  signature = taking positional.Text;
  place = InLoop;
}
command_row Take = record (command (codes "take")) {
  needs = capability.Variables ∷ capability.Depot ∷ [];
  signature = record (taking positional.Text) { limiting = true };
  place = InLoop;
  role = NameAlone;
}

-- a test by its word, with what it needs and takes, and where it may stand
abbrev pub test_entry : TestName → Row
test_entry (Constant b) = test (if b then codes "true" else codes "false")
test_entry Not = record (test (codes "not")) { signature = bare tests.One }
test_entry AllOf = record (test (codes "allof")) { signature = bare tests.Bracketed }
test_entry AnyOf = record (test (codes "anyof")) { signature = bare tests.Bracketed }
test_entry Header = record (test (codes "header")) {
  signature = record (taking positional.TwoLists) { matching = true; scoped = true; selecting = true };
}
test_entry Exists = record (test (codes "exists")) { signature = record (taking positional.OneList) { scoped = true } }
test_entry Size = record (test (codes "size")) { signature = record (taking positional.Number) { order = true } }
test_entry String = record (test (codes "string")) {
  needs = capability.Variables ∷ [];
  signature = record (taking positional.TwoLists) { matching = true };
}
test_entry PartSize = record (part_test (codes "partsize")) { signature = record (taking positional.Number) { order = true } }
test_entry PartBody = record (part_test (codes "partbody")) {
  signature = record (taking positional.OneList) { matching = true };
}
test_entry PartDigest = record (part_test (codes "partdigest")) { signature = taking positional.OneList }

-- no test has an ending, and the strings of each are expanded
abbrev pub test_row : TestName → Row
test_row name = record (test_entry name) { ending = None; role = Expanded }

-- all of them
abbrev pub all_commands : List CommandName
all_commands = Require ∷ If ∷ Elsif ∷ Else ∷ Stop ∷ Keep ∷ Discard ∷ FileInto ∷ Set ∷ ForEveryPart ∷ Break ∷ Store ∷ Take ∷ []

abbrev pub all_tests : List TestName
all_tests =
    Constant true ∷ Constant false ∷ Not ∷ AllOf ∷ AnyOf ∷ Header ∷ Exists ∷ Size ∷ String ∷ PartSize ∷ PartBody ∷ PartDigest ∷ []

abbrev pub command_word : CommandName → List ℕ
command_word name = (command_row name).word

abbrev pub test_word : TestName → List ℕ
test_word name = (test_row name).word
