-- Private: what the functions answer that make the typed form.
use Rattle.std.specs.Prelude.{◌≡◌, Option, Some, None, MatchOption, Result, MatchResult}
use Rattle.sieve_parser.specs.Tree.{CommandsTree}
use Rattle.sieve_parser.specs.declared.tree.Head.{Head}
use Rattle.sieve_check.specs.declared.form_error.FormError.{FormError}
use Rattle.sieve_check.specs.declared.form_error.FormError.TheVariants.{Malformed}
use Rattle.sieve_check.specs.declared.table.CommandName.{CommandName}
use Rattle.sieve_check.specs.declared.table.TestName.{TestName}
use Rattle.sieve_check.specs.declared.signature.Reading.{Reading}
use Rattle.sieve_check.specs.declared.surroundings.Capabilities.{Capabilities}
use Rattle.sieve_check.specs.Names.{command_named, test_named}
use Rattle.sieve_check.specs.Reading.{read_of}
use Rattle.sieve_check.specs.Private.{arguments_of}
use Rattle.sieve_check.specs.Arguments.{reading}
use Rattle.sieve_check.specs.Signatures.{◌>>=◌, command_signature, test_signature}
use Rattle.sieve_check.specs.FormOf.{InnerForms, test_of, PartForm, simple_of, block_of, closed, forms_of}
use Rattle.sieve_check.specs.Surroundings.{Context}
use Rattle.sieve_check.specs.Typed.{TestForm, CommandForms}

-- what was made has that form, or there is none; nothing is said where memory was refused
abbrev pub Formed : {A : Type 0} {B : Type 0} → (A → B) → Option B → Result A FormError → Type 0
Formed form_of form result =
    MatchResult result (λ made. form ≡ Some (form_of made)) (λ e. e ≡ Malformed → form ≡ None)

-- the test of a head, with the tests behind it
abbrev pub head_test : Capabilities → Head → InnerForms → Option TestForm
head_test required head inner = test_named head.name >>= λ name. reading (test_signature name)
    (arguments_of head) >>= λ read. test_of required name head.token read inner

-- the command of a head, which ends in a semicolon, and which ends in a block
abbrev pub head_simple : Context → Head → InnerForms → Option PartForm
head_simple s head inner = command_named head.name >>= λ name. reading (command_signature name)
    (arguments_of head) >>= λ read. simple_of s name head.token read inner

abbrev pub head_block : Head → InnerForms → CommandForms → Option PartForm
head_block head inner body = command_named head.name >>= λ name. reading (command_signature name)
    (arguments_of head) >>= λ read. block_of name head.token inner body

-- the commands of a script or block
abbrev pub commands_formed : Context → CommandsTree → Option CommandForms
commands_formed s trees = forms_of s trees >>= closed

-- the test that a head names, with its arguments as they were read; nothing where a head makes no test,
-- whatever is behind it
abbrev pub IsTestRead : Head → Option (TestName × Reading) → Type 0
IsTestRead head answer =
    MatchOption answer
    ((required : Capabilities) (inner : InnerForms) → head_test required head inner ≡ None)
    (λ found. (required : Capabilities) (inner : InnerForms)
    → head_test required head inner ≡ test_of required found.0 head.token (read_of found.1) inner)

-- the command that a head names, with its arguments as they were read, where it ends in a semicolon, and
-- where it ends in a block; nothing where a head makes no command
abbrev pub IsSimpleRead : Head → Option (CommandName × Reading) → Type 0
IsSimpleRead head answer =
    MatchOption answer
    ((s : Context) (inner : InnerForms) → head_simple s head inner ≡ None)
    (λ found. (s : Context) (inner : InnerForms)
    → head_simple s head inner ≡ simple_of s found.0 head.token (read_of found.1) inner)

abbrev pub IsBlockRead : Head → Option (CommandName × Reading) → Type 0
IsBlockRead head answer =
    MatchOption answer
    ((inner : InnerForms) (body : CommandForms) → head_block head inner body ≡ None)
    (λ found. (inner : InnerForms) (body : CommandForms)
    → head_block head inner body ≡ block_of found.0 head.token inner body)
