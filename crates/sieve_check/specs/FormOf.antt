-- The typed form of a script.
use Rattle.std.specs.Prelude.{◌≡◌, ℕ, Bool, true, false, List, [], ◌∷◌, flat_map, map, Option, Some, None, option_map, unwrap_or, if◌then◌else◌, min}
use Rattle.octets.specs.Ascii.{lowercase_of}
use Rattle.octets.specs.Limits.{max_value}
use Rattle.bytecode_format.specs.declared.question.Order.{Order}
use Rattle.bytecode_format.specs.declared.question.Question.{Question}
use Rattle.bytecode_format.specs.declared.question.Takes.{Takes}
use Rattle.bytecode_format.specs.Questions.{row_of}
use Rattle.sieve_references.specs.References as references
use Rattle.sieve_parser.specs.Tree.{ArgumentTree, text, text_list, amount, InvocationTree, invocation, TestsTree, no_test, one_test, test_list, MoreTests, last as no_more, next, CommandTree, simple, block, CommandsTree, no_command as no_tree, command as tree}
use Rattle.sieve_check.specs.declared.table.CommandName.{CommandName}
use Rattle.sieve_check.specs.declared.table.CommandName.TheVariants.{Require, If, Elsif, Else, ForEveryPart}
use Rattle.sieve_check.specs.declared.table.TestName.{TestName}
use Rattle.sieve_check.specs.declared.table.TestName.TheVariants.{Not, AllOf, AnyOf}
use Rattle.sieve_check.specs.declared.names.Capability.TheVariants.{Variables}
use Rattle.sieve_check.specs.declared.typed.Act.{Act}
use Rattle.sieve_check.specs.declared.typed.Act.TheVariants as act
use Rattle.sieve_check.specs.declared.typed.Segment.{Segment}
use Rattle.sieve_check.specs.declared.typed.Segment.TheVariants.{Text, Variable, Capture}
use Rattle.bytecode_format.specs.declared.modifiers.Modifiers.{Modifiers}
use Rattle.sieve_check.specs.declared.signature.Tags.{Tags}
use Rattle.sieve_check.specs.declared.surroundings.Capabilities.{Capabilities}
use Rattle.sieve_check.specs.Names.{command_named, test_named}
use Rattle.sieve_check.specs.Arguments.{reading}
use Rattle.sieve_check.specs.Signatures.{◌>>=◌, Read, command_signature, test_signature}
use Rattle.sieve_check.specs.Rules.{after_invocation, invocation_of, loops_opened}
use Rattle.sieve_check.specs.Surroundings.{Context, Loop, at_start, has_capability, inside, loops_left}
use Rattle.sieve_check.specs.Acts.{Acting, acting, bare, filing, setting, taking, leaving, inactive}
use Rattle.sieve_check.specs.Questions.{Asking, asking, by_number, by_tags, unasked}
use Rattle.sieve_check.specs.Typed.{Template, Strings, TestForm, asks, negation, all_of, any_of, TestForms, no_test as no_other, test, CommandForm, does, for_every_part, choice, CommandForms, no_command, command, BranchForms, no_branch, otherwise, branch}

-- the forms of the tests behind arguments: none, one, or a first and others in brackets
pub data InnerForms : Type 0 where
  none : InnerForms
  one : TestForm → InnerForms
  bracketed : TestForm → TestForms → InnerForms

-- a segment as it is meant; a script with a wrong reference is refused
abbrev pub meant : references.Segment → List Segment
meant (references.stretch octets) = Text octets ∷ []
meant (references.variable name) = Variable (lowercase_of name) ∷ []
meant (references.capture n) = Capture n ∷ []
meant references.beyond = []
meant references.foreign = []

-- a string as it is meant: expanded where variables were required, else as it is written
abbrev pub template_of : Capabilities → List ℕ → Template
template_of required octets =
    if has_capability Variables required then flat_map meant (references.segments octets) else Text octets ∷ []

abbrev pub number_in : List ArgumentTree → Option ℕ
number_in (amount n ∷ []) = Some n
number_in _ = None

abbrev pub text_in : List ArgumentTree → Option (List ℕ)
text_in (text s ∷ []) = Some s
text_in _ = None

-- at most how many octets are taken: the number of `:first`, and no more than a value may have, as where it isn't given
abbrev pub most_of : Tags → ℕ
most_of tags = min (unwrap_or tags.first max_value) max_value

-- the strings of a list, which may be one string without brackets
abbrev pub list_in : Capabilities → ArgumentTree → Option (List Template)
list_in required (text x) = Some (template_of required x ∷ [])
list_in required (text_list x xs) = Some (map (template_of required) (x ∷ xs))
list_in required _ = None

-- the strings of the first argument, if a list is taken, and the arguments after it
abbrev pub list_taken : Capabilities → Bool → List ArgumentTree → Option (List Template × List ArgumentTree)
list_taken required false args = Some ([], args)
list_taken required true [] = None
list_taken required true (a ∷ args) = option_map (λ strings. (strings, args)) (list_in required a)

-- the strings of a test: of the lists behind the tags first the names, then the keys
abbrev pub strings_in : Capabilities → Takes → Read → Option Strings
strings_in required takes read =
    list_taken required takes.names read.positional >>= λ names. list_taken required takes.params read.params
    >>= λ params. list_taken required takes.keys names.1
    >>= λ keys. Some (record { names = names.0; params = params.0; keys = keys.0 })

-- the comparison of a size, that of the message or that of a part
abbrev pub size_of : (Order → ℕ → Question) → Read → Option Question
size_of make read = read.tags.order >>= λ order. option_map (make order) (number_in read.positional)

-- what a simple test asks that is made so, by what was read
abbrev pub question_by : Asking → Read → Option Question
question_by (by_tags make) read = Some (make read.tags)
question_by (by_number make) read = size_of make read
question_by unasked read = None

-- what a simple test of this name asks
abbrev pub question_of : TestName → Read → Option Question
question_of name read = question_by (asking name) read

-- a simple test, which begins at this token
abbrev pub asking_of : Capabilities → TestName → ℕ → Read → Option TestForm
asking_of required name at read =
    question_of name read >>= λ asked. option_map (λ strings. asks asked strings at)
    (strings_in required (row_of asked).takes read)

-- a test of this name, which begins at this token, with the arguments that were read and the tests behind them
abbrev pub test_of : Capabilities → TestName → ℕ → Read → InnerForms → Option TestForm
test_of required name at read none = asking_of required name at read
test_of required Not at read (one f) = Some (negation f at)
test_of required AllOf at read (bracketed f fs) = Some (all_of f fs at)
test_of required AnyOf at read (bracketed f fs) = Some (any_of f fs at)
test_of required _ _ _ _ = None

abbrev mutual
  pub test_form_of : Capabilities → InvocationTree → Option TestForm
  test_form_of required (invocation token word args tests) =
      inner_forms_of required tests >>= λ inner. test_named word >>= λ name. reading
      (test_signature name) args >>= λ read. test_of required name token read inner

  pub inner_forms_of : Capabilities → TestsTree → Option InnerForms
  inner_forms_of required no_test = Some none
  inner_forms_of required (one_test t) = option_map one (test_form_of required t)
  inner_forms_of required (test_list t ts) =
      test_form_of required t >>= λ f. option_map (bracketed f) (more_forms_of required ts)

  pub more_forms_of : Capabilities → MoreTests → Option TestForms
  more_forms_of required no_more = Some no_other
  more_forms_of required (next t ts) = test_form_of required t >>= λ f. option_map (test f) (more_forms_of required ts)

-- what a command adds: nothing, itself, or with its block a choice, a further branch of a choice, or its last one
pub data PartForm : Type 0 where
  nothing : PartForm
  action : CommandForm → PartForm
  first : TestForm → CommandForms → ℕ → PartForm
  next_branch : TestForm → CommandForms → ℕ → PartForm
  last : CommandForms → PartForm

-- an act, with a string that is given
abbrev pub with_text : Capabilities → Act → List ArgumentTree → Option (Act × Template)
with_text required this args = option_map (λ string. (this, template_of required string)) (text_in args)

-- the act of a `set`, by two strings: the name of a variable, which is taken as it is written, and its value
abbrev pub setting_in : Capabilities → Modifiers → List ArgumentTree → Option (Act × Template)
setting_in required modifiers (text name ∷ text value ∷ []) =
    Some (act.Set modifiers (lowercase_of name), template_of required value)
setting_in required modifiers _ = None

-- that of a `take`, by the name of a variable, which is taken as it is written
abbrev pub taking_in : Tags → List ArgumentTree → Option (Act × Template)
taking_in tags args = option_map (λ name. (act.Take (most_of tags) (lowercase_of name), [])) (text_in args)

-- that of a `break` that may name a loop, in these loops
abbrev pub leaving_in : Option (List ℕ) → List Loop → Option (Act × Template)
leaving_in name loops = option_map (λ left. (act.Leave left, [])) (loops_left name loops)

-- what an action does that is made so, with its string, by what was read
abbrev pub act_by : Context → Acting → Read → Option (Act × Template)
act_by s (bare this) read = Some (this, [])
act_by s (filing this) read = with_text s.required this read.positional
act_by s setting read = setting_in s.required read.tags.modifiers read.positional
act_by s taking read = taking_in read.tags read.positional
act_by s leaving read = leaving_in read.name s.loops
act_by s inactive read = None

-- what an action of this name does
abbrev pub act_of : Context → CommandName → Read → Option (Act × Template)
act_of s name read = act_by s (acting name) read

-- an act with its string, which begins at this token
abbrev pub action_at : ℕ → Act × Template → PartForm
action_at at done = action (does done.0 done.1 at)

-- a command of this name that ends in a semicolon, which begins at this token, with the arguments that were read
abbrev pub simple_of : Context → CommandName → ℕ → Read → InnerForms → Option PartForm
simple_of s Require at read none = Some nothing
simple_of s name at read none = option_map (action_at at) (act_of s name read)
simple_of s _ _ _ _ = None

-- a command of this name that ends in a block
abbrev pub block_of : CommandName → ℕ → InnerForms → CommandForms → Option PartForm
block_of If at (one f) body = Some (first f body at)
block_of Elsif at (one f) body = Some (next_branch f body at)
block_of Else at none body = Some (last body)
block_of ForEveryPart at none body = Some (action (for_every_part body at))
block_of _ _ _ _ = None

-- commands, of which the first may go on with a choice before them: those branches, and then the commands
pub record Forms : Type 0 where
  pub branches : BranchForms
  pub commands : CommandForms

-- commands that go on with nothing before them
abbrev pub closed_by : BranchForms → CommandForms → Option CommandForms
closed_by no_branch commands = Some commands
closed_by _ commands = None

abbrev pub closed : Forms → Option CommandForms
closed forms = closed_by forms.branches forms.commands

abbrev pub after_none : CommandForms → Forms
after_none commands = record { branches = no_branch; commands = commands }

-- what a command adds, before the commands after it
abbrev pub put : PartForm → Forms → Option Forms
put nothing rest = option_map after_none (closed rest)
put (action c) rest = option_map (λ cs. after_none (command c cs)) (closed rest)
put (first f body at) rest = Some (after_none (command (choice (branch f body at rest.branches)) rest.commands))
put (next_branch f body at) rest = Some (record { branches = branch f body at rest.branches; commands = rest.commands })
put (last body) rest = option_map (λ cs. record { branches = otherwise body; commands = cs }) (closed rest)

-- a command that ends in a semicolon
abbrev pub simple_part : Context → InvocationTree → Option PartForm
simple_part s (invocation token word args tests) =
    inner_forms_of s.required tests >>= λ inner. command_named word >>= λ name. reading
    (command_signature name) args >>= λ read. simple_of s name token read inner

-- a command that ends in a block, which has that form
abbrev pub block_part : Context → InvocationTree → CommandForms → Option PartForm
block_part s (invocation token word args tests) body =
    inner_forms_of s.required tests >>= λ inner. command_named word >>= λ name. reading
    (command_signature name) args >>= λ read. block_of name token inner body

abbrev mutual
  -- there is none where more loops would be open than may be
  pub part_of : Context → CommandTree → Option PartForm
  part_of s (simple i) = simple_part s i
  part_of s (block i cs) = inside
      (loops_opened i) s >>= λ around. forms_of around cs >>= λ forms. closed forms >>= λ body. block_part s i body

  -- commands, one before the others
  pub forms_of : Context → CommandsTree → Option Forms
  forms_of s no_tree = Some (after_none no_command)
  forms_of s (tree c cs) = forms_of
      (after_invocation s (invocation_of c)) cs >>= λ rest. part_of s c >>= λ part. put part rest

-- the typed form of a script, if it is written as it has to be
abbrev pub form_of : CommandsTree → Option CommandForms
form_of script = forms_of at_start script >>= closed

abbrev pub IsFormOf : CommandsTree → CommandForms → Type 0
IsFormOf script form = form_of script ≡ Some form
