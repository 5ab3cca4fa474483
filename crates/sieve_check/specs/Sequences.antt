-- Private: how commands are put together, one after another.
use Rattle.std.specs.Prelude.{◌≡◌, Bool, true, false, if◌then◌else◌, List, [], ◌∷◌, map, Option, Some, None, option_map}
use Rattle.sieve_check.specs.declared.sequence.Part.{Part}
use Rattle.sieve_check.specs.declared.sequence.Part.TheVariants.{Nothing, Action, First, Next, Last}
use Rattle.sieve_check.specs.declared.sequence.Sequence.{Sequence}
use Rattle.sieve_check.specs.declared.typed.Branch.{Branch}
use Rattle.sieve_check.specs.Signatures.{◌>>=◌}
use Rattle.sieve_check.specs.FormOf.{PartForm, nothing, action, first, next_branch, last, Forms, closed, put}
use Rattle.sieve_check.specs.Typed.{CommandForm, choice, CommandForms, command, BranchForms, no_branch}
use Rattle.sieve_check.specs.TypedView.{test_form, command_form, commands_form}
use Rattle.sieve_check.specs.Private.{branch_forms}

-- the code's part as a form
abbrev pub part_form : Part → PartForm
part_form Nothing = nothing
part_form (Action c) = action (command_form c)
part_form (First b) = first (test_form b.test) (commands_form b.block.items) b.at
part_form (Next b) = next_branch (test_form b.test) (commands_form b.block.items) b.at
part_form (Last block) = last (commands_form block.items)

-- commands before others
abbrev pub onto : List CommandForm → CommandForms → CommandForms
onto [] others = others
onto (c ∷ cs) others = command c (onto cs others)

-- a choice of these branches and more, if there are any, before others
abbrev pub choice_onto : List Branch → BranchForms → CommandForms → CommandForms
choice_onto [] more others = others
choice_onto (b ∷ bs) more others = command (choice (branch_forms (b ∷ bs) more)) others

-- all commands, where these branches and these commands are still to come
abbrev pub joined : Sequence → BranchForms → CommandForms → CommandForms
joined s more others = onto (map command_form s.commands.items) (choice_onto s.branches.items more others)

-- branches may be added
abbrev pub has_branch : List Branch → Bool
has_branch [] = false
has_branch (b ∷ bs) = true

abbrev pub is_open : Sequence → Bool
is_open s = has_branch s.branches.items

-- all commands, with those that are still to come: these go on with branches where a choice is open
abbrev pub finished_by : Sequence → Forms → Option CommandForms
finished_by s rest = if is_open s then Some (joined s rest.branches rest.commands) else option_map (λ others. joined s no_branch others) (closed rest)

-- the last branch was added to the choice, if there was one
pub record Closed (old : Sequence) (last : BranchForms) (new : Sequence) : Type 0 where
  pub none : new.branches.items ≡ []
  pub same : (others : CommandForms) → joined new no_branch others ≡ joined old last others

-- what a command adds was added
abbrev pub Pushed : Sequence → Part → Sequence → Type 0
Pushed old part new = (rest : Forms) → (put (part_form part) rest >>= finished_by old) ≡ finished_by new rest

-- what a command adds can't be added
abbrev pub Unfit : Sequence → Part → Type 0
Unfit old part = (rest : Forms) → (put (part_form part) rest >>= finished_by old) ≡ None
