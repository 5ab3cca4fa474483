-- Private: how causes, arguments and branches of the code are seen.
use Rattle.sieve_check.specs.declared.causes.Cause.{Cause}
use Rattle.sieve_check.specs.Causes as causes
use Rattle.sieve_check.specs.Rows.{Row}
use Rattle.sieve_check.specs.declared.table.Row as rows
use Rattle.sieve_check.specs.TagRows.{TagRow}
use Rattle.sieve_check.specs.declared.tag_table.TagRow as tags
use Rattle.std.specs.Prelude.{ℕ, List, map, Option, Some, None}
use Rattle.sieve_parser.specs.Tree.{ArgumentTree, InvocationTree, invocation}
use Rattle.sieve_parser.specs.View.{argument_tree}
use Rattle.sieve_parser.specs.declared.tree.Head.{Head}
use Rattle.std.specs.Global.{Vec}
use Rattle.sieve_check.specs.Typed.{CommandForm, BranchForms, no_branch, otherwise}
use Rattle.sieve_check.specs.declared.typed.Command.{Command}
use Rattle.sieve_check.specs.declared.typed.Branch.{Branch}
use Rattle.sieve_check.specs.declared.typed.Command.TheFolds.{fold-Branch}
use Rattle.sieve_check.specs.TypedView.{GuardedForm, branch_step, branches_of, command_step, commands_form}

abbrev pub cause_view : Cause → causes.Cause
cause_view cause = record { kind = cause.kind; subject = cause.subject.now }

-- what is known of a command or test, as the code holds it
abbrev pub row_view : rows.Row → Row
row_view row = record {
  word = row.word.now;
  needs = row.needs.now;
  signature = row.signature;
  ending = row.ending;
  place = row.place;
  role = row.role;
  opens = row.opens;
  follows = row.follows;
}

-- what is known of a tag, as the code holds it
abbrev pub tag_view : tags.TagRow → TagRow
tag_view row = record { word = row.word.now; family = row.family; waits = row.waits }

abbrev pub arguments_of : Head → List ArgumentTree
arguments_of head = map argument_tree head.arguments.items

-- a branch
abbrev pub branch_form : Branch → GuardedForm
branch_form = fold-Branch CommandForm GuardedForm command_step branch_step

-- the block of an else, as the code holds it
abbrev pub else_form : Option (Vec Command) → BranchForms
else_form None = no_branch
else_form (Some cs) = otherwise (commands_form cs.items)

-- branches, as the code holds them, then the else
abbrev pub branch_forms : List Branch → BranchForms → BranchForms
branch_forms bs last = branches_of (map branch_form bs) last

-- what a command or test is called
abbrev pub name_of : InvocationTree → List ℕ
name_of (invocation token name args tests) = name
