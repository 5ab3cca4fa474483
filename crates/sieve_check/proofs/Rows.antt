-- Rows that were worked out by hand: what a function gives for each of some values, and of what scripts and forms are put together.
use Prim.Native.String.{String}
use Rattle.std.proofs.Common.{◌≡◌, ℕ, List, [], ◌∷◌, Option, Some, None, map}
use Rattle.std.specs.Prelude.{codes}
use Rattle.sieve_parser.specs.Tree.{ArgumentTree, text, text_list, label, InvocationTree, invocation, no_test, one_test, CommandsTree, simple, block, no_command, command}
use Rattle.sieve_check.specs.declared.signature.Tags.{Tags}
use Rattle.sieve_check.specs.declared.typed.Segment.TheVariants.{Text}
use Rattle.sieve_check.specs.Signatures.{Read}
use Rattle.sieve_check.specs.Typed.{Template, CommandForm, CommandForms}
use Rattle.sieve_check.specs.Typed as typed

abbrev pub Gives : {A B : Type 0} → (A → B) → List (A × B) → Type 0
Gives f rows = map f (map (λ row. row.0) rows) ≡ map (λ row. row.1) rows

-- ---- scripts, of which an identifier's token has that number

-- a string, strings in square brackets, and a tag
abbrev pub str : String → ArgumentTree
str s = text (codes s)

abbrev pub strs : String → List String → ArgumentTree
strs s ss = text_list (codes s) (map codes ss)

abbrev pub tag : String → ArgumentTree
tag s = label (codes s)

abbrev pub plain_at : ℕ → String → List ArgumentTree → InvocationTree
plain_at n name args = invocation n (codes name) args no_test

-- commands before others, and the last one
abbrev pub simple_at : ℕ → String → List ArgumentTree → CommandsTree → CommandsTree
simple_at n name args others = command (simple (plain_at n name args)) others

abbrev pub last_at : ℕ → String → List ArgumentTree → CommandsTree
last_at n name args = simple_at n name args no_command

abbrev pub block_at : ℕ → String → List ArgumentTree → CommandsTree → CommandsTree → CommandsTree
block_at n name args body others = command (block (plain_at n name args) body) others

abbrev pub if_at : ℕ → String → InvocationTree → CommandsTree → CommandsTree → CommandsTree
if_at n name test body others = command (block (invocation n (codes name) [] (one_test test)) body) others

-- ---- what was read, and forms

abbrev pub read_as : Tags → List ArgumentTree → Option Read
read_as tags args = Some (record { tags = tags; params = []; name = None; positional = args })

-- a string that is as it is written
abbrev pub as_written : String → Template
as_written s = Text (codes s) ∷ []

abbrev pub alone : CommandForm → CommandForms
alone c = typed.command c typed.no_command
