-- Private: what the readers of arguments answer.
use Rattle.std.specs.Prelude.{◌≡◌, ℕ, ◌≤◌, List, ◌∷◌, ◌++◌, map, length, Option, None, option_map, Result, Ok, Err, MatchOption, MatchResult}
use Rattle.std.specs.Borrow.{Bor}
use Rattle.sieve_parser.specs.Tree.{ArgumentTree, label}
use Rattle.sieve_parser.specs.View.{argument_tree}
use Rattle.sieve_parser.specs.declared.tree.Argument.{Argument}
use Rattle.sieve_check.specs.declared.causes.Cause.{Cause}
use Rattle.sieve_check.specs.declared.causes.ReasonKind.TheVariants.{TagArgument}
use Rattle.sieve_check.specs.declared.loops.LoopName.{LoopName}
use Rattle.sieve_check.specs.declared.loops.LoopName.TheVariants as loop
use Rattle.sieve_check.specs.declared.signature.Reading.{Reading}
use Rattle.sieve_check.specs.declared.names.Tag.{Tag}
use Rattle.sieve_check.specs.declared.signature.Signature.{Signature}
use Rattle.sieve_check.specs.declared.signature.Lists.{Lists}
use Rattle.sieve_check.specs.Arguments.{arguments_read, awaiting, rest_read}
use Rattle.sieve_check.specs.Causes.{about}
use Rattle.sieve_check.specs.Private.{cause_view}
use Rattle.sieve_check.specs.Surroundings.{Loop, nameless, called, unreadable}
use Rattle.sieve_check.specs.Signatures.{Read, Given}

-- the name of the first argument and the arguments after it, if that is a tag
abbrev pub FirstTag : List ArgumentTree → Option (Bor (List ℕ) × Bor (List Argument)) → Type 0
FirstTag args answer =
    MatchOption answer
    ((name : List ℕ) (rest : List ArgumentTree) → args ≡ label name ∷ rest → ⊥)
    (λ found. args ≡ label found.0.now ∷ map argument_tree found.1.now)

-- a name that was lent, if one was
abbrev pub name_in : Option (Bor (List ℕ)) → Option (List ℕ)
name_in name = option_map (λ (name : Bor (List ℕ)). name.now) name

-- a loop by what the code says that it is called, as a definition sees it
abbrev pub loop_in : LoopName → Loop
loop_in loop.Nameless = nameless
loop_in (loop.Named name) = called name.now
loop_in loop.Unreadable = unreadable

-- what was read so far, as a definition sees it, and the arguments that are left
abbrev pub given_of : Reading → Given
given_of reading = record { tags = reading.tags; params = map argument_tree reading.params.now; name = name_in reading.name }

abbrev pub left_of : Reading → List ArgumentTree
left_of reading = map argument_tree reading.positional.now

-- what was read, with the argument that the tag takes; where it isn't there, that is what is wrong
abbrev pub Settles : Reading → Tag → Option Reading → Type 0
Settles before tag answer = MatchOption answer
    ((signature : Signature) (all : List ArgumentTree) (name : List ℕ)
    → rest_read signature all (given_of before) (awaiting name tag) (left_of before)
    ≡ Err (about (TagArgument tag) name))
    (λ after. (length after.positional.now ≤ length before.positional.now)
    × ((signature : Signature) (all : List ArgumentTree) (name : List ℕ)
    → rest_read signature all (given_of before) (awaiting name tag) (left_of before)
    ≡ rest_read signature all (given_of after) None (left_of after)))

-- the arguments as they were read, as a definition sees them
abbrev pub read_of : Reading → Read
read_of reading = record { tags = reading.tags; params = map argument_tree reading.params.now; name = name_in reading.name; positional = left_of reading }

-- the lists, one after the other
abbrev pub all_lists : Lists → List ArgumentTree
all_lists lists = map argument_tree lists.first.now ++ map argument_tree lists.params.now
    ++ map argument_tree lists.others.now

-- the arguments as they were read, where they could be; else what is wrong with them
abbrev pub Reads : Signature → List ArgumentTree → Result Reading Cause → Type 0
Reads signature args answer = MatchResult answer
    (λ found. arguments_read signature args ≡ Ok (read_of found))
    (λ cause. arguments_read signature args ≡ Err (cause_view cause))
