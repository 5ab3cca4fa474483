-- The visits of tests and commands, piece by piece.
use Rattle.std.proofs.Common.{◌≡◌, ℕ, ◌+◌, ◌<◌, Bool, true, false, if◌then◌else◌, List, [], ◌∷◌, ◌++◌, drop, length, get_or, refl, ap, ◌∙◌}
use Rattle.std.specs.Global.{Vec, Box}
use Rattle.std.specs.Prelude.{Option, Some, None}
use Rattle.sieve_parser.specs.View.{invocation_tree, command_tree, commands_tree}
use Rattle.sieve_parser.specs.declared.tree.Head.{Head}
use Rattle.sieve_parser.specs.declared.tree.Invocation.{Invocation}
use Rattle.sieve_parser.specs.declared.tree.Invocation.TheVariants.{Plain, WithTest, WithTests}
use Rattle.sieve_parser.specs.declared.tree.Command.{Command as Tree}
use Rattle.sieve_parser.specs.declared.tree.Command.TheVariants as trees
use Rattle.sieve_parser.proofs.TestSteps.{tree_plain, tree_test, tree_tests}
use Rattle.sieve_parser.proofs.CommandSteps.{tree_block}
use Rattle.sieve_check.specs.declared.signature.Tests.TheVariants.{Nothing, One, Bracketed}
use Rattle.sieve_check.specs.declared.signature.Ending.{Ending}
use Rattle.sieve_check.specs.declared.signature.Ending.TheVariants.{Block}
use Rattle.sieve_check.specs.Names.{row_named}
use Rattle.sieve_check.specs.Rules.{Visit, command_visits, commands_visits, invocation_of, looks_inside, opened_past, more_visits, past_invocation, visit_of, visits_of}
use Rattle.sieve_check.specs.Private.{arguments_of}
use Rattle.sieve_check.specs.Surroundings.{Context, in_block, opens_many}
use Rattle.sieve_check.proofs.FromIndex.{others_of, split_at}

either_way : {A : Type 0} (x : A) (b : Bool) → (if b then x else x) ≡ x
either_way x true = refl
either_way x false = refl

-- a command or test without tests, with one test, and with tests in round brackets
pub nothing_inside : (ending : Option Ending) (s : Context) (i : Invocation) (h : Head) → i ≡ Plain h → visits_of ending s (invocation_tree i) ≡ visit_of ending s h.token h.name (arguments_of h) Nothing ∷ []
nothing_inside ending s i h is =
    ap (λ x. visits_of ending s x) (ap invocation_tree is ∙ tree_plain h) ∙ ap (λ vs. visit_of ending s h.token h.name (arguments_of h) Nothing ∷ vs) (either_way [] (looks_inside (row_named ending h.name)))

pub test_inside : (ending : Option Ending) (s : Context) (i : Invocation) (h : Head) (t : Box Invocation) → i ≡ WithTest h t
    → visits_of ending s (invocation_tree i) ≡ visit_of ending s h.token h.name (arguments_of h) One ∷ (if looks_inside (row_named ending h.name) then visits_of None s (invocation_tree t.value) else [])
test_inside ending s i h t is = ap (λ x. visits_of ending s x) (ap invocation_tree is ∙ tree_test h t)

pub tests_inside : (ending : Option Ending) (s : Context) (i : Invocation) (h : Head) (t : Box Invocation) (ts : Vec Invocation) → i ≡ WithTests h t ts
    → visits_of ending s (invocation_tree i) ≡ visit_of ending s h.token h.name (arguments_of h) Bracketed ∷ (if looks_inside (row_named ending h.name) then visits_of None s (invocation_tree t.value) ++ more_visits s (others_of ts.items) else [])
tests_inside ending s i h t ts is = ap (λ x. visits_of ending s x) (ap invocation_tree is ∙ tree_tests h t ts)

-- visits that are made, and that aren't
pub where_made : (all : List Visit) (v : Visit) (inside : List Visit) (b : Bool) → b ≡ true → all ≡ v ∷ (if b then inside else []) → all ≡ v ∷ inside
where_made all v inside b made is = is ∙ ap (λ b. v ∷ (if b then inside else [])) made

pub where_left : (all : List Visit) (v : Visit) (inside : List Visit) (b : Bool) → b ≡ false → all ≡ v ∷ (if b then inside else []) → all ≡ v ∷ []
where_left all v inside b left is = is ∙ ap (λ b. v ∷ (if b then inside else [])) left

-- the tests of a list from an index on
pub rest_visits : (s : Context) (list : List Invocation) (i : ℕ) (x : Invocation) → i < length list → x ≡ get_or list i x
    → more_visits s (others_of (drop i list)) ≡ visits_of None s (invocation_tree x) ++ more_visits s (others_of (drop (i + 1) list))
rest_visits s list i x lt is = ap (λ xs. more_visits s (others_of xs)) (split_at list i x lt is)

-- a command with a block
pub block_visits : (s : Context) (tree : Tree) (i : Invocation) (cs : Vec Tree) → tree ≡ trees.Block i cs
    → command_visits s (command_tree tree) ≡ visits_of (Some Block) s (invocation_tree i) ++ (if opens_many (opened_past (invocation_tree i)) (past_invocation s (invocation_tree i)) then [] else commands_visits (in_block (opened_past (invocation_tree i)) (past_invocation s (invocation_tree i))) (commands_tree cs.items))
block_visits s tree i cs is = ap (λ x. command_visits s x) (ap command_tree is ∙ tree_block i cs)

-- the commands from an index on
pub next_visits : (s : Context) (list : List Tree) (i : ℕ) (x : Tree) → i < length list → x ≡ get_or list i x
    → commands_visits s (commands_tree (drop i list)) ≡ command_visits s (command_tree x) ++ commands_visits (past_invocation s (invocation_of (command_tree x))) (commands_tree (drop (i + 1) list))
next_visits s list i x lt is = ap (λ xs. commands_visits s (commands_tree xs)) (split_at list i x lt is)
