-- The code's tree as the definitions' tree.
use Rattle.std.specs.Prelude.{List, [], ◌∷◌, map}
use Rattle.sieve_parser.specs.Tree.{ArgumentTree, text, text_list, amount, label, InvocationTree, invocation, TestsTree, no_test, one_test, test_list, MoreTests, last, next, CommandTree, simple, block, CommandsTree, no_command, command}
use Rattle.sieve_parser.specs.declared.tree.Argument.{Argument}
use Rattle.sieve_parser.specs.declared.tree.Argument.TheVariants.{Text, TextList, Number, Tag}
use Rattle.sieve_parser.specs.declared.tree.Head.{Head}
use Rattle.sieve_parser.specs.declared.tree.Invocation.{Invocation}
use Rattle.sieve_parser.specs.declared.tree.Invocation.TheOpen.{Invocation-F, Plain, WithTest, WithTests}
use Rattle.sieve_parser.specs.declared.tree.Invocation.TheFolds.{fold-Invocation}
use Rattle.sieve_parser.specs.declared.tree.Command.{Command}
use Rattle.sieve_parser.specs.declared.tree.Command.TheOpen.{Command-F, Simple, Block}
use Rattle.sieve_parser.specs.declared.tree.Command.TheFolds.{fold-Command}

-- an argument as a tree
abbrev pub argument_tree : Argument → ArgumentTree
argument_tree (Text s) = text s
argument_tree (TextList s ss) = text_list s ss.items
argument_tree (Number n) = amount n
argument_tree (Tag name) = label name

abbrev pub head_tree : Head → TestsTree → InvocationTree
head_tree head tests = invocation head.token head.name (map argument_tree head.arguments.items) tests

abbrev pub more_tests_of : List InvocationTree → MoreTests
more_tests_of [] = last
more_tests_of (t ∷ ts) = next t (more_tests_of ts)

abbrev pub invocation_step : Invocation-F InvocationTree → InvocationTree
invocation_step (Plain head) = head_tree head no_test
invocation_step (WithTest head t) = head_tree head (one_test t.value)
invocation_step (WithTests head t ts) = head_tree head (test_list t.value (more_tests_of ts.items))

-- an invocation as a tree
abbrev pub invocation_tree : Invocation → InvocationTree
invocation_tree = fold-Invocation InvocationTree invocation_step

abbrev pub commands_of : List CommandTree → CommandsTree
commands_of [] = no_command
commands_of (c ∷ cs) = command c (commands_of cs)

abbrev pub command_step : Command-F CommandTree → CommandTree
command_step (Simple i) = simple (invocation_tree i)
command_step (Block i cs) = block (invocation_tree i) (commands_of cs.items)

-- a command as a tree
abbrev pub command_tree : Command → CommandTree
command_tree = fold-Command CommandTree command_step

-- commands as a tree
abbrev pub commands_tree : List Command → CommandsTree
commands_tree cs = commands_of (map command_tree cs)
