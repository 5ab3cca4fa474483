-- The tree of a script: commands, tests and arguments.
use Rattle.std.specs.Prelude.{ℕ, List}

-- an argument: a string, a list of strings by its first and the others, a number, a tag
pub data ArgumentTree : Type 0 where
  text : List ℕ → ArgumentTree
  text_list : List ℕ → List (List ℕ) → ArgumentTree
  amount : ℕ → ArgumentTree
  label : List ℕ → ArgumentTree

-- an identifier with the number of its token and its arguments, the last of which are tests
mutual
  pub data InvocationTree : Type 0 where
    invocation : ℕ → List ℕ → List ArgumentTree → TestsTree → InvocationTree

  -- no test, one test, or a list of tests by its first and the others
  pub data TestsTree : Type 0 where
    no_test : TestsTree
    one_test : InvocationTree → TestsTree
    test_list : InvocationTree → MoreTests → TestsTree

  -- the tests of a list after its first
  pub data MoreTests : Type 0 where
    last : MoreTests
    next : InvocationTree → MoreTests → MoreTests

-- a command, which ends in a semicolon or in a block, and a list of commands
mutual
  pub data CommandTree : Type 0 where
    simple : InvocationTree → CommandTree
    block : InvocationTree → CommandsTree → CommandTree

  pub data CommandsTree : Type 0 where
    no_command : CommandsTree
    command : CommandTree → CommandsTree → CommandsTree
