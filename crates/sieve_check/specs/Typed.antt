-- The typed form of scripts. Each test and command has as its last field the number of the token at which
-- it begins; a choice begins where its first branch does.
use Rattle.std.specs.Prelude.{ℕ, List, ◌++◌}
use Rattle.bytecode_format.specs.declared.question.Question.{Question}
use Rattle.sieve_check.specs.declared.typed.Act.{Act}
use Rattle.sieve_check.specs.declared.typed.Segment.{Segment}

-- a string as it is meant: stretches of text and references, which are put in their places one after the other
abbrev pub Template : Type 0
Template = List Segment

-- the strings of a simple test: names of fields, or sources; names of parameters; keys
pub record Strings : Type 0 where
  pub names : List Template
  pub params : List Template
  pub keys : List Template

-- all of them, in the order in which they are expanded
abbrev pub in_order : Strings → List Template
in_order strings = strings.names ++ strings.params ++ strings.keys

-- a test: what it asks, with its strings; or other tests, the lists of them by their first and the others; tests in order
mutual
  pub data TestForm : Type 0 where
    asks : Question → Strings → ℕ → TestForm
    negation : TestForm → ℕ → TestForm
    all_of : TestForm → TestForms → ℕ → TestForm
    any_of : TestForm → TestForms → ℕ → TestForm

  pub data TestForms : Type 0 where
    no_test : TestForms
    test : TestForm → TestForms → TestForms

-- a command; commands in order; the branches of an if with their blocks and where they begin, up to the block of the
-- else, if there is one
mutual
  pub data CommandForm : Type 0 where
    -- what it does, with its string; an empty one, where it takes none
    does : Act → Template → ℕ → CommandForm
    -- a loop over parts, with its block
    for_every_part : CommandForms → ℕ → CommandForm
    choice : BranchForms → CommandForm

  pub data CommandForms : Type 0 where
    no_command : CommandForms
    command : CommandForm → CommandForms → CommandForms

  pub data BranchForms : Type 0 where
    no_branch : BranchForms
    otherwise : CommandForms → BranchForms
    branch : TestForm → CommandForms → ℕ → BranchForms → BranchForms
