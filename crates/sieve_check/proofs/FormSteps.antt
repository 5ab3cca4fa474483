-- The form of tests and commands, piece by piece.
use Rattle.std.proofs.Common.{◌≡◌, ℕ, ◌+◌, ◌<◌, List, [], ◌∷◌, ◌++◌, map, drop, length, get_or, Option, Some, None, option_map, refl, sym, ap, ◌∙◌}
use Rattle.std.specs.Global.{Vec, Box}
use Rattle.std.proofs.lemmas.List.{map-append}
use Rattle.sieve_parser.specs.View.{invocation_tree, command_tree, commands_tree}
use Rattle.sieve_parser.specs.declared.tree.Head.{Head}
use Rattle.sieve_parser.specs.declared.tree.Invocation.{Invocation}
use Rattle.sieve_parser.specs.declared.tree.Invocation.TheVariants.{WithTest, WithTests}
use Rattle.sieve_parser.specs.declared.tree.Command.{Command as Tree}
use Rattle.sieve_parser.specs.declared.tree.Command.TheVariants as trees
use Rattle.sieve_parser.proofs.TestSteps.{tree_test, tree_tests}
use Rattle.sieve_parser.proofs.CommandSteps.{tree_block}
use Rattle.sieve_check.specs.declared.table.CommandName.{CommandName}
use Rattle.sieve_check.specs.declared.table.CommandName.TheVariants.{Require}
use Rattle.sieve_check.specs.declared.sequence.Part.{Part}
use Rattle.sieve_check.specs.declared.sequence.Sequence.{Sequence}
use Rattle.sieve_check.specs.declared.surroundings.Capabilities.{Capabilities}
use Rattle.sieve_check.specs.declared.typed.Test.{Test}
use Rattle.sieve_check.specs.FormOf.{InnerForms, one, bracketed, PartForm, simple_of, simple_part, block_of, block_part, Forms, closed, put, test_form_of, more_forms_of, part_of, forms_of}
use Rattle.sieve_check.specs.Forming.{commands_formed, head_block, head_simple, head_test}
use Rattle.sieve_check.specs.Names.{command_named}
use Rattle.sieve_check.specs.Rules.{after_invocation, invocation_of, loops_opened}
use Rattle.sieve_check.specs.Private.{arguments_of}
use Rattle.sieve_check.specs.Sequences.{part_form, finished_by, Pushed, Unfit}
use Rattle.sieve_check.specs.Arguments.{reading}
use Rattle.sieve_check.specs.Signatures.{◌>>=◌, Read, command_signature}
use Rattle.sieve_check.specs.Surroundings.{Context, inside}
use Rattle.sieve_check.specs.Typed.{TestForm, TestForms, test, CommandForms}
use Rattle.sieve_check.specs.TypedView.{test_form}
use Rattle.sieve_check.proofs.TestLists.{tests_onto, onto-append}
use Rattle.sieve_check.proofs.FromIndex.{others_of, split_at}
use Rattle.sieve_check.proofs.Options.{step_none}

-- a test with the tests behind it
module _ (required : Capabilities) (i : Invocation) (h : Head) (t : Box Invocation) where
  pub form_with_test : i ≡ WithTest h t → test_form_of required (invocation_tree i) ≡ (option_map one (test_form_of required (invocation_tree t.value)) >>= λ inner. head_test required h inner)
  form_with_test is = ap (test_form_of required) (ap invocation_tree is ∙ tree_test h t)

  pub form_with_tests : (ts : Vec Invocation) → i ≡ WithTests h t ts
      → test_form_of required (invocation_tree i) ≡ ((test_form_of required (invocation_tree t.value) >>= λ f. option_map (bracketed f) (more_forms_of required (others_of ts.items))) >>= λ inner. head_test required h inner)
  form_with_tests ts is = ap (test_form_of required) (ap invocation_tree is ∙ tree_tests h t ts)

-- where the tests after the first have no form
pub no_others : (o : Option TestForm) (f : InnerForms → Option TestForm) → ((o >>= λ t. option_map (bracketed t) None) >>= f) ≡ None
no_others None f = refl
no_others (Some t) f = refl

-- one more test of a list
module _ (required : Capabilities) (list : List Invocation) (i : ℕ) (x : Invocation) (lt : i < length list) (is : x ≡ get_or list i x) (done : List Test) (t : Test) (formed : test_form_of required (invocation_tree x) ≡ Some (test_form t)) where
  after : (o : Option TestForms) → option_map (tests_onto (map test_form (done ++ t ∷ []))) o ≡ option_map (tests_onto (map test_form done)) (option_map (test (test_form t)) o)
  after None = refl
  after (Some fs) = ap Some (ap (λ ts. tests_onto ts fs) (map-append test_form done (t ∷ [])) ∙ onto-append (map test_form done) (test_form t) fs)

  pub tests_more : option_map (tests_onto (map test_form (done ++ t ∷ []))) (more_forms_of required (others_of (drop (i + 1) list))) ≡ option_map (tests_onto (map test_form done)) (more_forms_of required (others_of (drop i list)))
  tests_more =
      after (more_forms_of required (others_of (drop (i + 1) list)))
      ∙ sym (ap (λ xs. option_map (tests_onto (map test_form done)) (more_forms_of required (others_of xs))) (split_at list i x lt is)
      ∙ ap (λ o. option_map (tests_onto (map test_form done)) (o >>= λ f. option_map (test f) (more_forms_of required (others_of (drop (i + 1) list))))) formed)

-- a test of a list that has no form
module _ (required : Capabilities) (list : List Invocation) (i : ℕ) (x : Invocation) (lt : i < length list) (is : x ≡ get_or list i x) (done : List Test) where
  pub test_missing : test_form_of required (invocation_tree x) ≡ None → option_map (tests_onto (map test_form done)) (more_forms_of required (others_of (drop i list))) ≡ None
  test_missing missing =
      ap (λ xs. option_map (tests_onto (map test_form done)) (more_forms_of required (others_of xs))) (split_at list i x lt is)
      ∙ ap (λ o. option_map (tests_onto (map test_form done)) (o >>= λ f. option_map (test f) (more_forms_of required (others_of (drop (i + 1) list))))) missing

-- a command with tests in round brackets and a block is none
no_block : (name : CommandName) (at : ℕ) (f : TestForm) (fs : TestForms) (body : CommandForms) → block_of name at (bracketed f fs) body ≡ None
no_block Require at f fs body = refl
no_block _ at f fs body = refl

no_head : (h : Head) (f : TestForm) (fs : TestForms) (body : CommandForms) → head_block h (bracketed f fs) body ≡ None
no_head h f fs body = step_none (command_named h.name) _ (λ name. step_none (reading (command_signature name) (arguments_of h)) _ (λ read. no_block name h.token f fs body))

pub no_block_part : (s : Context) (i : Invocation) (h : Head) (t : Box Invocation) (ts : Vec Invocation) (body : CommandForms) → i ≡ WithTests h t ts → block_part s (invocation_tree i) body ≡ None
no_block_part s i h t ts body is = ap (λ x. block_part s x body) (ap invocation_tree is ∙ tree_tests h t ts) ∙ inside (test_form_of s.required (invocation_tree t.value)) (more_forms_of s.required (others_of ts.items)) where
  inside : (a : Option TestForm) (b : Option TestForms) → ((a >>= λ f. option_map (bracketed f) b) >>= λ inner. head_block h inner body) ≡ None
  inside None b = refl
  inside (Some f) None = refl
  inside (Some f) (Some fs) = no_head h f fs body

-- a command with tests and no block is none
no_simple_test : (s : Context) (name : CommandName) (at : ℕ) (read : Read) (f : TestForm) → simple_of s name at read (one f) ≡ None
no_simple_test s Require at read f = refl
no_simple_test s _ at read f = refl

no_simple_tests : (s : Context) (name : CommandName) (at : ℕ) (read : Read) (f : TestForm) (fs : TestForms) → simple_of s name at read (bracketed f fs) ≡ None
no_simple_tests s Require at read f fs = refl
no_simple_tests s _ at read f fs = refl

no_simple_part : (s : Context) (h : Head) (inner : InnerForms) → ((name : CommandName) (read : Read) → simple_of s name h.token read inner ≡ None) → head_simple s h inner ≡ None
no_simple_part s h inner none = step_none (command_named h.name) _ (λ name. step_none (reading (command_signature name) (arguments_of h)) _ (none name))

pub no_part_with_test : (s : Context) (i : Invocation) (h : Head) (t : Box Invocation) → i ≡ WithTest h t → simple_part s (invocation_tree i) ≡ None
no_part_with_test s i h t is = ap (simple_part s) (ap invocation_tree is ∙ tree_test h t) ∙ inside (test_form_of s.required (invocation_tree t.value)) where
  inside : (o : Option TestForm) → (option_map one o >>= λ inner. head_simple s h inner) ≡ None
  inside None = refl
  inside (Some f) = no_simple_part s h (one f) (λ name read. no_simple_test s name h.token read f)

pub no_part_with_tests : (s : Context) (i : Invocation) (h : Head) (t : Box Invocation) (ts : Vec Invocation) → i ≡ WithTests h t ts → simple_part s (invocation_tree i) ≡ None
no_part_with_tests s i h t ts is = ap (simple_part s) (ap invocation_tree is ∙ tree_tests h t ts) ∙ inside (test_form_of s.required (invocation_tree t.value)) (more_forms_of s.required (others_of ts.items)) where
  inside : (a : Option TestForm) (b : Option TestForms) → ((a >>= λ f. option_map (bracketed f) b) >>= λ inner. head_simple s h inner) ≡ None
  inside None b = refl
  inside (Some f) None = refl
  inside (Some f) (Some fs) = no_simple_part s h (bracketed f fs) (λ name read. no_simple_tests s name h.token read f fs)

-- a command with a block that has a form
pub part_of_block : (s : Context) (tree : Tree) (i : Invocation) (cs : Vec Tree) (around : Context) (body : CommandForms) → tree ≡ trees.Block i cs → Some around ≡ inside (loops_opened (invocation_tree i)) s
    → commands_formed around (commands_tree cs.items) ≡ Some body → part_of s (command_tree tree) ≡ block_part s (invocation_tree i) body
part_of_block s tree i cs around body is room formed =
    ap (part_of s) (ap command_tree is ∙ tree_block i cs)
    ∙ ap (λ o. o >>= λ around. forms_of around (commands_tree cs.items) >>= λ forms. closed forms >>= λ body. block_part s (invocation_tree i) body) (sym room)
    ∙ closing (forms_of around (commands_tree cs.items)) formed
  where
    closing : (o : Option Forms) → (o >>= closed) ≡ Some body → (o >>= λ forms. closed forms >>= λ body. block_part s (invocation_tree i) body) ≡ block_part s (invocation_tree i) body
    closing None h = absurd (cc)
    closing (Some forms) h = ap (λ o. o >>= λ body. block_part s (invocation_tree i) body) h

-- what is added before commands that are still to come
module _ (s : Context) (list : List Tree) (i : ℕ) (x : Tree) (lt : i < length list) (is : x ≡ get_or list i x) (old : Sequence) where
  abbrev pub later : Option Forms
  later = forms_of (after_invocation s (invocation_of (command_tree x))) (commands_tree (drop (i + 1) list))

  here : (forms_of s (commands_tree (drop i list)) >>= finished_by old) ≡ ((later >>= λ rest. part_of s (command_tree x) >>= λ part. put part rest) >>= finished_by old)
  here = ap (λ xs. forms_of s (commands_tree xs) >>= finished_by old) (split_at list i x lt is)

  module _ (part : Part) (formed : part_of s (command_tree x) ≡ Some (part_form part)) (new : Sequence) where
    added : Pushed old part new → (o : Option Forms) → ((o >>= λ rest. put (part_form part) rest) >>= finished_by old) ≡ (o >>= finished_by new)
    added pushed None = refl
    added pushed (Some rest) = pushed rest

    refused : Unfit old part → (o : Option Forms) → ((o >>= λ rest. put (part_form part) rest) >>= finished_by old) ≡ None
    refused pushed None = refl
    refused pushed (Some rest) = pushed rest

    pub part_added : Pushed old part new → (later >>= finished_by new) ≡ (forms_of s (commands_tree (drop i list)) >>= finished_by old)
    part_added pushed = sym (here ∙ ap (λ p. (later >>= λ rest. p >>= λ part. put part rest) >>= finished_by old) formed ∙ added pushed later)

    pub part_refused : Unfit old part → (forms_of s (commands_tree (drop i list)) >>= finished_by old) ≡ None
    part_refused pushed = here ∙ ap (λ p. (later >>= λ rest. p >>= λ part. put part rest) >>= finished_by old) formed ∙ refused pushed later

  pub part_missing : part_of s (command_tree x) ≡ None → (forms_of s (commands_tree (drop i list)) >>= finished_by old) ≡ None
  part_missing missing = here ∙ ap (λ p. (later >>= λ rest. p >>= λ part. put part rest) >>= finished_by old) missing ∙ nothing_left later where
    nothing_left : (o : Option Forms) → ((o >>= λ (rest : Forms). (let p : Option PartForm = None in p) >>= λ part. put part rest) >>= finished_by old) ≡ None
    nothing_left None = refl
    nothing_left (Some rest) = refl
