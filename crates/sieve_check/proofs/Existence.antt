-- A script of which nothing is wrong has a typed form, which is within the limits.
use Rattle.std.proofs.Common.{◌≡◌, ℕ, ◌≤◌, true, false, not, ◌||◌, nat_lt, List, [], ◌∷◌, ◌++◌, length, bytes_eq, Option, Some, None, option_map, refl, sym, ap, subst, ◌∙◌, if◌then◌else◌}
use Rattle.std.specs.List.{list_any}
use Rattle.std.proofs.lemmas.Option.{same_Some}
use Rattle.octets.specs.Limits.{max_loops, max_variables}
use Rattle.octets.specs.Once.{each_once}
use Rattle.sieve_parser.specs.Scripts.{IsTree}
use Rattle.sieve_parser.specs.Tree.{ArgumentTree, InvocationTree, invocation, TestsTree, no_test, one_test, test_list, CommandTree, simple, block, CommandsTree, no_command as no_tree, command as tree}
use Rattle.sieve_check.specs.declared.causes.ReasonKind.TheVariants.{UnknownCommand}
use Rattle.sieve_check.specs.declared.table.CommandName.{CommandName}
use Rattle.sieve_check.specs.declared.table.CommandName.TheVariants.{Require}
use Rattle.sieve_check.specs.declared.signature.Tests.{Tests}
use Rattle.sieve_check.specs.declared.signature.Tests.TheVariants.{One}
use Rattle.sieve_check.specs.declared.signature.Ending.{Ending}
use Rattle.sieve_check.specs.declared.signature.Ending.TheVariants.{Semicolon, Block}
use Rattle.sieve_check.specs.Bounded.{AreBoundedCommands, AreCommandsIn, IsBounded}
use Rattle.sieve_check.specs.FormOf.{inner_forms_of, simple_of, block_of, simple_part, block_part, Forms, closed, after_none, put, part_of, forms_of, IsFormOf}
use Rattle.sieve_check.specs.declared.table.Follows.{Follows}
use Rattle.sieve_check.specs.declared.table.Follows.TheVariants.{Requires}
use Rattle.sieve_check.specs.Names.{command_known, command_named}
use Rattle.sieve_check.specs.Rows.{Row, command_row}
use Rattle.sieve_check.specs.Arguments.{reading}
use Rattle.sieve_check.specs.Rules.{after_invocation, cause_of, command_visits, commands_visits, ending_cause, fault_of, invocation_of, kind_of, known_cause, loops_by, loops_opened, looks_inside, may_stand, mentions_by, mentions_of, mentions_read, names_by, names_mentioned, needs_of, opened_by, opened_or, opened_past, opens, past_invocation, past_swallowed, past_tests, same_tests, strings_of, takes_tests, tests_visits, visits_of, where_required}
use Rattle.sieve_check.specs.Signatures.{◌>>=◌, is_positional, command_signature}
use Rattle.sieve_check.specs.Surroundings.{Loop, Context, first_lacking, at_start, in_block, inside, opens_many, followed, following}
use Rattle.sieve_check.specs.Typed.{CommandForms, no_command, no_branch}
use Rattle.sieve_check.specs.Variables.{commands_variables, branches_variables}
use Rattle.sieve_check.proofs.Extent.{form_fits}
use Rattle.sieve_check.proofs.Faultless.{AreFaultless, faultless_both, names_brought, none_refused, few_in_script, unrefused}
use Rattle.sieve_check.proofs.Lists.{expands, has_long_string, is_large, read_short}
use Rattle.sieve_check.proofs.OpenLoops.{room_inside}
use Rattle.sieve_check.proofs.Options.{all_taken}
use Rattle.sieve_check.proofs.Templates.{mentioned_at}
use Rattle.sieve_check.proofs.TestExistence.{both_names, known, names_found, WellFormed, row_well_formed, none_large, inner_variables, Inner, inner_exists, all_looked_at}
use Rattle.sieve_check.proofs.CommandExistence.{AreWithin, forms_variables, Goes, along, shut, own_names, simple_goes, block_goes}

-- ---- what follows from there being no fault

-- the tests are those of the signature, the arguments were read, and their strings are within the limits
pub record CommandWellFormed (s : Context) (name : CommandName) (args : List ArgumentTree) (tests : Tests) (ending : Ending) : Type 0 where
  pub has : first_lacking (needs_of (command_row name) args) s.required ≡ None
  pub ends : ending_cause (command_row name).ending (Some ending) ≡ None
  pub same : same_tests (command_signature name).tests tests ≡ true
  pub form : WellFormed (command_signature name) args
  pub stands : may_stand s (command_row name).place form.read.name ≡ true
  pub room : opens_many (opened_by (command_row name) args) s ≡ false
  pub positional : is_positional (command_signature name).positional form.read.positional ≡ true
  pub unselected : form.read.params ≡ []
  pub short : has_long_string form.read.positional ≡ false
  pub few : expands s ≡ true → list_any is_large (mentions_by (command_row name).role [] form.read.positional).expanded ≡ false

-- no command takes something of a field
unselecting : (name : CommandName) → (command_signature name).selecting ≡ false
unselecting Require = refl
unselecting _ = refl

pub command_well_formed : (s : Context) (name : CommandName) (args : List ArgumentTree) (tests : Tests) (ending : Ending) → known_cause s args tests (Some ending) (command_row name) ≡ None → CommandWellFormed s name args tests ending
command_well_formed s name args tests ending h =
    let well = row_well_formed s args tests (Some ending) (command_row name) h in
    let read = well.form.read in
    let unselected = well.form.unselected (unselecting name) in
    record {
      has = well.has;
      ends = well.ends;
      same = well.same;
      form = well.form;
      stands = well.stands;
      room = well.room;
      positional = well.form.complete.positional;
      unselected = unselected;
      short = ap has_long_string (sym (well.form.alone (unselecting name))) ∙ read_short (command_signature name) args read well.form.is well.short;
      few = λ yes. ap (λ params. list_any is_large (mentions_by (command_row name).role params read.positional).expanded) (sym unselected) ∙ none_large (expands s) (mentions_of (command_row name).role read) well.large yes;
    }

-- ---- any command

-- a command's name, tests and arguments, as they were read
pub record Known (s : Context) (word : List ℕ) (args : List ArgumentTree) (tests : TestsTree) (ending : Ending) : Type 0 where
  pub name : CommandName
  pub is_name : command_named word ≡ Some name
  pub form : CommandWellFormed s name args (kind_of tests) ending
  pub inner : Inner s tests
  -- what the command and its tests bring
  pub names : own_names s name form.form.read ++ inner_variables inner.inner ≡ names_by s.required args (command_known word) ++ names_brought (if looks_inside (command_known word) then tests_visits s tests else [])

known_command : (s : Context) (token : ℕ) (word : List ℕ) (args : List ArgumentTree) (tests : TestsTree) (ending : Ending) → AreFaultless (visits_of (Some ending) s (invocation token word args tests)) → Known s word args tests ending
known_command s token word args tests ending h =
    let name = known command_row UnknownCommand (known_cause s args (kind_of tests) (Some ending)) (command_named word) h.0 in
    let form = command_well_formed s name.0 args (kind_of tests) ending name.2 in
    let looked = all_looked_at s (command_known word) (command_row name.0) tests (ap (option_map command_row) name.1) form.same in
    let inner = inner_exists s tests (subst AreFaultless looked h.1) in
    record {
      name = name.0;
      is_name = name.1;
      form = form;
      inner = inner;
      names = names_found command_row s.required args (command_named word) name.0 (own_names s name.0 form.form.read) (inner_variables inner.inner) _ name.1
          (ap (λ params. mentioned_at (expands s) (mentions_by (command_row name.0).role params form.form.read.positional)) (sym form.unselected) ∙ ap (λ o. names_mentioned (where_required s.required (mentions_read (command_row name.0).role o))) (sym form.form.is))
          (inner.variables ∙ ap names_brought (sym looked));
    }

-- what follows by the name follows by the word
following_word : (s : Context) (word : List ℕ) (name : CommandName) (strings : List (List ℕ)) → command_named word ≡ Some name → (following s (Some (command_row name)) strings).after_if ≡ false → (following s (command_known word) strings).after_if ≡ false
following_word s word name strings is h = ap (λ o. (following s (option_map command_row o) strings).after_if) is ∙ h

-- there is room for the loop that a command opens
pub room_in : (s : Context) (i : InvocationTree) (ending : Ending) → AreFaultless (visits_of (Some ending) s i) → opens_many (loops_opened i) s ≡ false
room_in s (invocation token word args tests) ending h =
    let k = known_command s token word args tests ending h in
    ap (λ o. opens_many (loops_by (option_map command_row o) args) s) k.is_name ∙ k.form.room

-- after a command the same loops are open
loops_followed : (s : Context) (follows : Follows) (strings : List (List ℕ)) → (followed s follows strings).loops ≡ s.loops
loops_followed s Requires strings = refl
loops_followed s _ strings = refl

loops_after : (s : Context) (o : Option Row) (strings : List (List ℕ)) → (following s o strings).loops ≡ s.loops
loops_after s None strings = refl
loops_after s (Some row) strings = loops_followed s row.follows strings

same_loops : (s : Context) (i : InvocationTree) → (after_invocation s i).loops ≡ s.loops
same_loops s (invocation token word args tests) = loops_after s (command_known word) (strings_of args)

-- ---- what is behind a command that is well formed: it swallowed nothing

one_taken : (taken : Tests) → same_tests taken One ≡ true → takes_tests taken ≡ true
one_taken One h = refl
one_taken _ h = absurd (cc)

nothing_swallowed : (s : Context) (o : Option Row) (row : Row) (tests : TestsTree) → o ≡ Some row → same_tests row.signature.tests (kind_of tests) ≡ true → past_tests s o tests ≡ s
nothing_swallowed s o row no_test is same = refl
nothing_swallowed s o row (one_test t) is same = ap (λ b. if b then s else past_swallowed s t) (ap looks_inside is ∙ one_taken row.signature.tests same)
nothing_swallowed s o row (test_list t ts) is same = refl

own_opened : (o : Option Row) (row : Row) (args : List ArgumentTree) (tests : TestsTree) → o ≡ Some row → same_tests row.signature.tests (kind_of tests) ≡ true → opened_or o args tests ≡ loops_by o args
own_opened o row args no_test is same = refl
own_opened o row args (one_test t) is same = ap (λ b. if b || opens o then loops_by o args else opened_past t) (ap looks_inside is ∙ one_taken row.signature.tests same)
own_opened o row args (test_list t ts) is same = refl

same_block : (opened : List Loop) (s : Context) (name : CommandName) (strings : List (List ℕ)) → ending_cause (command_row name).ending (Some Block) ≡ None → in_block opened (following s (Some (command_row name)) strings) ≡ in_block opened s
same_block opened s Require strings h = absurd (cc)
same_block opened s _ strings h = refl

as_many : (opened : List Loop) (s t : Context) → t.loops ≡ s.loops → opens_many opened t ≡ opens_many opened s
as_many [] s t same = refl
as_many (loop ∷ loops) s t same = ap (λ (all : List Loop). not (nat_lt (length all) max_loops)) same

-- behind it, and in its block
pub record Behind (s : Context) (i : InvocationTree) (ending : Ending) : Type 0 where
  pub after : past_invocation s i ≡ after_invocation s i
  pub room : opens_many (opened_past i) (past_invocation s i) ≡ false
  pub within : ending ≡ Block → in_block (opened_past i) (past_invocation s i) ≡ in_block (loops_opened i) s

behind : (s : Context) (token : ℕ) (word : List ℕ) (args : List ArgumentTree) (tests : TestsTree) (ending : Ending) (name : CommandName) → command_named word ≡ Some name → CommandWellFormed s name args (kind_of tests) ending
    → Behind s (invocation token word args tests) ending
behind s token word args tests ending name is well =
    let i = invocation token word args tests in
    let strings = strings_of args in
    let known : command_known word ≡ Some (command_row name) = ap (option_map command_row) is in
    let own = own_opened (command_known word) (command_row name) args tests known well.same in
    let after = nothing_swallowed (following s (command_known word) strings) (command_known word) (command_row name) tests known well.same in
    record {
      after = after;
      room = ap (λ opened. opens_many opened (past_invocation s i)) own ∙ ap (opens_many (loops_opened i)) after ∙ as_many (loops_opened i) s (after_invocation s i) (same_loops s i) ∙ ap (λ o. opens_many (loops_by o args) s) known ∙ well.room;
      within = λ e. ap (λ opened. in_block opened (past_invocation s i)) own ∙ ap (in_block (loops_opened i)) after ∙ ap (λ o. in_block (loops_opened i) (following s o strings)) known
          ∙ same_block (loops_opened i) s name strings (subst (λ (e : Ending). ending_cause (command_row name).ending (Some e) ≡ None) e well.ends);
    }

-- where nothing is wrong with it by itself
pub behind_sound : (s : Context) (token : ℕ) (word : List ℕ) (args : List ArgumentTree) (tests : TestsTree) (ending : Ending) → cause_of UnknownCommand (known_cause s args (kind_of tests) (Some ending)) (command_known word) ≡ None
    → Behind s (invocation token word args tests) ending
behind_sound s token word args tests ending h =
    let name = known command_row UnknownCommand (known_cause s args (kind_of tests) (Some ending)) (command_named word) h in
    behind s token word args tests ending name.0 name.1 (command_well_formed s name.0 args (kind_of tests) ending name.2)

behind_head : (s : Context) (i : InvocationTree) (ending : Ending) → AreFaultless (visits_of (Some ending) s i) → Behind s i ending
behind_head s (invocation token word args tests) ending h =
    let k = known_command s token word args tests ending h in
    behind s token word args tests ending k.name k.is_name k.form

behind_command : (s : Context) (c : CommandTree) → AreFaultless (command_visits s c) → past_invocation s (invocation_of c) ≡ after_invocation s (invocation_of c)
behind_command s (simple i) h = (behind_head s i Semicolon h).after
behind_command s (block i cs) h = (behind_head s i Block (faultless_both (visits_of (Some Block) s i) _ h).0).after

simple_exists : (s : Context) (i : InvocationTree) (rest : Forms) → AreFaultless (visits_of (Some Semicolon) s i) → ((after_invocation s i).after_if ≡ false → rest.branches ≡ no_branch) → AreWithin (length s.loops) rest
    → Goes s (names_brought (visits_of (Some Semicolon) s i) ++ forms_variables rest) (simple_part s i >>= λ part. put part rest)
simple_exists s (invocation token word args tests) rest h begins bounded =
    let k = known_command s token word args tests Semicolon h in
    let read = k.form.form.read in
    let same = ap (same_tests (command_signature k.name).tests) k.inner.kind ∙ k.form.same in
    along s _ _ _ (simple_of s k.name token read k.inner.inner >>= λ part. put part rest)
    (ap (λ o. o >>= λ part. put part rest) (all_taken (inner_forms_of s.required tests) k.inner.inner (command_named word) k.name (λ name. reading (command_signature name) args) read (λ inner name read. simple_of s name token read inner) k.inner.is k.is_name k.form.form.is))
    (ap (λ names. names ++ forms_variables rest) k.names)
    (simple_goes s k.name token args read k.inner.inner rest k.form.form.is k.form.stands k.form.has k.form.positional k.form.ends same k.form.short k.form.few (λ h. begins (following_word s word k.name (strings_of args) k.is_name h)) bounded)

block_exists : (s : Context) (i : InvocationTree) (body : CommandForms) (rest : Forms) → AreFaultless (visits_of (Some Block) s i) → ((after_invocation s i).after_if ≡ false → rest.branches ≡ no_branch) → AreBoundedCommands body → AreCommandsIn (length (loops_opened i ++ s.loops)) body → AreWithin (length s.loops) rest
    → Goes s ((names_brought (visits_of (Some Block) s i) ++ commands_variables body) ++ forms_variables rest) (block_part s i body >>= λ part. put part rest)
block_exists s (invocation token word args tests) body rest h begins within within_in bounded =
    let k = known_command s token word args tests Block h in
    let read = k.form.form.read in
    let same = ap (same_tests (command_signature k.name).tests) k.inner.kind ∙ k.form.same in
    along s _ _ _ (block_of k.name token k.inner.inner body >>= λ part. put part rest)
    (ap (λ o. o >>= λ part. put part rest) (all_taken (inner_forms_of s.required tests) k.inner.inner (command_named word) k.name (λ name. reading (command_signature name) args) read (λ inner name read. block_of name token inner body) k.inner.is k.is_name k.form.form.is))
    (ap (λ names. (names ++ commands_variables body) ++ forms_variables rest) k.names)
    (block_goes s k.name token args read k.inner.inner body rest k.form.positional k.form.stands k.form.room k.form.ends same (λ h. begins (following_word s word k.name (strings_of args) k.is_name h)) k.inner.bounded k.inner.around within
    (subst (λ (o : Option CommandName). AreCommandsIn (length (loops_by (option_map command_row o) args ++ s.loops)) body) k.is_name within_in) bounded)

mutual
  command_exists : (s : Context) (c : CommandTree) (rest : Forms) → AreFaultless (command_visits s c) → ((after_invocation s (invocation_of c)).after_if ≡ false → rest.branches ≡ no_branch) → AreWithin (length s.loops) rest
      → Goes s (names_brought (command_visits s c) ++ forms_variables rest) (part_of s c >>= λ part. put part rest)
  command_exists s (simple i) rest h begins bounded = simple_exists s i rest h begins bounded
  command_exists s (block i cs) rest h begins bounded =
      let around = in_block (loops_opened i) s in
      let past = past_invocation s i in
      let inner = if opens_many (opened_past i) past then [] else commands_visits (in_block (opened_past i) past) cs in
      let parts = faultless_both (visits_of (Some Block) s i) inner h in
      let few = room_in s i Block parts.0 in
      let rear = behind_head s i Block parts.0 in
      let entered : inner ≡ commands_visits around cs = ap (λ b. if b then [] else commands_visits (in_block (opened_past i) past) cs) rear.room ∙ ap (λ around. commands_visits around cs) (rear.within refl) in
      let body = forms_exist around cs (subst AreFaultless entered parts.1) in
      let alone = body.begins refl in
      let room : inside (loops_opened i) s ≡ Some around = room_inside (loops_opened i) s few in
      let same : commands_variables body.forms.commands ≡ names_brought (commands_visits around cs) = ap (λ bs. branches_variables bs ++ commands_variables body.forms.commands) (sym alone) ∙ body.variables in
      along s _ _ _ (block_part s i body.forms.commands >>= λ part. put part rest)
      (ap (λ o. (o >>= λ around. forms_of around cs >>= λ forms. closed forms >>= λ body. block_part s i body) >>= λ part. put part rest) room
      ∙ ap (λ o. (o >>= λ forms. closed forms >>= λ body. block_part s i body) >>= λ part. put part rest) body.is
      ∙ ap (λ o. (o >>= λ body. block_part s i body) >>= λ part. put part rest) (shut body.forms alone))
      (ap (λ names. (names_brought (visits_of (Some Block) s i) ++ names) ++ forms_variables rest) same ∙ ap (λ names. names ++ forms_variables rest) (sym (ap (λ vs. names_brought (visits_of (Some Block) s i ++ vs)) entered ∙ sym (both_names (visits_of (Some Block) s i) (commands_visits around cs)))))
      (block_exists s i body.forms.commands rest parts.0 begins body.bounded.commands body.bounded.commands_in bounded)

  forms_exist : (s : Context) (cs : CommandsTree) → AreFaultless (commands_visits s cs) → Goes s (names_brought (commands_visits s cs)) (forms_of s cs)
  forms_exist s no_tree h = record { forms = after_none no_command; is = refl; begins = λ _. refl; bounded = record { branches = tt; commands = tt; branches_in = tt; commands_in = tt }; variables = refl }
  forms_exist s (tree c cs) h =
      let after = after_invocation s (invocation_of c) in
      let past = past_invocation s (invocation_of c) in
      let parts = faultless_both (command_visits s c) (commands_visits past cs) h in
      let same : past ≡ after = behind_command s c parts.0 in
      let rest = forms_exist after cs (subst (λ (around : Context). AreFaultless (commands_visits around cs)) same parts.1) in
      along s _ _ _ (part_of s c >>= λ part. put part rest.forms) (ap (λ o. o >>= λ rest. part_of s c >>= λ part. put part rest) rest.is)
      (ap (λ names. names_brought (command_visits s c) ++ names) rest.variables ∙ both_names (command_visits s c) (commands_visits after cs)
      ∙ ap (λ around. names_brought (command_visits s c ++ commands_visits around cs)) (sym same))
      (command_exists s c rest.forms parts.0 rest.begins (subst (λ (loops : List Loop). AreWithin (length loops) rest.forms) (same_loops s (invocation_of c)) rest.bounded))

-- a script's form, with the variables that its visits bring
pub record Formed (script : CommandsTree) : Type 0 where
  pub form : CommandForms
  pub is : IsFormOf script form
  pub bounded : AreBoundedCommands form
  pub around : AreCommandsIn 0 form
  pub variables : commands_variables form ≡ names_brought (commands_visits at_start script)

pub form_exists : (script : CommandsTree) → fault_of script ≡ None → Formed script
form_exists script h =
    let goes = forms_exist at_start script (none_refused [] (commands_visits at_start script) (unrefused script h)) in
    let alone = goes.begins refl in
    record {
      form = goes.forms.commands;
      is = ap (λ o. o >>= closed) goes.is ∙ shut goes.forms alone;
      bounded = goes.bounded.commands;
      around = goes.bounded.commands_in;
      variables = ap (λ bs. branches_variables bs ++ commands_variables goes.forms.commands) (sym alone) ∙ goes.variables;
    }

-- the form of such a script is within the limits
pub form_bounded : (script : CommandsTree) (form : CommandForms) → IsTree script → IsFormOf script form → fault_of script ≡ None → IsBounded form
form_bounded script form written is faultless =
    let formed = form_exists script faultless in
    let same : formed.form ≡ form = same_Some formed.form form (sym formed.is ∙ is) in
    record {
      octets = form_fits script form written is;
      variables = subst (λ (names : List (List ℕ)). length (each_once bytes_eq names) ≤ max_variables) (sym formed.variables ∙ ap commands_variables same) (few_in_script script faultless);
      commands = subst AreBoundedCommands same formed.bounded;
      loops = subst (AreCommandsIn 0) same formed.around;
    }
