-- A test of which nothing is wrong has a typed form, which is within the limits and has the variables that its visits bring.
use Rattle.std.proofs.Common.{◌≡◌, ℕ, ◌≤◌, length, Bool, true, false, ◌||◌, not, if◌then◌else◌, List, [], ◌∷◌, ◌++◌, All, Option, Some, None, option_map, refl, sym, ap, subst, ◌∙◌, arith}
use Rattle.std.specs.Prelude.{is_some}
use Rattle.std.specs.List.{find, list_any}
use Rattle.std.specs.Option.{option_and_then}
use Rattle.std.proofs.lemmas.Bool.{ltb-false}
use Rattle.std.proofs.lemmas.Grind.{flat_map-append}
use Rattle.std.proofs.lemmas.List.{append-nil}
use Rattle.octets.specs.Limits.{max_test_strings}
use Rattle.bytecode_format.specs.declared.question.Order.{Order}
use Rattle.bytecode_format.specs.declared.question.Order.TheVariants.{Over}
use Rattle.bytecode_format.specs.declared.question.Question.{Question}
use Rattle.bytecode_format.specs.declared.question.Takes.{Takes}
use Rattle.bytecode_format.specs.Questions.{no_list, row_of, takes_params}
use Rattle.sieve_parser.specs.Tree.{ArgumentTree, amount, InvocationTree, invocation, TestsTree, no_test, one_test, test_list, MoreTests, last as no_more, next}
use Rattle.sieve_check.specs.declared.causes.ReasonKind.{ReasonKind}
use Rattle.sieve_check.specs.declared.causes.ReasonKind.TheVariants.{UnknownTest, LongString, ManyLoops, ManyStrings, WrongTests}
use Rattle.sieve_check.specs.declared.table.TestName.{TestName}
use Rattle.sieve_check.specs.declared.table.TestName.TheVariants.{Constant, Not, AllOf, AnyOf}
use Rattle.sieve_check.specs.declared.signature.Positional.{Positional}
use Rattle.sieve_check.specs.declared.signature.Positional.TheVariants as positional
use Rattle.bytecode_format.specs.declared.selection.Selector.{Selector}
use Rattle.bytecode_format.specs.declared.selection.Selector.TheVariants.{Param}
use Rattle.sieve_check.specs.declared.signature.Signature.{Signature}
use Rattle.sieve_check.specs.declared.string_flaws.StringFlaw.TheVariants.{Long}
use Rattle.sieve_check.specs.declared.signature.Tests.{Tests}
use Rattle.sieve_check.specs.declared.signature.Tests.TheVariants.{Nothing, One, Bracketed}
use Rattle.sieve_check.specs.Bounded.{IsBoundedTest, AreBoundedTests, IsTestIn, AreTestsIn}
use Rattle.sieve_check.specs.FormOf.{InnerForms, none, one, bracketed, number_in, size_of, question_by, question_of, strings_in, asking_of, test_of, test_form_of, inner_forms_of, more_forms_of}
use Rattle.sieve_check.specs.declared.signature.Ending.{Ending}
use Rattle.sieve_check.specs.declared.surroundings.Capabilities.{Capabilities}
use Rattle.sieve_check.specs.Names.{test_known, test_named}
use Rattle.sieve_check.specs.Rows.{Row, is_test, test_row}
use Rattle.sieve_check.specs.Arguments.{arguments_cause, reading}
use Rattle.sieve_check.specs.Causes.{Cause, about, plain}
use Rattle.sieve_check.specs.Questions.{Asking, asking, by_number, by_tags, unasked}
use Rattle.sieve_check.specs.Rules.{Visit, are_many, cause_of, ending_cause, expanding, ill_formed, kind_of, known_cause, lacking, lacking_cause, large_cause, large_mention_cause, lists_read, long_string_cause, looks_inside, many_loops_cause, many_strings_cause, may_stand, mention_cause, Mentions, mentions_of, mentions_read, misplaced, more_visits, names_by, names_mentioned, needs_of, no_mention, opened_by, place_cause, read_cause, row_mentions, same_tests, string_has, strings_of, takes_tests, tests_cause, tests_visits, unknown_cause, visits_of, where_required}
use Rattle.sieve_check.specs.Signatures.{◌>>=◌, Read, is_positional, test_signature}
use Rattle.sieve_check.specs.Surroundings.{Context, first_lacking, opens_many}
use Rattle.sieve_check.specs.Typed.{TestForm, asks, negation, all_of, any_of, TestForms, no_test as no_other, test}
use Rattle.sieve_check.specs.Variables.{test_variables, tests_variables}
use Rattle.sieve_check.proofs.Faultless.{AreFaultless, faultless_both, names_brought}
use Rattle.sieve_check.proofs.Lists.{expands, has_long_string, is_large, read_short, all_sound, IsGiven, Listed, all_listed, lists_behind, none_listed}
use Rattle.sieve_check.proofs.Finding.{none_where}
use Rattle.sieve_check.proofs.Options.{all_taken, both_none, map_none, if_none, unless_none, not_both, not_false, some_of}
use Rattle.sieve_check.proofs.Regular.{IsRegular, is_number, loops_there, regular}
use Rattle.sieve_check.proofs.Unread.{IsComplete, complete_read, unread_either}
use Rattle.sieve_check.proofs.TagSteps.{HasArgument, selecting_read, none_selected, only_behind}
use Rattle.sieve_check.proofs.Templates.{IsSound, mentioned_at, expanding_names}

-- ---- what follows from there being no fault

-- a name that is known
pub known : {Name : Type 0} (row : Name → Row) (unknown : ReasonKind) (cause : Row → Option Cause) (o : Option Name) → cause_of unknown cause (option_map row o) ≡ None → (name : Name) × (o ≡ Some name) × (cause (row name) ≡ None)
known row unknown cause None h = absurd (cc)
known row unknown cause (Some name) h = (name, refl, h)

-- the same without a name
pub known_row : (unknown : ReasonKind) (cause : Row → Option Cause) (o : Option Row) → cause_of unknown cause o ≡ None → (row : Row) × (o ≡ Some row) × (cause row ≡ None)
known_row unknown cause None h = absurd (cc)
known_row unknown cause (Some row) h = (row, refl, h)

-- what it brings by itself and by what is inside
pub names_found : {Name : Type 0} (row : Name → Row) (required : Capabilities) (args : List ArgumentTree) (o : Option Name) (name : Name) (own inner brought : List (List ℕ)) → o ≡ Some name → own ≡ names_mentioned (row_mentions required (row name) args) → inner ≡ brought
    → own ++ inner ≡ names_by required args (option_map row o) ++ brought
names_found row required args o name own inner brought is same inside =
    ap (λ names. names ++ inner) (same ∙ ap (λ o. names_by required args (option_map row o)) (sym is)) ∙ ap (λ names. names_by required args (option_map row o) ++ names) inside

-- arguments that were read
pub record WellFormed (signature : Signature) (args : List ArgumentTree) : Type 0 where
  pub read : Read
  pub is : reading signature args ≡ Some read
  pub complete : IsComplete signature read
  pub alone : signature.selecting ≡ false → lists_read read ≡ read.positional
  pub unselected : signature.selecting ≡ false → read.params ≡ []

-- those with which nothing is wrong were
pub well_formed : (signature : Signature) (args : List ArgumentTree) → arguments_cause signature args ≡ None → WellFormed signature args
well_formed signature args h =
    let read = some_of (reading signature args) (not_false (is_some (reading signature args)) (sym (unread_either signature args) ∙ ap is_some h)) in
    record {
      read = read.0;
      is = read.1;
      complete = complete_read signature args read.0 read.1;
      alone = λ plain. only_behind signature args read.0 plain read.1;
      unselected = λ plain. none_selected signature args read.0 plain read.1;
    }

-- no string that is expanded has too many segments
pub none_large : (b : Bool) (mentions : Mentions) → large_mention_cause (if b then mentions else no_mention) ≡ None → b ≡ true → list_any is_large mentions.expanded ≡ false
none_large true mentions h expands =
    none_where is_large mentions.expanded (map_none large_cause (find is_large mentions.expanded) (both_none (option_map large_cause (find is_large mentions.expanded)) _ h).0)
none_large false mentions h expands = absurd (cc)

-- no string is too long
pub none_long : (args : List ArgumentTree) → long_string_cause args ≡ None → has_long_string args ≡ false
none_long args h = none_where (string_has Long) (strings_of args) (map_none (about LongString) (find (string_has Long) (strings_of args)) h)

-- a command or test of which nothing is wrong has what it needs, its arguments were read, and all is within the limits
pub record RowWellFormed (s : Context) (row : Row) (args : List ArgumentTree) (tests : Tests) (ending : Option Ending) : Type 0 where
  pub has : first_lacking (needs_of row args) s.required ≡ None
  pub form : WellFormed row.signature args
  pub same : same_tests row.signature.tests tests ≡ true
  pub ends : ending_cause row.ending ending ≡ None
  pub stands : may_stand s row.place form.read.name ≡ true
  pub few : are_many (is_test row.ending) form.read ≡ false
  pub room : opens_many (opened_by row args) s ≡ false
  pub short : has_long_string args ≡ false
  pub large : large_mention_cause (where_required s.required (mentions_of row.role form.read)) ≡ None

pub row_well_formed : (s : Context) (args : List ArgumentTree) (tests : Tests) (ending : Option Ending) (row : Row) → known_cause s args tests ending row ≡ None → RowWellFormed s row args tests ending
row_well_formed s args tests ending row h =
    let a = both_none (lacking_cause s.required (needs_of row args)) _ h in
    let b = both_none (unknown_cause row args) _ a.1 in
    let c = both_none (arguments_cause row.signature args) _ b.1 in
    let form = well_formed row.signature args c.0 in
    let read = form.read in
    let mentions = where_required s.required (mentions_of row.role read) in
    let rest : read_cause s row args tests ending read ≡ None = sym (ap (option_and_then (read_cause s row args tests ending)) form.is) ∙ c.1 in
    let d = both_none (ill_formed row tests ending mentions) _ rest in
    let e = both_none (tests_cause row.signature tests) _ d.0 in
    let f = both_none (ending_cause row.ending ending) (mention_cause mentions) e.1 in
    let g = both_none (place_cause s row.place read.name) _ d.1 in
    let i = both_none (long_string_cause args) _ g.1 in
    let j = both_none (many_strings_cause (is_test row.ending) read) _ i.1 in
    let k = both_none (large_mention_cause mentions) (many_loops_cause s (opened_by row args)) j.1 in
    record {
      has = map_none lacking (first_lacking (needs_of row args) s.required) a.0;
      form = form;
      same = unless_none (same_tests row.signature.tests tests) (plain (WrongTests row.signature.tests)) e.0;
      ends = f.0;
      stands = unless_none (may_stand s row.place read.name) (misplaced row.place read.name) g.0;
      few = (if_none (are_many (is_test row.ending) read) (plain ManyStrings) None j.0).0;
      room = (if_none (opens_many (opened_by row args) s) (plain ManyLoops) None k.1).0;
      short = none_long args i.0;
      large = k.0;
    }

-- the strings of a test are within the limits
pub record TestWellFormed (s : Context) (name : TestName) (args : List ArgumentTree) (tests : Tests) : Type 0 where
  pub stands : may_stand s (test_row name).place None ≡ true
  pub same : same_tests (test_signature name).tests tests ≡ true
  pub form : WellFormed (test_signature name) args
  pub params : HasArgument form.read.tags.selector form.read.params
  pub few : length (strings_of (lists_read form.read)) ≤ max_test_strings
  pub sound : All (IsSound (expands s)) (strings_of (lists_read form.read))

-- no test names a loop
stands_unnamed : (s : Context) (name : TestName) (loop : Option (List ℕ)) → may_stand s (test_row name).place loop ≡ may_stand s (test_row name).place None
stands_unnamed s (Constant b) loop = refl
stands_unnamed s _ loop = refl

pub test_well_formed : (s : Context) (name : TestName) (args : List ArgumentTree) (tests : Tests) → known_cause s args tests None (test_row name) ≡ None → TestWellFormed s name args tests
test_well_formed s name args tests h =
    let well = row_well_formed s args tests None (test_row name) h in
    let read = well.form.read in
    record {
      stands = sym (stands_unnamed s name read.name) ∙ well.stands;
      same = well.same;
      form = well.form;
      params = (selecting_read (test_signature name) args read well.form.is).params;
      few = ltb-false max_test_strings (length (strings_of (lists_read read))) well.few;
      sound = all_sound (expands s) (strings_of (lists_read read)) (read_short (test_signature name) args read well.form.is well.short)
          (none_large (expands s) (expanding (strings_of (lists_read read))) well.large);
    }

-- ---- the tests behind arguments

abbrev pub inner_kind : InnerForms → Tests
inner_kind none = Nothing
inner_kind (one f) = One
inner_kind (bracketed f fs) = Bracketed

-- they are within the limits
abbrev pub IsBoundedInner : InnerForms → Type 0
IsBoundedInner none = Unit {0}
IsBoundedInner (one f) = IsBoundedTest f
IsBoundedInner (bracketed f fs) = IsBoundedTest f × AreBoundedTests fs

-- so many loops are open around them
abbrev pub IsInnerIn : ℕ → InnerForms → Type 0
IsInnerIn loops none = Unit {0}
IsInnerIn loops (one f) = IsTestIn loops f
IsInnerIn loops (bracketed f fs) = IsTestIn loops f × AreTestsIn loops fs

abbrev pub inner_variables : InnerForms → List (List ℕ)
inner_variables none = []
inner_variables (one f) = test_variables f
inner_variables (bracketed f fs) = test_variables f ++ tests_variables fs

-- ---- a test of a known name

-- a form within the limits, with these variables, around which so many loops are open
pub record Made (loops : ℕ) (names : List (List ℕ)) (o : Option TestForm) : Type 0 where
  pub form : TestForm
  pub is : o ≡ Some form
  pub bounded : IsBoundedTest form
  pub around : IsTestIn loops form
  pub variables : test_variables form ≡ names

-- no argument brings a name
pub unnamed : (b : Bool) (xs : List ArgumentTree) → is_positional positional.Nothing xs ≡ true → [] ≡ mentioned_at b (expanding (strings_of xs))
unnamed b [] h = sym (expanding_names b [])
unnamed b (x ∷ xs) h = absurd (cc)

one_number : (xs : List ArgumentTree) → is_positional positional.Number xs ≡ true → (n : ℕ) × (xs ≡ amount n ∷ [])
one_number (amount n ∷ []) h = (n, refl)
one_number _ h = absurd (cc)

-- the names that a test brings by its own arguments
abbrev own_names : Context → Read → List (List ℕ)
own_names s read = mentioned_at (expands s) (expanding (strings_of (lists_read read)))

-- those of what takes no argument
none_own : (s : Context) (signature : Signature) (read : Read) → signature.positional ≡ positional.Nothing → IsComplete signature read → lists_read read ≡ read.positional → [] ≡ own_names s read
none_own s signature read nothing h alone =
    unnamed (expands s) read.positional (ap (λ p. is_positional p read.positional) (sym nothing) ∙ h.positional)
    ∙ ap (λ xs. mentioned_at (expands s) (expanding (strings_of xs))) (sym alone)

-- a simple test: what it asks, with its strings, where it has the loops that it needs
asked : (s : Context) (name : TestName) (at : ℕ) (read : Read) (q : Question) → question_of name read ≡ Some q → Listed s (row_of q).takes read → (row_of q).loops ≤ length s.loops → Made (length s.loops) (own_names s read ++ []) (asking_of s.required name at read)
asked s name at read q is lists around = record {
  form = asks q lists.strings at;
  is = ap (λ o. o >>= λ asked. option_map (λ strings. asks asked strings at) (strings_in s.required (row_of asked).takes read)) is ∙ ap (option_map (λ strings. asks q strings at)) lists.is;
  bounded = lists.bounded;
  around = around;
  variables = lists.names ∙ sym (expanding_names (expands s) (strings_of (lists_read read))) ∙ sym (append-nil (own_names s read));
}

-- a comparison of a size
sized : (s : Context) (make : Order → ℕ → Question) (name : TestName) (at : ℕ) (read : Read) → question_of name read ≡ size_of make read → ((order : Order) (n : ℕ) → (row_of (make order n)).takes ≡ no_list) → ((order : Order) (n : ℕ) → (row_of (make order n)).loops ≤ length s.loops)
    → is_some read.tags.order ≡ true → is_positional positional.Number read.positional ≡ true → lists_read read ≡ read.positional → Made (length s.loops) (own_names s read ++ []) (asking_of s.required name at read)
sized s make name at read is unlisted around ordered number alone =
    let order = some_of read.tags.order ordered in
    let n = one_number read.positional number in
    asked s name at read (make order.0 n.0) (is ∙ ap (λ o. o >>= λ order. option_map (make order) (number_in read.positional)) order.1 ∙ ap (λ xs. option_map (make order.0) (number_in xs)) n.1)
    (subst (λ (takes : Takes). Listed s takes read) (sym (unlisted order.0 n.0)) (none_listed s read (ap strings_of (alone ∙ n.1)))) (around order.0 n.0)

-- the parameters' names of a test of fields
given_params : (selector : Selector) (params : List ArgumentTree) → HasArgument selector params → IsGiven (takes_params selector) params
given_params Param params h = h
given_params _ params h = h

-- those that the signature has
params_given : (selecting : Bool) (selector : Selector) (params : List ArgumentTree) → HasArgument selector params → (selecting ≡ false → params ≡ []) → IsGiven (if selecting then takes_params selector else false) params
params_given true selector params h unselected = given_params selector params h
params_given false selector params h unselected = unselected refl

unselecting : (b selecting : Bool) → (b || not selecting) ≡ true → b ≡ false → selecting ≡ false
unselecting false false h k = refl
unselecting _ _ h k = absurd (cc)

required : (a b : Bool) → a ≡ true → (not a || b) ≡ true → b ≡ true
required true b h k = k
required false b h k = absurd (cc)

number_behind : (p : Positional) (xs : List ArgumentTree) → is_number p ≡ true → is_positional p xs ≡ true → is_positional positional.Number xs ≡ true
number_behind positional.Number xs h k = k
number_behind _ xs h k = absurd (cc)

-- a simple test, by how its question is made
simple : (s : Context) (name : TestName) (how : Asking) (at : ℕ) (read : Read) → asking name ≡ how → IsComplete (test_signature name) read → ((test_signature name).selecting ≡ false → lists_read read ≡ read.positional) → ((test_signature name).selecting ≡ false → read.params ≡ [])
    → same_tests (test_signature name).tests Nothing ≡ true → HasArgument read.tags.selector read.params → length (strings_of (lists_read read)) ≤ max_test_strings → All (IsSound (expands s)) (strings_of (lists_read read))
    → may_stand s (test_row name).place None ≡ true → Made (length s.loops) (own_names s read ++ []) (asking_of s.required name at read)
simple s name (by_tags make) at read is complete alone unselected same params few sound stands =
    let q = make read.tags in
    let takes = (row_of q).takes in
    let signature = test_signature name in
    let r = subst (λ (how : Asking). IsRegular how name read.tags Over 0) is (regular name read.tags Over 0) in
    let selected : IsGiven takes.params read.params = subst (λ (b : Bool). IsGiven b read.params) (sym r.params) (params_given signature.selecting read.tags.selector read.params params unselected) in
    let split = lists_behind signature.positional takes read takes.names takes.keys refl refl r.lists r.number complete.positional selected (λ unnamed. unselected (unselecting takes.names signature.selecting r.named unnamed)) in
    asked s name at read q (ap (λ how. question_by how read) is) (all_listed s takes read split few sound) (omega (arith, r.loops, loops_there s (test_row name).place None stands))
simple s name (by_number make) at read is complete alone unselected same params few sound stands =
    let signature = test_signature name in
    let r = λ (order : Order) (n : ℕ). subst (λ (how : Asking). IsRegular how name read.tags order n) is (regular name read.tags order n) in
    let any = r Over 0 in
    let unnamed : (row_of (make Over 0)).takes.names ≡ false = ap (λ (takes : Takes). takes.names) any.unlisted in
    sized s make name at read (ap (λ how. question_by how read) is) (λ order n. (r order n).unlisted) (λ order n. omega (arith, (r order n).loops, loops_there s (test_row name).place None stands))
    (required signature.order (is_some read.tags.order) any.ordered complete.ordered) (number_behind signature.positional read.positional any.number complete.positional)
    (alone (unselecting (row_of (make Over 0)).takes.names signature.selecting any.named unnamed))
simple s name unasked at read is complete alone unselected same params few sound stands =
    let r = subst (λ (how : Asking). IsRegular how name read.tags Over 0) is (regular name read.tags Over 0) in
    absurd (not_both (same_tests (test_signature name).tests Nothing) same r.asked)

made : (s : Context) (name : TestName) (at : ℕ) (read : Read) (inner : InnerForms) → IsComplete (test_signature name) read → ((test_signature name).selecting ≡ false → lists_read read ≡ read.positional) → ((test_signature name).selecting ≡ false → read.params ≡ [])
    → same_tests (test_signature name).tests (inner_kind inner) ≡ true → HasArgument read.tags.selector read.params → length (strings_of (lists_read read)) ≤ max_test_strings → All (IsSound (expands s)) (strings_of (lists_read read)) → IsBoundedInner inner
    → may_stand s (test_row name).place None ≡ true → IsInnerIn (length s.loops) inner → Made (length s.loops) (own_names s read ++ inner_variables inner) (test_of s.required name at read inner)
made s name at read none complete alone unselected same params few sound inside stands around = simple s name (asking name) at read refl complete alone unselected same params few sound stands
made s Not at read (one f) complete alone unselected same params few sound inside stands around = record { form = negation f at; is = refl; bounded = inside; around = around; variables = ap (λ names. names ++ test_variables f) (none_own s (test_signature Not) read refl complete (alone refl)) }
made s AllOf at read (bracketed f fs) complete alone unselected same params few sound inside stands around = record { form = all_of f fs at; is = refl; bounded = inside; around = around; variables = ap (λ names. names ++ (test_variables f ++ tests_variables fs)) (none_own s (test_signature AllOf) read refl complete (alone refl)) }
made s AnyOf at read (bracketed f fs) complete alone unselected same params few sound inside stands around = record { form = any_of f fs at; is = refl; bounded = inside; around = around; variables = ap (λ names. names ++ (test_variables f ++ tests_variables fs)) (none_own s (test_signature AnyOf) read refl complete (alone refl)) }
made s _ at read _ complete alone unselected same params few sound inside stands around = absurd (cc)

-- ---- any test

-- tests behind arguments, of which nothing is wrong
pub record Inner (s : Context) (tests : TestsTree) : Type 0 where
  pub inner : InnerForms
  pub is : inner_forms_of s.required tests ≡ Some inner
  pub kind : inner_kind inner ≡ kind_of tests
  pub bounded : IsBoundedInner inner
  pub around : IsInnerIn (length s.loops) inner
  pub variables : inner_variables inner ≡ names_brought (tests_visits s tests)

-- tests in round brackets after the first
record Others (s : Context) (ts : MoreTests) : Type 0 where
  forms : TestForms
  is : more_forms_of s.required ts ≡ Some forms
  bounded : AreBoundedTests forms
  around : AreTestsIn (length s.loops) forms
  variables : tests_variables forms ≡ names_brought (more_visits s ts)

pub both_names : (vs ws : List Visit) → names_brought vs ++ names_brought ws ≡ names_brought (vs ++ ws)
both_names vs ws = sym (flat_map-append (λ (v : Visit). v.names) vs ws)

-- where the tests are those that are taken, all are looked at
pub all_looked_at : (s : Context) (o : Option Row) (row : Row) (tests : TestsTree) → o ≡ Some row → same_tests row.signature.tests (kind_of tests) ≡ true
    → (if looks_inside o then tests_visits s tests else []) ≡ tests_visits s tests
all_looked_at s o row tests is same = ap (λ o. if looks_inside o then tests_visits s tests else []) is ∙ step row.signature.tests tests same
  where
    step : (taken : Tests) (tests : TestsTree) → same_tests taken (kind_of tests) ≡ true → (if takes_tests taken then tests_visits s tests else []) ≡ tests_visits s tests
    step Nothing no_test h = refl
    step Nothing (one_test t) h = absurd (cc)
    step Nothing (test_list t ts) h = absurd (cc)
    step One tests h = refl
    step Bracketed tests h = refl

mutual
  pub test_exists : (s : Context) (i : InvocationTree) → AreFaultless (visits_of None s i) → Made (length s.loops) (names_brought (visits_of None s i)) (test_form_of s.required i)
  test_exists s (invocation token word args tests) h =
      let name = known test_row UnknownTest (known_cause s args (kind_of tests) None) (test_named word) h.0 in
      let well = test_well_formed s name.0 args (kind_of tests) name.2 in
      let read = well.form.read in
      let looked = all_looked_at s (test_known word) (test_row name.0) tests (ap (option_map test_row) name.1) well.same in
      let inner = inner_exists s tests (subst AreFaultless looked h.1) in
      let f = made s name.0 token read inner.inner well.form.complete well.form.alone well.form.unselected (ap (same_tests (test_signature name.0).tests) inner.kind ∙ well.same) well.params well.few well.sound inner.bounded well.stands inner.around in
      record {
        form = f.form;
        is = all_taken (inner_forms_of s.required tests) inner.inner (test_named word) name.0 (λ name. reading (test_signature name) args) read (λ inner name read. test_of s.required name token read inner) inner.is name.1 well.form.is
            ∙ f.is;
        bounded = f.bounded;
        around = f.around;
        variables = f.variables
            ∙ names_found test_row s.required args (test_named word) name.0 (own_names s read) (inner_variables inner.inner) _ name.1
            (ap (λ o. names_mentioned (where_required s.required (mentions_read (test_row name.0).role o))) (sym well.form.is)) (inner.variables ∙ ap names_brought (sym looked));
      }

  pub inner_exists : (s : Context) (tests : TestsTree) → AreFaultless (tests_visits s tests) → Inner s tests
  inner_exists s no_test h = record { inner = none; is = refl; kind = refl; bounded = tt; around = tt; variables = refl }
  inner_exists s (one_test t) h =
      let f = test_exists s t h in
      record { inner = one f.form; is = ap (option_map one) f.is; kind = refl; bounded = f.bounded; around = f.around; variables = f.variables }
  inner_exists s (test_list t ts) h =
      let parts = faultless_both (visits_of None s t) (more_visits s ts) h in
      let f = test_exists s t parts.0 in
      let fs = more_exist s ts parts.1 in
      record {
        inner = bracketed f.form fs.forms;
        is = ap (λ o. o >>= λ f. option_map (bracketed f) (more_forms_of s.required ts)) f.is ∙ ap (option_map (bracketed f.form)) fs.is;
        kind = refl;
        bounded = (f.bounded, fs.bounded);
        around = (f.around, fs.around);
        variables = ap (λ names. names ++ tests_variables fs.forms) f.variables ∙ ap (λ names. names_brought (visits_of None s t) ++ names) fs.variables ∙ both_names (visits_of None s t) (more_visits s ts);
      }

  more_exist : (s : Context) (ts : MoreTests) → AreFaultless (more_visits s ts) → Others s ts
  more_exist s no_more h = record { forms = no_other; is = refl; bounded = tt; around = tt; variables = refl }
  more_exist s (next t ts) h =
      let parts = faultless_both (visits_of None s t) (more_visits s ts) h in
      let f = test_exists s t parts.0 in
      let fs = more_exist s ts parts.1 in
      record {
        forms = test f.form fs.forms;
        is = ap (λ o. o >>= λ f. option_map (test f) (more_forms_of s.required ts)) f.is ∙ ap (option_map (test f.form)) fs.is;
        bounded = (f.bounded, fs.bounded);
        around = (f.around, fs.around);
        variables = ap (λ names. names ++ tests_variables fs.forms) f.variables ∙ ap (λ names. names_brought (visits_of None s t) ++ names) fs.variables ∙ both_names (visits_of None s t) (more_visits s ts);
      }
