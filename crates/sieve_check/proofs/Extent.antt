-- A typed form has no more octets than the commands that are written so.
use Rattle.std.proofs.Common.{◌≡◌, ℕ, ◌+◌, ◌*◌, ◌≤◌, suc, Bool, true, false, if◌then◌else◌, List, [], ◌∷◌, ◌++◌, length, map, Option, Some, None, arith, refl, sym, ap, subst, ◌∙◌, inl, inr}
use Rattle.std.specs.Char.{to_ascii_lowercase}
use Rattle.std.proofs.lemmas.List.{length-map}
use Rattle.std.proofs.lemmas.List.Sums.{sum_by-append}
use Rattle.std.proofs.lemmas.Option.{same_Some}
use Rattle.octets.specs.Ascii.{lowercase_of}
use Rattle.octets.specs.Limits.{max_script}
use Rattle.bytecode_format.specs.declared.question.Order.{Order}
use Rattle.bytecode_format.specs.declared.question.Order.TheVariants.{Over}
use Rattle.bytecode_format.specs.declared.question.Question.{Question}
use Rattle.bytecode_format.specs.declared.question.Takes.{Takes}
use Rattle.bytecode_format.specs.Questions.{no_list, row_of}
use Rattle.sieve_parser.specs.Tree.{ArgumentTree, text, text_list, amount, label, InvocationTree, invocation, TestsTree, no_test, one_test, test_list, MoreTests, last as no_more, next, CommandTree, simple, block, CommandsTree, no_command as no_tree, command as tree}
use Rattle.sieve_parser.specs.Lexemes.{semicolon, closing_parenthesis, closing_bracket, opening_brace, closing_brace}
use Rattle.sieve_parser.specs.Grammar.{at_depth, more_strings_spelled, arguments_spelled, argument_spelled, invocation_spelled, tests_spelled, more_tests_spelled, command_spelled, commands_spelled}
use Rattle.sieve_parser.specs.Scripts.{IsTree}
use Rattle.sieve_parser.proofs.Extent.{octets_of, octets-append, octets_fit}
use Rattle.bytecode_format.specs.declared.modifiers.Modifiers.{Modifiers}
use Rattle.sieve_check.specs.declared.names.Capability.TheVariants.{Variables}
use Rattle.sieve_check.specs.declared.table.CommandName.{CommandName}
use Rattle.sieve_check.specs.declared.table.CommandName.TheVariants.{Require, If, Elsif, Else, ForEveryPart}
use Rattle.sieve_check.specs.declared.table.TestName.{TestName}
use Rattle.sieve_check.specs.declared.table.TestName.TheVariants.{Not, AllOf, AnyOf}
use Rattle.sieve_check.specs.declared.typed.Act.{Act}
use Rattle.sieve_check.specs.declared.typed.Act.TheVariants as act
use Rattle.sieve_check.specs.declared.names.Tag.{Tag}
use Rattle.sieve_check.specs.declared.signature.Signature.{Signature}
use Rattle.sieve_check.specs.declared.signature.Tags.{Tags}
use Rattle.sieve_check.specs.Names.{command_named, test_named}
use Rattle.sieve_check.specs.Arguments.{reading}
use Rattle.sieve_check.specs.Signatures.{Read, Given, with_tag, with_argument, command_signature, test_signature}
use Rattle.sieve_check.specs.Rules.{after_invocation, invocation_of, loops_opened}
use Rattle.sieve_check.specs.Surroundings.{Context, at_start, has_capability, inside, loops_left}
use Rattle.sieve_check.specs.Typed.{Template, Strings, in_order, TestForm, asks, negation, all_of, any_of, TestForms, no_test as no_other, test, for_every_part, CommandForms, no_command, command, BranchForms, no_branch, otherwise}
use Rattle.sieve_check.specs.Acts.{Acting, act_row, act_strings, acting, bare, filing, setting, taking, leaving, inactive}
use Rattle.sieve_check.specs.Questions.{Asking, asking, by_number, by_tags, unasked}
use Rattle.sieve_check.specs.Extent.{string_extent, strings_extent, names_extent, test_extent, tests_extent, command_extent, commands_extent, branches_extent}
use Rattle.sieve_check.specs.FormOf.{InnerForms, none, one, bracketed, number_in, template_of, text_in, list_in, list_taken, strings_in, size_of, question_by, question_of, test_of, test_form_of, inner_forms_of, more_forms_of, PartForm, nothing, action, first, next_branch, last, with_text, setting_in, taking_in, act_by, act_of, action_at, simple_of, block_of, simple_part, block_part, Forms, closed, closed_by, after_none, put, part_of, forms_of, IsFormOf}
use Rattle.sieve_check.proofs.Options.{step_some, map_some}
use Rattle.sieve_check.proofs.Regular.{IsRegular, IsRegularAct, regular, regular_act}
use Rattle.sieve_check.proofs.TagSteps.{argument_taken, IsKept, kept_by_reading}
use Rattle.sieve_check.proofs.Templates.{written, template_fits, templates_fit}

-- an order that was given, as a number
abbrev given_order : Option Order → ℕ
given_order None = 0
given_order (Some order) = 1

one_at_most : (o : Option Order) → given_order o ≤ 1
one_at_most None = omega arith
one_at_most (Some order) = omega arith

-- how many octets arguments have, at least
abbrev argument_extent : ArgumentTree → ℕ
argument_extent (text s) = 2 + length s
argument_extent (text_list s ss) = written (s ∷ ss)
argument_extent (amount n) = 1
argument_extent (label name) = 1

abbrev arguments_extent : List ArgumentTree → ℕ
arguments_extent [] = 0
arguments_extent (a ∷ args) = argument_extent a + arguments_extent args

argument_some : (a : ArgumentTree) → 1 ≤ argument_extent a
argument_some (text s) = omega arith
argument_some _ = omega arith

-- each tag that was read is an argument, as is that of `:param`
abbrev IsWithin : ℕ → Option Tag → Given → List ArgumentTree → Type 0
IsWithin most awaiting given args = given_order given.tags.order + arguments_extent given.params + arguments_extent args ≤ most

argument_within : (most : ℕ) (tag : Tag) (a : ArgumentTree) (given more : Given) (args : List ArgumentTree) → with_argument tag a given ≡ Some more → IsWithin most (Some tag) given (a ∷ args) → IsWithin most None more args
argument_within most tag a given more args h within =
    elim (argument_taken tag a given more h).0 [
      | inl c ↦ omega (arith, within, one_at_most more.tags.order, argument_some a, ap arguments_extent c.1)
      | inr c ↦ subst (λ (g : Given). IsWithin most None g args) c.2 (omega (arith, within))
    ]

-- the arguments, as they were read
read_fits : (signature : Signature) (args : List ArgumentTree) (read : Read) → reading signature args ≡ Some read → given_order read.tags.order + arguments_extent read.params + arguments_extent read.positional ≤ arguments_extent args
read_fits signature args read h =
    let P = IsWithin (arguments_extent args) in
    let kept : IsKept signature P = record {
      tag = λ tag name given rest h within. omega (arith, within, one_at_most (with_tag tag given.tags).order);
      argument = argument_within (arguments_extent args);
    } in
    kept_by_reading signature P kept args read h (omega arith)

text_fits : (xs : List ArgumentTree) (x : List ℕ) → text_in xs ≡ Some x → 2 + length x ≤ arguments_extent xs
text_fits (text t ∷ []) x h = subst (λ y. 2 + length y ≤ arguments_extent (text t ∷ [])) (same_Some t x h) (omega arith)
text_fits _ x h = absurd (cc)

list_fits : (s : Context) (a : ArgumentTree) (l : List Template) → list_in s.required a ≡ Some l → strings_extent l ≤ argument_extent a
list_fits s (text x) l h = subst (λ l. strings_extent l ≤ 2 + length x) (same_Some (template_of s.required x ∷ []) l h) (omega (arith, templates_fit (has_capability Variables s.required) (x ∷ [])))
list_fits s (text_list x xs) l h = subst (λ l. strings_extent l ≤ written (x ∷ xs)) (same_Some (map (template_of s.required) (x ∷ xs)) l h) (templates_fit (has_capability Variables s.required) (x ∷ xs))
list_fits s _ l h = absurd (cc)

-- the strings of a test
list_taken_fits : (s : Context) (b : Bool) (args : List ArgumentTree) (r : List Template × List ArgumentTree) → list_taken s.required b args ≡ Some r → strings_extent r.0 + arguments_extent r.1 ≤ arguments_extent args
list_taken_fits s false args r h = subst (λ (r : List Template × List ArgumentTree). strings_extent r.0 + arguments_extent r.1 ≤ arguments_extent args) (same_Some _ r h) (omega arith)
list_taken_fits s true [] r h = absurd (cc)
list_taken_fits s true (a ∷ args) r h =
    let strings = map_some (list_in s.required a) _ r h in
    subst (λ (r : List Template × List ArgumentTree). strings_extent r.0 + arguments_extent r.1 ≤ arguments_extent (a ∷ args)) (same_Some _ r strings.2) (omega (arith, list_fits s a strings.0 strings.1))

strings_fit : (s : Context) (takes : Takes) (read : Read) (strings : Strings) → strings_in s.required takes read ≡ Some strings → strings_extent (in_order strings) ≤ arguments_extent read.params + arguments_extent read.positional
strings_fit s takes read strings h =
    let names = step_some (list_taken s.required takes.names read.positional) _ strings h in
    let params = step_some (list_taken s.required takes.params read.params) _ strings names.2 in
    let keys = step_some (list_taken s.required takes.keys names.0.1) _ strings params.2 in
    subst (λ (strings : Strings). strings_extent (in_order strings) ≤ arguments_extent read.params + arguments_extent read.positional) (same_Some _ strings keys.2) (omega (
      arith,
      list_taken_fits s takes.names read.positional names.0 names.1,
      list_taken_fits s takes.params read.params params.0 params.1,
      list_taken_fits s takes.keys names.0.1 keys.0 keys.1,
      sum_by-append string_extent (names.0.0 ++ params.0.0) keys.0.0,
      sum_by-append string_extent names.0.0 params.0.0,
    ))

-- a number with its tag
amount_fits : (xs : List ArgumentTree) (n : ℕ) → number_in xs ≡ Some n → 1 ≤ arguments_extent xs
amount_fits (amount m ∷ xs) n h = omega arith
amount_fits _ n h = absurd (cc)

-- what a test asks, with its numbers and its strings
abbrev IsAskedWithin : Question → Strings → Read → Type 0
IsAskedWithin q strings read = 2 * length (row_of q).numbers + strings_extent (in_order strings) ≤ given_order read.tags.order + arguments_extent read.params + arguments_extent read.positional

size_fits : (s : Context) (read : Read) (make : Order → ℕ → Question) (q : Question) (strings : Strings) → ((order : Order) (n : ℕ) → (row_of (make order n)).takes ≡ no_list) → ((order : Order) (n : ℕ) → (row_of (make order n)).numbers ≡ n ∷ [])
    → size_of make read ≡ Some q → strings_in s.required (row_of q).takes read ≡ Some strings → IsAskedWithin q strings read
size_fits s read make q strings unlisted numbered h taken =
    let order = step_some read.tags.order _ q h in
    let n = map_some (number_in read.positional) (make order.0) q order.2 in
    let same : make order.0 n.0 ≡ q = same_Some (make order.0 n.0) q n.2 in
    let same_strings : strings_in s.required no_list read ≡ Some strings = ap (λ takes. strings_in s.required takes read) (sym (unlisted order.0 n.0) ∙ ap (λ (q : Question). (row_of q).takes) same) ∙ taken in
    let empty : strings_extent (in_order strings) ≡ 0 = ap (λ (strings : Strings). strings_extent (in_order strings)) (sym (same_Some _ strings same_strings)) in
    let numbers : length (row_of q).numbers ≡ 1 = ap (λ (q : Question). length (row_of q).numbers) (sym same) ∙ ap length (numbered order.0 n.0) in
    let given : given_order read.tags.order ≡ 1 = ap given_order order.1 in
    omega (arith, numbers, empty, given, amount_fits read.positional n.0 n.1)

-- a question that is made so
asked_fits : (s : Context) (name : TestName) (how : Asking) (read : Read) (q : Question) (strings : Strings) → asking name ≡ how → question_by how read ≡ Some q → strings_in s.required (row_of q).takes read ≡ Some strings → IsAskedWithin q strings read
asked_fits s name (by_tags make) read q strings is h taken =
    let r = subst (λ (how : Asking). IsRegular how name read.tags Over 0) is (regular name read.tags Over 0) in
    let numbers : length (row_of q).numbers ≡ 0 = ap (λ (q : Question). length (row_of q).numbers) (sym (same_Some (make read.tags) q h)) ∙ ap length r.numbers in
    omega (arith, numbers, strings_fit s (row_of q).takes read strings taken)
asked_fits s name (by_number make) read q strings is h taken =
    let r = λ (order : Order) (n : ℕ). subst (λ (how : Asking). IsRegular how name read.tags order n) is (regular name read.tags order n) in
    size_fits s read make q strings (λ order n. (r order n).unlisted) (λ order n. (r order n).numbers) h taken
asked_fits s name unasked read q strings is h taken = absurd (cc)

more_strings_fit : (d : ℕ) (ss : List (List ℕ)) → written ss ≤ octets_of (more_strings_spelled d ss)
more_strings_fit d [] = omega arith
more_strings_fit d (s ∷ ss) = omega (arith, more_strings_fit d ss)

argument_fits : (d : ℕ) (a : ArgumentTree) → argument_extent a ≤ octets_of (argument_spelled d a)
argument_fits d (text s) = omega arith
argument_fits d (text_list s ss) = omega (arith, more_strings_fit d ss, octets-append (more_strings_spelled d ss) (at_depth d closing_bracket ∷ []))
argument_fits d (amount n) = omega arith
argument_fits d (label name) = omega arith

arguments_fit : (d : ℕ) (args : List ArgumentTree) → arguments_extent args ≤ octets_of (arguments_spelled d args)
arguments_fit d [] = omega arith
arguments_fit d (a ∷ args) = omega (arith, arguments_fit d args, argument_fits d a, octets-append (argument_spelled d a) (arguments_spelled d args))

-- how many octets tests behind arguments have, at least
abbrev inner_extent : InnerForms → ℕ
inner_extent none = 0
inner_extent (one f) = test_extent f
inner_extent (bracketed f fs) = 2 + test_extent f + tests_extent fs

test_of_fits : (s : Context) (name : TestName) (at : ℕ) (args : List ArgumentTree) (read : Read) (inner : InnerForms) (f : TestForm) → reading (test_signature name) args ≡ Some read → test_of s.required name at read inner ≡ Some f
    → test_extent f ≤ 1 + arguments_extent args + inner_extent inner
test_of_fits s name at args read none f h is =
    let q = step_some (question_of name read) _ f is in
    let strings = map_some (strings_in s.required (row_of q.0).takes read) (λ strings. asks q.0 strings at) f q.2 in
    subst (λ x. test_extent x ≤ 1 + arguments_extent args + 0) (same_Some (asks q.0 strings.0 at) f strings.2)
    (omega (arith, asked_fits s name (asking name) read q.0 strings.0 refl q.1 strings.1, read_fits (test_signature name) args read h))
test_of_fits s Not at args read (one t) f h is = subst (λ x. test_extent x ≤ 1 + arguments_extent args + test_extent t) (same_Some (negation t at) f is) (omega arith)
test_of_fits s AllOf at args read (bracketed t ts) f h is = subst (λ x. test_extent x ≤ 1 + arguments_extent args + (2 + test_extent t + tests_extent ts)) (same_Some (all_of t ts at) f is) (omega arith)
test_of_fits s AnyOf at args read (bracketed t ts) f h is = subst (λ x. test_extent x ≤ 1 + arguments_extent args + (2 + test_extent t + tests_extent ts)) (same_Some (any_of t ts at) f is) (omega arith)
test_of_fits s _ at args read _ f h is = absurd (cc)

mutual
  test_fits : (s : Context) (i : InvocationTree) (f : TestForm) (d : ℕ) → test_form_of s.required i ≡ Some f → test_extent f ≤ octets_of (invocation_spelled d i)
  test_fits s (invocation token word args tests) f d h =
      let inner = step_some (inner_forms_of s.required tests) _ f h in
      let name = step_some (test_named word) _ f inner.2 in
      let read = step_some (reading (test_signature name.0) args) _ f name.2 in
      omega (
        arith,
        test_of_fits s name.0 token args read.0 inner.0 f read.1 read.2,
        inner_fits s tests inner.0 d inner.1,
        arguments_fit d args,
        octets-append (arguments_spelled d args) (tests_spelled d tests),
      )

  inner_fits : (s : Context) (tests : TestsTree) (inner : InnerForms) (d : ℕ) → inner_forms_of s.required tests ≡ Some inner → inner_extent inner ≤ octets_of (tests_spelled d tests)
  inner_fits s no_test inner d h = subst (λ x. inner_extent x ≤ 0) (same_Some none inner h) (omega arith)
  inner_fits s (one_test t) inner d h =
      let f = map_some (test_form_of s.required t) one inner h in
      subst (λ x. inner_extent x ≤ octets_of (invocation_spelled (suc d) t)) (same_Some (one f.0) inner f.2) (test_fits s t f.0 (suc d) f.1)
  inner_fits s (test_list t ts) inner d h =
      let f = step_some (test_form_of s.required t) _ inner h in
      let fs = map_some (more_forms_of s.required ts) (bracketed f.0) inner f.2 in
      subst (λ x. inner_extent x ≤ octets_of (tests_spelled d (test_list t ts))) (same_Some (bracketed f.0 fs.0) inner fs.2) (omega (
        arith,
        test_fits s t f.0 (suc d) f.1,
        more_fit s ts fs.0 d fs.1,
        octets-append (invocation_spelled (suc d) t) (more_tests_spelled d ts ++ at_depth d closing_parenthesis ∷ []),
        octets-append (more_tests_spelled d ts) (at_depth d closing_parenthesis ∷ []),
      ))

  more_fit : (s : Context) (ts : MoreTests) (fs : TestForms) (d : ℕ) → more_forms_of s.required ts ≡ Some fs → tests_extent fs ≤ octets_of (more_tests_spelled d ts)
  more_fit s no_more fs d h = subst (λ x. tests_extent x ≤ 0) (same_Some no_other fs h) (omega arith)
  more_fit s (next t ts) fs d h =
      let f = step_some (test_form_of s.required t) _ fs h in
      let others = map_some (more_forms_of s.required ts) (test f.0) fs f.2 in
      subst (λ x. tests_extent x ≤ octets_of (more_tests_spelled d (next t ts))) (same_Some (test f.0 others.0) fs others.2) (omega (
        arith,
        test_fits s t f.0 (suc d) f.1,
        more_fit s ts others.0 d others.1,
        octets-append (invocation_spelled (suc d) t) (more_tests_spelled d ts),
      ))

-- how many octets a part has, at least
abbrev part_extent : PartForm → ℕ
part_extent nothing = 0
part_extent (action c) = command_extent c
part_extent (first f body at) = 3 + test_extent f + commands_extent body
part_extent (next_branch f body at) = 3 + test_extent f + commands_extent body
part_extent (last body) = 3 + commands_extent body

-- what an action does, with its string
abbrev IsActWithin : Act × Template → ℕ → Type 0
IsActWithin done most = names_extent (act_row done.0).sets + strings_extent (act_strings done.0 done.1) ≤ most

bare_fits : (act : Act) (done : Act × Template) (most : ℕ) → (act_row act).string ≡ false → (act_row act).sets ≡ [] → Some (act, []) ≡ Some done → IsActWithin done most
bare_fits act done most plain unset h =
    let string : strings_extent (act_strings act []) ≡ 0 = ap (λ b. strings_extent (if b then [] ∷ [] else [])) plain in
    let names : names_extent (act_row act).sets ≡ 0 = ap names_extent unset in
    subst (λ (done : Act × Template). IsActWithin done most) (same_Some (act, []) done h) (omega (arith, string, names))

text_act_fits : (s : Context) (act : Act) (xs : List ArgumentTree) (done : Act × Template) → (act_row act).sets ≡ [] → with_text s.required act xs ≡ Some done → IsActWithin done (arguments_extent xs)
text_act_fits s act xs done unset h =
    let string = map_some (text_in xs) _ done h in
    let t = template_of s.required string.0 in
    let names : names_extent (act_row act).sets ≡ 0 = ap names_extent unset in
    subst (λ (done : Act × Template). IsActWithin done (arguments_extent xs)) (same_Some (act, t) done string.2)
    (omega (arith, names, string_at_most t (act_row act).string, text_fits xs string.0 string.1, template_fits (has_capability Variables s.required) string.0))
  where
    string_at_most : (t : Template) (b : Bool) → strings_extent (if b then t ∷ [] else []) ≤ string_extent t
    string_at_most t true = omega arith
    string_at_most t false = omega arith

setting_fits : (s : Context) (m : Modifiers) (xs : List ArgumentTree) (done : Act × Template) → setting_in s.required m xs ≡ Some done → IsActWithin done (arguments_extent xs)
setting_fits s m (text name ∷ text x ∷ []) done h =
    let value = template_of s.required x in
    subst (λ (done : Act × Template). IsActWithin done (arguments_extent (text name ∷ text x ∷ []))) (same_Some (act.Set m (lowercase_of name), value) done h)
    (omega (arith, length-map name to_ascii_lowercase, template_fits (has_capability Variables s.required) x))
setting_fits s m _ done h = absurd (cc)

taking_fits : (tags : Tags) (xs : List ArgumentTree) (done : Act × Template) → taking_in tags xs ≡ Some done → IsActWithin done (arguments_extent xs)
taking_fits tags xs done h =
    let name = map_some (text_in xs) _ done h in
    subst (λ (done : Act × Template). IsActWithin done (arguments_extent xs)) (same_Some _ done name.2)
    (omega (arith, length-map name.0 to_ascii_lowercase, text_fits xs name.0 name.1))

-- an act that is made so
act_fits : (s : Context) (name : CommandName) (how : Acting) (read : Read) (done : Act × Template) → acting name ≡ how → act_by s how read ≡ Some done → IsActWithin done (arguments_extent read.positional)
act_fits s name (bare act) read done is h =
    let r = subst (λ (how : Acting). IsRegularAct how name) is (regular_act name) in
    bare_fits act done (arguments_extent read.positional) r.string r.sets h
act_fits s name (filing act) read done is h =
    let r = subst (λ (how : Acting). IsRegularAct how name) is (regular_act name) in
    text_act_fits s act read.positional done r.sets h
act_fits s name setting read done is h = setting_fits s read.tags.modifiers read.positional done h
act_fits s name taking read done is h = taking_fits read.tags read.positional done h
act_fits s name leaving read done is h =
    let loops = map_some (loops_left read.name s.loops) _ done h in
    subst (λ (done : Act × Template). IsActWithin done (arguments_extent read.positional)) (same_Some _ done loops.2) (omega arith)
act_fits s name inactive read done is h = absurd (cc)

simple_fits : (s : Context) (name : CommandName) (at : ℕ) (args : List ArgumentTree) (read : Read) (inner : InnerForms) (p : PartForm) → reading (command_signature name) args ≡ Some read → simple_of s name at read inner ≡ Some p → part_extent p ≤ 2 + arguments_extent args
simple_fits s Require at args read none p r h = subst (λ x. part_extent x ≤ 2 + arguments_extent args) (same_Some nothing p h) (omega arith)
simple_fits s name at args read none p r h =
    let done = map_some (act_of s name read) (action_at at) p h in
    subst (λ x. part_extent x ≤ 2 + arguments_extent args) (same_Some (action_at at done.0) p done.2) (omega (arith, act_fits s name (acting name) read done.0 refl done.1, read_fits (command_signature name) args read r))
simple_fits s _ at args read _ p r h = absurd (cc)

block_fits : (name : CommandName) (at : ℕ) (inner : InnerForms) (body : CommandForms) (p : PartForm) → block_of name at inner body ≡ Some p → part_extent p ≤ 3 + inner_extent inner + commands_extent body
block_fits If at (one f) body p h = subst (λ x. part_extent x ≤ 3 + test_extent f + commands_extent body) (same_Some (first f body at) p h) (omega arith)
block_fits Elsif at (one f) body p h = subst (λ x. part_extent x ≤ 3 + test_extent f + commands_extent body) (same_Some (next_branch f body at) p h) (omega arith)
block_fits Else at none body p h = subst (λ x. part_extent x ≤ 3 + 0 + commands_extent body) (same_Some (last body) p h) (omega arith)
block_fits ForEveryPart at none body p h = subst (λ x. part_extent x ≤ 3 + 0 + commands_extent body) (same_Some (action (for_every_part body at)) p h) (omega arith)
block_fits _ at _ body p h = absurd (cc)

abbrev forms_extent : Forms → ℕ
forms_extent r = branches_extent r.branches + commands_extent r.commands

closed_fits : (branches : BranchForms) (commands cs : CommandForms) → closed_by branches commands ≡ Some cs → commands_extent cs ≤ branches_extent branches + commands_extent commands
closed_fits no_branch commands cs h = let e : commands_extent commands ≡ commands_extent cs = ap commands_extent (same_Some commands cs h) in omega (arith, e)
closed_fits _ commands cs h = absurd (cc)

put_fits : (p : PartForm) (rest r : Forms) → put p rest ≡ Some r → forms_extent r ≤ part_extent p + forms_extent rest
put_fits nothing rest r h =
    let cs = map_some (closed rest) after_none r h in
    subst (λ x. forms_extent x ≤ part_extent nothing + forms_extent rest) (same_Some (after_none cs.0) r cs.2) (omega (arith, closed_fits rest.branches rest.commands cs.0 cs.1))
put_fits (action c) rest r h =
    let cs = map_some (closed rest) (λ cs. after_none (command c cs)) r h in
    subst (λ x. forms_extent x ≤ part_extent (action c) + forms_extent rest) (same_Some (after_none (command c cs.0)) r cs.2) (omega (arith, closed_fits rest.branches rest.commands cs.0 cs.1))
put_fits (first f body at) rest r h = subst (λ x. forms_extent x ≤ part_extent (first f body at) + forms_extent rest) (same_Some _ r h) (omega arith)
put_fits (next_branch f body at) rest r h = subst (λ x. forms_extent x ≤ part_extent (next_branch f body at) + forms_extent rest) (same_Some _ r h) (omega arith)
put_fits (last body) rest r h =
    let cs = map_some (closed rest) (λ cs. let x : Forms = record { branches = otherwise body; commands = cs } in x) r h in
    subst (λ x. forms_extent x ≤ part_extent (last body) + forms_extent rest) (same_Some _ r cs.2) (omega (arith, closed_fits rest.branches rest.commands cs.0 cs.1))

simple_part_fits : (s : Context) (i : InvocationTree) (p : PartForm) (d : ℕ) → simple_part s i ≡ Some p → part_extent p ≤ octets_of (command_spelled d (simple i))
simple_part_fits s (invocation token word args tests) p d h =
    let inner = step_some (inner_forms_of s.required tests) _ p h in
    let name = step_some (command_named word) _ p inner.2 in
    let read = step_some (reading (command_signature name.0) args) _ p name.2 in
    omega (arith, simple_fits s name.0 token args read.0 inner.0 p read.1 read.2, arguments_fit d args, octets-append (arguments_spelled d args) (tests_spelled d tests), octets-append (invocation_spelled d (invocation token word args tests)) (at_depth d semicolon ∷ []))

block_part_fits : (s : Context) (i : InvocationTree) (body : CommandForms) (p : PartForm) (d : ℕ) → block_part s i body ≡ Some p → part_extent p ≤ 2 + octets_of (invocation_spelled d i) + commands_extent body
block_part_fits s (invocation token word args tests) body p d h =
    let inner = step_some (inner_forms_of s.required tests) _ p h in
    let name = step_some (command_named word) _ p inner.2 in
    let read = step_some (reading (command_signature name.0) args) _ p name.2 in
    omega (
      arith,
      block_fits name.0 token inner.0 body p read.2,
      inner_fits s tests inner.0 d inner.1,
      octets-append (arguments_spelled d args) (tests_spelled d tests),
    )

mutual
  part_fits : (s : Context) (c : CommandTree) (p : PartForm) (d : ℕ) → part_of s c ≡ Some p → part_extent p ≤ octets_of (command_spelled d c)
  part_fits s (simple i) p d h = simple_part_fits s i p d h
  part_fits s (block i cs) p d h =
      let around = step_some (inside (loops_opened i) s) _ p h in
      let forms = step_some (forms_of around.0 cs) _ p around.2 in
      let body = step_some (closed forms.0) _ p forms.2 in
      omega (
        arith,
        block_part_fits s i body.0 p d body.2,
        closed_fits forms.0.branches forms.0.commands body.0 body.1,
        forms_fit around.0 cs forms.0 (suc d) forms.1,
        octets-append (invocation_spelled d i) (at_depth (suc d) opening_brace ∷ (commands_spelled (suc d) cs ++ at_depth (suc d) closing_brace ∷ [])),
        octets-append (commands_spelled (suc d) cs) (at_depth (suc d) closing_brace ∷ []),
      )

  forms_fit : (s : Context) (cs : CommandsTree) (r : Forms) (d : ℕ) → forms_of s cs ≡ Some r → forms_extent r ≤ octets_of (commands_spelled d cs)
  forms_fit s no_tree r d h = subst (λ x. forms_extent x ≤ 0) (same_Some (after_none no_command) r h) (omega arith)
  forms_fit s (tree c cs) r d h =
      let after = after_invocation s (invocation_of c) in
      let rest = step_some (forms_of after cs) _ r h in
      let p = step_some (part_of s c) _ r rest.2 in
      omega (arith, put_fits p.0 rest.0 r p.2, part_fits s c p.0 d p.1, forms_fit after cs rest.0 d rest.1, octets-append (command_spelled d c) (commands_spelled d cs))

-- commands with the form of a script
pub form_fits : (cs : CommandsTree) (form : CommandForms) → IsTree cs → IsFormOf cs form → commands_extent form ≤ max_script
form_fits cs form (script, parsed) is =
    let forms = step_some (forms_of at_start cs) closed form is in
    omega (arith, closed_fits forms.0.branches forms.0.commands form forms.2, forms_fit at_start cs forms.0 0 forms.1, octets_fit script cs parsed, parsed.0)
