-- The first pass, one piece at a time.
use Rattle.std.proofs.Common.{◌≡◌, ℕ, nat_eq, bytes_eq, ◌+◌, ◌<◌, ◌≤◌, List, [], ◌++◌, map, drop, length, get_or, Option, Result, Ok, Err, OnOk, ◌⊎◌, inl, inr, sym, ap, subst, ◌∙◌, refl}
use Rattle.std.specs.Global.{Vec, Box}
use Rattle.std.proofs.lemmas.Grind.{flat_map-append}
use Rattle.std.proofs.lemmas.List.{append-nil}
use Rattle.octets.proofs.Once.{more_after}
use Rattle.sieve_check.specs.declared.typed.Branch.{Branch}
use Rattle.sieve_check.specs.declared.typed.Command.{Command}
use Rattle.sieve_check.specs.declared.typed.Act.{Act}
use Rattle.sieve_check.specs.declared.typed.Command.TheVariants.{Does, If}
use Rattle.sieve_check.specs.declared.typed.Segment.{Segment}
use Rattle.sieve_check.specs.declared.typed.Test.{Test}
use Rattle.sieve_check.specs.declared.typed.Test.TheVariants.{AllOf, AnyOf}
use Rattle.sieve_check.specs.Acts.{act_row, act_strings}
use Rattle.sieve_check.specs.Typed.{Template, does, BranchForms}
use Rattle.sieve_check.specs.TypedView.{templates_of, test_form, tests_of, command_form, commands_form}
use Rattle.sieve_check.specs.Private.{branch_forms, else_form}
use Rattle.sieve_check.specs.Variables.{string_variables, strings_variables}
use Rattle.sieve_check.proofs.Forms.{form_all_of, form_any_of}
use Rattle.sieve_compiler.specs.Strings.{string_strings, strings_of}
use Rattle.sieve_compiler.specs.Growing.{Uses, uses_with, joined, segment_uses, segments_uses, string_uses, strings_uses, test_uses, tests_uses, command_uses, commands_uses, branches_uses, with_uses}
use Rattle.sieve_compiler.specs.Tables.{Tables}
use Rattle.sieve_compiler.proofs.Walks.{split, first_test, first_command, first_branch, no_branch_left, if_form, does_form}

-- what one piece uses, and then another
pub uses_after : (table : Tables) (ms ns : Uses) → with_uses table (joined ms ns) ≡ with_uses (with_uses table ms) ns
uses_after table ms ns = rw (more_after nat_eq table.numbers ms.numbers ns.numbers, more_after bytes_eq table.strings ms.strings ns.strings, more_after bytes_eq table.variables ms.variables ns.variables) refl

-- the same uses, said otherwise
pub used_as : {T E : Type 0} (r : Result T E) (table new : Tables) (ms ns : Uses) → ms ≡ ns → OnOk r (new ≡ with_uses table ms) → OnOk r (new ≡ with_uses table ns)
used_as r table new ms ns same h = subst (λ (l : Uses). OnOk r (new ≡ with_uses table l)) same h

-- what one piece uses, then what is left
then_left : (table next : Tables) (ms ns all : Uses) → next ≡ with_uses table ms → joined ms ns ≡ all → with_uses next ns ≡ with_uses table all
then_left table next ms ns all e f = ap (λ l. with_uses l ns) e ∙ sym (uses_after table ms ns) ∙ ap (λ l. with_uses table l) f

strings_joined : (first second : List Template) → joined (strings_uses first) (strings_uses second) ≡ strings_uses (first ++ second)
strings_joined first second = rw (flat_map-append string_strings first second, flat_map-append string_variables first second) refl

added_after : {T E : Type 0} (r : Result T E) (table middle new : Tables) (ms ns : Uses) → middle ≡ with_uses table ms → OnOk r (new ≡ with_uses middle ns) → OnOk r (new ≡ with_uses table (joined ms ns))
added_after (Ok x) table middle new ms ns e f = f ∙ then_left table middle ms ns (joined ms ns) e refl
added_after (Err x) table middle new ms ns e f = f

-- three lists of strings
pub lists_added : {T E : Type 0} (r : Result T E) (table first second new : Tables) (names params keys : List Template) → first ≡ with_uses table (strings_uses names) → second ≡ with_uses first (strings_uses params) → OnOk r (new ≡ with_uses second (strings_uses keys))
    → OnOk r (new ≡ with_uses table (strings_uses (names ++ params ++ keys)))
lists_added r table first second new names params keys a b h =
    let two : joined (strings_uses names) (strings_uses params) ≡ strings_uses (names ++ params) = strings_joined names params in
    let both : second ≡ with_uses table (strings_uses (names ++ params)) = b ∙ then_left table first (strings_uses names) (strings_uses params) (strings_uses (names ++ params)) a two in
    subst (λ (l : Uses). OnOk r (new ≡ with_uses table l)) (strings_joined (names ++ params) keys) (added_after r table second new (strings_uses (names ++ params)) (strings_uses keys) both h)

-- what a list of tests uses
list_numbers : (t : Test) (first : Box Test) (others : Vec Test) (inner : Test) (items : List Test) → (((at : ℕ) × (t ≡ AllOf first others at)) ⊎ ((at : ℕ) × (t ≡ AnyOf first others at))) → inner ≡ first.value → items ≡ others.items
    → joined (test_uses (test_form inner)) (tests_uses (tests_of (map test_form items))) ≡ test_uses (test_form t)
list_numbers t first others inner items (inl e) f g = rw (f, g) (sym (ap (λ x. test_uses (test_form x)) e.1 ∙ ap test_uses (form_all_of first others e.0)))
list_numbers t first others inner items (inr e) f g = rw (f, g) (sym (ap (λ x. test_uses (test_form x)) e.1 ∙ ap test_uses (form_any_of first others e.0)))

pub list_added : {T E : Type 0} (r : Result T E) (table middle new : Tables) (t : Test) (first : Box Test) (others : Vec Test) (inner : Test) (items : List Test) → (((at : ℕ) × (t ≡ AllOf first others at)) ⊎ ((at : ℕ) × (t ≡ AnyOf first others at))) → inner ≡ first.value → items ≡ others.items
    → middle ≡ with_uses table (test_uses (test_form inner)) → OnOk r (new ≡ with_uses middle (tests_uses (tests_of (map test_form items)))) → OnOk r (new ≡ with_uses table (test_uses (test_form t)))
list_added r table middle new t first others inner items is f g e h =
    let ms : Uses = test_uses (test_form inner) in
    let ns : Uses = tests_uses (tests_of (map test_form items)) in
    subst (λ (l : Uses). OnOk r (new ≡ with_uses table l)) (list_numbers t first others inner items is f g) (added_after r table middle new ms ns e h)

pub segment_added : (table next : Tables) (segments : List Segment) (i : ℕ) (segment : Segment) → i < length segments → segment ≡ get_or segments i segment → next ≡ with_uses table (segment_uses segment)
    → with_uses next (segments_uses (drop (i + 1) segments)) ≡ with_uses table (segments_uses (drop i segments))
segment_added table next segments i segment lt is e =
    then_left table next (segment_uses segment) (segments_uses (drop (i + 1) segments)) (segments_uses (drop i segments)) e (sym (ap segments_uses (split segments i segment lt is)))

pub string_added : (table next : Tables) (strings : List (Vec Segment)) (i : ℕ) (s : Vec Segment) (segments : List Segment) → i < length strings → s ≡ get_or strings i s → segments ≡ s.items → next ≡ with_uses table (string_uses segments)
    → with_uses next (strings_uses (templates_of (drop (i + 1) strings))) ≡ with_uses table (strings_uses (templates_of (drop i strings)))
string_added table next strings i s segments lt is same e =
    then_left table next (string_uses s.items) (strings_uses (templates_of (drop (i + 1) strings))) (strings_uses (templates_of (drop i strings)))
    (e ∙ ap (λ t. with_uses table (string_uses t)) same) (sym (ap (λ ss. strings_uses (templates_of ss)) (split strings i s lt is)))

pub test_added : (table next : Tables) (ts : List Test) (i : ℕ) (t : Test) → i < length ts → t ≡ get_or ts i t → next ≡ with_uses table (test_uses (test_form t)) → with_uses next (tests_uses (tests_of (map test_form (drop (i + 1) ts)))) ≡ with_uses table (tests_uses (tests_of (map test_form (drop i ts))))
test_added table next ts i t lt is e = then_left table next (test_uses (test_form t)) (tests_uses (tests_of (map test_form (drop (i + 1) ts)))) (tests_uses (tests_of (map test_form (drop i ts)))) e (sym (ap tests_uses (first_test ts i t lt is)))

pub command_added : (table next : Tables) (cs : List Command) (i : ℕ) (c : Command) → i < length cs → c ≡ get_or cs i c → next ≡ with_uses table (command_uses (command_form c)) → with_uses next (commands_uses (commands_form (drop (i + 1) cs))) ≡ with_uses table (commands_uses (commands_form (drop i cs)))
command_added table next cs i c lt is e = then_left table next (command_uses (command_form c)) (commands_uses (commands_form (drop (i + 1) cs))) (commands_uses (commands_form (drop i cs))) e (sym (ap commands_uses (first_command cs i c lt is)))

pub branch_added : (table middle next : Tables) (bs : List Branch) (i : ℕ) (b : Branch) (block : List Command) (last : BranchForms) → i < length bs → b ≡ get_or bs i b → block ≡ b.block.items
    → middle ≡ with_uses table (test_uses (test_form b.test)) → next ≡ with_uses middle (commands_uses (commands_form block))
    → with_uses next (branches_uses (branch_forms (drop (i + 1) bs) last)) ≡ with_uses table (branches_uses (branch_forms (drop i bs) last))
branch_added table middle next bs i b block last lt is same e f =
    let ms : Uses = test_uses (test_form b.test) in
    let ns : Uses = commands_uses (commands_form b.block.items) in
    let both : next ≡ with_uses table (joined ms ns) = f ∙ ap (λ cs. with_uses middle (commands_uses (commands_form cs))) same ∙ then_left table middle ms ns (joined ms ns) e refl in
    then_left table next (joined ms ns) (branches_uses (branch_forms (drop (i + 1) bs) last)) (branches_uses (branch_forms (drop i bs) last)) both (sym (ap branches_uses (first_branch bs i b last lt is)))

-- where no branch is left
pub branches_added : (start table : Tables) (c : Command) (branches : Vec Branch) (last : Option (Vec Command)) (items : List Branch) (i : ℕ) → c ≡ If branches last → items ≡ branches.items → length items ≤ i
    → with_uses table (branches_uses (branch_forms (drop i items) (else_form last))) ≡ with_uses start (branches_uses (branch_forms items (else_form last)))
    → with_uses table (branches_uses (else_form last)) ≡ with_uses start (command_uses (command_form c))
branches_added start table c branches last items i is same le h =
    ap (λ bs. with_uses table (branches_uses bs)) (sym (no_branch_left items i (else_form last) le))
    ∙ h
    ∙ ap (λ f. with_uses start (command_uses f)) (sym (if_form c branches last items is same))

-- the string of an act, and then the variable that it sets
pub does_added : (table middle new : Tables) (c : Command) (act : Act) (string : Vec Segment) (at : ℕ) (strings : List Template) → c ≡ Does act string at → strings ≡ act_strings act string.items
    → middle ≡ with_uses table (strings_uses strings) → new ≡ with_uses middle (uses_with [] [] (act_row act).sets) → new ≡ with_uses table (command_uses (command_form c))
does_added table middle new c act string at strings is same e f =
    let own : List Template = act_strings act string.items in
    let form : command_form c ≡ does act string.items at = does_form c act string at is in
    let texts : strings_of own ++ [] ≡ strings_of own = append-nil (strings_of own) in
    let uses : joined (strings_uses strings) (uses_with [] [] (act_row act).sets) ≡ command_uses (command_form c) =
    rw same (ap (λ ss. uses_with [] ss (strings_variables own ++ (act_row act).sets)) texts ∙ sym (ap command_uses form)) in
    f ∙ then_left table middle (strings_uses strings) (uses_with [] [] (act_row act).sets) (command_uses (command_form c)) e uses
