-- Walks over the code's scripts: what is left from a place on.
use Rattle.std.proofs.Common.{◌≡◌, ℕ, ◌+◌, ◌<◌, ◌≤◌, List, ◌∷◌, ◌++◌, map, drop, length, get_or, Option, refl, sym, ap, ◌∙◌, add-one}
use Rattle.std.specs.Global.{Vec}
use Rattle.std.proofs.Math.Seq.{drop-cons}
use Rattle.std.proofs.lemmas.List.{drop_all}
use Rattle.sieve_check.specs.declared.typed.Segment.{Segment}
use Rattle.sieve_check.specs.declared.typed.Strings.{Strings}
use Rattle.sieve_check.specs.declared.typed.Test.{Test}
use Rattle.sieve_check.specs.declared.typed.Act.{Act}
use Rattle.sieve_check.specs.declared.typed.Branch.{Branch}
use Rattle.sieve_check.specs.declared.typed.Command.{Command}
use Rattle.sieve_check.specs.declared.typed.Command.TheVariants.{Does, If, rolls-Does}
use Rattle.sieve_check.specs.declared.typed.Command.TheOpen as command_layer
use Rattle.sieve_check.specs.declared.typed.Command.TheFolds.{fold-roll-Command}
use Rattle.sieve_check.specs.Typed.{in_order, test, CommandForm, does, choice, command, BranchForms, branch}
use Rattle.sieve_check.specs.TypedView.{GuardedForm, command_step, branch_step, templates_of, strings_form, test_form, tests_of, command_form, commands_form}
use Rattle.sieve_check.specs.Private.{branch_forms, else_form}
use Rattle.sieve_check.proofs.Forms.{form_if, form_branch}

-- the first that is left, and those after it
pub split : {A : Type 0} (xs : List A) (i : ℕ) (x : A) → i < length xs → x ≡ get_or xs i x → drop i xs ≡ x ∷ drop (i + 1) xs
split xs i x lt is = drop-cons xs i x lt ∙ ap (λ n. get_or xs i x ∷ drop n xs) (sym (add-one i)) ∙ ap (λ y. y ∷ drop (i + 1) xs) (sym is)

pub first_test : (ts : List Test) (i : ℕ) (t : Test) → i < length ts → t ≡ get_or ts i t → tests_of (map test_form (drop i ts)) ≡ test (test_form t) (tests_of (map test_form (drop (i + 1) ts)))
first_test ts i t lt is = ap (λ xs. tests_of (map test_form xs)) (split ts i t lt is)

pub first_command : (cs : List Command) (i : ℕ) (c : Command) → i < length cs → c ≡ get_or cs i c → commands_form (drop i cs) ≡ command (command_form c) (commands_form (drop (i + 1) cs))
first_command cs i c lt is = ap (λ xs. commands_form xs) (split cs i c lt is)

pub first_branch : (bs : List Branch) (i : ℕ) (b : Branch) (last : BranchForms) → i < length bs → b ≡ get_or bs i b → branch_forms (drop i bs) last ≡ branch (test_form b.test) (commands_form b.block.items) b.at (branch_forms (drop (i + 1) bs) last)
first_branch bs i b last lt is =
    ap (λ xs. branch_forms xs last) (split bs i b lt is)
    ∙ ap (λ (g : GuardedForm). branch g.test g.block g.at (branch_forms (drop (i + 1) bs) last)) (form_branch b)

-- no branch is left
pub no_branch_left : (bs : List Branch) (i : ℕ) (last : BranchForms) → length bs ≤ i → branch_forms (drop i bs) last ≡ last
no_branch_left bs i last le = ap (λ xs. branch_forms xs last) (drop_all i bs le)

-- an if, by the branches that the code holds
pub if_form : (c : Command) (branches : Vec Branch) (last : Option (Vec Command)) (items : List Branch) → c ≡ If branches last → items ≡ branches.items → command_form c ≡ choice (branch_forms items (else_form last))
if_form c branches last items is same = ap command_form is ∙ form_if branches last ∙ ap (λ bs. choice (branch_forms bs (else_form last))) (sym same)

-- an act with its string
pub does_form : (c : Command) (act : Act) (string : Vec Segment) (at : ℕ) → c ≡ Does act string at → command_form c ≡ does act string.items at
does_form c act string at is = ap command_form (is ∙ sym (rolls-Does act string at)) ∙ fold-roll-Command CommandForm GuardedForm command_step branch_step (command_layer.Does act string at)

-- the strings of a question, by the lists that the code holds
pub lists_are : (strings : Strings) (names params keys : List (Vec Segment)) → names ≡ strings.names.items → params ≡ strings.params.items → keys ≡ strings.keys.items → templates_of names ++ templates_of params ++ templates_of keys ≡ in_order (strings_form strings)
lists_are strings names params keys e f g = rw (e, f, g) refl
