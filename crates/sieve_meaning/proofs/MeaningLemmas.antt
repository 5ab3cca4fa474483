-- Tests, commands and the branches of an if, one after the other.
use Rattle.std.proofs.Common.{◌≡◌, ℕ, suc, ◌+◌, ◌-◌, ◌<◌, nat_lt, refl, subst, List, ◌∷◌, map, drop, length, get_or, sym, ap, ◌∙◌, add-one, inl, inr, arith}
use Rattle.std.specs.Prelude.{if◌then◌else◌}
use Rattle.std.proofs.lemmas.Bool.{cases_Bool}
use Rattle.std.proofs.Math.Seq.{drop-cons}
use Rattle.mime_decode.specs.Visited.{numbers_from}
use Rattle.sieve_check.specs.Bounded.{IsBoundedTest, AreBoundedTests, AreBoundedCommands, AreBoundedBranches}
use Rattle.sieve_check.specs.declared.typed.Branch.{Branch}
use Rattle.sieve_check.specs.declared.typed.Test.{Test}
use Rattle.sieve_check.specs.declared.typed.Command.{Command}
use Rattle.sieve_check.specs.Typed.{test, command, BranchForms, branch}
use Rattle.sieve_check.specs.TypedView.{GuardedForm, test_form, tests_of, branches_of, command_form, commands_form}
use Rattle.sieve_check.specs.Private.{branch_form, branch_forms}
use Rattle.sieve_check.proofs.Forms.{form_branch}
use Rattle.bytecode_format.specs.declared.action.Action.{Action}
use Rattle.bytecode_format.specs.Actions.{first_occurrences, with_implicit_keep, final_actions}
use Rattle.sieve_meaning.specs.declared.evaluator.Evaluator.{Evaluator}
use Rattle.sieve_meaning.specs.declared.evaluator.Flow.{Flow}
use Rattle.sieve_meaning.specs.declared.evaluator.Flow.TheVariants.{GoesOn, Stopped, Leaves}
use Rattle.sieve_meaning.specs.Evaluation.{HasEvaluated, StandsAt}
use Rattle.sieve_meaning.specs.Meaning.{Effects, after_turn, Ending, normal, stopped, broken, effects_of, followed_by, left}

pub first_branch : (bs : List Branch) (i : ℕ) (b : Branch) (last : BranchForms) → i < length bs → b ≡ get_or bs i b → branch_forms (drop i bs) last ≡ branch (test_form b.test) (commands_form b.block.items) b.at (branch_forms (drop (i + 1) bs) last)
first_branch bs i b last lt is =
    let split : drop i bs ≡ get_or bs i b ∷ drop (i + 1) bs = drop-cons bs i b lt ∙ ap (λ n. get_or bs i b ∷ drop n bs) (sym (add-one i)) in
    ap (λ x. branch_forms x last) split
    ∙ ap (λ x. branches_of (branch_form x ∷ map branch_form (drop (i + 1) bs)) last) (sym is)
    ∙ ap (λ (g : GuardedForm). branch g.test g.block g.at (branch_forms (drop (i + 1) bs) last)) (form_branch b)

-- the first element that is left, and those after it
split : {A : Type 0} (xs : List A) (i : ℕ) (x : A) → i < length xs → x ≡ get_or xs i x → drop i xs ≡ x ∷ drop (i + 1) xs
split xs i x lt is = drop-cons xs i x lt ∙ ap (λ n. get_or xs i x ∷ drop n xs) (sym (add-one i)) ∙ ap (λ y. y ∷ drop (i + 1) xs) (sym is)

pub first_test : (ts : List Test) (i : ℕ) (t : Test) → i < length ts → t ≡ get_or ts i t → tests_of (map test_form (drop i ts)) ≡ test (test_form t) (tests_of (map test_form (drop (i + 1) ts)))
first_test ts i t lt is = ap (λ xs. tests_of (map test_form xs)) (split ts i t lt is)

pub first_command : (cs : List Command) (i : ℕ) (c : Command) → i < length cs → c ≡ get_or cs i c → commands_form (drop i cs) ≡ command (command_form c) (commands_form (drop (i + 1) cs))
first_command cs i c lt is = ap (λ xs. commands_form xs) (split cs i c lt is)

-- what is left is within the limits
pub tests_bounded : (ts : List Test) (i : ℕ) (t : Test) → i < length ts → t ≡ get_or ts i t → AreBoundedTests (tests_of (map test_form (drop i ts))) → AreBoundedTests (tests_of (map test_form (drop (i + 1) ts)))
tests_bounded ts i t lt is h = (subst AreBoundedTests (first_test ts i t lt is) h).1

pub commands_bounded : (cs : List Command) (i : ℕ) (c : Command) → i < length cs → c ≡ get_or cs i c → AreBoundedCommands (commands_form (drop i cs)) → AreBoundedCommands (commands_form (drop (i + 1) cs))
commands_bounded cs i c lt is h = (subst AreBoundedCommands (first_command cs i c lt is) h).1

pub branches_bounded : (bs : List Branch) (i : ℕ) (b : Branch) (last : BranchForms) → i < length bs → b ≡ get_or bs i b → AreBoundedBranches (branch_forms (drop i bs) last) → AreBoundedBranches (branch_forms (drop (i + 1) bs) last)
branches_bounded bs i b last lt is h = (subst AreBoundedBranches (first_branch bs i b last lt is) h).2

-- after a command that goes on
pub goes_on : (x : Ending) (flow : Flow) (m : Evaluator) → flow ≡ GoesOn → StandsAt x flow m → (f : Effects) × HasEvaluated f m × (x ≡ normal f)
goes_on (normal f) GoesOn m e h = (f, h, refl)
goes_on (normal f) Stopped m e h = absurd h
goes_on (broken n f) GoesOn m e h = absurd h
goes_on (broken n f) Stopped m e h = absurd h
goes_on (stopped f) GoesOn m e h = absurd h
goes_on (stopped f) Stopped m e h = absurd cc
goes_on (normal f) (Leaves n) m e h = absurd h
goes_on (broken k f) (Leaves n) m e h = absurd cc
goes_on (stopped f) (Leaves n) m e h = absurd h

-- after a command that doesn't
pub stays : (x : Ending) (flow : Flow) (m : Evaluator) (next : Effects → Ending) → (flow ≡ GoesOn → ⊥) → StandsAt x flow m → StandsAt (followed_by x next) flow m
stays (normal f) GoesOn m next off h = absurd (off refl)
stays (normal f) Stopped m next off h = absurd h
stays (normal f) (Leaves n) m next off h = absurd h
stays (stopped f) flow m next off h = h
stays (broken k f) flow m next off h = h

-- a branch is within the limits
pub branch_bounded : (bs : List Branch) (i : ℕ) (b : Branch) (last : BranchForms) → i < length bs → b ≡ get_or bs i b → AreBoundedBranches (branch_forms (drop i bs) last) → IsBoundedTest (test_form b.test)
branch_bounded bs i b last lt is h = (subst AreBoundedBranches (first_branch bs i b last lt is) h).0

-- an evaluator at an ending stands for what was done by then
pub stood : (ending : Ending) (flow : Flow) (m : Evaluator) → StandsAt ending flow m → HasEvaluated (effects_of ending) m
stood (normal e) GoesOn m h = h
stood (normal e) Stopped m h = absurd h
stood (broken n e) GoesOn m h = absurd h
stood (broken n e) Stopped m h = absurd h
stood (stopped e) GoesOn m h = absurd h
stood (stopped e) Stopped m h = h
stood (normal e) (Leaves n) m h = absurd h
stood (broken k e) (Leaves n) m h = h.1
stood (stopped e) (Leaves n) m h = absurd h

-- the final actions that it gives
pub made_final : (e : Effects) (m : Evaluator) (actions : List Action) → HasEvaluated e m → actions ≡ with_implicit_keep m.actions m.implicit_keep → actions ≡ final_actions e.actions e.implicit_keep
made_final e m actions stands h = h ∙ ap (λ l. with_implicit_keep l m.implicit_keep) stands.actions ∙ ap (λ k. with_implicit_keep (first_occurrences e.actions) k) stands.implicit_keep

-- ---- the turns of a loop

-- the first of the parts that are left, and those after it
pub next_number : (number last : ℕ) → number < last → numbers_from number (last - number) ≡ number ∷ numbers_from (number + 1) (last - (number + 1))
next_number number last lt =
    let some : last - number ≡ suc (last - (number + 1)) = omega (arith, lt) in
    let next : suc number ≡ number + 1 = omega arith in
    ap (numbers_from number) some ∙ ap (λ n. number ∷ numbers_from n (last - (number + 1))) next

-- a turn that stops the script
pub stopped_at : (x : Ending) (next : Effects → Ending) (m : Evaluator) → StandsAt x Stopped m → StandsAt (after_turn x next) Stopped m
stopped_at (normal e) next m h = absurd h
stopped_at (broken n e) next m h = absurd h
stopped_at (stopped e) next m h = h

-- a turn that leaves the loop
abbrev pub left_flow : ℕ → Flow
left_flow loops = if nat_lt 1 loops then Leaves (loops - 1) else GoesOn

left_on : (loops : ℕ) (e : Effects) (m : Evaluator) → HasEvaluated e m → StandsAt (left loops e) (left_flow loops) m
left_on loops e m h = elim (cases_Bool (nat_lt 1 loops)) [
  | inl more ↦ rw more (refl, h)
  | inr last ↦ rw last h
]

pub left_at : (x : Ending) (next : Effects → Ending) (loops : ℕ) (m : Evaluator) → StandsAt x (Leaves loops) m → StandsAt (after_turn x next) (left_flow loops) m
left_at (normal e) next loops m h = absurd h
left_at (stopped e) next loops m h = absurd h
left_at (broken n e) next loops m h = subst (λ k. StandsAt (left k e) (left_flow loops) m) h.0 (left_on loops e m h.1)
