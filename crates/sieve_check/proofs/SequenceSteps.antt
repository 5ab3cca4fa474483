-- Commands put together, one after another.
use Rattle.std.proofs.Common.{◌≡◌, ◌<◌, Bool, true, false, if◌then◌else◌, List, [], ◌∷◌, ◌++◌, map, length, Option, Some, None, option_map, refl, sym, ap, ◌∙◌, arith}
use Rattle.std.specs.Global.{Vec}
use Rattle.std.proofs.lemmas.List.{map-append}
use Rattle.std.proofs.lemmas.Bool.{both_ways}
use Rattle.sieve_check.specs.declared.sequence.Sequence.{Sequence}
use Rattle.sieve_check.specs.declared.typed.Branch.{Branch}
use Rattle.sieve_check.specs.declared.typed.Command.{Command}
use Rattle.sieve_check.specs.declared.typed.Command.TheVariants.{If}
use Rattle.sieve_check.specs.declared.sequence.Part.TheVariants.{Action, Next}
use Rattle.sieve_check.specs.FormOf.{Forms, after_none, closed as closed_forms}
use Rattle.sieve_check.specs.Signatures.{◌>>=◌}
use Rattle.sieve_check.specs.Sequences.{onto, choice_onto, joined, has_branch, is_open, finished_by, Closed, Pushed}
use Rattle.sieve_check.specs.Typed.{CommandForm, choice, CommandForms, no_command, command, BranchForms, no_branch, branch}
use Rattle.sieve_check.specs.TypedView.{GuardedForm, test_form, command_form, commands_of, commands_form}
use Rattle.sieve_check.specs.Private.{branch_form, branch_forms, else_form}
use Rattle.sieve_check.proofs.Forms.{form_if, form_branch}

onto-append : (cs : List CommandForm) (c : CommandForm) (others : CommandForms) → onto (cs ++ c ∷ []) others ≡ onto cs (command c others)
onto-append [] c others = refl
onto-append (x ∷ cs) c others = ap (command x) (onto-append cs c others)

onto_nothing : (cs : List CommandForm) → onto cs no_command ≡ commands_of cs
onto_nothing [] = refl
onto_nothing (c ∷ cs) = ap (command c) (onto_nothing cs)

-- one more command
onto_more : (cs : List Command) (c : Command) (others : CommandForms) → onto (map command_form (cs ++ c ∷ [])) others ≡ onto (map command_form cs) (command (command_form c) others)
onto_more cs c others = ap (λ fs. onto fs others) (map-append command_form cs (c ∷ [])) ∙ onto-append (map command_form cs) (command_form c) others

-- one more branch
branches_more : (bs : List Branch) (b : Branch) (more : BranchForms) → branch_forms (bs ++ b ∷ []) more ≡ branch_forms bs (branch (test_form b.test) (commands_form b.block.items) b.at more)
branches_more [] b more = ap (λ (g : GuardedForm). branch g.test g.block g.at more) (form_branch b)
branches_more (x ∷ bs) b more = ap (branch (branch_form x).test (branch_form x).block (branch_form x).at) (branches_more bs b more)

choice_more : (bs : List Branch) (b : Branch) (more : BranchForms) (others : CommandForms) → has_branch bs ≡ true
    → choice_onto (bs ++ b ∷ []) more others ≡ choice_onto bs (branch (test_form b.test) (commands_form b.block.items) b.at more) others
choice_more [] b more others h = absurd (both_ways false refl h)
choice_more (x ∷ bs) b more others h = ap (λ f. command (choice f) others) (branches_more (x ∷ bs) b more)

still_open : (bs : List Branch) (b : Branch) → has_branch (bs ++ b ∷ []) ≡ true
still_open [] b = refl
still_open (x ∷ bs) b = refl

pub open_if_some : (bs : List Branch) → 0 < length bs → has_branch bs ≡ true
open_if_some [] h = absurd (omega (arith, h))
open_if_some (x ∷ bs) h = refl

choice_of : (bs : List Branch) (more : BranchForms) (others : CommandForms) → 0 < length bs → choice_onto bs more others ≡ command (choice (branch_forms bs more)) others
choice_of [] more others h = absurd (omega (arith, h))
choice_of (x ∷ bs) more others h = refl

pub closed : (old new : Sequence) (branches : Vec Branch) (last : Option (Vec Command)) → branches ≡ old.branches → 0 < length branches.items
    → new.commands.items ≡ old.commands.items ++ If branches last ∷ [] → new.branches.items ≡ [] → Closed old (else_form last) new
closed old new branches last are some more none = record {
  none = none;
  same = λ others. ap (λ cs. onto (map command_form cs) (choice_onto new.branches.items no_branch others)) more
      ∙ ap (λ bs. onto (map command_form (old.commands.items ++ If branches last ∷ [])) (choice_onto bs no_branch others)) none
      ∙ onto_more old.commands.items (If branches last) others
      ∙ ap (λ f. onto (map command_form old.commands.items) (command f others)) (form_if branches last)
      ∙ ap (onto (map command_form old.commands.items)) (sym (choice_of branches.items (else_form last) others some))
      ∙ ap (λ (bs : Vec Branch). onto (map command_form old.commands.items) (choice_onto bs.items (else_form last) others)) are;
}

-- what is still to come, where no branch may be added
shut : (s : Sequence) → s.branches.items ≡ [] → (rest : Forms) → finished_by s rest ≡ option_map (λ others. joined s no_branch others) (closed_forms rest)
shut s none rest = ap (λ b. if b then Some (joined s rest.branches rest.commands) else option_map (λ others. joined s no_branch others) (closed_forms rest)) (ap has_branch none)

-- and where one may
wide : (s : Sequence) → is_open s ≡ true → (rest : Forms) → finished_by s rest ≡ Some (joined s rest.branches rest.commands)
wide s some rest = ap (λ b. if b then Some (joined s rest.branches rest.commands) else option_map (λ others. joined s no_branch others) (closed_forms rest)) some

-- commands that go on with nothing before them, whether a branch may be added or not
after_all : (s : Sequence) (cs : CommandForms) → finished_by s (after_none cs) ≡ Some (joined s no_branch cs)
after_all s cs = either (is_open s) where
  either : (b : Bool) → (if b then Some (joined s no_branch cs) else option_map (λ others. joined s no_branch others) (Some cs)) ≡ Some (joined s no_branch cs)
  either true = refl
  either false = refl

-- more commands, after a choice that is closed
module _ (old new : Sequence) (add : CommandForms → CommandForms) (none : new.branches.items ≡ []) (same : (others : CommandForms) → joined new no_branch others ≡ joined old no_branch (add others)) where
  added_to : (o : Option CommandForms) → (option_map (λ cs. after_none (add cs)) o >>= finished_by old) ≡ option_map (λ others. joined new no_branch others) o
  added_to None = refl
  added_to (Some cs) = after_all old (add cs) ∙ ap Some (sym (same cs))

  pub added : (rest : Forms) → (option_map (λ cs. after_none (add cs)) (closed_forms rest) >>= finished_by old) ≡ finished_by new rest
  added rest = added_to (closed_forms rest) ∙ sym (shut new none rest)

pub action_added : (old shut_one new : Sequence) (c : Command) → Closed old no_branch shut_one → new.commands.items ≡ shut_one.commands.items ++ c ∷ [] → new.branches.items ≡ shut_one.branches.items
    → Pushed old (Action c) new
action_added old shut_one new c is more same rest = added old new (λ cs. command (command_form c) cs) (same ∙ is.none)
    (λ others. ap (λ cs. onto (map command_form cs) (choice_onto new.branches.items no_branch others)) more
    ∙ ap (λ bs. onto (map command_form (shut_one.commands.items ++ c ∷ [])) (choice_onto bs no_branch others)) (same ∙ is.none)
    ∙ onto_more shut_one.commands.items c others
    ∙ ap (λ bs. onto (map command_form shut_one.commands.items) (choice_onto bs no_branch (command (command_form c) others))) (sym is.none)
    ∙ is.same (command (command_form c) others))
    rest

-- a branch after another
pub next_added : (old new : Sequence) (b : Branch) → new.commands ≡ old.commands → new.branches.items ≡ old.branches.items ++ b ∷ [] → is_open old ≡ true → Pushed old (Next b) new
next_added old new b same more open_before rest =
    wide old open_before (record { branches = branch (test_form b.test) (commands_form b.block.items) b.at rest.branches; commands = rest.commands })
    ∙ ap Some (sym (
    ap (λ (cs : Vec Command). onto (map command_form cs.items) (choice_onto new.branches.items rest.branches rest.commands)) same
    ∙ ap (λ bs. onto (map command_form old.commands.items) (choice_onto bs rest.branches rest.commands)) more
    ∙ ap (onto (map command_form old.commands.items)) (choice_more old.branches.items b rest.branches rest.commands open_before)
    ))
    ∙ sym (wide new (ap has_branch more ∙ still_open old.branches.items b) rest)

-- nothing is to come
pub finished : (old shut : Sequence) → Closed old no_branch shut → commands_form shut.commands.items ≡ joined old no_branch no_command
finished old shut is =
    sym (onto_nothing (map command_form shut.commands.items))
    ∙ ap (λ bs. onto (map command_form shut.commands.items) (choice_onto bs no_branch no_command)) (sym is.none)
    ∙ is.same no_command
