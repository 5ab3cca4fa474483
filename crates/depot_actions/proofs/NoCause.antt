-- An accepted command has none of the causes that commands are refused for.
use Rattle.std.proofs.Common.{◌≡◌, ◌∙◌, ℕ, List, Option, Some, None, length, sym, ap, subst}
use Rattle.bytecode_format.specs.Code.{Code}
use Rattle.bytecode_format.specs.Actions.{final_actions}
use Rattle.bytecode_format.proofs.FormatLemmas.{one_program}
use Rattle.bytecode_format.specs.declared.action.Action.{Action}
use Rattle.mime_decode.specs.Mail.{Mail, mail_of}
use Rattle.sieve_vm.specs.Ending.{IsOutcome}
use Rattle.sieve_vm.specs.Runs.{RunEnds}
use Rattle.sieve_vm.specs.State.{State, start}
use Rattle.sieve_vm.proofs.Bounds.{one_end_from}
use Rattle.sieve_engine.specs.Execution.{IsChecked}
use Rattle.part_store.specs.Entries.{Entries}
use Rattle.part_store.specs.Filing.{HasRoom}
use Rattle.depot_actions.specs.Causes.{IsFull, NamesNone}
use Rattle.depot_actions.specs.DepotState.{Accepts, AreActions, Command, Deliver, Export, Remove, Reply}

one_end : (code : Code) (mail : Mail) (one other : State) → RunEnds code mail one → RunEnds code mail other → one ≡ other
one_end code mail one other p q = one_end_from code mail p.steps q.steps (start code) p.last q.last one other p.run p.halts q.run q.halts

one_outcome : (code : Code) (mail : Mail) (one other : List Action) (m n : ℕ) → IsOutcome code mail one m → IsOutcome code mail other n → one ≡ other
one_outcome code mail one other m n p q =
    p.actions_are ∙ ap (λ (s : State). final_actions s.actions s.implicit_keep) (one_end code mail p.end q.end p.over q.over) ∙ sym q.actions_are

pub one_code : (program : List ℕ) (one other : Code) → IsChecked program one → IsChecked program other → one ≡ other
one_code program one other p q = one_program one other p.spells.within q.spells.within (sym p.spells.spelt ∙ q.spells.spelt)

same_actions : (program : Option (List ℕ)) (mail : Mail) (one other : List Action) → AreActions program mail one → AreActions program mail other → one ≡ other
same_actions None mail one other p q = p ∙ sym q
same_actions (Some program) mail one other (code, charged, checked, outcome) (code', charged', checked', outcome') =
    let same : code' ≡ code = one_code program code' code checked' checked in
    one_outcome code mail one other charged charged' outcome (subst (λ c. IsOutcome c mail other charged') same outcome')

-- it names an entry that is there
pub entry_there : (before after : Entries) (command : Command) (reply : Reply) → Accepts before command reply after → NamesNone before command → ⊥
entry_there before after (Export user number encoding) reply accepts none = none accepts.step.0 accepts.step.1
entry_there before after (Remove user number) reply accepts none = none accepts.step.0 accepts.step.1
entry_there before after _ reply accepts none = none

-- and the numbers suffice
pub numbers_suffice : (before after : Entries) (command : Command) (reply : Reply) → Accepts before command reply after → IsFull before command → ⊥
numbers_suffice before after (Deliver user message) reply accepts full =
    let same = same_actions (before.programs user) (mail_of message) accepts.step.actions full.0 accepts.step.are full.1 in
    full.2 (subst (λ actions. HasRoom before user (length actions)) same accepts.step.room)
numbers_suffice before after _ reply accepts full = full
