-- What octets that spell a script's code do.
use Rattle.std.proofs.Common.{◌≡◌, ◌≤◌, ℕ, List, refl, sym, subst, ◌∙◌}
use Rattle.bytecode_format.specs.declared.action.Action.{Action}
use Rattle.bytecode_format.specs.Code.{Code}
use Rattle.bytecode_format.proofs.FormatLemmas.{one_program}
use Rattle.bytecode_verifier.specs.declared.error.Refusal.{Refusal as BrokenRule}
use Rattle.bytecode_verifier.proofs.Accepted.{none_from_accepted}
use Rattle.mime_decode.specs.Mail.{IsReadable, mail_of}
use Rattle.mime_decode.proofs.MailLemmas.{is_mail}
use Rattle.refusals.specs.declared.refusal.Refusal.{Refusal}
use Rattle.refusals.specs.declared.refusal.Refusal.TheVariants.{Memory, MessageTooLarge, TooManyParts, Spelling, Index, Form, End, Loop, Jump, NoPart, Stack}
use Rattle.sieve_check.specs.Bounded.{IsBounded}
use Rattle.sieve_check.specs.Typed.{CommandForms}
use Rattle.sieve_check.proofs.Existence.{form_bounded}
use Rattle.sieve_compiler.specs.Coding.{code_of}
use Rattle.sieve_compiler.proofs.Accepted.{code_accepted}
use Rattle.sieve_compiler.proofs.Meets.{code_means}
use Rattle.sieve_engine.specs.Evaluation.{IsCompiled, IsEvaluation, IsScript}
use Rattle.sieve_engine.specs.Execution.{IsChecked, IsExecution, IsRefusal, IsRefusedBy, IsReport, IsUnread, Spells}
use Rattle.sieve_engine.proofs.EngineLemmas.{evaluated, one_list, reported}
use Rattle.sieve_meaning.specs.Meaning.{meaning}
use Rattle.sieve_vm.specs.Potential.{limit_of}

-- the form of a script without faults is within the limits
bounded : (script : List ℕ) (form : CommandForms) → IsScript script form → IsBounded form
bounded script form is = form_bounded is.tree form (script, is.parsed) is.typed is.faultless

compiled : (script : List ℕ) (form : CommandForms) → IsScript script form → IsCompiled script (code_of form)
compiled script form is =
    let fits = bounded script form is in
    record {
      form = form;
      checked = is;
      is = refl;
      accepted = code_accepted form fits;
      means = λ mail known. code_means form fits mail known;
    }

-- octets spell one program at most
same_code : (program : List ℕ) (code other : Code) → Spells program code → Spells program other → code ≡ other
same_code program code other one two = one_program code other one.within two.within (sym one.spelt ∙ two.spelt)

pub written_accepted : (script program : List ℕ) (form : CommandForms) → IsScript script form → Spells program (code_of form) → IsChecked program (code_of form)
written_accepted script program form is spells = record { spells = spells; accepted = code_accepted form (bounded script form is) }

pub written_runs : (script program message : List ℕ) (form : CommandForms) → IsScript script form → Spells program (code_of form) → IsReadable message
    → (charged : ℕ) × ((limit : ℕ) × IsExecution program message (meaning (mail_of message) form) charged limit)
written_runs script program message form is spells readable =
    let fits = bounded script form is in
    let accepted = code_accepted form fits in
    let run = code_means form fits (mail_of message) (is_mail message readable) in
    let limit = limit_of (code_of form) (mail_of message) in (
      run.0,
      (
        limit,
        record {
          code = code_of form;
          checked = written_accepted script program form is spells;
          report = reported message (code_of form) (mail_of message) _ run.0 limit accepted readable refl run.1 refl;
        },
      ),
    )

pub written_evaluates : (script program message : List ℕ) (form : CommandForms) (actions : List Action) (charged limit : ℕ) → IsScript script form → Spells program (code_of form)
    → IsExecution program message actions charged limit → IsEvaluation script message actions charged limit
written_evaluates script program message form actions charged limit is spells executed =
    let same = same_code program executed.code (code_of form) executed.checked.spells spells in
    evaluated script message (code_of form) actions charged limit (compiled script form is) (subst (λ code. IsReport code message actions charged limit) same executed.report)

pub written_means : (script program message : List ℕ) (form : CommandForms) (actions : List Action) (charged limit : ℕ) → IsScript script form → Spells program (code_of form)
    → IsExecution program message actions charged limit → (actions ≡ meaning (mail_of message) form) × (charged ≤ limit)
written_means script program message form actions charged limit is spells executed =
    let same = same_code program executed.code (code_of form) executed.checked.spells spells in
    let report = subst (λ code. IsReport code message actions charged limit) same executed.report in
    let run = code_means form (bounded script form is) (mail_of message) (is_mail message report.read) in
    (one_list (code_of form) (mail_of message) actions _ charged run.0 report.outcome run.1, report.within)

-- an accepted program breaks no rule
unbroken : (program : List ℕ) (code : Code) (rule : BrokenRule) → IsChecked program code → IsRefusedBy program rule → ⊥
unbroken program code rule checked (other, spells, broken) =
    let none = none_from_accepted code checked.accepted in
    cc (none, broken, same_code program code other checked.spells spells)

pub written_refused : (script program message : List ℕ) (form : CommandForms) (e : Refusal) → IsScript script form → Spells program (code_of form)
    → IsRefusal program message e → IsUnread message e
written_refused script program message form Memory is spells h = tt
written_refused script program message form MessageTooLarge is spells h = h.0
written_refused script program message form TooManyParts is spells h = h.0
written_refused script program message form Spelling is spells h = h (code_of form) spells
written_refused script program message form (Index place) is spells h = unbroken program (code_of form) _ (written_accepted script program form is spells) h
written_refused script program message form (Form place) is spells h = unbroken program (code_of form) _ (written_accepted script program form is spells) h
written_refused script program message form (End place) is spells h = unbroken program (code_of form) _ (written_accepted script program form is spells) h
written_refused script program message form (Loop place) is spells h = unbroken program (code_of form) _ (written_accepted script program form is spells) h
written_refused script program message form (Jump place) is spells h = unbroken program (code_of form) _ (written_accepted script program form is spells) h
written_refused script program message form (NoPart place) is spells h = unbroken program (code_of form) _ (written_accepted script program form is spells) h
written_refused script program message form (Stack place) is spells h = unbroken program (code_of form) _ (written_accepted script program form is spells) h
written_refused script program message form _ is spells h = absurd h
