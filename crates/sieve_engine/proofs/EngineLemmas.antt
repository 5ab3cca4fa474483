-- What the verifier's refusals are to whoever handed octets in.
use Rattle.std.proofs.Common.{◌≡◌, ◌≢◌, ℕ, List, Some, sym, ap, subst, ◌∙◌, arith}
use Rattle.bytecode_format.specs.declared.action.Action.{Action}
use Rattle.bytecode_format.specs.Code.{Code}
use Rattle.bytecode_verifier.specs.declared.error.Refusal.{Refusal as BrokenRule}
use Rattle.bytecode_verifier.specs.declared.error.Refusal.TheVariants.{Memory}
use Rattle.bytecode_verifier.specs.Acceptance.{refusal_of}
use Rattle.mime_decode.specs.Mail.{Mail, IsMail, IsReadable, mail_of}
use Rattle.mime_decode.proofs.MailLemmas.{is_mail}
use Rattle.sieve_vm.specs.Ending.{IsOutcome}
use Rattle.sieve_vm.specs.Potential.{limit_of}
use Rattle.sieve_vm.specs.State.{State, start}
use Rattle.sieve_vm.specs.Runs.{RunEnds}
use Rattle.sieve_vm.proofs.Bounds.{ends_within, one_end_from}
use Rattle.bytecode_format.specs.Actions.{final_actions}
use Rattle.bytecode_verifier.specs.Acceptance.{IsAccepted}
use Rattle.refusals.specs.Causes.{of_verifier}
use Rattle.sieve_engine.specs.Execution.{Spells, IsProgramRefusal, IsReport}
use Rattle.sieve_engine.specs.Evaluation.{IsCompiled, IsEvaluation}

pub refused_by_verifier : (octets : List ℕ) (code : Code) → Spells octets code → (r : BrokenRule) → (r ≢ Memory → refusal_of code ≡ Some r) → IsProgramRefusal octets (of_verifier r)
refused_by_verifier octets code spells Memory h = tt
refused_by_verifier octets code spells _ h = (code, spells, h (λ e. absurd cc))

-- the report of a run, in terms of the octets
pub reported : (message : List ℕ) (code : Code) (mail : Mail) (actions : List Action) (charged limit : ℕ) → IsAccepted code → IsReadable message → mail ≡ mail_of message → IsOutcome code mail actions charged → limit ≡ limit_of code mail → IsReport code message actions charged limit
reported message code mail actions charged limit accepted readable is outcome value =
    record {
      read = readable;
      outcome = subst (λ (m : Mail). IsOutcome code m actions charged) is outcome;
      within = omega (arith, ends_within code mail accepted (subst IsMail (sym is) (is_mail message readable)) outcome.end outcome.over, outcome.charge_is, value);
      budget = value ∙ ap (limit_of code) is;
    }

one_end : (code : Code) (mail : Mail) (one other : State) → RunEnds code mail one → RunEnds code mail other → one ≡ other
one_end code mail one other p q = one_end_from code mail p.steps q.steps (start code) p.last q.last one other p.run p.halts q.run q.halts

-- so runs come to one list of actions
pub one_list : (code : Code) (mail : Mail) (actions others : List Action) (charged other : ℕ) → IsOutcome code mail actions charged → IsOutcome code mail others other → actions ≡ others
one_list code mail actions others charged other one two =
    one.actions_are ∙ ap (λ (s : State). final_actions s.actions s.implicit_keep) (one_end code mail one.end two.end one.over two.over) ∙ sym two.actions_are

-- a script's report is that of its code, whose run has one end, with the final actions of the meaning
pub evaluated : (script message : List ℕ) (code : Code) (actions : List Action) (charged limit : ℕ) → IsCompiled script code → IsReport code message actions charged limit → IsEvaluation script message actions charged limit
evaluated script message code actions charged limit compiled report =
    let meant = compiled.means (mail_of message) (is_mail message report.read) in
    record {
      form = compiled.form;
      checked = compiled.checked;
      meant = one_list code (mail_of message) actions _ charged meant.0 report.outcome meant.1;
      accepted = subst IsAccepted compiled.is compiled.accepted;
      report = subst (λ c. IsReport c message actions charged limit) compiled.is report;
    }
