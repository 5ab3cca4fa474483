-- A migrated program does what it did.
use Rattle.std.proofs.Common.{◌≡◌, ℕ, List, Option, Some, None, length, refl, sym, subst, arith}
use Rattle.bytecode_format.specs.Code.{Code, latest_version}
use Rattle.bytecode_format.specs.declared.action.Action.{Action}
use Rattle.bytecode_format.proofs.Versions.{in_two}
use Rattle.bytecode_verifier.specs.Acceptance.{IsAccepted}
use Rattle.bytecode_verifier.proofs.Versions.{accepted_in_two, budget_no_larger}
use Rattle.mime_decode.specs.Mail.{Mail, mail_of, size_of}
use Rattle.sieve_engine.specs.Execution.{IsChecked, IsReport}
use Rattle.sieve_engine.proofs.EngineLemmas.{reported}
use Rattle.sieve_vm.specs.Ending.{IsOutcome}
use Rattle.sieve_vm.specs.Potential.{limit_of}
use Rattle.sieve_vm.proofs.Versions.{ends_before, ends_later}
use Rattle.part_store.specs.Entries.{Entries}
use Rattle.depot_actions.specs.DepotState.{Accepts, AreActions, IsRenewed, Migrate, Reply}
use Rattle.depot_actions.specs.Renewing.{RunsAs, renewed_octets}
use Rattle.depot_actions.proofs.NoCause.{one_code}

checked_too : (program : List ℕ) (code : Code) → IsChecked program code → IsChecked (renewed_octets code) (record code { version = latest_version })
checked_too program code checked = record {
  spells = record { within = in_two code checked.spells.within; spelt = refl };
  accepted = accepted_in_two code checked.accepted;
}

runs_too : (code : Code) (mail : Mail) (actions : List Action) (charged : ℕ) → IsAccepted code → IsOutcome code mail actions charged → IsOutcome (record code { version = latest_version }) mail actions charged
runs_too code mail actions charged accepted outcome = record {
  end = outcome.end;
  over = ends_later code mail accepted outcome.end outcome.over;
  actions_are = outcome.actions_are;
  charge_is = outcome.charge_is;
}

same_actions : (program after : Option (List ℕ)) (mail : Mail) (actions : List Action) → IsRenewed program after → AreActions program mail actions → AreActions after mail actions
same_actions None after mail actions is are = subst (λ p. AreActions p mail actions) (sym is) are
same_actions (Some program) after mail actions (code, checked, is) (other, charged, checked_other, outcome) =
    let same : other ≡ code = one_code program other code checked_other checked in
    let run = subst (λ c. IsOutcome c mail actions charged) same outcome in
    subst (λ p. AreActions p mail actions) (sym is) (record code { version = latest_version }, charged, checked_too program code checked, runs_too code mail actions charged checked.accepted run)

pub no_actions_change : (before after : Entries) (reply : Reply) → Accepts before Migrate reply after → (user : List ℕ) (mail : Mail) (actions : List Action)
    → AreActions (before.programs user) mail actions → AreActions (after.programs user) mail actions
no_actions_change before after reply accepts user mail actions are = same_actions (before.programs user) (after.programs user) mail actions (accepts.step.renewed user) are

runs_before : (code : Code) (mail : Mail) (actions : List Action) (charged : ℕ) → IsAccepted code → IsOutcome (record code { version = latest_version }) mail actions charged → IsOutcome code mail actions charged
runs_before code mail actions charged accepted outcome = record {
  end = outcome.end;
  over = ends_before code mail accepted outcome.end outcome.over;
  actions_are = outcome.actions_are;
  charge_is = outcome.charge_is;
}

renewed_runs : (program : List ℕ) (code : Code) → IsChecked program code → RunsAs program (renewed_octets code)
renewed_runs program code checked =
    let later : Code = record code { version = latest_version } in
    let checked_later = checked_too program code checked in
    let fewer = λ (mail : Mail). budget_no_larger code (size_of mail) (length mail.parts) in
    record {
      runs = λ message actions charged limit it.
          let mail = mail_of message in
          let report = subst (λ c. IsReport c message actions charged limit) (one_code program it.code code it.checked checked) it.report in (
            limit_of later mail,
            omega (arith, report.budget, fewer mail),
            record { code = later; checked = checked_later; report = reported message later mail actions charged _ checked_later.accepted report.read refl (runs_too code mail actions charged checked.accepted report.outcome) refl },
          );
      no_other = λ message actions charged less it.
          let mail = mail_of message in
          let report = subst (λ c. IsReport c message actions charged less) (one_code (renewed_octets code) it.code later it.checked checked_later) it.report in (
            limit_of code mail,
            omega (arith, report.budget, fewer mail),
            record { code = code; checked = checked; report = reported message code mail actions charged _ checked.accepted report.read refl (runs_before code mail actions charged checked.accepted report.outcome) refl },
          );
    }

pub migrated_runs : (before after : Entries) (reply : Reply) → Accepts before Migrate reply after → (user program : List ℕ) → before.programs user ≡ Some program
    → (renewed : List ℕ) × (after.programs user ≡ Some renewed) × RunsAs program renewed
migrated_runs before after reply accepts user program is =
    let (code, checked, renewed) = subst (λ p. IsRenewed p (after.programs user)) is (accepts.step.renewed user) in
    (renewed_octets code, renewed, renewed_runs program code checked)
