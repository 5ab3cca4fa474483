use Rattle.std.proofs.Common.{sym, ap, ◌∙◌}
use Rattle.bytecode_format.specs.Actions.{with_action}
use Rattle.bytecode_format.proofs.ActionLemmas.{first_occurrences-push}
use Rattle.sieve_vm.proofs.machine.Machine.list.Goals as goal

pub returns-clause-done : goal.returns-clause-done
returns-clause-done c = λ mail s stands.
    record {
      work = stands.work;
      mail_is = stands.mail_is;
      frames = stands.frames;
      actions = c.in_ok-push.ensures.ok ∙ ap (λ l. with_action l c.args.action) stands.actions ∙ sym (first_occurrences-push s.actions c.args.action);
      implicit_keep = stands.implicit_keep;
    }
