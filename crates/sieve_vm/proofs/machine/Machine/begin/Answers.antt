use Rattle.std.proofs.Common.{[], replicate, refl, ap, ◌∙◌}
use Rattle.std.proofs.lemmas.Result.{on_ok_weaker}
use Rattle.mail_matching.specs.FirstMatch.{no_captures}
use Rattle.sieve_vm.specs.Standing.{Held}
use Rattle.sieve_vm.proofs.machine.Machine.begin.Goals as goal

pub returns : goal.returns
returns c =
    on_ok_weaker c.begin.result
    (λ held.
    record {
      work = held ∙ ap (λ n. let h : Held = record { stack = []; variables = replicate n []; captures = no_captures } in h) c.variables.ensures.value;
      mail_is = refl;
      frames = c.requires.frames;
      actions = c.requires.actions;
      implicit_keep = c.requires.implicit_keep;
    })
    c.begin.ensures
