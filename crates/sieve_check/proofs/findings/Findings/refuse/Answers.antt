use Rattle.std.proofs.Common.{◌≡◌, ◌∙◌, false, refl, subst, sym, take}
use Rattle.std.proofs.lemmas.Bool.{eqb-false, eqb-true}
use Rattle.octets.specs.Once.{is_listed, with_one}
use Rattle.sieve_check.specs.Causes as causes
use Rattle.sieve_check.specs.Refusing.{refused_in}
use Rattle.sieve_check.specs.Rules.{max_found, same_reason}
use Rattle.sieve_check.proofs.Visits.{refused_before, refused_beyond, refused_more}
use Rattle.sieve_check.proofs.findings.Findings.refuse.Goals as goal
use Rattle.sieve_check.proofs.findings.Findings.refuse.Goals.{then-is_full-via-then-is_full, then-is_full-via-else-is_full+then-tells}

pub returns-then-is_full : goal.returns-then-is_full
returns-then-is_full c =
    let old = c.args.self.now in
    record {
      names = refl;
      refused = elim c.then-is_full.branch [
        | then-is_full-via-then-is_full w ↦ refused_beyond old _ (eqb-true _ _ (sym c.is_full.ensures.value ∙ w.if-is_full.true))
        | then-is_full-via-else-is_full+then-tells w ↦
            subst (λ (x : causes.Refused). refused_in old ≡ take max_found (with_one same_reason (refused_in old) x)) c.of-found.ensures
            (refused_before old _ (sym w.tells.ensures ∙ w.if-tells.true))
      ];
    }

pub returns : goal.returns
returns c =
    let old = c.args.self.now in
    record {
      names = refl;
      refused = refused_more old c.push.new.self.items c.of-found.result _ c.push.ensures.items (eqb-false _ _ (sym c.is_full.ensures.value ∙ c.if-is_full.false))
          (subst (λ (x : causes.Refused). is_listed same_reason x (refused_in old) ≡ false) c.of-found.ensures (sym c.tells.ensures ∙ c.if-tells.false)) c.of-found.ensures;
    }
