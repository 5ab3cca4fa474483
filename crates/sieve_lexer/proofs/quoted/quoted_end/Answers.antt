use Rattle.std.proofs.Common.{◌+◌, refl, inl, inr, arith}
use Rattle.sieve_lexer.proofs.Steps.{leads_push}
use Rattle.sieve_lexer.proofs.Unique.{quoted_none, quoted_none_at_end}
use Rattle.sieve_lexer.proofs.quoted.quoted_end.Goals as goal

pub returns-then-at-script-clause-rest : goal.returns-then-at-script-clause-rest
returns-then-at-script-clause-rest c =
    quoted_none c.args.script.now c.args.place c.loop-at.at c.loop-at.invariant.2 (λ b p. elim p [ inl q ↦ q.3 c.in-92.is | inr q ↦ omega arith ]) (λ e. omega arith)

pub loop-at-preserved-in-92 : goal.loop-at-preserved-in-92
loop-at-preserved-in-92 c =
    (omega arith, omega arith, leads_push _ c.args.place c.loop-at.at (c.loop-at.at + 2) c.loop-at.invariant.2 (inr (refl, omega arith, c.in-92.is)))

pub loop-at-preserved : goal.loop-at-preserved
loop-at-preserved c =
    (omega arith, omega arith, leads_push _ c.args.place c.loop-at.at (c.loop-at.at + 1) c.loop-at.invariant.2 (inl (refl, omega arith, λ e. omega arith, λ e. omega arith)))

pub returns-clause-rest : goal.returns-clause-rest
returns-clause-rest c = quoted_none_at_end c.args.script.now c.args.place c.loop-at.at (omega arith) c.loop-at.invariant.2
