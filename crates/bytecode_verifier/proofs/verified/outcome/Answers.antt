use Rattle.std.proofs.Common.{refl, sym, ◌∙◌}
use Rattle.bytecode_verifier.proofs.Ends.{refusal_found}
use Rattle.bytecode_verifier.proofs.Accepted.{accepted_from_none}
use Rattle.bytecode_verifier.proofs.verified.outcome.Goals as goal

pub returns-clause-accepted : goal.returns-clause-accepted
returns-clause-accepted c =
    accepted_from_none c.args.program.now
    (refusal_found c.args.program.now c.args.pass c.requires c.in_default-form.is c.in_default.is (sym c.missing_end.ensures ∙ c.in_default-missing_end.is)
    ∙ rw (c.in_default-brackets.is, c.in_default-jump.is, c.in_default-part.is, c.in_default-stack.is) refl)
