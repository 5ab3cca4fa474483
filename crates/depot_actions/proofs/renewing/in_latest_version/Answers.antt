use Rattle.std.proofs.Common.{◌≡◌, inr, refl, rules}
use Rattle.bytecode_format.specs.declared.error.FormatError.TheVariants as format
use Rattle.refusals.specs.declared.refusal.Refusal.TheVariants.{Spelling}
use Rattle.depot_actions.proofs.renewing.in_latest_version.Goals as goal

pub returns-in-Err-Spelling-clause-refused : goal.returns-in-Err-Spelling-clause-refused
returns-in-Err-Spelling-clause-refused c =
    let same : c.in-Err-Spelling.field-0 ≡ format.Spelling = search rules in
    record { which = inr refl; cause = λ _. (Spelling, λ h. cc, λ code spells. (rw c.in-Err-Spelling.is at c.read.ensures.refused) same code spells.within spells.spelt) }
