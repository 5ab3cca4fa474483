use Rattle.std.proofs.Common.{◌≡◌, ◌==◌, if◌then◌else◌, None, take}
use Rattle.bytecode_format.proofs.ModifierLemmas.{spelled, with_quotes}
use Rattle.bytecode_format.proofs.modifiers.Modifiers.quoted.Given as goal

abbrev pub invariant-text : goal.invariant-text
invariant-text l = (l.first ≡ (if l.octet-index == 0 then l.self.first else None)) × (l.out.items ≡ take l.limit (spelled (with_quotes l.self) (take l.octet-index l.text)))
