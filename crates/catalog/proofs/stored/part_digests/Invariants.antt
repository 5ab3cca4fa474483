use Rattle.std.proofs.Common.{◌≡◌, map, take}
use Rattle.sha2.specs.Sha256.{sha256}
use Rattle.mime_decode.specs.Mail.{Part}
use Rattle.catalog.proofs.stored.part_digests.Given as goal

abbrev pub invariant-loop-part : goal.invariant-loop-part
invariant-loop-part l = l.digests.items ≡ map (λ (p : Part). sha256 p.content) (take l.part l.message.parts)
