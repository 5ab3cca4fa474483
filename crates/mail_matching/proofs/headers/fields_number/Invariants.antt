use Rattle.std.proofs.Common.{◌≡◌, length, take}
use Rattle.mail_matching.specs.Headers.{all_fields}
use Rattle.mail_matching.proofs.headers.fields_number.Given as goal

abbrev pub invariant-loop-place : goal.invariant-loop-place
invariant-loop-place l = l.number ≡ length (all_fields (take l.place l.headers))
