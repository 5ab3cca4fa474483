use Rattle.std.proofs.Common.{◌≡◌, drop}
use Rattle.mail_matching.specs.Headers.{all_fields}
use Rattle.mail_matching.specs.HeaderTests.{has_field}
use Rattle.mail_matching.proofs.existence.any_has_field.Given as goal

-- the headers that are left, as long as none has had it
abbrev pub invariant-loop-place : goal.invariant-loop-place
invariant-loop-place l = has_field (all_fields (drop l.place l.headers)) l.name ≡ has_field (all_fields l.headers) l.name
