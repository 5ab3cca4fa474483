use Rattle.std.proofs.Common.{◌≡◌, drop}
use Rattle.mail_matching.specs.HeaderTests.{has_field}
use Rattle.mail_matching.proofs.existence.has_field.Given as goal

-- the fields that are left, as long as none has had it
abbrev pub invariant-loop-place : goal.invariant-loop-place
invariant-loop-place l = has_field (drop l.place l.fields) l.name ≡ has_field l.fields l.name
