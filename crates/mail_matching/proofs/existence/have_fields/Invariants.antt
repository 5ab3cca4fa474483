use Rattle.std.proofs.Common.{◌≡◌, drop}
use Rattle.std.specs.List.{list_all}
use Rattle.mail_matching.specs.Headers.{all_fields}
use Rattle.mail_matching.specs.HeaderTests.{has_field}
use Rattle.mail_matching.proofs.existence.have_fields.Given as goal

abbrev pub invariant-loop-place : goal.invariant-loop-place
invariant-loop-place g l =
    list_all (has_field (all_fields l.headers)) (drop l.place (g.N.Texts.texts l.names)) ≡ list_all (has_field (all_fields l.headers)) (g.N.Texts.texts l.names)
