use Rattle.std.proofs.Common.{◌≡◌, ℕ, List, drop}
use Rattle.mail_matching.specs.Findings.{key_of}
use Rattle.mail_matching.specs.FirstMatch.{first_key}
use Rattle.mail_matching.specs.Private.{containing}
use Rattle.mail_matching.proofs.comparing.first_contained_of_few.Given as goal

abbrev pub invariant-places : goal.invariant-places
invariant-places g l =
    ((captures : List (List ℕ)) → first_key (containing l.comparator) l.value (drop l.place (g.K.Texts.texts l.keys)) captures ≡ first_key (containing l.comparator) l.value (g.K.Texts.texts l.keys) captures)
    × (key_of (containing l.comparator) l.value (drop l.place (g.K.Texts.texts l.keys)) ≡ key_of (containing l.comparator) l.value (g.K.Texts.texts l.keys))
