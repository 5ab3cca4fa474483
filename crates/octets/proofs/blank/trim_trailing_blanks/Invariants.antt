use Rattle.std.proofs.Common.{◌≡◌, length}
use Rattle.octets.specs.Blank.{without_trailing_blanks}
use Rattle.octets.proofs.blank.trim_trailing_blanks.Given as goal

abbrev pub invariant-blanks : goal.invariant-blanks
invariant-blanks l = without_trailing_blanks l.rest ≡ without_trailing_blanks l.text

abbrev pub decreases-blanks : goal.decreases-blanks
decreases-blanks l = length l.rest
