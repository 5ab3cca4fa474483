use Rattle.std.proofs.Common.{◌≡◌, length}
use Rattle.octets.specs.Blank.{without_leading_blanks}
use Rattle.octets.proofs.blank.trim_leading_blanks.Given as goal

abbrev pub invariant-blanks : goal.invariant-blanks
invariant-blanks l = without_leading_blanks l.rest ≡ without_leading_blanks l.text

abbrev pub decreases-blanks : goal.decreases-blanks
decreases-blanks l = length l.rest
