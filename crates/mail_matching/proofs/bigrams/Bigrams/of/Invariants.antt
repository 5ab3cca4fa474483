use Rattle.std.proofs.Common.{◌≡◌, length}
use Rattle.mail_matching.proofs.NotContained.{CoversBefore}
use Rattle.mail_matching.proofs.bigrams.Bigrams.of.Given as goal

abbrev pub invariant-places : goal.invariant-places
invariant-places l = (length l.rows ≡ 32) × CoversBefore l.rows l.value l.place
