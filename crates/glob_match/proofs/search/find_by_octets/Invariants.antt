use Rattle.memchr.specs.Find.{Nowhere, OccursAt}
use Rattle.glob_match.specs.Comparison.{compared}
use Rattle.glob_match.specs.declared.comparator.Comparator.TheVariants.{Casemap}
use Rattle.glob_match.proofs.search.find_by_octets.Given as goal

abbrev pub invariant-loop-place : goal.invariant-loop-place
invariant-loop-place l = Nowhere (OccursAt (compared Casemap l.value) (compared Casemap l.text)) 0 l.place
