-- The code's segments, as the definition has them.
use Rattle.sieve_references.specs.References.{stretch, variable, capture, beyond, foreign}
use Rattle.sieve_references.specs.References as references
use Rattle.sieve_references.specs.declared.segment.Segment.{Segment}
use Rattle.sieve_references.specs.declared.segment.Segment.TheVariants.{Text, Variable, Capture, Beyond, Foreign}

abbrev pub segment_of : Segment → references.Segment
segment_of (Text octets) = stretch octets.now
segment_of (Variable name) = variable name.now
segment_of (Capture number) = capture number
segment_of Beyond = beyond
segment_of Foreign = foreign
