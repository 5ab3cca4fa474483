-- How the test of the current part's digest, `partdigest`, compares.
use Rattle.glob_match.specs.declared.comparator.Comparator.TheVariants.{Octet}
use Rattle.glob_match.specs.declared.match_type.Match.{Match}
use Rattle.glob_match.specs.declared.match_type.MatchType.TheVariants.{Is}

-- equality, octet by octet
abbrev pub exactly : Match
exactly = record { kind = Is; comparator = Octet }
