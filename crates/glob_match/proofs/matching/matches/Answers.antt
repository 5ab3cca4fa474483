use Rattle.glob_match.proofs.Standing.{match_texts}
use Rattle.glob_match.proofs.matching.matches.Goals as goal

pub returns-clause-captures : goal.returns-clause-captures
returns-clause-captures c = match_texts c.args.comparator c.args.value.now c.args.key.now c.match_segments.result.0 c.match_segments.ensures.places
