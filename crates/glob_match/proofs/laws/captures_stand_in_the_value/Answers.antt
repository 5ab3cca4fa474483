use Rattle.glob_match.proofs.Standing.{capture_texts, captures_within}
use Rattle.glob_match.proofs.laws.captures_stand_in_the_value.Goals as goal

pub returns-clause-within : goal.returns-clause-within
returns-clause-within c = captures_within

pub returns-clause-texts : goal.returns-clause-texts
returns-clause-texts c = capture_texts
