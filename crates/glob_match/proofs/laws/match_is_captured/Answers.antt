use Rattle.glob_match.proofs.Captured.{captured_from, captured_since}
use Rattle.glob_match.proofs.laws.match_is_captured.Goals as goal

pub returns : goal.returns
returns c = λ comparator value key captures. (captured_from comparator value key captures, captured_since comparator value key captures)
