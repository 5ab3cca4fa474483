use Rattle.glob_match.proofs.Captured.{captured_once}
use Rattle.glob_match.proofs.laws.captures_are_unique.Goals as goal

pub returns : goal.returns
returns c = captured_once
