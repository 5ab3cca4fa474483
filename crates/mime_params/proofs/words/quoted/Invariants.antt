use Rattle.std.proofs.Common.{◌≡◌, length, option_map}
use Rattle.mime_params.specs.Words.{quoted}
use Rattle.mime_params.specs.Reading.{with_prefix}
use Rattle.mime_params.proofs.words.quoted.Given as goal

abbrev pub invariant-quoted : goal.invariant-quoted
invariant-quoted l = quoted l.text ≡ option_map (with_prefix l.octets.items) (quoted l.rest)

abbrev pub decreases-quoted : goal.decreases-quoted
decreases-quoted l = length l.rest
