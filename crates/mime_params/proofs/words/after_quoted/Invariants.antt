use Rattle.std.proofs.Common.{◌≡◌, length}
use Rattle.mime_params.specs.Words.{quoted}
use Rattle.mime_params.specs.Reading.{after_word}
use Rattle.mime_params.proofs.words.after_quoted.Given as goal

abbrev pub invariant-quoted : goal.invariant-quoted
invariant-quoted l = after_word (quoted l.rest) ≡ after_word (quoted l.text)

abbrev pub decreases-quoted : goal.decreases-quoted
decreases-quoted l = length l.rest
