use Rattle.std.proofs.Common.{◌≡◌, take}
use Rattle.std.specs.Prelude.{map}
use Rattle.sieve_check.specs.ReasonView.{refused_view}
use Rattle.sieve_explain.specs.Explaining.{printed, reason_told}
use Rattle.sieve_explain.proofs.explaining.first_told.Given as goal

-- those so far are told
abbrev pub invariant-loop-found : goal.invariant-loop-found
invariant-loop-found l = l.text.items ≡ printed l.source.name.now (map (reason_told l.source.octets.now l.tokens) (map refused_view (take l.found-index l.reasons)))
