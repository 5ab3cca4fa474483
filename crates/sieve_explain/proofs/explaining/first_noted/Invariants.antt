use Rattle.std.proofs.Common.{◌≡◌, take}
use Rattle.std.specs.Prelude.{map}
use Rattle.sieve_explain.specs.Explaining.{note_told, printed}
use Rattle.sieve_explain.proofs.explaining.first_noted.Given as goal

-- those so far are told
abbrev pub invariant-loop-noted : goal.invariant-loop-noted
invariant-loop-noted l = l.text.items ≡ printed l.source.name.now (map (note_told l.source.octets.now) (take l.noted-index l.notes))
