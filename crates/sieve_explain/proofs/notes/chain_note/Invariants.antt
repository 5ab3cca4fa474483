use Rattle.std.proofs.Common.{◌-◌, length}
use Rattle.sieve_explain.proofs.Chains.{IsRest}
use Rattle.sieve_explain.proofs.notes.chain_note.Given as goal

abbrev pub invariant-loop-turn : goal.invariant-loop-turn
invariant-loop-turn l = IsRest l.script l.only l.tokens l.last l.branch (length l.tokens - l.turn)
