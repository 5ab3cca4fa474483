use Rattle.std.proofs.Common.{◌≡◌, drop}
use Rattle.std.specs.Prelude.{max}
use Rattle.sieve_explain.specs.Notes.{most_of}
use Rattle.sieve_explain.proofs.notes.most_of.Given as goal

abbrev pub invariant-loop-key : goal.invariant-loop-key
invariant-loop-key l = max l.most (most_of l.script (drop l.key-index l.keys)) ≡ most_of l.script l.keys
