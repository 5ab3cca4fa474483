use Rattle.std.proofs.Common.{◌≡◌}
use Rattle.depot_jobs.proofs.process_words.words.Given as goal

abbrev pub invariant-loop-word : goal.invariant-loop-word
invariant-loop-word l = l.words.items ≡ l.yielded
