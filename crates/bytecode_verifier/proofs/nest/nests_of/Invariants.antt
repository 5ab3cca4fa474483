use Rattle.std.proofs.Common.{◌≡◌, ◌≤◌, length, drop}
use Rattle.bytecode_verifier.specs.Nests.{nexts_from, open_at}
use Rattle.bytecode_verifier.proofs.Nests.{nests_below}
use Rattle.bytecode_verifier.proofs.nest.nests_of.Given as goal

-- what is known of the places so far
abbrev pub invariant-loop-place : goal.invariant-loop-place
invariant-loop-place l = record {
  nexts : l.nexts ≡ nexts_from l.place (drop l.place l.instructions);
  inside : l.inside ≡ open_at l.instructions l.place;
  few : length l.inside ≤ l.place;
  nests : l.nests.items ≡ nests_below l.instructions l.place;
}
