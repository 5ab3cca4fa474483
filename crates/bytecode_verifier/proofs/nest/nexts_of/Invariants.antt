use Rattle.std.proofs.Common.{◌≡◌, ◌≤◌, length, drop}
use Rattle.bytecode_verifier.specs.Nests.{waiting_from, nexts_from}
use Rattle.bytecode_verifier.proofs.nest.nexts_of.Given as goal

-- what is wanted of the instructions from the place on
abbrev pub invariant-loop-place : goal.invariant-loop-place
invariant-loop-place l = record {
  waiting : l.waiting ≡ waiting_from l.place (drop l.place l.instructions);
  nexts : l.nexts ≡ nexts_from l.place (drop l.place l.instructions);
  within : l.place ≤ length l.instructions;
}
