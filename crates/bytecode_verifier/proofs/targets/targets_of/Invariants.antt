use Rattle.std.proofs.Common.{◌≡◌, ℕ, ◌<◌, length, Some, slice_get, take}
use Rattle.bytecode_verifier.specs.Shape.{is_target}
use Rattle.bytecode_verifier.proofs.targets.targets_of.Given as goal

-- the places are marked that the jumps so far lead to
abbrev pub invariant-loop-instruction : goal.invariant-loop-instruction
invariant-loop-instruction l = record {
  number : length l.targets.items ≡ length l.instructions;
  each : (place : ℕ) → place < length l.instructions → slice_get l.targets.items place ≡ Some (is_target l.version (take l.instruction-index l.instructions) place);
}
