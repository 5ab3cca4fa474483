use Rattle.std.proofs.Common.{◌≡◌, Some}
use Rattle.bytecode_verifier.specs.Shape.{shape_at}
use Rattle.bytecode_verifier.proofs.Shares.{HasShares}
use Rattle.bytecode_verifier.proofs.share.shares_of.Given as goal

-- the shape goes up to the place, and the shares of the instructions below it are there
abbrev pub invariant-loop-place : goal.invariant-loop-place
invariant-loop-place l = record {
  shape : shape_at l.program l.place ≡ Some l.shape;
  shares : HasShares l.program l.place l.shares.items;
}
