use Rattle.std.proofs.Common.{◌≡◌, ◌<◌, ◌≤◌, ℕ, true, suc, length, get_or}
use Rattle.quoted_printable.specs.Pieces.{follows}
use Rattle.quoted_printable.proofs.decoder.chain_start.Given as goal

abbrev pub invariant-octets : goal.invariant-octets
invariant-octets l = record {
  within : l.start < length l.line;
  follow : (k : ℕ) → l.start ≤ k → suc k < length l.line → follows (get_or l.line k 0) (get_or l.line (suc k) 0) ≡ true;
}

abbrev pub decreases-octets : goal.decreases-octets
decreases-octets l = l.start
