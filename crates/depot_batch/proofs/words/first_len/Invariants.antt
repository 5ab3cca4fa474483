use Rattle.std.proofs.Common.{◌≡◌, ◌+◌, ◌-◌, ◌≤◌, ℕ, false, length, drop}
use Rattle.depot_batch.specs.Words.{texts_from}
use Rattle.depot_batch.specs.Private.{parted_at}
use Rattle.depot_batch.proofs.words.first_len.Given as goal

abbrev pub invariant-octets : goal.invariant-octets
invariant-octets l =
    record {
      bound : l.len ≤ length l.octets;
      first : (more : ℕ) → texts_from l.quoted (drop l.len l.octets) ≡ parted_at more (drop l.len l.octets)
          → texts_from false l.octets ≡ parted_at (l.len + more) l.octets;
    }

abbrev pub decreases-octets : goal.decreases-octets
decreases-octets l = length l.octets - l.len
