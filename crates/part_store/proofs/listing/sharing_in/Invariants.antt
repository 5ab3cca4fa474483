use Rattle.std.proofs.Common.{◌≡◌, vec_len}
use Rattle.part_store.proofs.Siblings.{SharingSoFar}
use Rattle.part_store.proofs.listing.sharing_in.Given as goal

abbrev pub invariant-loop-row : goal.invariant-loop-row
invariant-loop-row l = record { number : vec_len l.sharing ≡ l.row-index; so_far : SharingSoFar l.row-items l.row-index l.sharing.items l.firsts }
