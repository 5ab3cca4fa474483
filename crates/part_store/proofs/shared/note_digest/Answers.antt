use Rattle.std.proofs.Common.{refl}
use Rattle.std.proofs.Math.Seq.{map-set_same}
use Rattle.part_store.specs.Sharing.{first_of}
use Rattle.part_store.specs.Noting.{none_shared}
use Rattle.part_store.proofs.shared.note_digest.Goals as goal

pub returns-then-place-shared-clause-firsts : goal.returns-then-place-shared-clause-firsts
returns-then-place-shared-clause-firsts c = map-set_same first_of c.args.shared.now c.args.place _ none_shared refl
