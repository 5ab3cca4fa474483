use Rattle.std.proofs.Common.{◌≡◌, [], ◌∷◌, map, take}
use Rattle.part_store.specs.Changes.{columns}
use Rattle.part_store.specs.Readings.{answer_of}
use Rattle.part_store.proofs.all_users.users_in.Given as goal

abbrev pub invariant-loop-row : goal.invariant-loop-row
invariant-loop-row l = map answer_of l.users.items ≡ map (columns (0 ∷ 1 ∷ 2 ∷ [])) (take l.row-index l.rows.items)
