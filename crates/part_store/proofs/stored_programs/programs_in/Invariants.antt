use Rattle.std.proofs.Common.{◌≡◌, [], ◌∷◌, map, take}
use Rattle.part_store.specs.Changes.{columns}
use Rattle.part_store.specs.Readings.{row_of}
use Rattle.part_store.proofs.stored_programs.programs_in.Given as goal

abbrev pub invariant-loop-row : goal.invariant-loop-row
invariant-loop-row l = map row_of l.programs.items ≡ map (columns (0 ∷ 1 ∷ [])) (take l.row-index l.rows.items)
