-- The printed line of a budget.
use Rattle.std.specs.Prelude.{ℕ, ◌==◌, List, [], ◌++◌, codes, slice_index, if◌then◌else◌}
use Rattle.std.specs.Fmt.{decimal}
use Rattle.bytecode_cost.specs.Sums.{Sums, by_chains}

-- the sums of k open loops, as A0=2 B0=0
unfoldable pub level_text : ℕ → ℕ → ℕ → List ℕ
level_text k fixed scaled = codes "A" ++ decimal k ++ codes "=" ++ decimal fixed ++ codes " B" ++ decimal k ++ codes "=" ++ decimal scaled

-- the sums of k open loops among others
abbrev pub level_of : Sums → ℕ → List ℕ
level_of sums k = level_text k (slice_index sums.fixed k) (slice_index sums.scaled k)

-- what a line says of a version whose turns are counted by chains after its sums
unfoldable pub turns_text : ℕ → List ℕ
turns_text version = if version == by_chains then codes " by chains" else []

-- the printed line, without its end
abbrev pub budget_text : Sums → List ℕ
budget_text sums = level_of sums 0 ++ codes " " ++ level_of sums 1 ++ codes " " ++ level_of sums 2 ++ codes " " ++ level_of sums 3 ++ turns_text sums.version
