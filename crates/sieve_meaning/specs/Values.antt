-- How a map of values stands for the values of variables.
use Rattle.std.specs.Prelude.{ℕ, List, [], unwrap_or}
use Rattle.std.specs.Borrow.{Bor}
use Rattle.std.specs.BTreeMap.{BTreeMap, get_by}
use Rattle.std.specs.Ordering.{nat_cmp}
use Rattle.std.specs.Cmp.Lexicographic.{slice_cmp}

-- the value that a map holds for a name; empty where it holds none
abbrev pub found_in : BTreeMap (Bor (List ℕ)) (List ℕ) → List ℕ → List ℕ
found_in values name = unwrap_or (get_by (λ (key : Bor (List ℕ)). slice_cmp nat_cmp name key.now) values) []
