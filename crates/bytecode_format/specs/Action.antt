-- What an action says: its kind, its folder and its part.
use Rattle.std.specs.Prelude.{ℕ, Bool, List, [], nat_eq}
use Rattle.std.specs.declared.cmp.Ordering.{Ordering}
use Rattle.std.specs.Ordering.{nat_cmp, on, then_cmp, eq_of_both}
use Rattle.std.specs.Cmp.Lexicographic.{pointwise, slice_cmp}
use Rattle.bytecode_format.specs.declared.action.Action.{Action}
use Rattle.bytecode_format.specs.declared.action.Action.TheVariants.{Keep, File, Store}

-- Keep, File and Store, in this order
abbrev pub kind_of : Action → ℕ
kind_of Keep = 0
kind_of (File folder) = 1
kind_of (Store folder part) = 2

-- the folder, empty where there is none
abbrev pub folder_of : Action → List ℕ
folder_of Keep = []
folder_of (File folder) = folder
folder_of (Store folder part) = folder

-- the part, 0 where there is none
abbrev pub part_of : Action → ℕ
part_of Keep = 0
part_of (File folder) = 0
part_of (Store folder part) = part

-- whether actions are equal: their kinds, their folders octet by octet, and their parts
abbrev pub is_same : Action → Action → Bool
is_same = eq_of_both (on kind_of nat_eq) (eq_of_both (on folder_of (pointwise nat_eq)) (on part_of nat_eq))

-- actions by kind, then folder, then part
abbrev pub action_cmp : Action → Action → Ordering
action_cmp = then_cmp (on kind_of nat_cmp) (then_cmp (on folder_of (slice_cmp nat_cmp)) (on part_of nat_cmp))
