use Rattle.std.proofs.Common.{◌≡◌, ◌+◌, map, drop}
use Rattle.std.specs.Prelude.{option_map}
use Rattle.sieve_check.specs.Reading.{loop_in, name_in}
use Rattle.sieve_check.specs.Surroundings.{loops_left}
use Rattle.sieve_check.proofs.loops.Loops.left_by.Given as goal

-- with those that were passed, those that are left are all
abbrev pub invariant-loop-loop_name : goal.invariant-loop-loop_name
invariant-loop-loop_name l =
    (l.left ≡ l.loop_name-index)
    × (option_map (λ n. l.left + n) (loops_left (name_in l.name) (map loop_in (drop l.loop_name-index l.loop_name-items))) ≡ loops_left (name_in l.name) (map loop_in l.loop_name-items))
