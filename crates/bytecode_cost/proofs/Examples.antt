-- Budgets that were computed by hand.
use Rattle.std.proofs.Common.{◌≡◌, ℕ, [], ◌∷◌, codes, refl}
use Rattle.bytecode_cost.specs.Sums.{Sums, chains, turns_left, budget_at}
use Rattle.bytecode_cost.specs.Text.{turns_text}

-- chains of none to four parts of five
five : chains 5 0 ∷ chains 5 1 ∷ chains 5 2 ∷ chains 5 3 ∷ chains 5 4 ∷ [] ≡ 1 ∷ 5 ∷ 10 ∷ 10 ∷ 5 ∷ []
five = refl

-- there is none where there are too few parts
too_few : chains 0 1 ∷ chains 1 2 ∷ chains 2 3 ∷ [] ≡ 0 ∷ 0 ∷ 0 ∷ []
too_few = refl

-- a loop in a loop, with two instructions at each depth
abbrev two_loops : ℕ → Sums
two_loops version = record { version = version; fixed = 2 ∷ 2 ∷ 2 ∷ 0 ∷ []; scaled = 0 ∷ 0 ∷ 0 ∷ 0 ∷ [] }

two_loops_by_powers : budget_at (two_loops 1) 0 5 ≡ 62
two_loops_by_powers = refl

two_loops_by_chains : budget_at (two_loops 2) 0 5 ≡ 32
two_loops_by_chains = refl

two_loops_of_three_parts : budget_at (two_loops 2) 0 3 ≡ 14
two_loops_of_three_parts = refl

two_loops_of_no_part : budget_at (two_loops 2) 0 0 ≡ 2
two_loops_of_no_part = refl

-- the same of three loops
abbrev three_loops : ℕ → Sums
three_loops version = record { version = version; fixed = 2 ∷ 2 ∷ 2 ∷ 2 ∷ []; scaled = 0 ∷ 0 ∷ 0 ∷ 0 ∷ [] }

three_loops_by_powers : budget_at (three_loops 1) 0 5 ≡ 312
three_loops_by_powers = refl

three_loops_by_chains : budget_at (three_loops 2) 0 5 ≡ 52
three_loops_by_chains = refl

three_loops_of_one_part : budget_at (three_loops 2) 0 1 ≡ 4
three_loops_of_one_part = refl

-- for each octet and one more
scaled_by_octets : budget_at (record { version = 2; fixed = 0 ∷ 0 ∷ 0 ∷ 0 ∷ []; scaled = 1 ∷ 0 ∷ 1 ∷ 0 ∷ [] }) 9 5 ≡ 110
scaled_by_octets = refl

-- what is left of the turns: where two of five parts are left, the loops inside visit all five in version 1, and the other one in version 2
left_by_powers : turns_left 1 5 2 0 ∷ turns_left 1 5 2 1 ∷ turns_left 1 5 2 2 ∷ [] ≡ 1 ∷ 2 ∷ 10 ∷ []
left_by_powers = refl

left_by_chains : turns_left 2 5 2 0 ∷ turns_left 2 5 2 1 ∷ turns_left 2 5 2 2 ∷ [] ≡ 1 ∷ 2 ∷ 1 ∷ []
left_by_chains = refl

-- the line of version 1 ends with its sums
ending_of_one : turns_text 1 ≡ []
unfolding turns_text
ending_of_one = refl

ending_of_two : turns_text 2 ≡ codes " by chains"
unfolding turns_text
ending_of_two = refl
