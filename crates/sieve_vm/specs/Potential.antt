-- What a run may still charge; or, where each place has another price, what it may still come to.
use Rattle.std.specs.Prelude.{ℕ, suc, ◌+◌, ◌-◌, ◌*◌, ◌==◌, List, [], ◌∷◌, length, nat_le, if◌then◌else◌}
use Rattle.bytecode_format.specs.Code.{Code}
use Rattle.bytecode_verifier.specs.Places.{sum_below}
use Rattle.bytecode_verifier.specs.Loops.{open_loops}
use Rattle.bytecode_verifier.specs.declared.cap.Cap.{Cap}
use Rattle.bytecode_verifier.specs.Budget.{cap_at, budget_of}
use Rattle.bytecode_cost.specs.Sums.{budget_at, by_chains, turns_left}
use Rattle.mime_decode.specs.Mail.{Mail, size_of}
use Rattle.mime_decode.specs.Visited.{visited}
use Rattle.sieve_vm.specs.State.{Frame, State, current_part}

-- what an instruction may charge each time, at a message
abbrev pub cap_value : Mail → Cap → ℕ
cap_value mail cap = cap.fixed + cap.scaled * (size_of mail + 1)

-- what the instruction at a place may charge each time
abbrev pub charge_at : Code → Mail → ℕ → ℕ
charge_at code mail place = cap_value mail (cap_at code place)

-- what the instruction at a place comes to inside so many loops, where each place has a price: that, for
-- each turn of the further loops that it stands in, the outermost of which has so many parts to visit
abbrev pub weight_at : Code → Mail → (ℕ → ℕ) → ℕ → ℕ → ℕ → ℕ
weight_at code mail price visits depth place =
    price place * turns_left code.version (length mail.parts) visits (length (open_loops code place) - depth)

-- what the instructions from a place on and before another come to there
abbrev pub stretch : Code → Mail → (ℕ → ℕ) → ℕ → ℕ → ℕ → ℕ → ℕ
stretch code mail price visits depth from to = sum_below (λ place. if nat_le from place then weight_at code mail price visits depth place else 0) to

-- how many parts count for a loop that would be opened now: in programs of version 2 those that it
-- would visit, else all
abbrev pub visits_now : Code → Mail → List Frame → ℕ
visits_now code mail frames = if code.version == by_chains then length (visited (current_part frames) mail) else length mail.parts

-- the rest of the innermost open loop's body, and the whole body again for the parts that the loop
-- has left; then the same for the loop around it, from after the inner Next; in the end the rest of
-- the program
abbrev pub left_from : Code → Mail → (ℕ → ℕ) → ℕ → List Frame → ℕ
left_from code mail price place [] = stretch code mail price (visits_now code mail []) 0 place (length code.instructions)
left_from code mail price place (frame ∷ frames) =
    stretch code mail price (visits_now code mail (frame ∷ frames)) (suc (length frames)) place (suc frame.next)
    + stretch code mail price (length frame.rest) (length frames) (suc frame.each) (suc frame.next)
    + left_from code mail price (suc frame.next) frames

-- what a run may still charge at a place and in these loops
abbrev pub potential_from : Code → Mail → ℕ → List Frame → ℕ
potential_from code mail place frames = left_from code mail (charge_at code mail) place frames

-- what a run may still charge from a state
abbrev pub potential : Code → Mail → State → ℕ
potential code mail state = potential_from code mail state.place state.frames

-- what the budget allows a program on a message
abbrev pub limit_of : Code → Mail → ℕ
limit_of code mail = budget_at (budget_of code) (size_of mail) (length mail.parts)
