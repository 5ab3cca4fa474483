-- The loops that are open.
use Rattle.std.proofs.Common.{◌≡◌, Bool, true, false, if◌then◌else◌, List, [], Some, None, refl, sym, ap}
use Rattle.std.proofs.lemmas.Option.{same_Some}
use Rattle.sieve_check.specs.Surroundings.{Loop, Context, in_block, inside, opens_many}

-- what stands in a block, where there are surroundings within it, and where there are none
module _ {A : Type 0} (opened : List Loop) (s : Context) (of : Context → List A) where
  pub entered : (around : Context) → Some around ≡ inside opened s → (if opens_many opened s then [] else of (in_block opened s)) ≡ of around
  entered around h = with (opens_many opened s) h where
    with : (b : Bool) → Some around ≡ (if b then None else Some (in_block opened s)) → (if b then [] else of (in_block opened s)) ≡ of around
    with false h = ap of (sym (same_Some around (in_block opened s) h))
    with true h = absurd (cc)

  pub not_entered : None ≡ inside opened s → (if opens_many opened s then [] else of (in_block opened s)) ≡ []
  not_entered h = with (opens_many opened s) h where
    with : (b : Bool) → None ≡ (if b then None else Some (in_block opened s)) → (if b then [] else of (in_block opened s)) ≡ []
    with true h = refl
    with false h = absurd (cc)

-- there are some where there is room
pub room_inside : (opened : List Loop) (s : Context) → opens_many opened s ≡ false → inside opened s ≡ Some (in_block opened s)
room_inside opened s room = ap (λ b. if b then None else Some (in_block opened s)) room
