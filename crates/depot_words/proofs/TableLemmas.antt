-- A loop over a table, up to a place.
use Rattle.std.proofs.Common.{◌≡◌, ◌∙◌, ◌+◌, ◌<◌, ◌||◌, ℕ, Bool, List, ap, false, get_or, length, map, sym, take}
use Rattle.std.specs.List.{fold}
use Rattle.std.proofs.lemmas.List.{map_more}
use Rattle.std.proofs.lemmas.List.Sums.{fold_push}

-- a turn goes on with the next row
pub one_more : {X Y A : Type 0} (f : A → Y → A) (g : X → Y) (start : A) (rows : List X) (place : ℕ) (row default : X) (old new : A) → place < length rows
    → row ≡ get_or rows place default → old ≡ fold f start (map g (take place rows)) → new ≡ f old (g row) → new ≡ fold f start (map g (take (place + 1) rows))
one_more f g start rows place row default old new lt is so_far turn =
    let before = map g (take place rows) in
    let next = g (get_or rows place default) in
    turn ∙ ap (λ a. f a (g row)) so_far ∙ ap (λ x. f (fold f start before) (g x)) is
    ∙ sym (ap (fold f start) (map_more g rows place default lt) ∙ fold_push f start before next)

-- what adds nothing global leaves it so
pub local_still : (old new more : Bool) → new ≡ (old || more) → old ≡ false → more ≡ false → new ≡ false
local_still old new more is was none = is ∙ ap (λ b. b || more) was ∙ none
