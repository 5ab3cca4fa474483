-- Names that are put together.
use Rattle.std.proofs.Common.{◌≡◌, ◌∙◌, ◌&&◌, ap, refl, Bool, true, false, ℕ, List, [], ◌∷◌, ◌++◌, length, take, drop, nat_eq}
use Rattle.std.specs.Str.{bytes_eq}

and_both : (a b c : Bool) → (a && (b && c)) ≡ ((a && b) && c)
and_both true b c = refl
and_both false b c = refl

-- a text is two others, one behind the other, where it begins with the first, and the rest is the second
pub is_both : (text first second : List ℕ) → bytes_eq text (first ++ second) ≡ (bytes_eq (take (length first) text) first && bytes_eq (drop (length first) text) second)
is_both text [] second = refl
is_both [] (x ∷ first) second = refl
is_both (y ∷ text) (x ∷ first) second =
    ap (λ rest. nat_eq y x && rest) (is_both text first second)
    ∙ and_both (nat_eq y x) (bytes_eq (take (length first) text) first) (bytes_eq (drop (length first) text) second)
