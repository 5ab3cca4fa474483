-- The contents that loops hold.
use Rattle.std.proofs.Common.{◌≡◌, ℕ, zero, suc, ◌-◌, ◌<◌, ◌≤◌, Bool, false, List, [], ◌∷◌, ◌++◌, length, map, reverse, take, drop, is_some, refl, sym, ap, ◌∙◌, arith}
use Rattle.std.proofs.Math.Seq.{drop-nil}
use Rattle.std.proofs.lemmas.List.{take-append-drop, drop_at, map-append, reverse-append, length-drop, length-map, length-reverse}
use Rattle.sieve_vm.specs.declared.frame.Frame as code
use Rattle.sieve_vm.specs.Visits.{held_in}

abbrev has : code.Frame → Bool
has frame = is_some frame.content

-- those that are left where some loops were closed
pub held_left : (items : List code.Frame) (number : ℕ) → number ≤ length items → held_in (take (length items - number) items) ≡ drop number (held_in items)
held_left items number there =
    let k = length items - number in
    let back = drop k items in
    let whole : held_in items ≡ held_in back ++ held_in (take k items) =
    ap held_in (sym (take-append-drop k items)) ∙ ap (map has) (reverse-append (take k items) back) ∙ map-append has (reverse back) (reverse (take k items)) in
    let number_is : length (held_in back) ≡ number = omega (arith, length-map (reverse back) has, length-reverse back, length-drop k items) in
    sym (ap (drop number) whole ∙ drop_at (held_in back) (held_in (take k items)) number number_is)

-- these are the same if the innermost loop has let go of its content before
pub held_after : (held : List Bool) (number : ℕ) → 0 < number → drop number (false ∷ drop 1 held) ≡ drop number held
held_after held zero some = absurd (omega arith)
held_after [] (suc n) some = drop-nil n
held_after (first ∷ held) (suc n) some = refl
