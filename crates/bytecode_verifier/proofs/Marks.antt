-- The marks of the places that jumps lead to.
use Rattle.std.proofs.Common.{◌≡◌, ℕ, ◌+◌, ◌<◌, Bool, true, false, ◌&&◌, ◌||◌, ◌==◌, List, Option, Some, length, set, take, get_or, slice_get, refl, sym, ap, ◌∙◌, inl, inr, length-set, get_or-set_same, get_or-set_other}
use Rattle.std.proofs.lemmas.Bool.{cases_eq, ne_eqb}
use Rattle.std.proofs.lemmas.Option.{slice_get-get_or, get_or_from_slice_get}
use Rattle.std.proofs.lemmas.List.Folds.{list_any_more}
use Rattle.bytecode_format.specs.declared.instruction.Instruction.{Instruction}
use Rattle.bytecode_verifier.specs.declared.row.Row.{Row}
use Rattle.bytecode_verifier.specs.Rows.{row_named, is_jump}
use Rattle.bytecode_verifier.specs.Shape.{is_target}
use Rattle.bytecode_verifier.proofs.Tests.{same_place, or_false, or_true}

-- one more instruction may jump to the place
target_more : (version : ℕ) (xs : List Instruction) (n : ℕ) (d : Instruction) (place : ℕ) → n < length xs
    → is_target version (take (n + 1) xs) place ≡ (is_target version (take n xs) place || (is_jump (row_named version (get_or xs n d).op) && ((get_or xs n d).c == place)))
target_more version xs n d place lt = list_any_more (λ i. is_jump (row_named version i.op) && (i.c == place)) xs n d lt

-- no jump: the marks stay
pub marks_stay : (version : ℕ) (xs : List Instruction) (n : ℕ) (d : Instruction) (o : Option Row) (marks : List Bool) (place : ℕ) → n < length xs → o ≡ row_named version (get_or xs n d).op → is_jump o ≡ false
    → slice_get marks place ≡ Some (is_target version (take n xs) place) → slice_get marks place ≡ Some (is_target version (take (n + 1) xs) place)
marks_stay version xs n d o marks place lt op jump before =
    let none : is_jump (row_named version (get_or xs n d).op) ≡ false = ap is_jump (sym op) ∙ jump in
    before ∙ ap Some (sym (target_more version xs n d place lt ∙ rw none (or_false _)))

-- a mark at one place
marked : (marks : List Bool) (place at : ℕ) (before : Bool) → place < length marks → get_or marks place false ≡ before → get_or (set marks at true) place false ≡ (before || (at == place))
marked marks place at before within was =
    elim (cases_eq place at) [
      | inl same ↦ rw (← same, same_place place) (get_or-set_same marks place true false within ∙ sym (or_true before))
      | inr other ↦ rw (ne_eqb at place (λ e. other (sym e))) (get_or-set_other marks at place true false other ∙ was ∙ sym (or_false before))
    ]

-- a jump: its target is marked
pub marks_more : (version : ℕ) (xs : List Instruction) (n : ℕ) (d : Instruction) (o : Option Row) (marks : List Bool) (place : ℕ) → n < length xs → o ≡ row_named version (get_or xs n d).op → is_jump o ≡ true
    → place < length marks → slice_get marks place ≡ Some (is_target version (take n xs) place) → slice_get (set marks (get_or xs n d).c true) place ≡ Some (is_target version (take (n + 1) xs) place)
marks_more version xs n d o marks place lt op jump within before =
    let some : is_jump (row_named version (get_or xs n d).op) ≡ true = ap is_jump (sym op) ∙ jump in
    let now : slice_get (set marks (get_or xs n d).c true) place ≡ Some (get_or (set marks (get_or xs n d).c true) place false) = slice_get-get_or _ place false (rw length-set within) in
    let was : get_or marks place false ≡ is_target version (take n xs) place = get_or_from_slice_get marks place _ false before in
    let more : is_target version (take (n + 1) xs) place ≡ (is_target version (take n xs) place || ((get_or xs n d).c == place)) = target_more version xs n d place lt ∙ rw some refl in
    now ∙ ap Some (marked marks place (get_or xs n d).c (is_target version (take n xs) place) within was ∙ sym more)
