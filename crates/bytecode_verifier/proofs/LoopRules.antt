-- The rules on loops, by the table of what is known of the loops at each place.
use Rattle.std.proofs.Common.{◌≡◌, ℕ, ◌<◌, ◌≤◌, false, not, ◌||◌, ◌==◌, nat_le, List, None, length, get_or, slice_get, refl, sym, ap, ◌∙◌, arith}
use Rattle.std.proofs.lemmas.Option.{slice_get_past, get_or_from_slice_get}
use Rattle.bytecode_format.specs.Code.{Code}
use Rattle.bytecode_verifier.specs.declared.nest.Nest.{Nest}
use Rattle.bytecode_verifier.specs.Loops.{open_loops, same_loops}
use Rattle.bytecode_verifier.specs.Rules.{has_loop}
use Rattle.bytecode_verifier.specs.Nests.{AreNests, nest_at, open_at, first_of, leads}
use Rattle.bytecode_verifier.proofs.Closing.{same_test}
use Rattle.bytecode_verifier.proofs.Open.{lt-not-le}
use Rattle.bytecode_verifier.proofs.Around.{same_loops_is, depth_is, has_loop_is}

module _ (code : Code) (nests : List Nest) (is : AreNests code.instructions nests) where
  nest_here : (place : ℕ) (d : Nest) → place < length nests → get_or nests place d ≡ nest_at code.instructions place
  nest_here place d lt = get_or_from_slice_get nests place (nest_at code.instructions place) d (is.each place (let n = is.number in omega arith))

  pub depth_here : (place : ℕ) (d : Nest) → place < length nests → (get_or nests place d).depth ≡ length (open_loops code place)
  depth_here place d lt = ap (λ (n : Nest). n.depth) (nest_here place d lt) ∙ sym (depth_is code place)

  pub has_loop_here : (each next : ℕ) (nest : Nest) → each < length nests → nest ≡ get_or nests each nest → leads nest.next next ≡ has_loop code each next
  has_loop_here each next nest lt e =
      let same : nest ≡ nest_at code.instructions each = e ∙ nest_here each nest lt in
      ap (λ (n : Nest). leads n.next next) same ∙ sym (has_loop_is code each next)

  pub no_loop_past : (each next : ℕ) → length nests ≤ each → false ≡ has_loop code each next
  no_loop_past each next past =
      let none : slice_get code.instructions each ≡ None = slice_get_past code.instructions each (let n = is.number in omega arith) in
      sym (has_loop_is code each next ∙ rw none refl)

  pub leaves_here : (place target : ℕ) (nest d : Nest) → place < length nests → target < length nests → nest ≡ get_or nests target nest
      → not (nest.inner == (get_or nests place d).inner) ≡ (nat_le (length code.instructions) target || not (same_loops code place target))
  leaves_here place target nest d lt within e =
      let there : nest.inner ≡ first_of (open_at code.instructions target) = ap (λ (n : Nest). n.inner) (e ∙ nest_here target nest within) in
      let here : (get_or nests place d).inner ≡ first_of (open_at code.instructions place) = ap (λ (n : Nest). n.inner) (nest_here place d lt) in
      let known : nat_le (length code.instructions) target ≡ false = lt-not-le target (length code.instructions) (let n = is.number in omega arith) in
      let same : (nest.inner == (get_or nests place d).inner) ≡ same_loops code place target =
      same_test _ _ _ _ (λ f. sym here ∙ sym f ∙ there) (λ f. there ∙ sym f ∙ sym here) ∙ sym (same_loops_is code place target) in
      rw known (ap not same)
