-- Stacks whose texts are as long as the shape allows.
use Rattle.std.proofs.Common.{◌≡◌, ℕ, zero, suc, ◌+◌, ◌≤◌, List, [], ◌∷◌, ◌++◌, Option, Some, None, sum, sum_by, length, refl, ap, subst, arith}
use Rattle.std.specs.Option.{option_map}
use Rattle.std.proofs.lemmas.List.Sums.{sum_by_push}
use Rattle.bytecode_verifier.specs.declared.shape.Entry.TheVariants.{Truth, Text}
use Rattle.bytecode_verifier.specs.Shape.{Entries, Texts, take_texts}
use Rattle.bytecode_verifier.specs.Taken.{with_last}
use Rattle.sieve_vm.specs.State.{Value, truth, text}
use Rattle.sieve_vm.specs.Stack.{OnTop, texts_on_top}

-- each text has as many octets as the shape allows it
abbrev pub Fills : Entries → List Value → Type 0
Fills [] [] = Unit {0}
Fills (Truth ∷ es) (truth b ∷ vs) = Fills es vs
Fills (Text bound ∷ es) (text t ∷ vs) = (bound ≤ length t) × Fills es vs
Fills _ _ = ⊥

-- so many texts are on top of the stack, no shorter than their bounds
pub record FillsTop (n : ℕ) (bounds : Texts) (stack : List Value) : Type 0 where
  pub top : OnTop
  pub is : texts_on_top n stack ≡ Some top
  pub below : Fills bounds.below top.below
  pub long : sum bounds.texts ≤ sum_by length top.texts

pub fills_top : (n : ℕ) (entries : Entries) (bounds : Texts) (stack : List Value) → take_texts n entries ≡ Some bounds → Fills entries stack → FillsTop n bounds stack
fills_top zero entries bounds stack e d =
    let same : (let t : Texts = record { texts = []; below = entries } in t) ≡ bounds = cc in
    subst (λ b. FillsTop 0 b stack) same (record { top = record { texts = []; below = stack }; is = refl; below = d; long = omega arith })
fills_top (suc n) [] bounds stack e d = absurd cc
fills_top (suc n) (Truth ∷ entries) bounds stack e d = absurd cc
fills_top (suc n) (Text bound ∷ entries) bounds [] e d = absurd d
fills_top (suc n) (Text bound ∷ entries) bounds (truth b ∷ vs) e d = absurd d
fills_top (suc n) (Text bound ∷ entries) bounds (text t ∷ vs) e d = go (take_texts n entries) refl e (λ others h. fills_top n entries others vs h d.1)
  where
    go : (o : Option Texts) → take_texts n entries ≡ o → option_map (with_last bound) o ≡ Some bounds → ((others : Texts) → take_texts n entries ≡ Some others → FillsTop n others vs) → FillsTop (suc n) bounds (text t ∷ vs)
    go None h f ih = absurd cc
    go (Some others) h f ih =
        let before = ih others h in
        let same : with_last bound others ≡ bounds = cc in
        let long = d.0 in
        let more = before.long in
        let bounded : sum (others.texts ++ bound ∷ []) ≡ sum others.texts + bound = sum_by_push (λ x. x) others.texts bound in
        let extended : sum_by length (before.top.texts ++ t ∷ []) ≡ sum_by length before.top.texts + length t = sum_by_push length before.top.texts t in
        subst (λ b. FillsTop (suc n) b (text t ∷ vs)) same
        (record { top = with_last t before.top; is = ap (option_map (with_last t)) before.is; below = before.below; long = omega (arith, long, more, bounded, extended) })
