-- What a workspace holds, and how texts are joined.
use Rattle.std.proofs.Common.{◌≡◌, ℕ, ◌+◌, ◌-◌, ◌<◌, ◌≤◌, min, Bool, List, [], ◌∷◌, ◌++◌, Option, Some, None, length, map, reverse, take, get_or, refl, sym, ap, ◌∙◌, inl, inr, take_all, append-nil, arith}
use Rattle.std.proofs.lemmas.Bool.{cases_lt}
use Rattle.std.specs.List.{concat}
use Rattle.std.proofs.lemmas.List.{take_more, take_min, take-append-le, take-take, reverse-append, length-take}
use Rattle.std.proofs.lemmas.List.Folds.{concat-append}
use Rattle.std.proofs.Math.Seq.{take-append-add}
use Rattle.sieve_vm.specs.declared.entry.Entry.{Entry}
use Rattle.sieve_vm.specs.State.{Value, text}
use Rattle.sieve_vm.specs.Standing.{Held, value_of, octets_of, with_top}
use Rattle.sieve_vm.proofs.Taking.{octets_in}
use Rattle.sieve_vm.proofs.Pushed.{same_octets}

-- what is held, part by part
pub same_parts : (held : Held) (stack : List Value) (variables captures : List (List ℕ)) → held.stack ≡ stack → held.variables ≡ variables → held.captures ≡ captures → held ≡ record { stack = stack; variables = variables; captures = captures }
same_parts held stack variables captures p q r = rw (← p, ← q, ← r) refl

-- where a text is on top, no truth value stands apart
pub text_below : (top : Option Bool) (below : List Value) (t : List ℕ) (rest : List Value) → with_top top below ≡ text t ∷ rest → (top ≡ None) × (below ≡ text t ∷ rest)
text_below None below t rest e = (refl, e)
text_below (Some b) below t rest e = absurd cc

-- the text on top was the last entry
pub record LastText (left : List Entry) (entry : Entry) (t : List ℕ) (rest : List Value) : Type 0 where
  pub text_is : octets_of entry ≡ t
  pub rest_is : map value_of (reverse left) ≡ rest

pub last_text : (items left : List Entry) (entry : Entry) (t : List ℕ) (rest : List Value) → items ≡ left ++ entry ∷ [] → map value_of (reverse items) ≡ text t ∷ rest → LastText left entry t rest
last_text items left entry t rest split top =
    let shown : value_of entry ∷ map value_of (reverse left) ≡ text t ∷ rest = sym (ap (λ es. map value_of (reverse es)) split ∙ ap (map value_of) (reverse-append left (entry ∷ []))) ∙ top in
    let same : value_of entry ≡ text t = cc in
    let below : map value_of (reverse left) ≡ rest = cc in
    record { text_is = sym (same_octets entry) ∙ ap octets_in same; rest_is = below }

-- ---- texts, one after the other

-- a text was put at the end, as far as there was room
pub put_at : (most : ℕ) (out added : List ℕ) → length out ≤ most → out ++ take (min (most - length out) (length added)) added ≡ take most (out ++ added)
put_at most out added fits =
    let room : length out + (most - length out) ≡ most = omega arith in
    ap (λ t. out ++ t) (take_min (most - length out) added) ∙ sym (take-append-add out added (most - length out)) ∙ ap (λ n. take n (out ++ added)) room

take_twice : (most : ℕ) (xs ys : List ℕ) → take most (take most xs ++ ys) ≡ take most (xs ++ ys)
take_twice most xs ys = elim (cases_lt (length xs) most) [
  | inl fits ↦ ap (λ t. take most (t ++ ys)) (take_all most xs (omega arith))
  | inr full ↦
      let long : most ≤ length (take most xs) = omega (arith, length-take most xs) in
      take-append-le most (take most xs) ys long ∙ take-take most most xs (omega arith) ∙ sym (take-append-le most xs ys full)
]

pub joined_more : (most : ℕ) (texts : List (List ℕ)) (place : ℕ) (out added : List ℕ) → place < length texts → added ≡ get_or texts place [] → out ≡ take most (concat (take place texts)) → take most (out ++ added) ≡ take most (concat (take (place + 1) texts))
joined_more most texts place out added lt is before =
    ap (λ o. take most (o ++ added)) before
    ∙ take_twice most (concat (take place texts)) added
    ∙ ap (take most) (ap (λ t. concat (take place texts) ++ t) (is ∙ sym (append-nil (get_or texts place []))) ∙ sym (concat-append (take place texts) (get_or texts place [] ∷ [])) ∙ ap concat (sym (take_more texts place [] lt)))
