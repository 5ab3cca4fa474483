-- Chains of steps: a chain grows at its end, and where each place has at most one step, a chain stops at one place.
use Rattle.std.proofs.Common.{◌≡◌, ℕ, ◌≤◌, Bool, List, [], ◌∷◌, ◌++◌, refl, sym, ◌∙◌, subst, inl, inr, arith}
use Rattle.std.proofs.lemmas.Bool.{cases_order, true≢false}
use Rattle.sieve_lexer.specs.Chain.{Chain, Leads, Stops, IsRun}

chain_push : (Step : ℕ → ℕ → Type 0) (ms : List ℕ) (a b c : ℕ) → Chain Step ms a b → Step b c → Chain Step (ms ++ c ∷ []) a c
chain_push Step [] a b c e s = (let P : ℕ → Type 0 = λ x. Step x c in subst P (sym e) s, refl)
chain_push Step (m ∷ ms) a b c (first, rest) s = (first, chain_push Step ms m b c rest s)

-- one step more
pub leads_push : (Step : ℕ → ℕ → Type 0) (a b c : ℕ) → Leads Step a b → Step b c → Leads Step a c
leads_push Step a b c (ms, chain) s = (ms ++ c ∷ [], chain_push Step ms a b c chain s)

-- from each place at most one step
abbrev pub IsSingle : (ℕ → ℕ → Type 0) → Type 0
IsSingle Step = (a b c : ℕ) → Step a b → Step a c → b ≡ c

module _ (Step : ℕ → ℕ → Type 0) (single : IsSingle Step) where
  chains_meet : (ms ns : List ℕ) (a b c : ℕ) → Stops Step b → Stops Step c → Chain Step ms a b → Chain Step ns a c → b ≡ c
  chains_meet [] [] a b c sb sc e f = sym e ∙ f
  chains_meet [] (n ∷ ns) a b c sb sc e (first, rest) = absurd (sb n (let P : ℕ → Type 0 = λ x. Step x n in subst P e first))
  chains_meet (m ∷ ms) [] a b c sb sc (first, rest) f = absurd (sc m (let P : ℕ → Type 0 = λ x. Step x m in subst P f first))
  chains_meet (m ∷ ms) (n ∷ ns) a b c sb sc (first, rest) (other, others) =
      let e = single a n m other first in
      chains_meet ms ns m b c sb sc rest (let P : ℕ → Type 0 = λ x. Chain Step ns x c in subst P e others)

  -- two chains from one place stop at one place
  pub leads_meet : (a b c : ℕ) → Leads Step a b → Stops Step b → Leads Step a c → Stops Step c → b ≡ c
  leads_meet a b c (ms, p) sb (ns, q) sc = chains_meet ms ns a b c sb sc p q

-- a run ends at one place
pub run_unique : (passes : ℕ → Bool) (s : List ℕ) (a b c : ℕ) → IsRun passes s a b → IsRun passes s a c → b ≡ c
run_unique passes s a b c p q =
    elim (cases_order b c) [
      | inl e ↦ e
      | inr (inl lt) ↦ absurd (true≢false (sym (q.all b p.from lt) ∙ p.ended (omega arith)))
      | inr (inr lt) ↦ absurd (true≢false (sym (p.all c q.from lt) ∙ q.ended (omega arith)))
    ]

chain_order : (Step : ℕ → ℕ → Type 0) → ((a b : ℕ) → Step a b → a ≤ b) → (ms : List ℕ) (a b : ℕ) → Chain Step ms a b → a ≤ b
chain_order Step forward [] a b e = omega arith
chain_order Step forward (m ∷ ms) a b (first, rest) = omega (arith, forward a m first, chain_order Step forward ms m b rest)

-- steps that go forward lead forward
pub leads_order : (Step : ℕ → ℕ → Type 0) → ((a b : ℕ) → Step a b → a ≤ b) → (a b : ℕ) → Leads Step a b → a ≤ b
leads_order Step forward a b (ms, chain) = chain_order Step forward ms a b chain
