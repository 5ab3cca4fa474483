-- What a program may charge: sums by the number of open loops, and the budget that they make.
use Rattle.std.specs.Prelude.{◌≡◌, ◌==◌, ℕ, zero, suc, ◌+◌, ◌*◌, ◌^◌, ◌<◌, List, [], ◌∷◌, length, All, slice_index, slice_set, if◌then◌else◌}

-- a version, and for each number of open loops the sum of the fixed caps and that of the caps for each octet
pub record Sums : Type 0 where
  pub version : ℕ
  pub fixed : List ℕ
  pub scaled : List ℕ

-- there are four numbers of open loops, none to three, and each sum is below 2^63
pub record IsBudget (sums : Sums) : Type 0 where
  pub fixed_levels : length sums.fixed ≡ 4
  pub scaled_levels : length sums.scaled ≡ 4
  pub each_fixed : All (λ sum. sum < 2 ^ 63) sums.fixed
  pub each_scaled : All (λ sum. sum < 2 ^ 63) sums.scaled

-- eight sums of 0
abbrev pub no_sums : ℕ → Sums
no_sums version = record { version = version; fixed = 0 ∷ 0 ∷ 0 ∷ 0 ∷ []; scaled = 0 ∷ 0 ∷ 0 ∷ 0 ∷ [] }

-- the sums with one more cap inside k open loops
abbrev pub with_cap : Sums → ℕ → ℕ → ℕ → Sums
with_cap sums k fixed scaled =
    record sums { fixed = slice_set sums.fixed k (slice_index sums.fixed k + fixed); scaled = slice_set sums.scaled k (slice_index sums.scaled k + scaled) }

-- n over k, by Pascal's rule: so many sets of k of n parts there are, and so no more chains of k parts, where each stands inside of the
-- one before
abbrev pub chains : ℕ → ℕ → ℕ
chains n zero = 1
chains zero (suc k) = 0
chains (suc n) (suc k) = chains n k + chains n (suc k)

-- how often what stands inside k loops may run, where the outermost visits so many and each inside it all parts
abbrev pub powers_left : ℕ → ℕ → ℕ → ℕ
powers_left parts visited zero = 1
powers_left parts visited (suc k) = visited * parts ^ k

-- the version of the programs whose turns are counted by chains
abbrev pub by_chains : ℕ
by_chains = 2

-- how often what stands inside k further loops may run, where a loop that is opened now visits so many of the parts: by chains in
-- programs of that version, and by powers in those of any other
abbrev pub turns_left : ℕ → ℕ → ℕ → ℕ → ℕ
turns_left version parts visited k = if version == by_chains then chains visited k else powers_left parts visited k

-- how often what stands inside k loops may run, over so many parts
abbrev pub turns : ℕ → ℕ → ℕ → ℕ
turns version parts k = turns_left version parts parts k

-- what the instructions inside k open loops may charge at a message of n octets and p parts: their caps, for each of their turns
abbrev pub term_at : Sums → ℕ → ℕ → ℕ → ℕ
term_at sums n p k = (slice_index sums.fixed k + slice_index sums.scaled k * (n + 1)) * turns sums.version p k

-- the budget at a message of n octets and p parts
abbrev pub budget_at : Sums → ℕ → ℕ → ℕ
budget_at sums n p = term_at sums n p 0 + term_at sums n p 1 + term_at sums n p 2 + term_at sums n p 3
