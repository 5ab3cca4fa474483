-- Reading items one after the other, as a loop does.
use Rattle.std.proofs.Common.{◌≡◌, ℕ, zero, suc, ◌<◌, ◌≤◌, Bool, true, false, if◌then◌else◌, List, [], ◌∷◌, ◌++◌, length, Result, Ok, Err, refl, sym, ap, subst, ◌∙◌, append_assoc, arith}
use Rattle.std.proofs.lemmas.List.{append-nil}
use Rattle.bytecode_listing.specs.declared.error.ReadError.{ReadError}
use Rattle.bytecode_listing.specs.declared.error.ReadError.TheVariants.{Memory, At}
use Rattle.bytecode_listing.specs.Labels.{◌>>=◌}
use Rattle.bytecode_listing.specs.Items.{Tokens, onto, many_at}
use Rattle.bytecode_listing.specs.Readers.{Fails}
use Rattle.bytecode_listing.proofs.Shorter.{Leaves}

-- no item begins where no token is left, and an item takes tokens
pub record IsItem {A : Type 0} (begins : Tokens → Bool) (item : List A → Tokens → Result (A × Tokens) ℕ) : Type 0 where
  pub none : begins [] ≡ false
  pub leaves : (place : List A) (tokens : Tokens) → Leaves (length tokens) (item place tokens)

-- any number that is no less than that of the tokens gives the same
enough : {A : Type 0} (begins : Tokens → Bool) (item : List A → Tokens → Result (A × Tokens) ℕ) → IsItem begins item → (m n : ℕ) (place : List A) (tokens : Tokens) → length tokens ≤ m → length tokens ≤ n → many_at begins item m place tokens ≡ many_at begins item n place tokens
unfolding many_at
enough begins item is zero zero place tokens h k = refl
enough {A} begins item is zero (suc n) place [] h k = sym (ap (λ b. let r : Result (List A × Tokens) ℕ = if b then (item place [] >>= λ first. onto first.0 (many_at begins item n (place ++ first.0 ∷ []) first.1)) else Ok ([], []) in r) is.none)
enough begins item is zero (suc n) place (t ∷ tokens) h k = absurd (omega arith)
enough {A} begins item is (suc m) zero place [] h k = ap (λ b. let r : Result (List A × Tokens) ℕ = if b then (item place [] >>= λ first. onto first.0 (many_at begins item m (place ++ first.0 ∷ []) first.1)) else Ok ([], []) in r) is.none
enough begins item is (suc m) zero place (t ∷ tokens) h k = absurd (omega arith)
enough {A} begins item is (suc m) (suc n) place tokens h k =
    ap (λ r. let all : Result (List A × Tokens) ℕ = if begins tokens then r else Ok ([], tokens) in all) (step (item place tokens) (is.leaves place tokens) (λ x rest h k. enough begins item is m n (place ++ x ∷ []) rest h k))
  where
    step : (r : Result (A × Tokens) ℕ) → Leaves (length tokens) r → ((x : A) (rest : Tokens) → length rest ≤ m → length rest ≤ n → many_at begins item m (place ++ x ∷ []) rest ≡ many_at begins item n (place ++ x ∷ []) rest)
        → (r >>= λ first. onto first.0 (many_at begins item m (place ++ first.0 ∷ []) first.1)) ≡ (r >>= λ first. onto first.0 (many_at begins item n (place ++ first.0 ∷ []) first.1))
    step (Ok x) w same = ap (onto x.0) (same x.0 x.1 (omega arith) (omega arith))
    step (Err left) w same = refl

-- all items from a place on
abbrev pub from_place : {A : Type 0} → (Tokens → Bool) → (List A → Tokens → Result (A × Tokens) ℕ) → List A → Tokens → Result (List A × Tokens) ℕ
from_place begins item place tokens = many_at begins item (length tokens) place tokens

-- what was read before, and what is still read
abbrev pub with_prefix : {A : Type 0} → List A → Result (List A × Tokens) ℕ → Result (List A × Tokens) ℕ
with_prefix prefix read = read >>= λ x. Ok (prefix ++ x.0, x.1)

regroup : {A : Type 0} (prefix : List A) (x : A) (read : Result (List A × Tokens) ℕ) → with_prefix prefix (onto x read) ≡ with_prefix (prefix ++ x ∷ []) read
regroup {A} prefix x (Ok others) = ap (λ (xs : List A). let r : Result (List A × Tokens) ℕ = Ok (xs, others.1) in r) (sym (append_assoc prefix (x ∷ []) others.0))
regroup prefix x (Err left) = refl

pub shorter : {A : Type 0} (begins : Tokens → Bool) (item : List A → Tokens → Result (A × Tokens) ℕ) → IsItem begins item → (place : List A) (tokens rest : Tokens) (x : A) → item place tokens ≡ Ok (x, rest) → length rest < length tokens
shorter begins item is place tokens rest x e = subst (Leaves (length tokens)) e (is.leaves place tokens)

-- the first of the items
pub unrolled : {A : Type 0} (begins : Tokens → Bool) (item : List A → Tokens → Result (A × Tokens) ℕ) → IsItem begins item → (place : List A) (tokens rest : Tokens) (x : A) → begins tokens ≡ true → item place tokens ≡ Ok (x, rest)
    → from_place begins item place tokens ≡ onto x (from_place begins item (place ++ x ∷ []) rest)
unfolding many_at
unrolled begins item is place [] rest x b e = absurd cc
unrolled {A} begins item is place (t ∷ tokens) rest x b e =
    let less : length rest < suc (length tokens) = shorter begins item is place (t ∷ tokens) rest x e in
    ap (λ b. let r : Result (List A × Tokens) ℕ = if b then (item place (t ∷ tokens) >>= λ first. onto first.0 (many_at begins item (length tokens) (place ++ first.0 ∷ []) first.1)) else Ok ([], t ∷ tokens) in r) b
    ∙ ap (λ r. r >>= λ first. onto first.0 (many_at begins item (length tokens) (place ++ first.0 ∷ []) first.1)) e
    ∙ ap (onto x) (enough begins item is (length tokens) (length rest) (place ++ x ∷ []) rest (omega arith) (omega arith))

pub goes_on : {A : Type 0} (begins : Tokens → Bool) (item : List A → Tokens → Result (A × Tokens) ℕ) → IsItem begins item → (prefix : List A) (tokens rest : Tokens) (x : A) (total : Result (List A × Tokens) ℕ) → begins tokens ≡ true → item prefix tokens ≡ Ok (x, rest)
    → with_prefix prefix (from_place begins item prefix tokens) ≡ total → with_prefix (prefix ++ x ∷ []) (from_place begins item (prefix ++ x ∷ []) rest) ≡ total
goes_on {A} begins item is prefix tokens rest x total b e so_far =
    sym (regroup prefix x (from_place begins item (prefix ++ x ∷ []) rest))
    ∙ ap (with_prefix prefix) (sym (unrolled begins item is prefix tokens rest x b e))
    ∙ so_far

pub ends : {A : Type 0} (begins : Tokens → Bool) (item : List A → Tokens → Result (A × Tokens) ℕ) → IsItem begins item → (e : ReadError) (prefix : List A) (tokens : Tokens) (total : Result (List A × Tokens) ℕ) → begins tokens ≡ true → Fails e (item prefix tokens)
    → with_prefix prefix (from_place begins item prefix tokens) ≡ total → Fails e total
unfolding many_at
ends begins item is Memory prefix tokens total b h so_far = tt
ends begins item is (At left) prefix [] total b h so_far = absurd cc
ends {A} begins item is (At left) prefix (t ∷ tokens) total b h so_far =
    sym so_far
    ∙ ap (λ b. with_prefix prefix (let r : Result (List A × Tokens) ℕ = if b then (item prefix (t ∷ tokens) >>= λ first. onto first.0 (many_at begins item (length tokens) (prefix ++ first.0 ∷ []) first.1)) else Ok ([], t ∷ tokens) in r)) b
    ∙ ap (λ r. with_prefix prefix (r >>= λ first. onto first.0 (many_at begins item (length tokens) (prefix ++ first.0 ∷ []) first.1))) h

-- no item begins
pub stops : {A : Type 0} (begins : Tokens → Bool) (item : List A → Tokens → Result (A × Tokens) ℕ) (n : ℕ) (place : List A) (tokens : Tokens) → begins tokens ≡ false → many_at begins item n place tokens ≡ Ok ([], tokens)
unfolding many_at
stops begins item zero place tokens b = refl
stops {A} begins item (suc n) place tokens b = ap (λ b. let r : Result (List A × Tokens) ℕ = if b then (item place tokens >>= λ first. onto first.0 (many_at begins item n (place ++ first.0 ∷ []) first.1)) else Ok ([], tokens) in r) b

pub is_done : {A : Type 0} (begins : Tokens → Bool) (item : List A → Tokens → Result (A × Tokens) ℕ) (prefix : List A) (tokens : Tokens) (total : Result (List A × Tokens) ℕ) → begins tokens ≡ false
    → with_prefix prefix (from_place begins item prefix tokens) ≡ total → total ≡ Ok (prefix, tokens)
is_done {A} begins item prefix tokens total b so_far =
    sym so_far
    ∙ ap (with_prefix prefix) (stops begins item (length tokens) prefix tokens b)
    ∙ ap (λ (xs : List A). let r : Result (List A × Tokens) ℕ = Ok (xs, tokens) in r) (append-nil prefix)
