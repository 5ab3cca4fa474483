-- Steps that may have no answer, one after another.
use Rattle.std.proofs.Common.{◌≡◌, Bool, true, false, ◌&&◌, ◌||◌, not, if◌then◌else◌, Option, Some, None, option_map, refl, ap, ◌∙◌}
use Rattle.std.specs.Prelude.{is_some}
use Rattle.std.specs.Option.{option_or}
use Rattle.sieve_check.specs.Signatures.{◌>>=◌}

pub step_some : {A B : Type 0} (o : Option A) (g : A → Option B) (y : B) → (o >>= g) ≡ Some y → (x : A) × (o ≡ Some x) × (g x ≡ Some y)
step_some None g y h = absurd (cc)
step_some (Some x) g y h = (x, refl, h)

pub map_some : {A B : Type 0} (o : Option A) (g : A → B) (y : B) → option_map g o ≡ Some y → (x : A) × (o ≡ Some x) × (Some (g x) ≡ Some y)
map_some None g y h = absurd (cc)
map_some (Some x) g y h = (x, refl, h)

-- three steps, of which the third goes by the second
pub all_taken : {A B C D : Type 0} (o : Option A) (x : A) (p : Option B) (y : B) (q : B → Option C) (z : C) (f : A → B → C → Option D) → o ≡ Some x → p ≡ Some y → q y ≡ Some z
    → (o >>= λ a. p >>= λ b. q b >>= λ c. f a b c) ≡ f x y z
all_taken o x p y q z f h k l =
    ap (λ o. o >>= λ a. p >>= λ b. q b >>= λ c. f a b c) h ∙ ap (λ p. p >>= λ b. q b >>= λ c. f x b c) k ∙ ap (λ r. r >>= λ c. f x y c) l

pub step_none : {A B : Type 0} (o : Option A) (g : A → Option B) → ((x : A) → g x ≡ None) → (o >>= g) ≡ None
step_none None g h = refl
step_none (Some x) g h = h x

pub both_none : {A : Type 0} (a b : Option A) → option_or a b ≡ None → (a ≡ None) × (b ≡ None)
both_none None b h = (refl, h)
both_none (Some e) b h = absurd (cc)

pub map_none : {A B : Type 0} (g : A → B) (o : Option A) → option_map g o ≡ None → o ≡ None
map_none g None h = refl
map_none g (Some x) h = absurd (cc)

pub if_none : {A : Type 0} (b : Bool) (x : A) (o : Option A) → (if b then Some x else o) ≡ None → (b ≡ false) × (o ≡ None)
if_none false x o h = (refl, h)
if_none true x o h = absurd (cc)

pub not_false : (b : Bool) → not b ≡ false → b ≡ true
not_false true h = refl
not_false false h = absurd (cc)

pub both_true : (a b : Bool) → (a && b) ≡ true → (a ≡ true) × (b ≡ true)
both_true true b h = (refl, h)
both_true false b h = absurd (cc)

pub either_false : (a b : Bool) → (a || b) ≡ false → (a ≡ false) × (b ≡ false)
either_false false b h = (refl, h)
either_false true b h = absurd (cc)

pub some_of : {A : Type 0} (o : Option A) → is_some o ≡ true → (x : A) × (o ≡ Some x)
some_of None h = absurd (cc)
some_of (Some x) h = (x, refl)

pub if_some : {A : Type 0} (b : Bool) (x y : A) → (if b then Some x else None) ≡ Some y → (b ≡ true) × (Some x ≡ Some y)
if_some true x y h = (refl, h)
if_some false x y h = absurd (cc)

pub not_both : (b : Bool) → b ≡ true → b ≡ false → ⊥
not_both true h k = absurd (cc)
not_both false h k = absurd (cc)

-- nothing is said of what is right
pub unless_none : {A : Type 0} (b : Bool) (x : A) → (if b then None else Some x) ≡ None → b ≡ true
unless_none true x h = refl
unless_none false x h = absurd (cc)
