-- Reading items one after the other, as a loop does.
use Rattle.std.proofs.Common.{◌≡◌, ℕ, suc, ◌-◌, ◌+◌, ◌≤◌, ◌<◌, List, [], ◌∷◌, ◌++◌, Option, Some, None, refl, sym, ap, ◌∙◌, append_assoc, arith}
use Rattle.std.proofs.lemmas.List.{append-nil}
use Rattle.bytecode_format.specs.declared.error.FormatError.{FormatError}
use Rattle.bytecode_format.specs.declared.error.FormatError.TheVariants.{Memory, Spelling}
use Rattle.bytecode_format.specs.Readers.{◌>>=◌, Fails, many_at}

-- what was read before, and what is still read
abbrev pub with_prefix : {A : Type 0} → List A → Option (List A × List ℕ) → Option (List A × List ℕ)
with_prefix prefix read = read >>= λ x. Some (prefix ++ x.0, x.1)

regroup : {A : Type 0} (prefix : List A) (n : A) (read : Option (List A × List ℕ)) → with_prefix prefix (read >>= λ x. Some (n ∷ x.0, x.1)) ≡ with_prefix (prefix ++ n ∷ []) read
regroup {A} prefix n (Some x) = ap (λ (ns : List A). Some (ns, x.1)) (simp append_assoc)
regroup prefix n None = refl

pub goes_on : {A : Type 0} (item : List ℕ → Option (A × List ℕ)) (prefix : List A) (count i : ℕ) (octets : List ℕ) (n : A) (after : List ℕ) (total : Option (List A × List ℕ)) → i < count → item octets ≡ Some (n, after)
    → with_prefix prefix (many_at item (count - i) octets) ≡ total → with_prefix (prefix ++ n ∷ []) (many_at item (count - (i + 1)) after) ≡ total
unfolding many_at
goes_on item prefix count i octets n after total lt h so_far =
    let k : count - i ≡ suc (count - (i + 1)) = omega arith in
    let one : with_prefix prefix (many_at item (count - i) octets) ≡ with_prefix (prefix ++ n ∷ []) (many_at item (count - (i + 1)) after) = rw (k, h) (regroup prefix n (many_at item (count - (i + 1)) after)) in
    sym one ∙ so_far

pub ends : {A : Type 0} (item : List ℕ → Option (A × List ℕ)) (e : FormatError) (prefix : List A) (count i : ℕ) (octets : List ℕ) (total : Option (List A × List ℕ)) → i < count → Fails e (item octets)
    → with_prefix prefix (many_at item (count - i) octets) ≡ total → Fails e total
unfolding many_at
ends item Memory prefix count i octets total lt h so_far = tt
ends item Spelling prefix count i octets total lt h so_far =
    let k : count - i ≡ suc (count - (i + 1)) = omega arith in
    let one : with_prefix prefix (many_at item (count - i) octets) ≡ None = rw (k, h) refl in
    sym so_far ∙ one

pub is_done : {A : Type 0} (item : List ℕ → Option (A × List ℕ)) (prefix : List A) (count i : ℕ) (octets : List ℕ) (total : Option (List A × List ℕ)) → count ≤ i → with_prefix prefix (many_at item (count - i) octets) ≡ total → total ≡ Some (prefix, octets)
unfolding many_at
is_done {A} item prefix count i octets total le so_far =
    let k : count - i ≡ 0 = omega arith in
    let one : with_prefix prefix (many_at item (count - i) octets) ≡ Some (prefix, octets) = rw k (ap (λ (ns : List A). Some (ns, octets)) (append-nil prefix)) in
    sym so_far ∙ one
