-- Escapes, and lines by their ends.
use Rattle.std.proofs.Common.{◌≡◌, ◌≢◌, ℕ, ◌-◌, ◌<◌, ◌≤◌, ◌==◌, cond, List, [], ◌∷◌, ◌++◌, zero, suc, refl, sym, ◌∙◌, ap, arith, length, take, drop, get_or}
use Rattle.std.proofs.lemmas.Bool.{ne_eqb}
use Rattle.std.specs.Prelude.{Result, Ok, Err, OnOk, is_ok}
use Rattle.quoted_printable.specs.QuotedPrintable.{unescaped, ends_in_equals}

-- what an `extend_from_slice` appended, and what follows from it
pub ok_then : {T F Q : Type 0} (r : Result T F) (now was more : List ℕ) → now ≡ cond (is_ok r) (was ++ more) was → (now ≡ was ++ more → Q) → OnOk r Q
ok_then (Ok x) now was more e h = h e
ok_then (Err x) now was more e h = tt

-- ---- escapes

pub unescaped-other : (octet : ℕ) (rest : List ℕ) → octet ≢ 61 → unescaped (octet ∷ rest) ≡ octet ∷ unescaped rest
unescaped-other octet [] ne = refl
unescaped-other octet (a ∷ []) ne = refl
unescaped-other octet (a ∷ b ∷ rest) ne = rw (ne_eqb octet 61 ne) refl

-- what stands before the first `=` stays
pub unescaped-past : (n : ℕ) (text : List ℕ) → n ≤ length text → ((k : ℕ) → k < n → get_or text k 0 ≢ 61) → unescaped text ≡ take n text ++ unescaped (drop n text)
unescaped-past zero text within none = refl
unescaped-past (suc n) [] within none = absurd (omega arith)
unescaped-past (suc n) (octet ∷ rest) within none =
    unescaped-other octet rest (none 0 (omega arith))
    ∙ ap (λ l. octet ∷ l) (unescaped-past n rest (omega arith) (λ k lt. none (suc k) (omega arith)))

pub unescaped-none : (text : List ℕ) → ((k : ℕ) → k < length text → get_or text k 0 ≢ 61) → unescaped text ≡ text
unescaped-none [] none = refl
unescaped-none (octet ∷ rest) none =
    unescaped-other octet rest (none 0 (omega arith)) ∙ ap (λ l. octet ∷ l) (unescaped-none rest (λ k lt. none (suc k) (omega arith)))

-- ---- the last octet

pub ends_by_last : (text : List ℕ) → 0 < length text → ends_in_equals text ≡ (get_or text (length text - 1) 0 == 61)
ends_by_last [] some = absurd (omega arith)
ends_by_last (octet ∷ []) some = refl
ends_by_last (octet ∷ following ∷ rest) some =
    let at : suc (suc (length rest)) - 1 ≡ suc (length (following ∷ rest) - 1) = omega arith in
    ends_by_last (following ∷ rest) (omega arith) ∙ ap (λ n. get_or (octet ∷ following ∷ rest) n 0 == 61) (sym at)
