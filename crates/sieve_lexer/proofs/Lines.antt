-- The lines of a text, line by line.
use Rattle.std.proofs.Common.{◌≡◌, ◌≢◌, ℕ, ◌-◌, ◌+◌, ◌<◌, ◌≤◌, true, false, List, [], ◌∷◌, ◌++◌, zero, suc, refl, sym, ◌∙◌, ap, arith, length, take, drop, get_or, add-one, inl, inr, ◌==◌}
use Rattle.std.specs.List.{flat_map}
use Rattle.std.proofs.lemmas.Bool.{eq-eqb, ne_eqb, cases_Bool, true≢false}
use Rattle.std.proofs.lemmas.List.{append_assoc, take_all, drop_all}
use Rattle.std.proofs.lemmas.Bool.Decides.{nat_tests}
use Rattle.sieve_lexer.specs.Classes.{is_not_line_feed}
use Rattle.sieve_lexer.specs.Chain.{IsRun}
use Rattle.sieve_lexer.specs.Values.{lines_of, onto_first, unstuffed}

-- a list without its last element
abbrev pub prefix : {A : Type 0} → List A → List A
prefix xs = take (length xs - 1) xs

-- the first line ends after the first line break
pub first_line_at : (text : List ℕ) (i : ℕ) → i < length text → ((k : ℕ) → k < i → get_or text k 0 ≢ 10) → get_or text i 0 ≡ 10
    → lines_of text ≡ take (suc i) text ∷ lines_of (drop (suc i) text)
first_line_at [] i lt before here = absurd (omega arith)
first_line_at (x ∷ xs) zero lt before here = rw (eq-eqb x 10 here) refl
first_line_at (x ∷ xs) (suc i) lt before here =
    rw (ne_eqb x 10 (before 0 (omega arith)), first_line_at xs i (omega arith) (λ k l. before (suc k) (omega arith)) here) refl

-- a text without a line break is one line
pub only_line : (text : List ℕ) → 0 < length text → ((k : ℕ) → k < length text → get_or text k 0 ≢ 10) → lines_of text ≡ text ∷ []
only_line [] pos none = absurd (omega arith)
only_line (x ∷ []) pos none = rw (ne_eqb x 10 (none 0 (omega arith))) refl
only_line (x ∷ y ∷ xs) pos none =
    rw (ne_eqb x 10 (none 0 (omega arith)), only_line (y ∷ xs) (omega arith) (λ k l. none (suc k) (omega arith))) refl

-- a text that isn't empty has a line
onto_first_some : (c : ℕ) (lines : List (List ℕ)) → 0 < length (onto_first c lines)
onto_first_some c [] = omega arith
onto_first_some c (line ∷ lines) = omega arith

pub lines_some : (text : List ℕ) → 0 < length text → 0 < length (lines_of text)
lines_some [] pos = absurd (omega arith)
lines_some (x ∷ xs) pos = elim (cases_Bool (x == 10)) [
  | inl e ↦ rw e (omega arith)
  | inr e ↦ rw e (onto_first_some x (lines_of xs))
]

prefix_cons : (line : List ℕ) (after : List (List ℕ)) → 0 < length after → prefix (line ∷ after) ≡ line ∷ prefix after
prefix_cons line after pos = let e : suc (length after) - 1 ≡ suc (length after - 1) = omega arith in rw e refl

-- one line more of all but the last
pub prefix_more : (value kept line : List ℕ) (rest after : List (List ℕ)) → 0 < length after → rest ≡ line ∷ after → kept ≡ unstuffed line
    → (value ++ kept) ++ flat_map unstuffed (prefix after) ≡ value ++ flat_map unstuffed (prefix rest)
prefix_more value kept line rest after pos e k =
    rw (e, k, prefix_cons line after pos) (append_assoc value (unstuffed line) (flat_map unstuffed (prefix after)))

line_feed_is : (o : ℕ) → is_not_line_feed o ≡ false → o ≡ 10
line_feed_is o h = grind (arith, nat_tests)

no_line_feed : (o : ℕ) → is_not_line_feed o ≡ true → o ≢ 10
no_line_feed o h e = true≢false (sym h ∙ ap is_not_line_feed e)

-- a text cut after its first line break, where the octets up to `end` are a line without its break
pub cut_line : (text : List ℕ) (end : ℕ) → IsRun is_not_line_feed text 0 end → end < length text
    → lines_of text ≡ take (end + 1) text ∷ lines_of (drop (end + 1) text)
cut_line text end run lt =
    rw add-one (first_line_at text end lt (λ k l. no_line_feed (get_or text k 0) (run.all k (omega arith) l)) (line_feed_is (get_or text end 0) (run.ended lt)))

pub cut_nowhere : (text : List ℕ) (end : ℕ) → IsRun is_not_line_feed text 0 end → length text ≤ end → 0 < length text
    → lines_of text ≡ take end text ∷ lines_of (drop end text)
cut_nowhere text end run past pos =
    rw (take_all end text past, drop_all end text past)
    (only_line text pos (λ k l. no_line_feed (get_or text k 0) (run.all k (omega arith) (omega arith))))
