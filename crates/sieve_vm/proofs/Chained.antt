-- The current parts of the open loops of a run are a chain.
use Rattle.std.proofs.Common.{◌≡◌, ℕ, zero, suc, ◌+◌, ◌-◌, ◌<◌, ◌≤◌, List, [], ◌∷◌, Option, Some, None, All, Contains, get_or, slice_get, refl, sym, subst, ◌∙◌, arith}
use Rattle.std.proofs.lemmas.List.Elements.{All-cons, All-nil}
use Rattle.std.specs.Option.{option_map_or}
use Rattle.bytecode_verifier.specs.Loops.{Loop}
use Rattle.mime_decode.specs.Mail.{Mail, Part}
use Rattle.mime_decode.specs.Visited.{numbers_from}
use Rattle.sieve_vm.specs.State.{Frame}
use Rattle.sieve_vm.specs.Chained.{IsAt, AreChained}
use Rattle.sieve_vm.proofs.Falls.{numbers-length}
use Rattle.sieve_vm.proofs.Reached.{part_there}
use Rattle.sieve_vm.proofs.Opened.{AreOpen, IsPart, IsUnderWay, first_inside, end_inside, end_of_part, visited-inside}

number_at : (first n k d : ℕ) → k < n → get_or (numbers_from first n) k d ≡ first + k
number_at first zero k d lt = absurd (omega (arith, lt))
number_at first (suc n) zero d lt = omega arith
number_at first (suc n) (suc k) d lt = number_at (suc first) n k d (omega (arith, lt)) ∙ omega arith

-- a number among them
has_number : (first n x : ℕ) → first ≤ x → x < first + n → Contains (numbers_from first n) x
has_number first n x after before =
    (x - first, omega (arith, numbers-length first n), number_at first n (x - first) x (omega arith) ∙ omega arith)

-- what holds of all numbers from the first to the last
all_numbers : (P : ℕ → Type 0) (first n : ℕ) → ((x : ℕ) → first ≤ x → x < first + n → P x) → All P (numbers_from first n)
all_numbers P first zero each = All-nil P
all_numbers P first (suc n) each =
    All-cons P first (numbers_from (suc first) n) (each first (omega arith) (omega arith)) (all_numbers P (suc first) n (λ x after before. each x (omega (arith, after)) (omega (arith, before))))

-- a part is before its end
before_end : (mail : Mail) (part : ℕ) → IsPart mail part → part < end_of_part mail part
before_end mail part within = go (slice_get mail.parts part) refl
  where
    go : (found : Option Part) → slice_get mail.parts part ≡ found → part < option_map_or (λ (p : Part). suc (part + p.below)) found 0
    go None e = absurd (let there = part_there mail.parts part within in let some : None ≡ Some there.0 = sym e ∙ there.1 in cc)
    go (Some p) e = omega arith

is_at : (mail : Mail) (frame : Frame) (frames : List Frame) → IsPart mail frame.part → IsUnderWay mail frame frames → IsAt mail frame frames
is_at mail frame frames within is =
    let after = is.after in
    let before = is.before in
    let inside = before_end mail frame.part within in
    let first : ℕ = first_inside frames in
    let end : ℕ = end_inside mail frames in
    let next : ℕ = suc frame.part in
    let own : ℕ = end_of_part mail frame.part in
    record {
      inside = subst (λ xs. Contains xs frame.part) (sym (visited-inside mail frames)) (has_number first (end - first) frame.part after (omega arith));
      later = subst (All (λ part. frame.part < part)) (sym is.left) (all_numbers (λ part. frame.part < part) next (end - next) (λ x from to. omega (arith, from)));
      below =
          subst (All (Contains frame.rest)) (sym (visited-inside mail (frame ∷ frames)))
          (all_numbers (Contains frame.rest) next (own - next) (λ x from to. subst (λ xs. Contains xs x) (sym is.left) (has_number next (end - next) x from (omega (arith, to)))));
    }

pub are_chained : (mail : Mail) (frames : List Frame) (loops : List Loop) → AreOpen mail frames loops → AreChained mail frames
are_chained mail [] loops opened = tt
are_chained mail (frame ∷ frames) loops opened = (is_at mail frame frames opened.3 opened.5, are_chained mail frames opened.0 opened.2)
