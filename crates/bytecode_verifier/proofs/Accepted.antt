-- A program is accepted exactly where it isn't refused.
use Rattle.std.proofs.Common.{◌≡◌, ◌≢◌, ℕ, suc, ◌-◌, ◌<◌, Bool, false, ◌⊎◌, Option, Some, None, length, refl, inl, inr, arith}
use Rattle.std.proofs.lemmas.Bool.{ne_eqb}
use Rattle.std.specs.Option.{option_or, option_map}
use Rattle.bytecode_format.specs.Code.{Code}
use Rattle.bytecode_verifier.specs.declared.error.Refusal.{Refusal}
use Rattle.bytecode_verifier.specs.declared.error.Refusal.TheVariants.{Memory, Index, Form, End, Loop, Jump, NoPart, Stack}
use Rattle.bytecode_verifier.specs.Places.{least_place}
use Rattle.bytecode_verifier.specs.Rules.{breaks_index, breaks_form, breaks_end, breaks_loop, breaks_jump, breaks_no_part, breaks_stack}
use Rattle.bytecode_verifier.specs.Acceptance.{IsAccepted, refusal_of}
use Rattle.bytecode_verifier.proofs.Least.{least_of_none}
use Rattle.bytecode_verifier.proofs.Ends.{beyond, beyond_stack, anywhere}

first_none : (o p : Option Refusal) → option_or o p ≡ None → o ≡ None
first_none None p h = refl
first_none (Some x) p h = absurd (cc)

second_none : (o p : Option Refusal) → option_or o p ≡ None → p ≡ None
second_none None p h = h
second_none (Some x) p h = absurd (cc)

place_none : (f : ℕ → Refusal) (o : Option ℕ) → option_map f o ≡ None → o ≡ None
place_none f None h = refl
place_none f (Some x) h = absurd (cc)

-- the last place isn't after the end
past_end : (code : Code) (place : ℕ) → length code.instructions < place → breaks_end code place ≡ false
past_end code place lt = rw (ne_eqb place (length code.instructions - 1) (λ same. omega arith)) refl

pub accepted_from_none : (code : Code) → refusal_of code ≡ None → IsAccepted code
accepted_from_none code h =
    let form = second_none _ _ h in
    let end = second_none _ _ form in
    let loop = second_none _ _ end in
    let jump = second_none _ _ loop in
    let part = second_none _ _ jump in
    let stack = second_none _ _ part in
    record {
      index = anywhere (breaks_index code) code (place_none Index _ (first_none _ _ h)) (λ p past. beyond code p _ past);
      form = anywhere (breaks_form code) code (place_none Form _ (first_none _ _ form)) (λ p past. beyond code p _ past);
      end = anywhere (breaks_end code) code (place_none End _ (first_none _ _ end)) (past_end code);
      loop = anywhere (breaks_loop code) code (place_none Loop _ (first_none _ _ loop)) (λ p past. beyond code p _ past);
      jump = anywhere (breaks_jump code) code (place_none Jump _ (first_none _ _ jump)) (λ p past. beyond code p _ past);
      no_part = anywhere (breaks_no_part code) code (place_none NoPart _ (first_none _ _ part)) (λ p past. beyond code p _ past);
      stack = anywhere (breaks_stack code) code (place_none Stack _ stack) (beyond_stack code);
    }

chain_none : (i f e l j p s : Option ℕ) → i ≡ None → f ≡ None → e ≡ None → l ≡ None → j ≡ None → p ≡ None → s ≡ None
    → option_or (option_map Index i) (option_or (option_map Form f) (option_or (option_map End e) (option_or (option_map Loop l) (option_or (option_map Jump j) (option_or (option_map NoPart p) (option_map Stack s)))))) ≡ None
chain_none i f e l j p s hi hf he hl hj hp hs = rw (hi, hf, he, hl, hj, hp, hs) refl

pub none_from_accepted : (code : Code) → IsAccepted code → refusal_of code ≡ None
none_from_accepted code is =
    let least : (test : ℕ → Bool) → ((p : ℕ) → test p ≡ false) → least_place test code ≡ None = λ test h. least_of_none test (suc (length code.instructions)) (λ p lt. h p) in
    chain_none _ _ _ _ _ _ _ (least (breaks_index code) is.index) (least (breaks_form code) is.form) (least (breaks_end code) is.end) (least (breaks_loop code) is.loop)
    (least (breaks_jump code) is.jump) (least (breaks_no_part code) is.no_part) (least (breaks_stack code) is.stack)

is_memory : (e : Refusal) → (e ≡ Memory) ⊎ (e ≢ Memory)
is_memory Memory = inl refl
is_memory _ = inr (λ h. absurd (cc))

-- an accepted program is refused for memory alone
pub memory_alone : (code : Code) (e : Refusal) → IsAccepted code → (e ≢ Memory → refusal_of code ≡ Some e) → e ≡ Memory
memory_alone code e is h =
    let none = none_from_accepted code is in
    elim (is_memory e) [
      | inl same ↦ same
      | inr other ↦ let some = h other in absurd (cc)
    ]
