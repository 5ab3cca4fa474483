-- When a program is accepted, and with what it is refused otherwise.
use Rattle.std.specs.Prelude.{◌≡◌, ℕ, Bool, false, Option}
use Rattle.std.specs.Option.{option_or, option_map}
use Rattle.bytecode_format.specs.Code.{Code}
use Rattle.bytecode_verifier.specs.declared.error.Refusal.{Refusal}
use Rattle.bytecode_verifier.specs.declared.error.Refusal.TheVariants.{Index, Form, End, Loop, Jump, NoPart, Stack}
use Rattle.bytecode_verifier.specs.Places.{least_place}
use Rattle.bytecode_verifier.specs.Rules.{breaks_index, breaks_form, breaks_end, breaks_loop, breaks_jump, breaks_no_part, breaks_stack}

-- no rule is broken anywhere
pub record IsAccepted (code : Code) : Type 0 where
  pub index : (place : ℕ) → breaks_index code place ≡ false
  pub form : (place : ℕ) → breaks_form code place ≡ false
  pub end : (place : ℕ) → breaks_end code place ≡ false
  pub loop : (place : ℕ) → breaks_loop code place ≡ false
  pub jump : (place : ℕ) → breaks_jump code place ≡ false
  pub no_part : (place : ℕ) → breaks_no_part code place ≡ false
  pub stack : (place : ℕ) → breaks_stack code place ≡ false

-- the refusal at the least place where its rule is broken, if it is
abbrev pub refused : (ℕ → Refusal) → (ℕ → Bool) → Code → Option Refusal
refused refusal breaks code = option_map refusal (least_place breaks code)

-- the refusal: of the rules that are broken, the first in this order
abbrev pub refusal_of : Code → Option Refusal
refusal_of code =
    option_or (refused Index (breaks_index code) code)
    (option_or (refused Form (breaks_form code) code)
    (option_or (refused End (breaks_end code) code)
    (option_or (refused Loop (breaks_loop code) code)
    (option_or (refused Jump (breaks_jump code) code)
    (option_or (refused NoPart (breaks_no_part code) code)
    (refused Stack (breaks_stack code) code))))))
