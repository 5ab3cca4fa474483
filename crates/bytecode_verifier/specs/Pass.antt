-- Private: what the verifier knows when it has passed the instructions below a place.
use Rattle.std.specs.Prelude.{◌≡◌, ℕ, ◌*◌, ◌^◌, ◌-◌, ◌≤◌, ◌==◌, length, List, [], ◌∷◌, Option, Some, None, if◌then◌else◌, is_none, nat_le, slice_index}
use Rattle.octets.specs.Limits.{max_stack, max_string, max_loops}
use Rattle.bytecode_format.specs.Code.{Code}
use Rattle.bytecode_format.specs.declared.question.Counts.{Counts}
use Rattle.bytecode_verifier.specs.declared.pass.Pass.{Pass}
use Rattle.bytecode_cost.specs.Sums.{Sums, with_cap}
use Rattle.bytecode_verifier.specs.Places.{least_below, sum_below}
use Rattle.bytecode_verifier.specs.Loops.{open_loops}
use Rattle.bytecode_verifier.specs.declared.shape.Entry.TheVariants.{Truth, Text}
use Rattle.bytecode_verifier.specs.declared.shape.Totals.{Totals}
use Rattle.bytecode_verifier.specs.Shape.{Entries, Texts, Lists, shape_at}
use Rattle.bytecode_verifier.specs.Rules.{breaks_index, breaks_form, breaks_loop, breaks_jump, breaks_no_part, breaks_stack}
use Rattle.bytecode_verifier.specs.declared.cap.Cap.{Cap}
use Rattle.bytecode_verifier.specs.Budget.{one_more_each, cap_at}
use Rattle.bytecode_verifier.specs.declared.counting.Counted.{Counted}
use Rattle.bytecode_verifier.specs.Counting.{number_below}

-- the shape, unless it has failed at a place before
abbrev pub unless_failed : Option ℕ → Entries → Option Entries
unless_failed failed entries = if is_none failed then Some entries else None

-- no text is longer than a string of a program may be
abbrev pub AreShort : Entries → Type 0
AreShort [] = Unit {0}
AreShort (Truth ∷ entries) = AreShort entries
AreShort (Text bound ∷ entries) = (bound ≤ max_string) × AreShort entries

-- there are few entries, and their texts are short
pub record IsSmall (entries : Entries) : Type 0 where
  pub few : length entries ≤ max_stack
  pub short : AreShort entries

-- the sum of the bounds of so many texts that were taken, each with one more, and the entries below
-- them; neither, where they weren't there
abbrev pub Takes : ℕ → Option ℕ → Entries → Option Texts → Type 0
Takes number None now None = Unit {0}
Takes number (Some total) now (Some texts) = (total ≡ one_more_each texts.texts) × (length texts.texts ≡ number)
    × (now ≡ texts.below)
Takes number _ now _ = ⊥

-- so many names and parameters, and the sums of the bounds of the names and keys, each with one more
pub record AreTotals (counts : Counts) (totals : Totals) (lists : Lists) : Type 0 where
  pub names_are : length lists.names ≡ counts.names
  pub params_are : length lists.params ≡ counts.params
  pub names : totals.names ≡ one_more_each lists.names
  pub keys : totals.keys ≡ one_more_each lists.keys

-- the same of lists that were taken
abbrev pub TakesLists : Counts → Option Totals → Entries → Option Lists → Type 0
TakesLists counts None now None = Unit {0}
TakesLists counts (Some totals) now (Some lists) = AreTotals counts totals lists × (now ≡ lists.below)
TakesLists counts _ now _ = ⊥

-- the shape goes on to these entries with this cap, or it fails
abbrev pub Passes : Option Cap → Entries → Cap → Option Entries → Type 0
Passes None now cap after = after ≡ None
Passes (Some found) now cap after = (found ≡ cap) × (after ≡ Some now)

-- no cap is larger, whatever the stack holds: at most 1,024 texts, each of at most 16,384 octets
abbrev pub max_cap : ℕ
max_cap = 2 ^ 47 - 1

-- the sum over the instructions below a place that stand inside k open loops
abbrev pub sum_below_place : (Cap → ℕ) → Code → ℕ → ℕ → ℕ
sum_below_place part code bound k = sum_below (λ place. if length (open_loops code place) == k then part (cap_at code place) else 0) bound

abbrev pub sums_below : (Cap → ℕ) → Code → ℕ → List ℕ
sums_below part code bound = sum_below_place part code bound 0 ∷ sum_below_place part code bound 1
    ∷ sum_below_place part code bound 2 ∷ sum_below_place part code bound 3 ∷ []

-- the budget of the instructions below a place
abbrev pub budget_below : Code → ℕ → Sums
budget_below code bound =
    record { version = code.version; fixed = sums_below (λ cap. cap.fixed) code bound; scaled = sums_below (λ cap. cap.scaled) code bound }

-- the sums with the cap of an instruction inside so many loops, where there may be so many
abbrev pub with_charge : ℕ → Cap → Sums → Sums
with_charge depth cap sums = if nat_le depth max_loops then with_cap sums depth cap.fixed cap.scaled else sums

-- the pass has taken the instructions below the place
pub record HasPassed (code : Code) (place : ℕ) (pass : Pass) : Type 0 where
  pub index : pass.index ≡ least_below (breaks_index code) place
  pub form : pass.form ≡ least_below (breaks_form code) place
  pub brackets : pass.brackets ≡ least_below (breaks_loop code) place
  pub jump : pass.jump ≡ least_below (breaks_jump code) place
  pub part : pass.part ≡ least_below (breaks_no_part code) place
  pub stack : pass.stack ≡ least_below (breaks_stack code) place
  pub shape : shape_at code place ≡ unless_failed pass.stack pass.shape
  pub budget : pass.stack ≡ None → pass.budget ≡ budget_below code place
  -- each instruction adds at most so much to a sum
  pub fixed : (k : ℕ) → slice_index pass.budget.fixed k ≤ place * max_cap
  pub scaled : (k : ℕ) → slice_index pass.budget.scaled k ≤ place * max_cap

-- the numbers as those of a budget, of which nothing is for each octet of the message
abbrev pub numbers_below : Counted → Code → ℕ → Sums
numbers_below counted code bound =
    record {
      version = code.version;
      fixed = number_below counted code bound 0 ∷ number_below counted code bound 1 ∷ number_below counted code bound 2
          ∷ number_below counted code bound 3 ∷ [];
      scaled = 0 ∷ 0 ∷ 0 ∷ 0 ∷ [];
    }
