-- The instruction of a question, with so many strings and with this place of its number: what the row of the question says of it.
use Rattle.std.proofs.Common.{◌≡◌, ℕ, zero, suc, ◌+◌, ◌<◌, ◌≤◌, ◌^◌, ◌==◌, ◌&&◌, Bool, true, false, List, [], ◌∷◌, Option, Some, None, if◌then◌else◌, length, refl, ap, ◌∙◌, arith}
use Rattle.std.specs.Option.{option_and_then}
use Rattle.std.proofs.lemmas.Bool.{eqb-true}
use Rattle.octets.specs.Limits.{max_test_strings}
use Rattle.bytecode_format.specs.declared.operation.Operation.TheVariants.{Test}
use Rattle.bytecode_format.specs.declared.question.Counts.{Counts}
use Rattle.bytecode_format.specs.declared.question.Question.{Question}
use Rattle.bytecode_format.specs.declared.question.Question.TheVariants.{Constant, Header}
use Rattle.bytecode_format.specs.declared.question.Takes.{Takes}
use Rattle.bytecode_format.specs.declared.selection.Selector.{Selector}
use Rattle.bytecode_format.specs.declared.selection.Selector.TheVariants.{Value}
use Rattle.bytecode_format.specs.declared.selection.TestCounts.{TestCounts}
use Rattle.bytecode_format.specs.Operations.{operation_of}
use Rattle.bytecode_format.specs.Questions.{counts_in, instruction_of, operation_asking, row_of, takes_params}
use Rattle.bytecode_format.specs.Selection.{truth_number, truth_numbered}
use Rattle.bytecode_format.specs.Spelling.{Fits}
use Rattle.bytecode_format.proofs.QuestionLemmas.{counts_said_again}
use Rattle.bytecode_format.proofs.SelectionLemmas.{counts_again, field_test_again, field_test_small, match_again, match_small, order_again, order_small, scope_again, scope_small}
use Rattle.bytecode_verifier.specs.declared.row.Table.{Table}
use Rattle.bytecode_verifier.specs.declared.row.Table.TheVariants.{Numbers}
use Rattle.bytecode_verifier.specs.Rows.{is_list, is_param, is_well_formed, row_in_version, row_named, takes as is_taken, test_row}
use Rattle.sieve_compiler.specs.Coding.{written_version}
use Rattle.sieve_compiler.proofs.Sound.{row_written}

-- ---- its operation and its row

pub operation_asked : (q : Question) (counts : Counts) (place : ℕ) → operation_of (instruction_of q counts place).op ≡ Some (Test (operation_asking q))
operation_asked (Constant value) counts place = refl
operation_asked _ counts place = refl

pub row_asked : (q : Question) (counts : Counts) (place : ℕ) → row_named written_version (instruction_of q counts place).op ≡ Some (test_row (operation_asking q))
row_asked q counts place = ap (option_and_then (row_in_version written_version)) (operation_asked q counts place) ∙ row_written (Test (operation_asking q))

pub no_jump : (q : Question) → (test_row (operation_asking q)).jumps ≡ false
no_jump (Constant value) = refl
no_jump _ = refl

-- it needs a part where it needs a loop
abbrev pub is_any : ℕ → Bool
is_any zero = false
is_any (suc n) = true

pub part_asked : (q : Question) → (test_row (operation_asking q)).needs_part ≡ is_any (row_of q).loops
part_asked (Constant value) = refl
part_asked _ = refl

-- ---- its number

pub numbers_few : (q : Question) → length (row_of q).numbers ≤ 1
numbers_few (Constant value) = omega arith
numbers_few _ = omega arith

-- where there is a number, c is its place in the table
abbrev pub index_of : List ℕ → Option Table
index_of [] = None
index_of (number ∷ numbers) = Some Numbers

abbrev pub placed : List ℕ → ℕ → ℕ
placed [] c = 0
placed (number ∷ numbers) c = c

pub index_asked : (q : Question) → (test_row (operation_asking q)).index ≡ index_of (row_of q).numbers
index_asked (Constant value) = refl
index_asked _ = refl

pub place_asked : (q : Question) (counts : Counts) (place : ℕ) → placed (row_of q).numbers (instruction_of q counts place).c ≡ placed (row_of q).numbers place
place_asked (Constant value) counts place = refl
place_asked _ counts place = refl

-- ---- how many strings it has

-- a list that is taken has some strings, and no more than a test may have; one that isn't has none
abbrev pub is_counted : Bool → ℕ → Bool
is_counted true n = is_list n
is_counted false n = n == 0

pub record AreCounted (takes : Takes) (counts : Counts) : Type 0 where
  pub names : is_counted takes.names counts.names ≡ true
  pub params : is_counted takes.params counts.params ≡ true
  pub keys : is_counted takes.keys counts.keys ≡ true
  pub few : counts.names + counts.params + counts.keys ≤ max_test_strings

none_counted : (taken : Bool) (n : ℕ) → is_counted taken n ≡ true → taken ≡ false → n ≡ 0
none_counted true n h e = absurd cc
none_counted false n h e = eqb-true n 0 h

pub counted_again : (q : Question) (counts : Counts) (place : ℕ) → AreCounted (row_of q).takes counts → counts_in (operation_asking q) (instruction_of q counts place) ≡ counts
counted_again q counts place h =
    counts_said_again q counts place (omega (arith, h.few)) (record {
      names = none_counted (row_of q).takes.names counts.names h.names;
      params = none_counted (row_of q).takes.params counts.params h.params;
      keys = none_counted (row_of q).takes.keys counts.keys h.keys;
    })

-- ---- its fields are in their ranges

truth_again : (value : Bool) → truth_numbered (truth_number value) ≡ Some value
truth_again true = refl
truth_again false = refl

truth_small : (value : Bool) → truth_number value ≤ 1
truth_small true = omega arith
truth_small false = omega arith

-- what a was made of is read again, and is small
ruleset again = (truth_again, field_test_again, scope_again, match_again, order_again)

ruleset small_numbers = (truth_small, field_test_small, scope_small, match_small, order_small)

a_formed : (q : Question) (counts : Counts) (place : ℕ) → let i = instruction_of q counts place in is_taken i.a (test_row (operation_asking q)).a i.a ≡ true
a_formed (Constant value) counts place = search again
a_formed _ counts place = search again

b_formed : (q : Question) (counts : Counts) (place : ℕ) → is_counted (row_of q).takes.names counts.names ≡ true → let i = instruction_of q counts place in is_taken i.a (test_row (operation_asking q)).b i.b ≡ true
b_formed (Constant value) counts place h = cc
b_formed _ counts place h = cc

-- parameters are counted where they are taken
params_formed : (selector : Selector) (n : ℕ) → is_counted (takes_params selector) n ≡ true → (if is_param selector then is_list n else n == 0) ≡ true
params_formed Value n h = h
params_formed _ n h = h

c_formed : (q : Question) (counts : Counts) (place : ℕ) → AreCounted (row_of q).takes counts → is_counted (row_of q).takes.keys counts.keys ≡ true → let i = instruction_of q counts place in is_taken i.a (test_row (operation_asking q)).c i.c ≡ true
c_formed (Header test) counts place h keys =
    let counted = counts_again (record { params = counts.params; keys = counts.keys }) (omega (arith, h.few)) in
    rw (
      ap (λ (c : TestCounts). c.keys) counted,
      ap (λ (c : TestCounts). c.params) counted,
      field_test_again test,
      keys,
      params_formed test.selector counts.params h.params,
    )
    refl
c_formed (Constant value) counts place h keys = cc
c_formed _ counts place h keys = cc

all_true : (a b c : Bool) → a ≡ true → b ≡ true → c ≡ true → (a && b && c) ≡ true
all_true a b c x y z = rw (x, y, z) refl

pub asked_formed : (q : Question) (counts : Counts) (place : ℕ) → AreCounted (row_of q).takes counts → let i = instruction_of q counts place in is_well_formed (row_named written_version i.op) i ≡ true
asked_formed q counts place h =
    ap (λ row. is_well_formed row (instruction_of q counts place)) (row_asked q counts place)
    ∙ all_true _ _ _ (a_formed q counts place) (b_formed q counts place h.names) (c_formed q counts place h h.keys)

-- and within the limits of a program
pub asked_fits : (q : Question) (counts : Counts) (place : ℕ) → counts.names + counts.params + counts.keys ≤ max_test_strings → place < 2 ^ 32 → Fits (instruction_of q counts place)
asked_fits (Constant value) counts place few small = omega (arith, small_numbers)
asked_fits _ counts place few small = omega (arith, small_numbers)
