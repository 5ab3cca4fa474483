-- Columns that equal a value, or are above one.
use Rattle.std.proofs.Common.{◌≡◌, ℕ, pos, Bool, true, false, List, length, Some, refl, ap, ◌∙◌, bytes_eq, eqb, nat_lt, is_eq, is_gt, int_cmp, arith}
use Rattle.std.proofs.lemmas.Bool.Decides.{nat_tests}
use Rattle.std.proofs.lemmas.Int.{ints}
use Rattle.std.proofs.lemmas.Map.Text.{is_eq-slice_cmp}
use Rattle.sqlite_value.specs.declared.keys.Collation.TheVariants.{Binary}
use Rattle.sqlite_value.specs.declared.value.Value.TheVariants.{Int, Text, Blob}
use Rattle.sqlite_value.proofs.OrderLemmas.{value_cmp-Int, value_cmp-Text, value_cmp-Blob}
use Rattle.sqlite_sql.specs.declared.ops.BinaryOp.TheVariants.{Compare}
use Rattle.sqlite_sql.specs.declared.ops.CompareOp.TheVariants.{Gt}
use Rattle.sqlite_sql.specs.declared.ops.UnaryOp.TheVariants.{Length}
use Rattle.sqlite_sql.specs.Ops.{binary, unary, is_true, from_truth}
use Rattle.sqlite_schema.specs.Rules.{equal}

-- a truth that became a value is that truth
pub truth_of : (b : Bool) → is_true (from_truth (Some b)) ≡ b
truth_of true = refl
truth_of false = refl

pub equal_texts : (m n : List ℕ) → equal Binary (Text m) (Text n) ≡ bytes_eq m n
unfolding binary
equal_texts m n = truth_of _ ∙ ap is_eq (value_cmp-Text m n) ∙ is_eq-slice_cmp m n

pub equal_blobs : (m n : List ℕ) → equal Binary (Blob m) (Blob n) ≡ bytes_eq m n
unfolding binary
equal_blobs m n = truth_of _ ∙ ap is_eq (value_cmp-Blob m n) ∙ is_eq-slice_cmp m n

same_ints : (m n : ℕ) → is_eq (int_cmp (pos m) (pos n)) ≡ eqb m n
same_ints m n = grind (arith, ints, nat_tests)

pub equal_numbers : (m n : ℕ) → equal Binary (Int (pos m)) (Int (pos n)) ≡ eqb m n
unfolding binary
equal_numbers m n = truth_of _ ∙ ap is_eq (value_cmp-Int (pos m) (pos n)) ∙ same_ints m n

above_ints : (m n : ℕ) → is_gt (int_cmp (pos m) (pos n)) ≡ nat_lt n m
above_ints m n = grind (arith, ints, nat_tests)

pub above_numbers : (m n : ℕ) → is_true (binary (Compare Gt Binary) (Int (pos m)) (Int (pos n))) ≡ nat_lt n m
unfolding binary
above_numbers m n = truth_of _ ∙ ap is_gt (value_cmp-Int (pos m) (pos n)) ∙ above_ints m n

pub same_number : (m n : ℕ) → Int (pos m) ≡ Int (pos n) → m ≡ n
same_number m n h = cc

pub blob_length : (octets : List ℕ) → unary Length (Blob octets) ≡ Int (pos (length octets))
unfolding unary
blob_length octets = refl
