-- The instruction of a question says it again, and how many strings it has.
use Rattle.std.proofs.Common.{◌≡◌, ℕ, ◌<◌, Bool, true, false, List, [], Option, Some, None, slice_get, refl, ap}
use Rattle.std.proofs.lemmas.List.Elements.{All-head}
use Rattle.std.specs.Option.{option_and_then, option_map}
use Rattle.bytecode_format.specs.declared.instruction.Instruction.{Instruction}
use Rattle.bytecode_format.specs.declared.operation.TestOperation.{TestOperation}
use Rattle.bytecode_format.specs.declared.operation.TestOperation.TheVariants as test
use Rattle.bytecode_format.specs.declared.question.Counts.{Counts}
use Rattle.bytecode_format.specs.declared.question.Order.{Order}
use Rattle.bytecode_format.specs.declared.question.Question.{Question}
use Rattle.bytecode_format.specs.declared.question.Question.TheVariants.{Constant, Header, Exists, Size, String, PartSize, PartBody, PartDigest}
use Rattle.bytecode_format.specs.Questions.{AreCountsOf, StandsIn, counts_in, instruction_of, operation_asking, question_in, row_of}
use Rattle.bytecode_format.specs.Selection.{field_test_numbered, key_numbers, match_numbered, order_numbered, scope_numbered, truth_number, truth_numbered}
use Rattle.bytecode_format.proofs.SelectionLemmas.{counts_again, field_test_again, match_again, order_again, scope_again}

truth_again : (value : Bool) → truth_numbered (truth_number value) ≡ Some value
truth_again true = refl
truth_again false = refl

pub said_again : (numbers : List ℕ) (q : Question) (counts : Counts) (place : ℕ) → StandsIn numbers place q → question_in numbers (operation_asking q) (instruction_of q counts place) ≡ Some q
said_again numbers (Constant value) counts place h = rw (truth_again value) refl
said_again numbers (Header fields) counts place h = rw (field_test_again fields) refl
said_again numbers (Exists scope) counts place h = rw (scope_again scope) refl
said_again numbers (Size order number) counts place h = rw (order_again order, All-head (λ n. slice_get numbers place ≡ Some n) number [] h) refl
said_again numbers (String how) counts place h = rw (match_again how) refl
said_again numbers (PartSize order number) counts place h = rw (order_again order, All-head (λ n. slice_get numbers place ≡ Some n) number [] h) refl
said_again numbers (PartBody how) counts place h = rw (match_again how) refl
said_again numbers PartDigest counts place h = refl

pub counts_said_again : (q : Question) (counts : Counts) (place : ℕ) → counts.keys < key_numbers → AreCountsOf (row_of q).takes counts → counts_in (operation_asking q) (instruction_of q counts place) ≡ counts
counts_said_again (Header fields) counts place few h =
    let again = counts_again (record { params = counts.params; keys = counts.keys }) few in
    rw (ap (λ (c : _). c.params) again, ap (λ (c : _). c.keys) again) refl
counts_said_again (Exists scope) counts place few h = rw (h.params refl, h.keys refl) refl
counts_said_again (String how) counts place few h = rw (h.params refl) refl
counts_said_again (PartBody how) counts place few h = rw (h.names refl, h.params refl) refl
counts_said_again PartDigest counts place few h = rw (h.names refl, h.params refl) refl
counts_said_again _ counts place few h = rw (h.names refl, h.params refl, h.keys refl) refl

-- what an instruction asks is of its operation
of_some : {A : Type 0} (o : Option A) (make : A → Question) (t : TestOperation) (q : Question) → ((x : A) → operation_asking (make x) ≡ t) → option_map make o ≡ Some q → operation_asking q ≡ t
of_some None make t q is e = absurd cc
of_some (Some x) make t q is e = let same : make x ≡ q = cc in rw (← same) (is x)

of_size : (order : Option Order) (number : Option ℕ) (make : Order → ℕ → Question) (t : TestOperation) (q : Question) → ((o : Order) (n : ℕ) → operation_asking (make o n) ≡ t) → option_and_then (λ o. option_map (make o) number) order ≡ Some q → operation_asking q ≡ t
of_size None number make t q is e = absurd cc
of_size (Some o) number make t q is e = of_some number (make o) t q (is o) e

pub only_its_own : (numbers : List ℕ) (t : TestOperation) (i : Instruction) (q : Question) → question_in numbers t i ≡ Some q → operation_asking q ≡ t
only_its_own numbers test.Constant i q e = of_some (truth_numbered i.a) Constant test.Constant q (λ x. refl) e
only_its_own numbers test.Header i q e = of_some (field_test_numbered i.a) Header test.Header q (λ x. refl) e
only_its_own numbers test.Exists i q e = of_some (scope_numbered i.a) Exists test.Exists q (λ x. refl) e
only_its_own numbers test.String i q e = of_some (match_numbered i.a) String test.String q (λ x. refl) e
only_its_own numbers test.Size i q e = of_size (order_numbered i.a) (slice_get numbers i.c) Size test.Size q (λ o n. refl) e
only_its_own numbers test.PartSize i q e = of_size (order_numbered i.a) (slice_get numbers i.c) PartSize test.PartSize q (λ o n. refl) e
only_its_own numbers test.PartBody i q e = of_some (match_numbered i.a) PartBody test.PartBody q (λ x. refl) e
only_its_own numbers test.PartDigest i q e = let same : PartDigest ≡ q = cc in rw (← same) refl
