-- What an instruction charges is within its cap.
use Rattle.std.proofs.Common.{◌≡◌, ℕ, ◌+◌, ◌≤◌, min, slice_get, List, [], ◌∷◌, Option, Some, None, length, refl, ap, subst, ◌∙◌, arith}
use Rattle.std.specs.Option.{option_and_then, option_map, option_map_or}
use Rattle.bytecode_format.specs.declared.instruction.Instruction.{Instruction}
use Rattle.bytecode_format.specs.declared.operation.Operation.{Operation}
use Rattle.bytecode_format.specs.declared.operation.Operation.TheVariants.{Join, Set, File, Store, Take, Test}
use Rattle.bytecode_format.specs.declared.operation.TestOperation.{TestOperation}
use Rattle.bytecode_format.specs.declared.question.Question.{Question}
use Rattle.bytecode_format.specs.Questions.{counts_in, most_of, question_in}
use Rattle.bytecode_format.specs.Operations.{operation_of}
use Rattle.bytecode_format.proofs.QuestionLemmas.{only_its_own}
use Rattle.bytecode_format.specs.Code.{Code}
use Rattle.bytecode_verifier.specs.declared.shape.Entry.TheVariants.{Truth, Text}
use Rattle.bytecode_verifier.specs.Shape.{Entries, Texts, Lists as ListBounds, with_entry, with_joined, take_texts, take_counted}
use Rattle.bytecode_verifier.specs.declared.cap.Cap.{Cap}
use Rattle.bytecode_verifier.specs.Budget.{one_charge, cap_of_octets, cap_of_test, cap_of, sizes_of}
use Rattle.bytecode_verifier.specs.Acceptance.{IsAccepted}
use Rattle.bytecode_verifier.proofs.Consequences.{left_by, question_known}
use Rattle.mime_decode.specs.Mail.{Mail, Part, IsMail, size_of}
use Rattle.mail_matching.specs.QuestionCosts.{value_of}
use Rattle.mail_matching.proofs.QuestionLemmas.{question_within}
use Rattle.sieve_vm.specs.State.{Value, truth, text, State, current_part}
use Rattle.sieve_vm.specs.Stack.{Lists, texts_on_top, lists_counted, texts_in, length_on_top}
use Rattle.sieve_vm.specs.Charge.{cost_of_asking, octets_on_top, octets_taken, charge_of}
use Rattle.sieve_vm.specs.Machine.{referred_in}
use Rattle.sieve_vm.specs.Potential.{cap_value}
use Rattle.sieve_vm.proofs.Taking.{Describes, on_top, lists_are_on_top, octets_within}

-- a charge is one at least, and within the cap
pub record IsWithinCap (mail : Mail) (charge : ℕ) (cap : Cap) : Type 0 where
  pub some : 1 ≤ charge
  pub most : charge ≤ cap_value mail cap

one : (mail : Mail) → IsWithinCap mail 1 one_charge
one mail = record { some = omega arith; most = omega arith }

-- the cap of a test has one charge more than asking costs at most
cap_is : (mail : Mail) (test : TestOperation) (bounds : ListBounds) → cap_value mail (cap_of_test test bounds) ≡ 1 + value_of (most_of test (sizes_of bounds)) (size_of mail)
cap_is mail test bounds = omega arith

-- the charge of a test
pub test_charge : (code : Code) (mail : Mail) (test : TestOperation) (i : Instruction) (s : State) (q : Question) (lists : Lists) → question_in code.numbers test i ≡ Some q → lists_counted (counts_in test i) s.stack ≡ Some lists
    → charge_of (referred_in code) mail (Test test) i s ≡ 1 + cost_of_asking mail (current_part s.frames) q lists
test_charge code mail test i s q lists asks top =
    let costs : Question → Option Lists → ℕ = λ question taken. option_map_or (cost_of_asking mail (current_part s.frames) question) taken 0 in
    ap (λ (o : Option Question). 1 + option_map_or (λ question. costs question (lists_counted (counts_in test i) s.stack)) o 0) asks ∙ ap (λ o. 1 + costs q o) top

module _ (code : Code) (mail : Mail) (known : IsMail mail) (i : Instruction) (s : State) (entries : Entries) (d : Describes entries s.stack) where
  file_fits : (after : Entries) → option_map (λ (folder : Texts). folder.below) (take_texts 1 entries) ≡ Some after → IsWithinCap mail (1 + length_on_top s.stack) (option_map_or cap_of_octets (take_texts 1 entries) one_charge)
  file_fits after e = go entries s.stack d e
    where
      go : (es : Entries) (stack : List Value) → Describes es stack → option_map (λ (folder : Texts). folder.below) (take_texts 1 es) ≡ Some after → IsWithinCap mail (1 + length_on_top stack) (option_map_or cap_of_octets (take_texts 1 es) one_charge)
      go [] stack h f = absurd cc
      go (Truth ∷ es) stack h f = absurd cc
      go (Text bound ∷ es) [] h f = absurd h
      go (Text bound ∷ es) (truth b ∷ vs) h f = absurd h
      go (Text bound ∷ es) (text folder ∷ vs) h f = let short = h.0 in record { some = omega arith; most = omega arith }

  test_fits : (test : TestOperation) (q : Question) → question_in code.numbers test i ≡ Some q → (after : Entries) → option_and_then (λ (lists : ListBounds). with_entry Truth lists.below) (take_counted (counts_in test i) entries) ≡ Some after
      → IsWithinCap mail (charge_of (referred_in code) mail (Test test) i s) (option_map_or (cap_of_test test) (take_counted (counts_in test i) entries) one_charge)
  test_fits test q asks after e = go (take_counted (counts_in test i) entries) refl e
    where
      go : (o : Option ListBounds) → take_counted (counts_in test i) entries ≡ o → option_and_then (λ (lists : ListBounds). with_entry Truth lists.below) o ≡ Some after
          → IsWithinCap mail (charge_of (referred_in code) mail (Test test) i s) (option_map_or (cap_of_test test) o one_charge)
      go None h f = absurd cc
      go (Some bounds) h f =
          let counts = counts_in test i in
          let lists = lists_are_on_top counts.names counts.params counts.keys entries bounds s.stack h d in
          let price = test_charge code mail test i s q lists.top asks lists.is in
          let within = question_within mail known (current_part s.frames) q (texts_in lists.top) (sizes_of bounds)
          (record { names = lists.names_extent; number = omega (arith, lists.names_number); params = omega (arith, lists.params_number); keys = lists.keys_extent }) in
          let most = subst (λ (t : TestOperation). cost_of_asking mail (current_part s.frames) q lists.top ≤ value_of (most_of t (sizes_of bounds)) (size_of mail)) (only_its_own code.numbers test i q asks) within in
          rw price (record { some = omega arith; most = omega (arith, most, cap_is mail test bounds) })

  parts_fit : (after : Entries) → option_and_then with_joined (take_texts i.b entries) ≡ Some after → IsWithinCap mail (1 + option_map_or octets_on_top (texts_on_top i.b s.stack) 0) (option_map_or cap_of_octets (take_texts i.b entries) one_charge)
  parts_fit after e = go (take_texts i.b entries) refl e
    where
      go : (o : Option Texts) → take_texts i.b entries ≡ o → option_and_then with_joined o ≡ Some after → IsWithinCap mail (1 + option_map_or octets_on_top (texts_on_top i.b s.stack) 0) (option_map_or cap_of_octets o one_charge)
      go None h f = absurd cc
      go (Some bounds) h f =
          let parts = on_top i.b entries bounds s.stack h d in
          let less = octets_within i.b bounds s.stack parts in
          rw parts.is (record { some = omega arith; most = omega arith })

-- what a variable gets of a part is no more than it may
taken_fits : (mail : Mail) (most : ℕ) (current : Option ℕ) → octets_taken most mail current ≤ most
taken_fits mail most None = omega arith
taken_fits mail most (Some current) = go (slice_get mail.parts current)
  where
    go : (found : Option Part) → option_map_or (λ (part : Part). min most (length part.content)) found 0 ≤ most
    go None = omega arith
    go (Some part) = omega arith

-- the charge of an instruction that the shape goes over
pub charge_fits : (code : Code) (mail : Mail) → IsAccepted code → IsMail mail → (o : Operation) (i : Instruction) (s : State) → slice_get code.instructions s.place ≡ Some i → operation_of i.op ≡ Some o
    → (entries : Entries) → Describes entries s.stack → (after : Entries) → left_by code (Some o) i entries ≡ Some after → IsWithinCap mail (charge_of (referred_in code) mail o i s) (cap_of (Some o) i entries)
charge_fits code mail is known (Test test) i s here named entries d after e = let q = question_known code is s.place i here test named in test_fits code mail known i s entries d test q.0 q.1 after e
charge_fits code mail is known File i s here named entries d after e = file_fits code mail known i s entries d after e
charge_fits code mail is known Store i s here named entries d after e = file_fits code mail known i s entries d after e
charge_fits code mail is known Set i s here named entries d after e = file_fits code mail known i s entries d after e
charge_fits code mail is known Join i s here named entries d after e = parts_fit code mail known i s entries d after e
charge_fits code mail is known Take i s here named entries d after e =
    let most = taken_fits mail i.b (current_part s.frames) in
    record { some = omega arith; most = omega (arith, most) }
charge_fits code mail is known _ i s here named entries d after e = one mail
