-- The instruction of each question: it is no bracket, it keeps the rules at its place, and its effect is the answer.
use Rattle.std.proofs.Common.{◌≡◌, ℕ, zero, suc, ◌+◌, ◌<◌, ◌≤◌, ◌^◌, ◌&&◌, Bool, true, false, All, List, [], ◌∷◌, ◌++◌, Option, Some, map, slice_get, length, nat_eq, refl, sym, ap, subst, ◌∙◌, arith}
use Rattle.std.proofs.lemmas.Bool.{le-leb}
use Rattle.std.proofs.lemmas.List.{length-append, length-map}
use Rattle.std.proofs.lemmas.List.Elements.{All-nil, All-cons, All-head}
use Rattle.octets.specs.Limits.{max_test_strings}
use Rattle.octets.proofs.Once.{place_within}
use Rattle.bytecode_format.specs.declared.instruction.Instruction.{Instruction}
use Rattle.bytecode_format.specs.declared.operation.Operation.{Operation}
use Rattle.bytecode_format.specs.declared.operation.Operation.TheVariants.{Test}
use Rattle.bytecode_format.specs.declared.question.Question.{Question}
use Rattle.bytecode_format.specs.declared.question.Takes.{Takes}
use Rattle.bytecode_format.specs.Operations.{operation_of}
use Rattle.bytecode_format.specs.Questions.{StandsIn, counts_in, operation_asking, question_in, row_of}
use Rattle.bytecode_format.specs.Spelling.{Fits}
use Rattle.bytecode_format.proofs.QuestionLemmas.{said_again}
use Rattle.bytecode_verifier.specs.Rows.{row_named, is_well_formed, is_jump}
use Rattle.bytecode_verifier.specs.Shape.{Entries, take_counted}
use Rattle.bytecode_verifier.specs.declared.shape.Entry.TheVariants.{Truth}
use Rattle.bytecode_verifier.specs.Shape as shape
use Rattle.bytecode_verifier.proofs.Open.{inside}
use Rattle.mime_decode.specs.Mail.{Mail}
use Rattle.mail_matching.specs.Questions.{answer}
use Rattle.sieve_check.specs.Bounded.{IsAsTaken, AreBoundedStrings}
use Rattle.sieve_check.specs.Typed.{Template, Strings}
use Rattle.sieve_meaning.specs.Meaning.{Effects, texts_of, expanded, all_expanded}
use Rattle.sieve_vm.specs.State.{Frame, State, Referred, current_part}
use Rattle.sieve_vm.specs.Machine.{is_outside, tested}
use Rattle.sieve_vm.specs.Stack.{Lists, lists_counted}
use Rattle.sieve_compiler.specs.Growing.{uses_with}
use Rattle.sieve_compiler.specs.Tables.{Tables}
use Rattle.sieve_compiler.specs.Coding.{counts_of, place_of_first, question_code, written_version}
use Rattle.sieve_compiler.proofs.Asking.{AreCounted, asked_fits, asked_formed, counted_again, index_asked, index_of, is_any, is_counted, no_jump, numbers_few, operation_asked, part_asked, place_asked, placed, row_asked}
use Rattle.sieve_compiler.proofs.Known.{Has, found}
use Rattle.sieve_compiler.proofs.OnStack.{effect_of, stacked_lists, three_again}
use Rattle.sieve_compiler.proofs.PushedTexts.{bound_of, pushed, lists_pushed, taken_back}
use Rattle.sieve_compiler.proofs.Sound.{is_bracket, left_by, leaves, standing, IsInTable, IsInside, IsKnown, KeepsLoops, IsSound, TurnsInto}

-- ---- its strings

-- all lists together
lists_few : (takes : Takes) (strings : Strings) → AreBoundedStrings takes strings → length strings.names + length strings.params + length strings.keys ≤ max_test_strings
lists_few takes strings b = omega (arith, b.few, length-append (strings.names ++ strings.params) strings.keys, length-append strings.names strings.params)

list_counted : (taken : Bool) (list : List Template) → IsAsTaken taken list → length list ≤ max_test_strings → is_counted taken (length list) ≡ true
list_counted true list some few = rw (le-leb 1 (length list) some, le-leb (length list) max_test_strings few) refl
list_counted false list none few = let same : list ≡ [] = none in rw same refl

lists_counted_are : (takes : Takes) (strings : Strings) → AreBoundedStrings takes strings → AreCounted takes (counts_of strings)
lists_counted_are takes strings b =
    let few = lists_few takes strings b in
    record {
      names = list_counted takes.names strings.names b.names (omega (arith, few));
      params = list_counted takes.params strings.params b.params (omega (arith, few));
      keys = list_counted takes.keys strings.keys b.keys (omega (arith, few));
      few = few;
    }

module _ (tables : Tables) where
  -- the place of a number that it has
  abbrev place_in : Question → ℕ
  place_in q = place_of_first tables (row_of q).numbers

  abbrev code_for : Question → Strings → Instruction
  code_for q strings = question_code tables q strings

  first_stands : (numbers : List ℕ) → length numbers ≤ 1 → Has tables (uses_with numbers [] []) → All (λ number. slice_get tables.numbers (place_of_first tables numbers) ≡ Some number) numbers
  first_stands [] few has = All-nil (λ number. slice_get tables.numbers 0 ≡ Some number)
  first_stands (n ∷ []) few has = All-cons (λ number. slice_get tables.numbers (place_of_first tables (n ∷ [])) ≡ Some number) n [] (found tables n has) (All-nil _)
  first_stands (n ∷ m ∷ numbers) few has = absurd (omega (arith, few))

  number_stands : (q : Question) → Has tables (uses_with (row_of q).numbers [] []) → StandsIn tables.numbers (place_in q) q
  number_stands q has = first_stands (row_of q).numbers (numbers_few q) has

  first_within : (numbers : List ℕ) → place_of_first tables numbers ≤ length tables.numbers
  first_within [] = omega arith
  first_within (n ∷ numbers) = place_within nat_eq tables.numbers n

  -- ---- the rules at its place

  asked : (q : Question) (strings : Strings) → operation_of (code_for q strings).op ≡ Some (Test (operation_asking q))
  asked q strings = operation_asked q (counts_of strings) (place_in q)

  pub question_flat : (q : Question) (strings : Strings) → is_bracket (operation_of (code_for q strings).op) ≡ false
  question_flat q strings = ap is_bracket (asked q strings)

  -- it leaves its truth value alone
  pub question_leaves : (q : Question) (strings : Strings) (entries : Entries) → left_by tables (Some (code_for q strings)) entries ≡ Truth ∷ []
  question_leaves q strings entries = ap (λ o. leaves tables o (code_for q strings) entries) (asked q strings)

  -- its fields are in their ranges
  pub question_formed : (q : Question) (strings : Strings) → AreBoundedStrings (row_of q).takes strings → is_well_formed (row_named written_version (code_for q strings).op) (code_for q strings) ≡ true
  question_formed q strings h = asked_formed q (counts_of strings) (place_in q) (lists_counted_are (row_of q).takes strings h)

  -- and within the limits of a program
  pub question_fits : (q : Question) (strings : Strings) → AreBoundedStrings (row_of q).takes strings → length tables.numbers < 2 ^ 32 → Fits (code_for q strings)
  question_fits q strings h small = asked_fits q (counts_of strings) (place_in q) (lists_few (row_of q).takes strings h) (omega (arith, first_within (row_of q).numbers, small))

  jumps_not : (q : Question) (strings : Strings) → is_jump (row_named written_version (code_for q strings).op) ≡ false
  jumps_not q strings = ap is_jump (row_asked q (counts_of strings) (place_in q)) ∙ no_jump q

  -- the index that it has is one of its table
  in_table : (numbers : List ℕ) (c place : ℕ) → placed numbers c ≡ placed numbers place → All (λ number. slice_get tables.numbers place ≡ Some number) numbers → IsInTable tables (index_of numbers) c
  in_table [] c place same h = tt
  in_table (n ∷ numbers) c place same h = (n, ap (slice_get tables.numbers) same ∙ All-head (λ number. slice_get tables.numbers place ≡ Some number) n numbers h)

  known_index : (q : Question) (strings : Strings) → Has tables (uses_with (row_of q).numbers [] []) → IsKnown tables (operation_of (code_for q strings).op) (code_for q strings)
  known_index q strings has =
      let c : ℕ = (code_for q strings).c in
      subst (λ o. IsKnown tables o (code_for q strings)) (sym (asked q strings))
      (subst (λ index. IsInTable tables index c) (sym (index_asked q))
      (in_table (row_of q).numbers c (place_in q) (place_asked q (counts_of strings) (place_in q)) (number_stands q has)))

  -- a question about the current part is within a loop
  within : (needed loops : ℕ) → needed ≤ loops → IsInside (is_any needed) loops
  within zero loops deep = tt
  within (suc needed) loops deep = omega (arith, deep)

  keeps_loops : (all : List Instruction) (place : ℕ) (q : Question) (strings : Strings) → (row_of q).loops ≤ length (inside all place) → KeepsLoops all place (operation_of (code_for q strings).op) (code_for q strings)
  keeps_loops all place q strings deep =
      let loops : ℕ = length (inside all place) in
      subst (λ o. KeepsLoops all place o (code_for q strings)) (sym (asked q strings))
      (subst (λ needed. IsInside needed loops) (sym (part_asked q)) (within (row_of q).loops loops deep))

  -- it takes the entries of its strings
  taken_all : (strings : Strings) → take_counted (counts_of strings) (lists_pushed strings) ≡ Some (let lists : shape.Lists = record { names = map bound_of strings.names; params = map bound_of strings.params; keys = map bound_of strings.keys; below = [] } in lists)
  taken_all strings =
      rw (
        taken_back bound_of strings.keys (pushed (map bound_of strings.params) (pushed (map bound_of strings.names) [])),
        taken_back bound_of strings.params (pushed (map bound_of strings.names) []),
        taken_back bound_of strings.names [],
      )
      refl

  counted : (q : Question) (strings : Strings) → AreBoundedStrings (row_of q).takes strings → counts_in (operation_asking q) (code_for q strings) ≡ counts_of strings
  counted q strings h = counted_again q (counts_of strings) (place_in q) (lists_counted_are (row_of q).takes strings h)

  abbrev Turns : Option Operation → Instruction → Entries → Type 0
  Turns o i entries = TurnsInto tables o i entries (leaves tables o i entries)

  turns_into : (q : Question) (strings : Strings) → AreBoundedStrings (row_of q).takes strings → Turns (operation_of (code_for q strings).op) (code_for q strings) (lists_pushed strings)
  turns_into q strings h =
      subst (λ o. Turns o (code_for q strings) (lists_pushed strings)) (sym (asked q strings))
      (λ code same. rw (counted q strings h, taken_all strings) refl)

  pub question_sound : (all : List Instruction) (last place : ℕ) (q : Question) (strings : Strings) → AreBoundedStrings (row_of q).takes strings → Has tables (uses_with (row_of q).numbers [] []) → (row_of q).loops ≤ length (inside all place) → standing tables all place ≡ lists_pushed strings
      → IsSound all tables last place (code_for q strings)
  question_sound all last place q strings h has deep start = record {
    form = question_formed q strings h;
    loops = keeps_loops all place q strings deep;
    index = known_index q strings has;
    jump = λ e. let none = jumps_not q strings in absurd (cc);
    stack = subst (Turns (operation_of (code_for q strings).op) (code_for q strings)) (sym start) (turns_into q strings h);
  }

  -- ---- its effect

  -- where it needs a loop, one is open
  not_outside : (needed : ℕ) (frames : List Frame) → needed ≤ length frames → (is_any needed && is_outside frames) ≡ false
  not_outside zero frames deep = refl
  not_outside (suc needed) [] deep = absurd (omega (arith, deep))
  not_outside (suc needed) (frame ∷ frames) deep = refl

  module _ (program : Referred) (numbers_same : program.numbers ≡ tables.numbers) (mail : Mail) (state : State) where
    -- where nothing is on the stack
    abbrev bare : State
    bare = record state { stack = [] }

    -- with the texts of a question
    abbrev stacked : Effects → Strings → State
    stacked e strings = record state { stack = stacked_lists (texts_of e strings) }

    said : (q : Question) (strings : Strings) → Has tables (uses_with (row_of q).numbers [] []) → question_in program.numbers (operation_asking q) (code_for q strings) ≡ Some q
    said q strings has = ap (λ numbers. question_in numbers (operation_asking q) (code_for q strings)) numbers_same ∙ said_again tables.numbers q (counts_of strings) (place_in q) (number_stands q has)

    found_again : (e : Effects) (strings : Strings) → lists_counted (counts_of strings) (stacked e strings).stack ≡ Some (let lists : Lists = record { names = all_expanded e strings.names; params = all_expanded e strings.params; keys = all_expanded e strings.keys; below = [] } in lists)
    found_again e strings =
        three_again (length strings.names) (length strings.params) (length strings.keys) (all_expanded e strings.names) (all_expanded e strings.params) (all_expanded e strings.keys)
        (length-map strings.names (expanded e)) (length-map strings.params (expanded e)) (length-map strings.keys (expanded e))

    -- its effect is its answer
    pub question_effect : (q : Question) (e : Effects) (strings : Strings) → AreBoundedStrings (row_of q).takes strings → Has tables (uses_with (row_of q).numbers [] []) → (row_of q).loops ≤ length state.frames
        → effect_of program mail (operation_of (code_for q strings).op) (code_for q strings) (stacked e strings) ≡ tested bare (answer mail (current_part state.frames) q (texts_of e strings) state.captures)
    question_effect q e strings h has deep =
        ap (λ o. effect_of program mail o (code_for q strings) (stacked e strings)) (asked q strings)
        ∙ rw (part_asked q, not_outside (row_of q).loops state.frames deep, said q strings has, counted q strings h, found_again e strings) refl
