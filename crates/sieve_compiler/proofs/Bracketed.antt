-- The loops that are open around the code of each piece: after it the same as before it.
use Rattle.std.proofs.Common.{◌≡◌, ℕ, suc, ◌+◌, Bool, true, false, List, [], ◌∷◌, ◌++◌, Option, Some, None, map, length, drop, slice_get, refl, sym, ap, subst, ◌∙◌, arith, append_assoc}
use Rattle.std.proofs.lemmas.Bool.{eq-eqb}
use Rattle.std.proofs.lemmas.List.{length-append}
use Rattle.bytecode_format.specs.declared.instruction.Instruction.{Instruction}
use Rattle.bytecode_format.specs.declared.operation.Operation.{Operation}
use Rattle.bytecode_format.specs.declared.operation.Operation.TheVariants.{Each, Next}
use Rattle.bytecode_format.specs.Operations.{operation_of}
use Rattle.bytecode_verifier.specs.Loops.{Loop, opens}
use Rattle.bytecode_verifier.specs.Nests.{first_of, without_first, waiting_over, waiting_from, next_at}
use Rattle.bytecode_verifier.proofs.Closing.{drop_here}
use Rattle.bytecode_verifier.proofs.Open.{From, waiting_later, loop_at, loop_to, loop_at_next, inside, nexts, waits, Step, pushed, popped, stayed, step_at}
use Rattle.sieve_check.specs.declared.typed.Act.{Act}
use Rattle.sieve_check.specs.declared.typed.Segment.{Segment}
use Rattle.sieve_check.specs.declared.typed.Segment.TheVariants.{Text, Variable, Capture}
use Rattle.sieve_check.specs.Acts.{act_strings}
use Rattle.sieve_check.specs.Typed.{Template, in_order, TestForm, asks, negation, all_of, any_of, TestForms, no_test, test, CommandForm, does, for_every_part, choice, CommandForms, no_command, command, BranchForms, no_branch, otherwise, branch}
use Rattle.sieve_compiler.specs.Tables.{Tables}
use Rattle.sieve_compiler.specs.Lengths.{test_length, leave_length, command_length, commands_length, branches_length}
use Rattle.sieve_compiler.specs.Coding.{instruction, loop_code, jump_if, push_segment, act_code, string_code, strings_code, test_code, tests_code, leave_code, command_code, commands_code, branches_code}
use Rattle.sieve_compiler.proofs.Standing.{Stands, stands_first, stands_next, stands_left, stands_right}
use Rattle.sieve_compiler.proofs.CodeLengths.{test_code_length, leave_code_length, command_code_length, commands_code_length}
use Rattle.sieve_compiler.proofs.Acts.{act_flat}
use Rattle.sieve_compiler.proofs.Questions.{question_flat}
use Rattle.sieve_compiler.proofs.Sound.{is_bracket}
use Rattle.sieve_compiler.proofs.BranchParts.{branch_parts_of}

-- ---- instructions that are no brackets

pub record IsNone (o : Option Operation) : Type 0 where
  pub no_open : opens o ≡ false
  pub waiting : (place : ℕ) (later : List ℕ) → waiting_over o place later ≡ later

none_of : (o : Option Operation) → is_bracket o ≡ false → IsNone o
none_of (Some Each) h = absurd (cc)
none_of (Some Next) h = absurd (cc)
none_of _ h = record { no_open = refl; waiting = λ place later. refl }

-- after such an instruction the same loops are open
pub after_flat : (all : List Instruction) (place : ℕ) (i : Instruction) → slice_get all place ≡ Some i → is_bracket (operation_of i.op) ≡ false → inside all (suc place) ≡ inside all place
after_flat all place i here flat = go (step_at all place)
  where
    none : IsNone (operation_of i.op)
    none = none_of (operation_of i.op) flat

    -- those that wait here wait after it
    later : From (suc place) (waiting_from place (drop place all))
    later = subst (From (suc place)) (sym (ap (waiting_from place) (drop_here all place i here) ∙ none.waiting place (waiting_from (suc place) (drop (suc place) all)))) (waiting_later (suc place) (drop (suc place) all))

    go : Step all place → inside all (suc place) ≡ inside all place
    go (pushed loop opened each lt bound) = absurd (let wrong : None ≡ Some loop = rw (here, none.no_open) at opened in cc)
    go (popped loop opened next is bound) =
        let known = waits all place in
        let first : From (suc place) (loop.next ∷ (nexts (inside all (suc place)) ++ known.0)) = subst (From (suc place)) (known.1 ∙ ap (λ ls. nexts ls ++ known.0) is) later in
        absurd (omega (arith, first.0, next))
    go (stayed opened same bound) = same

-- code without brackets
abbrev pub AreFlat : List Instruction → Type 0
AreFlat [] = Unit {0}
AreFlat (i ∷ piece) = (is_bracket (operation_of i.op) ≡ false) × AreFlat piece

pub flat_both : (a b : List Instruction) → AreFlat a → AreFlat b → AreFlat (a ++ b)
flat_both [] b h k = k
flat_both (i ∷ a) b h k = (h.0, flat_both a b h.1 k)

-- after such a piece the same loops are open
pub flat_inside : (all piece : List Instruction) (place n : ℕ) → length piece ≡ n → Stands all place piece → AreFlat piece → inside all (place + n) ≡ inside all place
flat_inside all [] place n e h flat = let same : place + n ≡ place = omega (arith, e) in ap (inside all) same
flat_inside all (i ∷ piece) place n e h flat =
    let same : place + n ≡ suc place + length piece = omega (arith, e) in
    ap (inside all) same ∙ flat_inside all piece (suc place) (length piece) refl (stands_next all place i piece h) flat.1 ∙ after_flat all place i (stands_first all place i piece h) flat.0

module _ (tables : Tables) where
  segment_flat : (segment : Segment) → is_bracket (operation_of (push_segment tables segment).op) ≡ false
  segment_flat (Text octets) = refl
  segment_flat (Variable name) = refl
  segment_flat (Capture n) = refl

  segments_flat : (segments : List Segment) → AreFlat (map (push_segment tables) segments)
  segments_flat [] = tt
  segments_flat (segment ∷ segments) = (segment_flat segment, segments_flat segments)

  pub string_flat : (s : Template) → AreFlat (string_code tables s)
  string_flat [] = (refl, tt)
  string_flat (segment ∷ []) = (segment_flat segment, tt)
  string_flat (one ∷ other ∷ more) = flat_both (map (push_segment tables) (one ∷ other ∷ more)) _ (segments_flat (one ∷ other ∷ more)) (refl, tt)

  pub strings_flat : (ss : List Template) → AreFlat (strings_code tables ss)
  strings_flat [] = tt
  strings_flat (s ∷ ss) = flat_both (string_code tables s) (strings_code tables ss) (string_flat s) (strings_flat ss)

  jump_flat : (asked : Bool) (target : ℕ) → is_bracket (operation_of (jump_if asked target).op) ≡ false
  jump_flat true target = refl
  jump_flat false target = refl

  mutual
    pub test_flat : (t : TestForm) (place : ℕ) (asked : Bool) (target : ℕ) → AreFlat (test_code tables place t asked target)
    test_flat (asks question strings at) place asked target = flat_both _ _ (strings_flat (in_order strings)) (question_flat tables question strings, (jump_flat asked target, tt))
    test_flat (negation t at) place asked target = test_flat t place _ target
    test_flat (all_of t ts at) place asked target = flat_both _ _ (test_flat t place _ _) (tests_flat ts (place + test_length t) false asked _ target)
    test_flat (any_of t ts at) place asked target = flat_both _ _ (test_flat t place _ _) (tests_flat ts (place + test_length t) true asked _ target)

    pub tests_flat : (ts : TestForms) (place : ℕ) (deciding asked : Bool) (following target : ℕ) → AreFlat (tests_code tables place ts deciding asked following target)
    tests_flat no_test place deciding asked following target = tt
    tests_flat (test t ts) place deciding asked following target = flat_both _ _ (test_flat t place _ _) (tests_flat ts (place + test_length t) deciding asked following target)

  pub leave_flat : (bs : BranchForms) (end : ℕ) → AreFlat (leave_code bs end)
  leave_flat no_branch end = tt
  leave_flat (otherwise cs) end = (refl, tt)
  leave_flat (branch t cs at bs) end = (refl, tt)

-- ---- balanced code

-- the brackets of the piece are matched among themselves: before it the same wait as after it, whatever follows
abbrev pub IsBalanced : List Instruction → Type 0
IsBalanced piece = (place : ℕ) (rest : List Instruction) → waiting_from place (piece ++ rest) ≡ waiting_from (place + length piece) rest

flat_balanced : (piece : List Instruction) → AreFlat piece → IsBalanced piece
flat_balanced [] flat = λ place rest. let same : place ≡ place + 0 = omega arith in ap (λ p. waiting_from p rest) same
flat_balanced (i ∷ piece) flat = λ place rest.
    let same : suc place + length piece ≡ place + suc (length piece) = omega arith in
    (none_of (operation_of i.op) flat.0).waiting place (waiting_from (suc place) (piece ++ rest)) ∙ flat_balanced piece flat.1 (suc place) rest ∙ ap (λ p. waiting_from p rest) same

balanced_both : (a b : List Instruction) → IsBalanced a → IsBalanced b → IsBalanced (a ++ b)
balanced_both a b h k = λ place rest.
    let same : place + length a + length b ≡ place + length (a ++ b) = omega (arith, length-append a b) in
    ap (waiting_from place) (append_assoc a b rest) ∙ h place (b ++ rest) ∙ k (place + length a) rest ∙ ap (λ p. waiting_from p rest) same

-- what waits in a loop, before its block: its Next, and then what waits after it
in_loop : (block rest : List Instruction) (place each : ℕ) → IsBalanced block
    → waiting_from place ((block ++ instruction Next 0 each ∷ []) ++ rest) ≡ (place + length block) ∷ waiting_from (suc (place + length block)) rest
in_loop block rest place each balanced = ap (waiting_from place) (append_assoc block (instruction Next 0 each ∷ []) rest) ∙ balanced place (instruction Next 0 each ∷ rest)

loop_balanced : (each next : ℕ) (block : List Instruction) → IsBalanced block → IsBalanced (loop_code each next block)
loop_balanced each next block balanced = λ place rest.
    let same : suc (suc place + length block) ≡ place + length (loop_code each next block) = omega (arith, length-append block (instruction Next 0 each ∷ [])) in
    ap without_first (in_loop block rest (suc place) each balanced) ∙ ap (λ p. waiting_from p rest) same

module _ (tables : Tables) where
  act_is_flat : (act : Act) (string : Template) → AreFlat (strings_code tables (act_strings act string) ++ act_code tables act ∷ [])
  act_is_flat act string = flat_both _ _ (strings_flat tables (act_strings act string)) (act_flat tables act, tt)

  mutual
    pub command_balanced : (c : CommandForm) (place : ℕ) → IsBalanced (command_code tables place c)
    command_balanced (does act string at) place = flat_balanced (command_code tables place (does act string at)) (act_is_flat act string)
    command_balanced (for_every_part cs at) place = loop_balanced place (place + 1 + commands_length cs) (commands_code tables (place + 1) cs) (commands_balanced cs (place + 1))
    command_balanced (choice bs) place = branches_balanced bs place (place + branches_length bs)

    pub commands_balanced : (cs : CommandForms) (place : ℕ) → IsBalanced (commands_code tables place cs)
    commands_balanced no_command place = flat_balanced [] tt
    commands_balanced (command c cs) place = balanced_both _ _ (command_balanced c place) (commands_balanced cs (place + command_length c))

    pub branches_balanced : (bs : BranchForms) (place end : ℕ) → IsBalanced (branches_code tables place bs end)
    branches_balanced no_branch place end = flat_balanced [] tt
    branches_balanced (otherwise cs) place end = commands_balanced cs place
    branches_balanced (branch t cs at bs) place end =
        let block = place + test_length t in
        let next = block + commands_length cs + leave_length bs in
        balanced_both _ _ (balanced_both _ _ (balanced_both _ _ (flat_balanced (test_code tables place t false next) (test_flat tables t place false next)) (commands_balanced cs block)) (flat_balanced (leave_code bs end) (leave_flat tables bs end))) (branches_balanced bs next end)

-- ---- the loops that are open

-- the loop of these places
abbrev pub loop_of : ℕ → ℕ → Loop
loop_of each next = record { each = each; next = next }

-- where a loop's code stands
module _ (all : List Instruction) (place next : ℕ) (block : List Instruction) (h : Stands all place (loop_code place next block)) (balanced : IsBalanced block) (ends : next ≡ place + 1 + length block) where
  -- its Next is that of its Each
  pub loop_next : next_at all place ≡ next
  loop_next =
      let here = stands_first all place (instruction Each 0 next) (block ++ instruction Next 0 place ∷ []) h in
      let after = stands_next all place (instruction Each 0 next) (block ++ instruction Next 0 place ∷ []) h in
      let waiting : waiting_from (suc place) (drop (suc place) all) ≡ (suc place + length block) ∷ waiting_from (suc (suc place + length block)) after.0 =
      ap (waiting_from (suc place)) after.1 ∙ in_loop block after.0 (suc place) place balanced in
      let same : suc place + length block ≡ next = omega (arith, ends) in
      rw here (ap first_of waiting ∙ same)

  -- it is open after its Each
  pub loop_opened : inside all (suc place) ≡ loop_of place next ∷ inside all place
  loop_opened =
      let same : next ≡ suc (place + length block) = omega (arith, ends) in
      let opened : loop_at all place ≡ Some (loop_of place next) =
      loop_at_next all place ∙ ap (loop_to place) (loop_next ∙ same) ∙ ap (λ n. Some (loop_of place n)) (sym same) in
      rw opened refl

  -- its Next
  pub next_stands : slice_get all next ≡ Some (instruction Next 0 place)
  next_stands =
      let after = stands_next all place (instruction Each 0 next) (block ++ instruction Next 0 place ∷ []) h in
      let there = stands_right all (suc place) (length block) block (instruction Next 0 place ∷ []) refl after in
      let same : suc place + length block ≡ next = omega (arith, ends) in
      subst (λ p. slice_get all p ≡ Some (instruction Next 0 place)) same (stands_first all (suc place + length block) (instruction Next 0 place) [] there)

  -- and closed after it, where its block leaves it open
  pub loop_closed : inside all next ≡ inside all (suc place) → inside all (suc next) ≡ inside all place
  loop_closed block_inside =
      let before : inside all next ≡ loop_of place next ∷ inside all place = block_inside ∙ loop_opened in
      rw (next_stands, before, eq-eqb next next refl) refl

module _ (all : List Instruction) (tables : Tables) where
  -- where the block of a loop stands
  pub block_stands : (cs : CommandForms) (place : ℕ) → Stands all place (loop_code place (place + 1 + commands_length cs) (commands_code tables (place + 1) cs)) → Stands all (place + 1) (commands_code tables (place + 1) cs)
  block_stands cs place h =
      let same : suc place ≡ place + 1 = omega arith in
      subst (λ p. Stands all p (commands_code tables (place + 1) cs)) same (stands_left all (suc place) (commands_code tables (place + 1) cs) _ (stands_next all place _ _ h))

  pub block_ends : (cs : CommandForms) (place : ℕ) → place + 1 + commands_length cs ≡ place + 1 + length (commands_code tables (place + 1) cs)
  block_ends cs place = ap (λ n. place + 1 + n) (sym (commands_code_length tables cs (place + 1)))

  -- its loop is open at its block
  pub block_inside : (cs : CommandForms) (place : ℕ) → Stands all place (loop_code place (place + 1 + commands_length cs) (commands_code tables (place + 1) cs)) → inside all (place + 1) ≡ loop_of place (place + 1 + commands_length cs) ∷ inside all place
  block_inside cs place h =
      let same : place + 1 ≡ suc place = omega arith in
      ap (inside all) same ∙ loop_opened all place (place + 1 + commands_length cs) (commands_code tables (place + 1) cs) h (commands_balanced tables cs (place + 1)) (block_ends cs place)

  pub test_inside : (t : TestForm) (place : ℕ) (asked : Bool) (target : ℕ) → Stands all place (test_code tables place t asked target) → inside all (place + test_length t) ≡ inside all place
  test_inside t place asked target h = flat_inside all (test_code tables place t asked target) place (test_length t) (test_code_length tables t place asked target) h (test_flat tables t place asked target)

  pub leave_inside : (bs : BranchForms) (place end : ℕ) → Stands all place (leave_code bs end) → inside all (place + leave_length bs) ≡ inside all place
  leave_inside bs place end h = flat_inside all (leave_code bs end) place (leave_length bs) (leave_code_length tables bs end) h (leave_flat tables bs end)

  -- after the code of commands the same loops are open as before it
  mutual
    pub command_inside : (c : CommandForm) (place : ℕ) → Stands all place (command_code tables place c) → inside all (place + command_length c) ≡ inside all place
    command_inside (does act string at) place h = flat_inside all (command_code tables place (does act string at)) place (command_length (does act string at)) (command_code_length tables (does act string at) place) h (act_is_flat tables act string)
    command_inside (for_every_part cs at) place h =
        let next : ℕ = place + 1 + commands_length cs in
        let first : place + 1 ≡ suc place = omega arith in
        let last : place + (commands_length cs + 2) ≡ suc next = omega arith in
        let block : inside all next ≡ inside all (suc place) = commands_inside cs (place + 1) (block_stands cs place h) ∙ ap (inside all) first in
        ap (inside all) last ∙ loop_closed all place next (commands_code tables (place + 1) cs) h (commands_balanced tables cs (place + 1)) (block_ends cs place) block
    command_inside (choice bs) place h = branches_inside bs place (place + branches_length bs) h

    pub commands_inside : (cs : CommandForms) (place : ℕ) → Stands all place (commands_code tables place cs) → inside all (place + commands_length cs) ≡ inside all place
    commands_inside no_command place h = let same : place + 0 ≡ place = omega arith in ap (inside all) same
    commands_inside (command c cs) place h =
        let same : place + (command_length c + commands_length cs) ≡ place + command_length c + commands_length cs = omega arith in
        let there = stands_right all place (command_length c) _ _ (command_code_length tables c place) h in
        ap (inside all) same ∙ commands_inside cs (place + command_length c) there ∙ command_inside c place (stands_left all place _ _ h)

    pub branches_inside : (bs : BranchForms) (place end : ℕ) → Stands all place (branches_code tables place bs end) → inside all (place + branches_length bs) ≡ inside all place
    branches_inside no_branch place end h = let same : place + 0 ≡ place = omega arith in ap (inside all) same
    branches_inside (otherwise cs) place end h = commands_inside cs place h
    branches_inside (branch t cs at bs) place end h =
        let p = branch_parts_of all tables t cs at bs place end h in
        let next : ℕ = place + test_length t + commands_length cs + leave_length bs in
        let same : place + (test_length t + commands_length cs + leave_length bs + branches_length bs) ≡ next + branches_length bs = omega arith in
        ap (inside all) same ∙ branches_inside bs next end p.rest ∙ leave_inside bs (place + test_length t + commands_length cs) end p.leave
        ∙ commands_inside cs (place + test_length t) p.block ∙ test_inside t place false next p.test
