-- The run of a script's code does what the script means: its strings, its tests, its acts and loops, and all its commands.
use Rattle.std.proofs.Common.{◌≡◌, ℕ, zero, suc, ◌+◌, ◌<◌, ◌≤◌, Bool, true, false, ◌&&◌, nat_lt, List, [], ◌∷◌, Option, Some, option_map, All, length, map, slice_get, refl, sym, ap, subst, ◌∙◌, arith, not, ◌++◌, None, ◌-◌, drop, if◌then◌else◌}
use Rattle.std.specs.List.{flat_map}
use Rattle.std.proofs.lemmas.Bool.{lt-ltb, le-leb, eq-eqb}
use Rattle.std.proofs.lemmas.List.{length-map}
use Rattle.std.proofs.lemmas.List.Elements.{All-head, All-tail}
use Rattle.std.proofs.lemmas.List.Sums.{sum_by-cons}
use Rattle.std.proofs.lemmas.Option.{slice_get-map}
use Rattle.bytecode_format.specs.declared.instruction.Instruction.{Instruction}
use Rattle.bytecode_format.specs.declared.operation.Operation.TheVariants.{Variable as VariableOp, Capture as CaptureOp, Join, Jump, Halt, Each, Next, Break}
use Rattle.bytecode_format.specs.Code.{Code}
use Rattle.bytecode_format.specs.Operations.{operation_of}
use Rattle.bytecode_format.specs.Actions.{final_actions}
use Rattle.bytecode_verifier.specs.Loops.{same_loops}
use Rattle.bytecode_verifier.specs.Rows.{row_named, is_jump}
use Rattle.mime_decode.specs.Mail.{Mail, IsMail}
use Rattle.mime_decode.specs.Visited.{visited}
use Rattle.octets.specs.Limits.{max_stack, max_loops}
use Rattle.sieve_check.specs.Bounded.{IsBoundedSegment, IsBoundedString, AreBoundedStrings, IsBoundedTest, AreBoundedTests, IsTestIn, AreTestsIn, IsBoundedAct, IsBoundedCommand, AreBoundedCommands, AreBoundedBranches, IsCommandIn, AreCommandsIn, AreBranchesIn, IsBounded}
use Rattle.sieve_check.specs.declared.typed.Segment.{Segment}
use Rattle.sieve_check.specs.declared.typed.Segment.TheVariants.{Text, Variable, Capture}
use Rattle.sieve_check.specs.Typed.{Template, CommandForms, Strings, in_order, TestForm, asks, negation, all_of, any_of, TestForms, no_test, test, BranchForms, no_branch, otherwise, branch, CommandForm, does, for_every_part, choice, no_command, command}
use Rattle.sieve_check.specs.Variables.{string_variables, strings_variables}
use Rattle.bytecode_format.specs.declared.question.Question.{Question}
use Rattle.bytecode_format.specs.Questions.{row_of}
use Rattle.sieve_check.specs.declared.typed.Act.{Act}
use Rattle.sieve_check.specs.declared.typed.Act.TheVariants.{Leave, Stop}
use Rattle.sieve_check.specs.Acts.{act_row, act_strings}
use Rattle.mail_matching.specs.Questions.{answer}
use Rattle.sieve_meaning.specs.Meaning.{Effects, value_of, expanded, all_expanded, texts_of, matched, test_does, Ending, normal, stopped, broken, effects_of, followed_by, left, after_turn, turns, act_does, no_effects, command_does, commands_do, choice_does, meaning}
use Rattle.sieve_vm.specs.State.{Value, truth, text, Frame, State, current_part, Turn, goes, start, ends}
use Rattle.sieve_vm.specs.Machine.{is_sound_jump, turn, step, turn_at, referred_in, tested, on, are_partners, open_loop}
use Rattle.sieve_vm.specs.Charge.{charge_of}
use Rattle.sieve_vm.specs.Runs.{Run}
use Rattle.sieve_vm.proofs.Opened.{IsPart, close-is, some_left, are_visited}
use Rattle.sieve_vm.specs.Ending.{IsOutcome}
use Rattle.sieve_compiler.specs.Growing.{Uses, uses_with, segment_uses, string_uses, strings_uses, test_uses, tests_uses, joined, command_uses, commands_uses, branches_uses}
use Rattle.sieve_compiler.specs.Tables.{Tables, tables_of, place_of_string, place_of_variable}
use Rattle.sieve_compiler.specs.Lengths.{string_length, strings_length, test_length, tests_length, leave_length, branches_length, command_length, commands_length}
use Rattle.sieve_compiler.specs.Strings.{segment_strings, strings_of}
use Rattle.sieve_compiler.specs.Coding.{instruction, jump_if, push_text, push_segment, join_texts, string_code, strings_code, code_of, written_version, question_code, asked_of, aim_of, test_code, tests_code, plain, act_code, leave_code, command_code, commands_code, branches_code}
use Rattle.sieve_compiler.proofs.Standing.{Stands, stands_first, stands_next, stands_left, stands_right}
use Rattle.sieve_compiler.proofs.CodeLengths.{string_code_length, strings_code_length, test_code_length, command_code_length}
use Rattle.sieve_compiler.proofs.Known.{Has, has_left, has_right, found_string, found_variable, has_numbers, has_texts, has_string_of, has_set_of, tables_have}
use Rattle.sieve_compiler.proofs.Values.{AreShort, test_short, none_short, command_short, commands_short, all_empty}
use Rattle.sieve_compiler.proofs.OnStack.{lands, onto, on_top, joined_texts, one_value, no_value, OnPart, listed, aim_lands, turned, stacked_lists, lists_stacked, charge_in, formed_turn, part_at, left_more, effect_of}
use Rattle.sieve_compiler.proofs.Questions.{question_formed, question_effect}
use Rattle.sieve_compiler.proofs.Acts.{one_at_most, act_formed, act_effect}
use Rattle.sieve_compiler.proofs.BranchParts.{branch_parts_of}
use Rattle.sieve_compiler.proofs.Bracketed.{next_stands, block_stands, block_ends, commands_balanced}
use Rattle.sieve_compiler.proofs.Accepted.{halt_at, jump_kept}

-- where each of the program's jumps is one that the machine makes
module _ (script : CommandForms) (mail : Mail) (jumps_kept : (p : ℕ) (i : Instruction) → slice_get (code_of script).instructions p ≡ Some i → is_jump (row_named written_version i.op) ≡ true → (nat_lt p i.c && same_loops (code_of script) p i.c) ≡ true) where
  abbrev code : Code
  code = code_of script

  abbrev all : List Instruction
  all = code.instructions

  abbrev tables : Tables
  tables = tables_of script

  -- at a place with these loops and this stack, after these effects
  abbrev state_at : List Frame → List Value → ℕ → Effects → ℕ → State
  state_at frames stack place e charge =
      record (start code) { place = place; stack = stack; frames = frames; variables = map e.variables tables.variables; captures = e.captures; actions = e.actions; implicit_keep = e.implicit_keep; charge = charge }

  abbrev Reaches : State → State → Type 0
  Reaches from to = (n : ℕ) × Run code mail n from to

  abbrev Goes : State → State → Type 0
  Goes from to = step code mail from ≡ goes to

  after_steps : (n : ℕ) (a b c : State) → Run code mail n a b → Reaches b c → Reaches a c
  after_steps zero a b c e r = subst (λ s. Reaches s c) (sym e) r
  after_steps (suc n) a b c h r = let rest = after_steps n h.0 b c h.2 r in (suc rest.0, (h.0, h.1, rest.1))

  one_step : (a b : State) → Goes a b → Reaches a b
  one_step a b h = (1, (b, h, refl))

  -- from the one place, open loops and effects to the other, whatever was charged
  abbrev Leads : List Frame → ℕ → Effects → List Frame → ℕ → Effects → Type 0
  Leads fs p e gs q f = (c : ℕ) → (d : ℕ) × Reaches (state_at fs [] p e c) (state_at gs [] q f d)

  leads_then : (fs gs hs : List Frame) (p q r : ℕ) (e f g : Effects) → Leads fs p e gs q f → Leads gs q f hs r g → Leads fs p e hs r g
  leads_then fs gs hs p q r e f g h k c = let a = h c in let b = k a.0 in (b.0, after_steps a.1.0 (state_at fs [] p e c) (state_at gs [] q f a.0) (state_at hs [] r g b.0) a.1.1 b.1)

  step_at : (s : State) (i : Instruction) (turn : Turn) → slice_get all s.place ≡ Some i → turn_at code mail s (Some i) ≡ turn → step code mail s ≡ turn
  step_at s i turn here h = ap (turn_at code mail s) here ∙ h

  sound_jump : (s : State) (i : Instruction) → slice_get all s.place ≡ Some i → is_jump (row_named written_version i.op) ≡ true → is_sound_jump (referred_in code) s i ≡ true
  sound_jump s i here jump = jumps_kept s.place i here jump

  -- where these loops are open
  module _ (frames : List Frame) where
    abbrev part : Option ℕ
    part = current_part frames

    -- at a place with this stack, after these effects
    abbrev with_stack : List Value → ℕ → Effects → ℕ → State
    with_stack stack place e charge = state_at frames stack place e charge

    -- where nothing is on the stack
    abbrev at : ℕ → Effects → ℕ → State
    at place e charge = with_stack [] place e charge

    -- the same, with a truth value on the stack
    abbrev holding : Bool → ℕ → Effects → ℕ → State
    holding b place e charge = with_stack (truth b ∷ []) place e charge

    -- from the one place and effects to the other, whatever was charged
    abbrev Comes : ℕ → Effects → ℕ → Effects → Type 0
    Comes p e q f = Leads frames p e frames q f

    comes_here : (p q : ℕ) (e : Effects) → p ≡ q → Comes p e q e
    comes_here p q e same c = (c, (0, ap (λ n. at n e c) same))

    comes_then : (p q r : ℕ) (e f g : Effects) → Comes p e q f → Comes q f r g → Comes p e r g
    comes_then p q r e f g h k = leads_then frames frames frames p q r e f g h k

    branch_step : (p c : ℕ) (b asked : Bool) (target : ℕ) (e : Effects) → slice_get all p ≡ Some (jump_if asked target) → Goes (holding b p e c) (at (lands b asked target (suc p)) e (c + 1))
    branch_step p c true true target e here = step_at (holding true p e c) (jump_if true target) _ here (rw (sound_jump (holding true p e c) (jump_if true target) here refl) refl)
    branch_step p c true false target e here = step_at (holding true p e c) (jump_if false target) _ here (rw (sound_jump (holding true p e c) (jump_if false target) here refl) refl)
    branch_step p c false true target e here = step_at (holding false p e c) (jump_if true target) _ here (rw (sound_jump (holding false p e c) (jump_if true target) here refl) refl)
    branch_step p c false false target e here = step_at (holding false p e c) (jump_if false target) _ here (rw (sound_jump (holding false p e c) (jump_if false target) here refl) refl)

    jump_step : (p c target : ℕ) (e : Effects) → slice_get all p ≡ Some (instruction Jump 0 target) → Goes (at p e c) (at target e (c + 1))
    jump_step p c target e here = step_at (at p e c) (instruction Jump 0 target) _ here (rw (sound_jump (at p e c) (instruction Jump 0 target) here refl) refl)

    -- a test that leaves its truth value, after these effects, and its jump
    tail_run : (p c : ℕ) (i : Instruction) (b asked : Bool) (target : ℕ) (before : State) (f : Effects) → Stands all p (i ∷ jump_if asked target ∷ []) → Goes before (holding b (suc p) f c) → (d : ℕ) × Reaches before (at (lands b asked target (p + 2)) f d)
    tail_run p c i b asked target before f h first =
        let here = stands_first all (suc p) (jump_if asked target) [] (stands_next all p i (jump_if asked target ∷ []) h) in
        let second = branch_step (suc p) c b asked target f here in
        let same : suc (suc p) ≡ p + 2 = omega arith in
        (c + 1, (2, (holding b (suc p) f c, first, (at (lands b asked target (p + 2)) f (c + 1), subst (λ n. Goes (holding b (suc p) f c) (at (lands b asked target n) f (c + 1))) same second, refl))))

    -- one step to the next place
    next_place : (p d : ℕ) (a : State) (stack : List Value) (e : Effects) → Goes a (with_stack stack (suc p) e d) → Reaches a (with_stack stack (p + 1) e d)
    next_place p d a stack e h = let same : suc p ≡ p + 1 = omega arith in one_step a (with_stack stack (p + 1) e d) (subst (λ n. Goes a (with_stack stack n e d)) same h)

    text_step : (p c : ℕ) (s : List ℕ) (stack : List Value) (e : Effects) → slice_get tables.strings (place_of_string tables s) ≡ Some s → length stack < max_stack → slice_get all p ≡ Some (push_text tables s)
        → Goes (with_stack stack p e c) (with_stack (text s ∷ stack) (suc p) e (c + 1))
    text_step p c s stack e there room here = step_at (with_stack stack p e c) (push_text tables s) _ here (rw (there, lt-ltb (length stack) max_stack room) refl)

    variable_at : (name : List ℕ) (e : Effects) → Has tables (uses_with [] [] (name ∷ [])) → slice_get (map e.variables tables.variables) (place_of_variable tables name) ≡ Some (e.variables name)
    variable_at name e known = slice_get-map e.variables tables.variables (place_of_variable tables name) ∙ ap (option_map e.variables) (found_variable tables name [] [] known)

    segment_step : (p c : ℕ) (segment : Segment) (stack : List Value) (e : Effects) → Has tables (segment_uses segment) → IsBoundedSegment segment → length stack < max_stack → slice_get all p ≡ Some (push_segment tables segment)
        → Goes (with_stack stack p e c) (with_stack (text (value_of e segment) ∷ stack) (suc p) e (c + 1))
    segment_step p c (Text octets) stack e known b room here = text_step p c octets stack e (found_string tables octets [] [] known) room here
    segment_step p c (Variable name) stack e known b room here =
        step_at (with_stack stack p e c) (instruction VariableOp 0 (place_of_variable tables name)) _ here (rw (variable_at name e known, lt-ltb (length stack) max_stack room) refl)
    segment_step p c (Capture n) stack e known b room here =
        step_at (with_stack stack p e c) (instruction CaptureOp n 0) _ here (rw (lt-ltb n 10 (omega (arith, b)), lt-ltb (length stack) max_stack room) refl)

    abbrev segments_uses : List Segment → Uses
    segments_uses segments = uses_with [] (flat_map segment_strings segments) (string_variables segments)

    segments_run : (segments : List Segment) (p c : ℕ) (stack : List Value) (e : Effects) → Stands all p (map (push_segment tables) segments) → Has tables (segments_uses segments) → All IsBoundedSegment segments → length stack + length segments ≤ max_stack
        → (d : ℕ) × Reaches (with_stack stack p e c) (with_stack (onto (map (value_of e) segments) stack) (p + length segments) e d)
    segments_run [] p c stack e h known b room = let same : p ≡ p + 0 = omega arith in (c, (0, ap (λ n. with_stack stack n e c) same))
    segments_run (s ∷ ss) p c stack e h known b room =
        let first = segment_step p c s stack e (has_left tables (segment_uses s) (segments_uses ss) known) (All-head IsBoundedSegment s ss b) (omega (arith, room)) (stands_first all p _ _ h) in
        let same : suc p + length ss ≡ p + suc (length ss) = omega arith in
        let pushed : List Value = text (value_of e s) ∷ stack in
        let rest = segments_run ss (suc p) (c + 1) pushed e (stands_next all p _ _ h) (has_right tables (segment_uses s) (segments_uses ss) known) (All-tail IsBoundedSegment s ss b) (omega (arith, room)) in
        let end : ℕ → State = (λ (n : ℕ). with_stack (onto (map (value_of e) (s ∷ ss)) stack) n e rest.0) in
        let others = subst (λ n. Reaches (with_stack pushed (suc p) e (c + 1)) (end n)) same rest.1 in
        (rest.0, after_steps 1 (with_stack stack p e c) (with_stack pushed (suc p) e (c + 1)) (end (p + suc (length ss))) (with_stack pushed (suc p) e (c + 1), first, refl) others)

    abbrev join_charge : List Segment → List Value → ℕ → Effects → ℕ → ℕ
    join_charge segments stack p e c = charge_of (referred_in code) mail Join (join_texts (length segments)) (with_stack (onto (map (value_of e) segments) stack) p e c)

    join_step : (p c : ℕ) (segments : List Segment) (stack : List Value) (e : Effects) → 2 ≤ length segments → length segments ≤ 256 → length stack < max_stack → slice_get all p ≡ Some (join_texts (length segments))
        → Goes (with_stack (onto (map (value_of e) segments) stack) p e c) (with_stack (text (expanded e segments) ∷ stack) (suc p) e (c + join_charge segments stack p e c))
    join_step p c segments stack e some few room here =
        step_at (with_stack (onto (map (value_of e) segments) stack) p e c) (join_texts (length segments)) _ here
        (rw (le-leb 2 (length segments) some, le-leb (length segments) 256 few, on_top (length segments) (map (value_of e) segments) stack (length-map segments (value_of e)), lt-ltb (length stack) max_stack room, joined_texts e segments) refl)

    string_run : (segments : Template) (p c : ℕ) (stack : List Value) (e : Effects) → AreShort e → IsBoundedString segments → Stands all p (string_code tables segments) → Has tables (string_uses segments) → length stack ≤ 512
        → (d : ℕ) × Reaches (with_stack stack p e c) (with_stack (text (expanded e segments) ∷ stack) (p + string_length segments) e d)
    string_run [] p c stack e short b h known room =
        let first = text_step p c [] stack e (found_string tables [] [] [] known) (omega (arith, room)) (stands_first all p (push_text tables []) [] h) in
        (c + 1, subst (λ v. Reaches (with_stack stack p e c) (with_stack (text v ∷ stack) (p + 1) e (c + 1))) (no_value e) (next_place p (c + 1) (with_stack stack p e c) (text [] ∷ stack) e first))
    string_run (s ∷ []) p c stack e short b h known room =
        let bound = All-head IsBoundedSegment s [] b.segments in
        let first = segment_step p c s stack e (has_left tables (segment_uses s) (segments_uses []) known) bound (omega (arith, room)) (stands_first all p (push_segment tables s) [] h) in
        (c + 1, subst (λ v. Reaches (with_stack stack p e c) (with_stack (text v ∷ stack) (p + 1) e (c + 1))) (one_value e s short bound) (next_place p (c + 1) (with_stack stack p e c) (text (value_of e s) ∷ stack) e first))
    string_run (one ∷ other ∷ more) p c stack e short b h known room =
        let segments : List Segment = one ∷ other ∷ more in
        let pushes = map (push_segment tables) segments in
        let n : ℕ = length segments in
        let some : 2 ≤ n = omega arith in
        let fits : length stack + n ≤ max_stack = omega (arith, room, b.few) in
        let first = segments_run segments p c stack e (stands_left all p pushes (join_texts n ∷ []) h) known b.segments fits in
        let there = stands_right all p n pushes (join_texts n ∷ []) (length-map segments (push_segment tables)) h in
        let d = first.0 + join_charge segments stack (p + n) e first.0 in
        let last = join_step (p + n) first.0 segments stack e some b.few (omega (arith, room)) (stands_first all (p + n) (join_texts n) [] there) in
        let middle = with_stack (onto (map (value_of e) segments) stack) (p + n) e first.0 in
        let end : ℕ → State = (λ (q : ℕ). with_stack (text (expanded e segments) ∷ stack) q e d) in
        let same : (p + n) + 1 ≡ p + (n + 1) = omega arith in
        let joins = subst (λ q. Reaches middle (end q)) same (next_place (p + n) d middle (text (expanded e segments) ∷ stack) e last) in
        (d, after_steps first.1.0 (with_stack stack p e c) middle (end (p + (n + 1))) first.1.1 joins)

    strings_run : (ss : List Template) (p c : ℕ) (stack : List Value) (e : Effects) → AreShort e → All IsBoundedString ss → Stands all p (strings_code tables ss) → Has tables (strings_uses ss) → length stack + length ss ≤ 512
        → (d : ℕ) × Reaches (with_stack stack p e c) (with_stack (onto (all_expanded e ss) stack) (p + strings_length ss) e d)
    strings_run [] p c stack e short b h known room = let same : p ≡ p + strings_length [] = omega arith in (c, (0, ap (λ n. with_stack stack n e c) same))
    strings_run (s ∷ ss) p c stack e short b h known room =
        let first = string_run s p c stack e short (All-head IsBoundedString s ss b) (stands_left all p (string_code tables s) (strings_code tables ss) h) (has_left tables (string_uses s) (strings_uses ss) known) (omega (arith, room)) in
        let there = stands_right all p (string_length s) (string_code tables s) (strings_code tables ss) (string_code_length tables s) h in
        let pushed : List Value = text (expanded e s) ∷ stack in
        let q : ℕ = p + string_length s in
        let rest = strings_run ss q first.0 pushed e short (All-tail IsBoundedString s ss b) there (has_right tables (string_uses s) (strings_uses ss) known) (omega (arith, room)) in
        let sum : strings_length (s ∷ ss) ≡ string_length s + strings_length ss = sum_by-cons string_length s ss in
        let same : q + strings_length ss ≡ p + strings_length (s ∷ ss) = omega (arith, sum) in
        let end : ℕ → State = (λ (n : ℕ). with_stack (onto (all_expanded e (s ∷ ss)) stack) n e rest.0) in
        let others = subst (λ n. Reaches (with_stack pushed q e first.0) (end n)) same rest.1 in
        (rest.0, after_steps first.1.0 (with_stack stack p e c) (with_stack pushed q e first.0) (end (p + strings_length (s ∷ ss))) first.1.1 others)

    -- ---- tests

    -- the turn of a question, from its answer
    tested_turn : (o : Option (List (List ℕ))) (p c cost : ℕ) (e : Effects) → turn cost (tested (at p e c) o) ≡ goes (holding (matched o e).value (suc p) (matched o e).effects (c + cost))
    tested_turn None p c cost e = refl
    tested_turn (Some captures) p c cost e = refl

    -- the instruction of a question takes its texts and leaves its truth value
    question_step : (q : Question) (strings : Strings) (p c : ℕ) (e : Effects) → AreBoundedStrings (row_of q).takes strings → Has tables (uses_with (row_of q).numbers [] []) → (row_of q).loops ≤ length frames → slice_get all p ≡ Some (question_code tables q strings)
        → let v = matched (answer mail part q (texts_of e strings) e.captures) e in (d : ℕ) × Goes (with_stack (stacked_lists (texts_of e strings)) p e c) (holding v.value (suc p) v.effects d)
    question_step q strings p c e b known deep here =
        let i = question_code tables q strings in
        let s = with_stack (stacked_lists (texts_of e strings)) p e c in
        let cost : ℕ = charge_in (referred_in code) mail (operation_of i.op) i s in (
          c + cost,
          step_at s i _ here
              (formed_turn code mail (operation_of i.op) i s (question_formed tables q strings b)
              ∙ ap (turn cost) (question_effect tables (referred_in code) refl mail (at p e c) q e strings b known deep)
              ∙ tested_turn (answer mail part q (texts_of e strings) e.captures) p c cost e),
        )

    -- the strings of a question, its instruction and its jump
    ask_run : (q : Question) (strings : Strings) (p : ℕ) (asked : Bool) (target : ℕ) (e : Effects) → Stands all p (strings_code tables (in_order strings) ++ question_code tables q strings ∷ jump_if asked target ∷ [])
        → Has tables (uses_with (row_of q).numbers (strings_of (in_order strings)) (strings_variables (in_order strings))) → AreBoundedStrings (row_of q).takes strings → (row_of q).loops ≤ length frames → AreShort e
        → let v = matched (answer mail part q (texts_of e strings) e.captures) e in Comes p e (lands v.value asked target (p + (strings_length (in_order strings) + 2))) v.effects
    ask_run q strings p asked target e h known b deep short = λ c.
        let list = in_order strings in
        let pushes = strings_code tables list in
        let n : ℕ = strings_length list in
        let i = question_code tables q strings in
        let v = matched (answer mail part q (texts_of e strings) e.captures) e in
        let of_strings = has_texts tables (row_of q).numbers (strings_of list) (strings_variables list) known in
        let of_numbers = has_numbers tables (row_of q).numbers (strings_of list) (strings_variables list) known in
        let first = strings_run list p c [] e short b.bounded (stands_left all p pushes (i ∷ jump_if asked target ∷ []) h) of_strings (omega (arith, b.few)) in
        let rest = stands_right all p n pushes (i ∷ jump_if asked target ∷ []) (strings_code_length tables list) h in
        let middle = with_stack (onto (all_expanded e list) []) (p + n) e first.0 in
        let step_here = question_step q strings (p + n) first.0 e b of_numbers deep (stands_first all (p + n) i (jump_if asked target ∷ []) rest) in
        let does = subst (λ stack. Goes (with_stack stack (p + n) e first.0) (holding v.value (suc (p + n)) v.effects step_here.0)) (sym (lists_stacked e strings)) step_here.1 in
        let second = tail_run (p + n) step_here.0 i v.value asked target middle v.effects rest does in
        let done : p + n + 2 ≡ p + (n + 2) = omega arith in
        let last = subst (λ m. Reaches middle (at (lands v.value asked target m) v.effects second.0)) done second.1 in
        (second.0, after_steps first.1.0 (at p e c) middle _ first.1.1 last)

    -- a test goes to its target where it is as asked, and on after its code where it isn't
    mutual
      test_run : (t : TestForm) (p : ℕ) (asked : Bool) (target : ℕ) (e : Effects) → Stands all p (test_code tables p t asked target) → Has tables (test_uses t) → IsBoundedTest t → IsTestIn (length frames) t → AreShort e
          → Comes p e (lands (test_does mail part t e).value asked target (p + test_length t)) (test_does mail part t e).effects
      test_run (asks question strings at) p asked target e h known b in_loops short = ask_run question strings p asked target e h known b in_loops short
      test_run (negation t at) p asked target e h known b in_loops short =
          let v = test_does mail part t e in
          subst (λ q. Comes p e q v.effects) (turned (test_does mail part t e).value asked target (p + test_length t)) (test_run t p (not asked) target e h known b in_loops short)
      test_run (all_of t ts at) p asked target e h known b in_loops short =
          let following = p + (test_length t + tests_length ts) in
          let same : (p + test_length t) + tests_length ts ≡ following = omega arith in
          let first = test_run t p _ _ e (stands_left all p _ _ h) (has_left tables (test_uses t) (tests_uses ts) known) b.0 in_loops.0 short in
          let there = stands_right all p (test_length t) _ _ (test_code_length tables t p _ _) h in
          let rest = tests_run ts (p + test_length t) false asked following target (test_does mail part t e).value (test_does mail part t e).effects there (has_right tables (test_uses t) (tests_uses ts) known) b.1 in_loops.1 (test_short mail part t e short) same in
          comes_then p _ _ e (test_does mail part t e).effects (listed mail part false (test_does mail part t e).value (test_does mail part t e).effects ts).effects first rest
      test_run (any_of t ts at) p asked target e h known b in_loops short =
          let following = p + (test_length t + tests_length ts) in
          let same : (p + test_length t) + tests_length ts ≡ following = omega arith in
          let first = test_run t p _ _ e (stands_left all p _ _ h) (has_left tables (test_uses t) (tests_uses ts) known) b.0 in_loops.0 short in
          let there = stands_right all p (test_length t) _ _ (test_code_length tables t p _ _) h in
          let rest = tests_run ts (p + test_length t) true asked following target (test_does mail part t e).value (test_does mail part t e).effects there (has_right tables (test_uses t) (tests_uses ts) known) b.1 in_loops.1 (test_short mail part t e short) same in
          comes_then p _ _ e (test_does mail part t e).effects (listed mail part true (test_does mail part t e).value (test_does mail part t e).effects ts).effects first rest

      -- from where the test before the rest has gone, by its value v and the effects by then
      tests_run : (ts : TestForms) (p : ℕ) (deciding asked : Bool) (following target : ℕ) (v : Bool) (e : Effects) → Stands all p (tests_code tables p ts deciding asked following target) → Has tables (tests_uses ts) → AreBoundedTests ts → AreTestsIn (length frames) ts → AreShort e → p + tests_length ts ≡ following
          → Comes (lands v (asked_of deciding asked ts) (aim_of deciding asked ts following target) p) e (lands (listed mail part deciding v e ts).value asked target following) (listed mail part deciding v e ts).effects
      tests_run no_test p false asked following target true e h known b in_loops short done = comes_here _ _ e (let here : p ≡ following = omega (arith, done) in rw here refl)
      tests_run no_test p false asked following target false e h known b in_loops short done = comes_here _ _ e (let here : p ≡ following = omega (arith, done) in rw here refl)
      tests_run no_test p true asked following target true e h known b in_loops short done = comes_here _ _ e (let here : p ≡ following = omega (arith, done) in rw here refl)
      tests_run no_test p true asked following target false e h known b in_loops short done = comes_here _ _ e (let here : p ≡ following = omega (arith, done) in rw here refl)
      tests_run (test t ts) p false asked following target false e h known b in_loops short done = comes_here _ _ e (aim_lands false asked t ts following target)
      tests_run (test t ts) p true asked following target true e h known b in_loops short done = comes_here _ _ e (aim_lands true asked t ts following target)
      tests_run (test t ts) p false asked following target true e h known b in_loops short done =
          let same : (p + test_length t) + tests_length ts ≡ following = omega (arith, done) in
          let first = test_run t p _ _ e (stands_left all p _ _ h) (has_left tables (test_uses t) (tests_uses ts) known) b.0 in_loops.0 short in
          let there = stands_right all p (test_length t) _ _ (test_code_length tables t p _ _) h in
          let rest = tests_run ts (p + test_length t) false asked following target (test_does mail part t e).value (test_does mail part t e).effects there (has_right tables (test_uses t) (tests_uses ts) known) b.1 in_loops.1 (test_short mail part t e short) same in
          comes_then p _ _ e (test_does mail part t e).effects (listed mail part false (test_does mail part t e).value (test_does mail part t e).effects ts).effects first rest
      tests_run (test t ts) p true asked following target false e h known b in_loops short done =
          let same : (p + test_length t) + tests_length ts ≡ following = omega (arith, done) in
          let first = test_run t p _ _ e (stands_left all p _ _ h) (has_left tables (test_uses t) (tests_uses ts) known) b.0 in_loops.0 short in
          let there = stands_right all p (test_length t) _ _ (test_code_length tables t p _ _) h in
          let rest = tests_run ts (p + test_length t) true asked following target (test_does mail part t e).value (test_does mail part t e).effects there (has_right tables (test_uses t) (tests_uses ts) known) b.1 in_loops.1 (test_short mail part t e short) same in
          comes_then p _ _ e (test_does mail part t e).effects (listed mail part true (test_does mail part t e).value (test_does mail part t e).effects ts).effects first rest

    -- ---- acts

    -- the string of an act and its instruction, where the commands go on
    does_run : (act : Act) (string : Template) (p : ℕ) (e f : Effects) → AreShort e → IsBoundedAct act × All IsBoundedString (act_strings act string) → (act_row act).loops ≤ max_loops → Stands all p (strings_code tables (act_strings act string) ++ act_code tables act ∷ [])
        → Has tables (strings_uses (act_strings act string))
        → ((q c : ℕ) → effect_of (referred_in code) mail (operation_of (act_code tables act).op) (act_code tables act) (with_stack (onto (all_expanded e (act_strings act string)) []) q e c) ≡ on (at q f c))
        → Comes p e (p + (strings_length (act_strings act string) + 1)) f
    does_run act string p e f short b few h known effect c =
        let strings = act_strings act string in
        let pushes = strings_code tables strings in
        let n : ℕ = strings_length strings in
        let q : ℕ = p + n in
        let i = act_code tables act in
        let first = strings_run strings p c [] e short b.1 (stands_left all p pushes (i ∷ []) h) known (omega (arith, one_at_most act string)) in
        let rest = stands_right all p n pushes (i ∷ []) (strings_code_length tables strings) h in
        let middle = with_stack (onto (all_expanded e strings) []) q e first.0 in
        let cost : ℕ = charge_in (referred_in code) mail (operation_of i.op) i middle in
        let d : ℕ = first.0 + cost in
        let does : Goes middle (at (suc q) f d) =
        step_at middle i _ (stands_first all q i [] rest) (formed_turn code mail (operation_of i.op) i middle (act_formed tables act b.0 few) ∙ ap (turn cost) (effect q first.0)) in
        let same : q + 1 ≡ p + (n + 1) = omega arith in
        let last = next_place q d middle [] f does in
        (d, after_steps first.1.0 (at p e c) middle (at (p + (n + 1)) f d) first.1.1 (subst (λ m. Reaches middle (at m f d)) same last))

    leave_run : (bs : BranchForms) (p end : ℕ) (e : Effects) → Stands all p (leave_code bs end) → p + leave_length bs + branches_length bs ≡ end → Comes p e end e
    leave_run no_branch p end e h done = let same : p ≡ end = omega (arith, done) in comes_here p end e same
    leave_run (otherwise cs) p end e h done = λ c. (c + 1, one_step (at p e c) (at end e (c + 1)) (jump_step p c end e (stands_first all p _ [] h)))
    leave_run (branch t cs place bs) p end e h done = λ c. (c + 1, one_step (at p e c) (at end e (c + 1)) (jump_step p c end e (stands_first all p _ [] h)))

  -- ---- loops

  -- where commands lead that begin at a place where the first loops are open, by how they end: at another place where the second are,
  -- or after the Next of one of these, where those around it are open, or at a Halt
  abbrev Arrives : Ending → List Frame → List Frame → ℕ → ℕ → Effects → Type 0
  Arrives (normal f) fs gs p q e = Leads fs p e gs q f
  Arrives (broken n f) fs gs p q e = (m : ℕ) × (n ≡ suc m) × (frame : Frame) × (outer : List Frame) × (drop m gs ≡ frame ∷ outer) × Leads fs p e outer (suc frame.next) f
  Arrives (stopped f) fs gs p q e = (hs : List Frame) × (r : ℕ) × Leads fs p e hs r f × (slice_get all r ≡ Some (plain Halt))

  arrives_after : (x : Ending) (fs gs hs : List Frame) (p q r : ℕ) (e f : Effects) → Leads fs p e gs q f → Arrives x gs hs q r f → Arrives x fs hs p r e
  arrives_after (normal g) fs gs hs p q r e f h k = leads_then fs gs hs p q r e f g h k
  arrives_after (broken n g) fs gs hs p q r e f h k = (k.0, k.1, k.2, k.3, k.4, leads_then fs gs k.3 p q (suc k.2.next) e f g h k.5)
  arrives_after (stopped g) fs gs hs p q r e f h k = (k.0, k.1, leads_then fs gs k.0 p q k.1 e f g h k.2, k.3)

  arrives_then : (x : Ending) (next : Effects → Ending) (fs : List Frame) (p q r : ℕ) (e : Effects) → Arrives x fs fs p q e → AreShort (effects_of x) → ((f : Effects) → AreShort f → Arrives (next f) fs fs q r f) → Arrives (followed_by x next) fs fs p r e
  arrives_then (normal f) next fs p q r e h short k = arrives_after (next f) fs fs fs p q r e f h (k f short)
  arrives_then (broken n f) next fs p q r e h short k = h
  arrives_then (stopped f) next fs p q r e h short k = h

  arrives_at : (x : Ending) (fs : List Frame) (p q r : ℕ) (e : Effects) → ((f : Effects) → Leads fs q f fs r f) → Arrives x fs fs p q e → Arrives x fs fs p r e
  arrives_at (normal f) fs p q r e go h = leads_then fs fs fs p q r e f f h (go f)
  arrives_at (broken n f) fs p q r e go h = h
  arrives_at (stopped f) fs p q r e go h = h

  -- the branch that the test decides for
  decided : (b : Bool) (x y : Ending) (fs : List Frame) (p block next end : ℕ) (e f : Effects) → Leads fs p e fs (lands b false next block) f → Arrives x fs fs block end f → Arrives y fs fs next end f → Arrives (if b then x else y) fs fs p end e
  decided true x y fs p block next end e f go h k = arrives_after x fs fs fs p block end e f go h
  decided false x y fs p block next end e f go h k = arrives_after y fs fs fs p next end e f go k

  -- a loop that is left
  left_run : (n m : ℕ) (f : Effects) (frame inner : Frame) (fs outer : List Frame) (p : ℕ) (e : Effects) → n ≡ suc m → drop m (frame ∷ fs) ≡ inner ∷ outer → Leads (frame ∷ fs) p e outer (suc inner.next) f
      → Arrives (left n f) (frame ∷ fs) fs p (suc frame.next) e
  left_run n zero f frame inner fs outer p e is there h =
      let first : frame ≡ inner = cc in
      let others : fs ≡ outer = cc in
      subst (λ k. Arrives (left k f) (frame ∷ fs) fs p (suc frame.next) e) (sym is)
      (subst (λ (g : Frame). Leads (frame ∷ fs) p e fs (suc g.next) f) (sym first) (subst (λ gs. Leads (frame ∷ fs) p e gs (suc inner.next) f) (sym others) h))
  left_run n (suc m) f frame inner fs outer p e is there h =
      subst (λ x. Arrives x (frame ∷ fs) fs p (suc frame.next) e) (sym (left_more n m f is)) (m, refl, inner, outer, there, h)

  -- a turn of a loop, and what follows it
  turn_then : (x : Ending) (next : Effects → Ending) (frame : Frame) (fs : List Frame) (p : ℕ) (e : Effects) → Arrives x (frame ∷ fs) (frame ∷ fs) p frame.next e → AreShort (effects_of x)
      → ((f : Effects) → AreShort f → Arrives (next f) (frame ∷ fs) fs frame.next (suc frame.next) f) → Arrives (after_turn x next) (frame ∷ fs) fs p (suc frame.next) e
  turn_then (normal f) next frame fs p e h short k = arrives_after (next f) (frame ∷ fs) (frame ∷ fs) fs p frame.next (suc frame.next) e f h (k f short)
  turn_then (stopped f) next frame fs p e h short k = h
  turn_then (broken n f) next frame fs p e h short k = left_run n h.0 f frame h.2 fs h.3 p e h.1 h.4 h.5

  -- the loop of an Each and a Next at these places
  module _ (each next : ℕ) (each_here : slice_get all each ≡ Some (instruction Each 0 next)) (next_here : slice_get all next ≡ Some (instruction Next 0 each)) (fs : List Frame) where
    abbrev frame_at : ℕ → List ℕ → Frame
    frame_at part rest = record { each = each; next = next; part = part; rest = rest }

    partners : are_partners code each next ≡ true
    partners = rw (each_here, next_here, eq-eqb next next refl, eq-eqb each each refl) refl

    -- after its last part the loop is closed
    closes_run : (part : ℕ) (e : Effects) → Leads (frame_at part [] ∷ fs) next e fs (suc next) e
    closes_run part e c = (
      c + 1,
      one_step (state_at (frame_at part [] ∷ fs) [] next e c) (state_at fs [] (suc next) e (c + 1))
          (step_at (state_at (frame_at part [] ∷ fs) [] next e c) (instruction Next 0 each) _ next_here (rw (partners, eq-eqb each each refl, eq-eqb next next refl) refl)),
    )

    -- else it goes on with the next one
    goes_on_run : (part other : ℕ) (rest : List ℕ) (e : Effects) → Leads (frame_at part (other ∷ rest) ∷ fs) next e (frame_at other rest ∷ fs) (suc each) e
    goes_on_run part other rest e c = (
      c + 1,
      one_step (state_at (frame_at part (other ∷ rest) ∷ fs) [] next e c) (state_at (frame_at other rest ∷ fs) [] (suc each) e (c + 1))
          (step_at (state_at (frame_at part (other ∷ rest) ∷ fs) [] next e c) (instruction Next 0 each) _ next_here (rw (partners, eq-eqb each each refl, eq-eqb next next refl) refl)),
    )

    -- the turns for a part and the rest, by those of its block
    turns_run : (one_turn : ℕ → Effects → Ending) → ((part : ℕ) (rest : List ℕ) (e : Effects) → IsPart mail part → AreShort e → Arrives (one_turn part e) (frame_at part rest ∷ fs) (frame_at part rest ∷ fs) (suc each) next e)
        → ((part : ℕ) (e : Effects) → AreShort e → AreShort (effects_of (one_turn part e)))
        → (rest : List ℕ) (part : ℕ) (e : Effects) → IsPart mail part → All (IsPart mail) rest → AreShort e → Arrives (turns one_turn (part ∷ rest) e) (frame_at part rest ∷ fs) fs (suc each) (suc next) e
    turns_run one_turn body stays [] part e is are short =
        turn_then (one_turn part e) (λ f. turns one_turn [] f) (frame_at part []) fs (suc each) e (body part [] e is short) (stays part e short) (λ f h. closes_run part f)
    turns_run one_turn body stays (other ∷ rest) part e is are short =
        turn_then (one_turn part e) (λ f. turns one_turn (other ∷ rest) f) (frame_at part (other ∷ rest)) fs (suc each) e (body part (other ∷ rest) e is short) (stays part e short)
        (λ f h. arrives_after (turns one_turn (other ∷ rest) f) (frame_at part (other ∷ rest) ∷ fs) (frame_at other rest ∷ fs) fs next (suc each) (suc next) f f (goes_on_run part other rest f)
        (turns_run one_turn body stays rest other f (All-head (IsPart mail) other rest are) (All-tail (IsPart mail) other rest are) h))

    opens_run : (parts : List ℕ) (e : Effects) → length fs < max_loops → visited (current_part fs) mail ≡ parts → (c : ℕ) → step code mail (state_at fs [] each e c) ≡ turn 1 (open_loop next parts (state_at fs [] each e c))
    opens_run parts e room are c = step_at (state_at fs [] each e c) (instruction Each 0 next) _ each_here (rw (partners, lt-ltb (length fs) max_loops room, are) refl)

    -- all the turns
    loop_run : (one_turn : ℕ → Effects → Ending) → ((part : ℕ) (rest : List ℕ) (e : Effects) → IsPart mail part → AreShort e → Arrives (one_turn part e) (frame_at part rest ∷ fs) (frame_at part rest ∷ fs) (suc each) next e)
        → ((part : ℕ) (e : Effects) → AreShort e → AreShort (effects_of (one_turn part e)))
        → (parts : List ℕ) (e : Effects) → visited (current_part fs) mail ≡ parts → All (IsPart mail) parts → length fs < max_loops → AreShort e → Arrives (turns one_turn parts e) fs fs each (suc next) e
    loop_run one_turn body stays [] e are all_parts room short =
        λ c. (c + 1, one_step (state_at fs [] each e c) (state_at fs [] (suc next) e (c + 1)) (opens_run [] e room are c))
    loop_run one_turn body stays (part ∷ rest) e are all_parts room short =
        arrives_after (turns one_turn (part ∷ rest) e) fs (frame_at part rest ∷ fs) fs each (suc each) (suc next) e e
        (λ c. (c + 1, one_step (state_at fs [] each e c) (state_at (frame_at part rest ∷ fs) [] (suc each) e (c + 1)) (opens_run (part ∷ rest) e room are c)))
        (turns_run one_turn body stays rest part e (All-head (IsPart mail) part rest all_parts) (All-tail (IsPart mail) part rest all_parts) short)

  -- so many loops are left
  break_run : (fs : List Frame) (p n m : ℕ) (e : Effects) (frame : Frame) (outer : List Frame) → n ≡ suc m → n ≤ max_loops → drop m fs ≡ frame ∷ outer → slice_get all p ≡ Some (instruction Break n 0) → Leads fs p e outer (suc frame.next) e
  break_run fs p n m e frame outer is few there here c =
      let s = state_at fs [] p e c in
      let some : suc m ≤ max_loops = omega (arith, few, is) in
      let at_break : slice_get all p ≡ Some (instruction Break (suc m) 0) = here ∙ ap (λ k. Some (instruction Break k 0)) is in (
        c + 1,
        one_step s (state_at outer [] (suc frame.next) e (c + 1))
            (step_at s (instruction Break (suc m) 0) _ at_break (rw (le-leb 1 (suc m) (omega arith), le-leb (suc m) max_loops some) (ap (turn 1) (close-is m s fs frame outer there)))),
      )

  -- an act
  act_run : (act : Act) (string : Template) (fs : List Frame) (held : 0 < length fs → OnPart mail (current_part fs)) (p : ℕ) (e : Effects) → Stands all p (strings_code tables (act_strings act string) ++ act_code tables act ∷ [])
      → Has tables (uses_with [] (strings_of (act_strings act string)) (strings_variables (act_strings act string) ++ (act_row act).sets)) → IsBoundedAct act × All IsBoundedString (act_strings act string) → length fs ≤ max_loops → (act_row act).loops ≤ length fs → AreShort e
      → Arrives (act_does mail (current_part fs) act (expanded e string) e) fs fs p (p + (strings_length (act_strings act string) + 1)) e
  act_run (Leave n) string fs held p e h has b few deep short =
      let some : n ≡ suc (n - 1) = omega (arith, b.0) in
      let there = some_left (n - 1) fs (omega (arith, b.0, deep)) in
      (n - 1, some, there.0, there.1, there.2, break_run fs p n (n - 1) e there.0 there.1 some (omega (arith, deep, few)) there.2 (stands_first all p _ [] h))
  act_run Stop string fs held p e h has b few deep short = (fs, p, (λ c. (c, (0, refl))), stands_first all p _ [] h)
  act_run act string fs held p e h has b few deep short =
      does_run fs act string p e (effects_of (act_does mail (current_part fs) act (expanded e string) e)) short b (omega (arith, deep, few)) h (has_string_of tables (act_strings act string) (act_row act).sets has)
      (λ q c. act_effect script mail (state_at fs [] q e c) held act e string (has_set_of tables (act_strings act string) (act_row act).sets has) deep)

  -- the current part of an open loop is one of the message
  abbrev AreHeld : List Frame → Type 0
  AreHeld fs = 0 < length fs → OnPart mail (current_part fs)

  held_part : (frame : Frame) (fs : List Frame) → IsPart mail frame.part → AreHeld (frame ∷ fs)
  held_part frame fs is = λ deep. let there = part_at mail.parts frame.part is in record { number = frame.part; found = there.0; is = refl; here = there.1 }

  -- ---- commands

  module _ (known : IsMail mail) where
    mutual
      command_run : (c : CommandForm) (fs : List Frame) (held : AreHeld fs) (p : ℕ) (e : Effects) → Stands all p (command_code tables p c) → Has tables (command_uses c) → IsBoundedCommand c → length fs ≤ max_loops → IsCommandIn (length fs) c → AreShort e
          → Arrives (command_does mail (current_part fs) c e) fs fs p (p + command_length c) e
      command_run (does act string at) fs held p e h has b few in_loops short = act_run act string fs held p e h has b few in_loops short
      command_run (for_every_part cs at) fs held p e h has b few in_loops short =
          let block : ℕ = p + 1 in
          let next : ℕ = block + commands_length cs in
          let first : block ≡ suc p = omega arith in
          let last : suc next ≡ p + (commands_length cs + 2) = omega arith in
          let each_here = stands_first all p _ _ h in
          let next_here = next_stands all p next (commands_code tables block cs) h (commands_balanced tables cs block) (block_ends all tables cs p) in
          let stands = block_stands all tables cs p h in
          let one_turn : ℕ → Effects → Ending = λ number f. commands_do mail (Some number) cs f in
          subst (λ q. Arrives (command_does mail (current_part fs) (for_every_part cs at) e) fs fs p q e) last
          (loop_run p next each_here next_here fs one_turn
          (λ part rest f is ok. subst (λ q. Arrives (commands_do mail (Some part) cs f) (frame_at p next each_here next_here fs part rest ∷ fs) (frame_at p next each_here next_here fs part rest ∷ fs) q next f) first
          (commands_run cs (frame_at p next each_here next_here fs part rest ∷ fs) (held_part (frame_at p next each_here next_here fs part rest) fs is) block f stands has b (omega (arith, in_loops.0)) in_loops.1 ok))
          (λ part f ok. commands_short mail (Some part) cs f b ok)
          (visited (current_part fs) mail) e refl (are_visited mail known (current_part fs)).each in_loops.0 short)
      command_run (choice bs) fs held p e h has b few in_loops short = branches_run bs fs held p (p + branches_length bs) e h has b few in_loops short refl

      commands_run : (cs : CommandForms) (fs : List Frame) (held : AreHeld fs) (p : ℕ) (e : Effects) → Stands all p (commands_code tables p cs) → Has tables (commands_uses cs) → AreBoundedCommands cs → length fs ≤ max_loops → AreCommandsIn (length fs) cs → AreShort e
          → Arrives (commands_do mail (current_part fs) cs e) fs fs p (p + commands_length cs) e
      commands_run no_command fs held p e h has b few in_loops short = let same : p ≡ p + 0 = omega arith in comes_here fs p (p + 0) e same
      commands_run (command c cs) fs held p e h has b few in_loops short =
          let same : p + command_length c + commands_length cs ≡ p + (command_length c + commands_length cs) = omega arith in
          let first = command_run c fs held p e (stands_left all p _ _ h) (has_left tables (command_uses c) (commands_uses cs) has) b.0 few in_loops.0 short in
          let there = stands_right all p (command_length c) _ _ (command_code_length tables c p) h in
          arrives_then (command_does mail (current_part fs) c e) (λ f. commands_do mail (current_part fs) cs f) fs p (p + command_length c) _ e first (command_short mail (current_part fs) c e b.0 short)
          (λ f after. subst (λ q. Arrives (commands_do mail (current_part fs) cs f) fs fs (p + command_length c) q f) same
          (commands_run cs fs held (p + command_length c) f there (has_right tables (command_uses c) (commands_uses cs) has) b.1 few in_loops.1 after))

      branches_run : (bs : BranchForms) (fs : List Frame) (held : AreHeld fs) (p end : ℕ) (e : Effects) → Stands all p (branches_code tables p bs end) → Has tables (branches_uses bs) → AreBoundedBranches bs → length fs ≤ max_loops → AreBranchesIn (length fs) bs → AreShort e → p + branches_length bs ≡ end
          → Arrives (choice_does mail (current_part fs) bs e) fs fs p end e
      branches_run no_branch fs held p end e h has b few in_loops short done = let same : p ≡ end = omega (arith, done) in comes_here fs p end e same
      branches_run (otherwise cs) fs held p end e h has b few in_loops short done = subst (λ q. Arrives (commands_do mail (current_part fs) cs e) fs fs p q e) done (commands_run cs fs held p e h has b few in_loops short)
      branches_run (branch t cs at bs) fs held p end e h has b few in_loops short done =
          let part = current_part fs in
          let block = p + test_length t in
          let after_block = block + commands_length cs in
          let next = after_block + leave_length bs in
          let same : next + branches_length bs ≡ end = omega (arith, done) in
          let both_uses = has_left tables (joined (test_uses t) (commands_uses cs)) (branches_uses bs) has in
          let parts = branch_parts_of all tables t cs at bs p end h in
          let tested = test_run fs t p false next e parts.test (has_left tables (test_uses t) (commands_uses cs) both_uses) b.0 in_loops.0 short in
          let f = (test_does mail part t e).effects in
          let after = test_short mail part t e short in
          let inner = commands_run cs fs held block f parts.block (has_right tables (test_uses t) (commands_uses cs) both_uses) b.1 few in_loops.1 after in
          let taken = arrives_at (commands_do mail part cs f) fs block after_block end f (λ g. leave_run fs bs after_block end g parts.leave same) inner in
          let others = branches_run bs fs held next end f parts.rest (has_right tables (joined (test_uses t) (commands_uses cs)) (branches_uses bs) has) b.2 few in_loops.2 after same in
          decided (test_does mail part t e).value (commands_do mail part cs f) (choice_does mail part bs f) fs p block next end e f tested taken others

  halted : (fs : List Frame) (p : ℕ) (e : Effects) (c : ℕ) → slice_get all p ≡ Some (plain Halt) → step code mail (state_at fs [] p e c) ≡ ends (state_at fs [] p e (c + 1))
  halted fs p e c here = step_at (state_at fs [] p e c) (plain Halt) _ here refl

  -- at first nothing was done
  begins : state_at [] [] 0 no_effects 0 ≡ start code
  begins = ap (λ values. let s : State = record (start code) { variables = values } in s) (sym (all_empty tables.variables))

  ends_with : (fs : List Frame) (p : ℕ) (f : Effects) → Leads [] 0 no_effects fs p f → slice_get all p ≡ Some (plain Halt) → (charged : ℕ) × IsOutcome code mail (final_actions f.actions f.implicit_keep) charged
  ends_with fs p f go here =
      let r = go 0 in (
        r.0 + 1,
        record {
          end = state_at fs [] p f (r.0 + 1);
          over = record { steps = r.1.0; last = state_at fs [] p f r.0; run = subst (λ s. Run code mail r.1.0 s (state_at fs [] p f r.0)) begins r.1.1; halts = halted fs p f r.0 here };
          actions_are = refl;
          charge_is = refl;
        },
      )

  -- no loop is left where none is open
  none_left : (m : ℕ) (frame : Frame) (outer : List Frame) → drop m [] ≡ frame ∷ outer → ⊥
  none_left zero frame outer e = absurd cc
  none_left (suc m) frame outer e = absurd cc

  outcome : (x : Ending) → slice_get all (commands_length script) ≡ Some (plain Halt) → Arrives x [] [] 0 (0 + commands_length script) no_effects → (charged : ℕ) × IsOutcome code mail (final_actions (effects_of x).actions (effects_of x).implicit_keep) charged
  outcome (normal f) here h = let same : 0 + commands_length script ≡ commands_length script = omega arith in ends_with [] (0 + commands_length script) f h (ap (slice_get all) same ∙ here)
  outcome (broken n f) here h = absurd (none_left h.0 h.2 h.3 h.4)
  outcome (stopped f) here h = ends_with h.0 h.1 f h.2 h.3

  -- where it ends with a halt, the run of the code ends with the final actions of the meaning
  ends_as_meant : IsBounded script → IsMail mail → slice_get all (commands_length script) ≡ Some (plain Halt) → (charged : ℕ) × IsOutcome code mail (meaning mail script) charged
  ends_as_meant bounded known here =
      outcome (commands_do mail None script no_effects) here
      (commands_run known script [] (λ deep. absurd (omega (arith, deep))) 0 no_effects (plain Halt ∷ [], refl) (tables_have script) bounded.commands (omega arith) bounded.loops none_short)

pub code_means : (script : CommandForms) → IsBounded script → (mail : Mail) → IsMail mail → (charged : ℕ) × IsOutcome (code_of script) mail (meaning mail script) charged
code_means script bounded mail known = ends_as_meant script mail (jump_kept script bounded) bounded known (halt_at script bounded)
