-- Each instruction of a script's code keeps the rules at its place: of its strings, its tests and its commands.
use Rattle.std.proofs.Common.{◌≡◌, ℕ, suc, ◌+◌, ◌<◌, ◌≤◌, List, [], ◌∷◌, Some, map, flat_map, slice_get, length, min, sum, All, refl, ap, subst, ◌∙◌, arith, Bool, true, false, ◌++◌, sym}
use Rattle.std.proofs.lemmas.Bool.{lt-ltb, le-leb, eq-eqb, ne_eqb}
use Rattle.std.proofs.lemmas.List.{length-map}
use Rattle.std.proofs.lemmas.List.Elements.{All-head, All-tail}
use Rattle.std.proofs.lemmas.List.Sums.{sum_by-cons}
use Rattle.bytecode_format.specs.declared.instruction.Instruction.{Instruction}
use Rattle.bytecode_format.specs.Operations.{operation_of}
use Rattle.bytecode_format.specs.declared.operation.Operation.TheVariants.{Halt, Jump, Each, Next}
use Rattle.bytecode_verifier.specs.Shape.{Entries}
use Rattle.bytecode_verifier.specs.declared.shape.Entry.TheVariants.{Text, Truth}
use Rattle.bytecode_verifier.proofs.Open.{inside}
use Rattle.bytecode_verifier.specs.Nests.{next_at}
use Rattle.octets.specs.Limits.{max_string, max_segments, max_stack, max_loops}
use Rattle.sieve_check.specs.Bounded.{IsBoundedSegment, IsBoundedString, AreBoundedStrings, IsBoundedTest, AreBoundedTests, IsTestIn, AreTestsIn, IsBoundedAct, IsBoundedCommand, AreBoundedCommands, AreBoundedBranches, IsCommandIn, AreCommandsIn, AreBranchesIn}
use Rattle.sieve_check.specs.declared.typed.Segment.{Segment}
use Rattle.sieve_check.specs.declared.typed.Segment.TheVariants.{Text as Stretch, Variable, Capture}
use Rattle.sieve_check.specs.Variables.{segment_variables, strings_variables}
use Rattle.sieve_check.specs.Typed.{Template, Strings, in_order, TestForm, asks, negation, all_of, any_of, TestForms, no_test, test, CommandForm, does, for_every_part, choice, CommandForms, no_command, command, BranchForms, no_branch, otherwise, branch}
use Rattle.bytecode_format.specs.declared.question.Question.{Question}
use Rattle.bytecode_format.specs.Questions.{row_of}
use Rattle.sieve_check.specs.declared.typed.Act.{Act}
use Rattle.sieve_check.specs.Acts.{act_row, act_strings}
use Rattle.sieve_compiler.specs.Tables.{Tables, place_of_string}
use Rattle.sieve_compiler.specs.Lengths.{string_length, strings_length, test_length, tests_length, leave_length, command_length, commands_length, branches_length}
use Rattle.sieve_compiler.specs.Strings.{segment_strings, strings_of}
use Rattle.sieve_compiler.specs.Growing.{Uses, uses_with, segment_uses, string_uses, strings_uses, test_uses, tests_uses, joined, command_uses, commands_uses, branches_uses}
use Rattle.sieve_compiler.specs.Coding.{push_text, push_segment, join_texts, string_code, strings_code, jump_if, question_code, aim_of, test_code, tests_code, plain, instruction, act_code, leave_code, command_code, commands_code, branches_code}
use Rattle.sieve_compiler.proofs.Standing.{Stands, stands_first, stands_next, stands_left, stands_right}
use Rattle.sieve_compiler.proofs.CodeLengths.{string_code_length, strings_code_length, test_code_length, length_two, leave_code_length, command_code_length, commands_code_length}
use Rattle.sieve_compiler.proofs.Known.{Has, has_left, has_right, found_string, found_variable, has_numbers, has_texts, has_string_of, has_set_of}
use Rattle.sieve_compiler.proofs.Sound.{standing, IsSound, AreSound, sound_both, is_bracket, left_by, IsAimed, IsTarget}
use Rattle.sieve_compiler.proofs.PushedTexts.{pushed, segment_bound, bound_of, taken_back, lists_pushed_are}
use Rattle.sieve_compiler.proofs.Bracketed.{after_flat, flat_inside, strings_flat, test_inside, commands_balanced, loop_next, next_stands, block_stands, block_ends, block_inside, leave_inside, command_inside, commands_inside, branches_inside}
use Rattle.sieve_compiler.proofs.Questions.{question_leaves, question_sound}
use Rattle.sieve_compiler.proofs.BranchParts.{branch_parts_of}
use Rattle.sieve_compiler.proofs.Acts.{act_leaves, act_sound, one_at_most}

module _ (all : List Instruction) (tables : Tables) (last : ℕ) where
  text_sound : (place : ℕ) (s : List ℕ) → slice_get tables.strings (place_of_string tables s) ≡ Some s → length (standing tables all place) < max_stack → IsSound all tables last place (push_text tables s)
  text_sound place s there room = record {
    form = refl;
    loops = tt;
    index = (s, there);
    jump = λ e. absurd (cc);
    stack = λ code same. rw (same, there, lt-ltb (length (standing tables all place)) max_stack room) refl;
  }

  following_text : (place : ℕ) (s : List ℕ) → slice_get tables.strings (place_of_string tables s) ≡ Some s → slice_get all place ≡ Some (push_text tables s) → standing tables all (suc place) ≡ Text (length s) ∷ standing tables all place
  following_text place s there here = rw (here, there) refl

  segment_sound : (place : ℕ) (segment : Segment) → Has tables (segment_uses segment) → IsBoundedSegment segment → length (standing tables all place) < max_stack → IsSound all tables last place (push_segment tables segment)
  segment_sound place (Stretch octets) known b room = text_sound place octets (found_string tables octets [] [] known) room
  segment_sound place (Variable name) known b room = record {
    form = refl;
    loops = tt;
    index = (name, found_variable tables name [] [] known);
    jump = λ e. absurd (cc);
    stack = λ code same. rw (lt-ltb (length (standing tables all place)) max_stack room) refl;
  }
  segment_sound place (Capture n) known b room = record {
    form = rw (lt-ltb n 10 (omega (arith, b))) refl;
    loops = tt;
    index = tt;
    jump = λ e. absurd (cc);
    stack = λ code same. rw (lt-ltb (length (standing tables all place)) max_stack room) refl;
  }

  following_segment : (place : ℕ) (segment : Segment) → Has tables (segment_uses segment) → slice_get all place ≡ Some (push_segment tables segment) → standing tables all (suc place) ≡ Text (segment_bound segment) ∷ standing tables all place
  following_segment place (Stretch octets) known here = following_text place octets (found_string tables octets [] [] known) here
  following_segment place (Variable name) known here = rw here refl
  following_segment place (Capture n) known here = rw here refl

  -- what segments use, the first of them, and the others
  abbrev segments_uses : List Segment → Uses
  segments_uses segments = uses_with [] (flat_map segment_strings segments) (flat_map segment_variables segments)

  has_first : (segment : Segment) (segments : List Segment) → Has tables (segments_uses (segment ∷ segments)) → Has tables (segment_uses segment)
  has_first segment segments known = has_left tables (segment_uses segment) (segments_uses segments) known

  has_others : (segment : Segment) (segments : List Segment) → Has tables (segments_uses (segment ∷ segments)) → Has tables (segments_uses segments)
  has_others segment segments known = has_right tables (segment_uses segment) (segments_uses segments) known

  -- after segments their texts are on top of the entries before them
  following_segments : (segments : List Segment) (place : ℕ) (entries : Entries) → Stands all place (map (push_segment tables) segments) → Has tables (segments_uses segments) → standing tables all place ≡ entries
      → standing tables all (place + length segments) ≡ pushed (map segment_bound segments) entries
  following_segments [] place entries h known start = let same : place ≡ place + 0 = omega arith in subst (λ p. standing tables all p ≡ entries) same start
  following_segments (segment ∷ segments) place entries h known start =
      let first = following_segment place segment (has_first segment segments known) (stands_first all place _ _ h) ∙ ap (λ es. Text (segment_bound segment) ∷ es) start in
      let same : suc place + length segments ≡ place + suc (length segments) = omega arith in
      subst (λ p. standing tables all p ≡ pushed (map segment_bound (segment ∷ segments)) entries) same
      (following_segments segments (suc place) (Text (segment_bound segment) ∷ entries) (stands_next all place _ _ h) (has_others segment segments known) first)

  segments_sound : (segments : List Segment) (place : ℕ) (entries : Entries) → Stands all place (map (push_segment tables) segments) → Has tables (segments_uses segments) → All IsBoundedSegment segments → standing tables all place ≡ entries
      → length entries + length segments ≤ max_stack → AreSound all tables last place (map (push_segment tables) segments)
  segments_sound [] place entries h known b start room = tt
  segments_sound (segment ∷ segments) place entries h known b start room =
      let number = ap length start in
      let of_first = has_first segment segments known in
      let first = following_segment place segment of_first (stands_first all place _ _ h) ∙ ap (λ es. Text (segment_bound segment) ∷ es) start in (
        segment_sound place segment of_first (All-head IsBoundedSegment segment segments b) (omega (arith, number, room)),
        segments_sound segments (suc place) (Text (segment_bound segment) ∷ entries) (stands_next all place _ _ h) (has_others segment segments known) (All-tail IsBoundedSegment segment segments b) first (omega (arith, room)),
      )

  following_join : (place : ℕ) (segments : List Segment) (entries : Entries) → slice_get all place ≡ Some (join_texts (length segments)) → standing tables all place ≡ pushed (map segment_bound segments) entries
      → standing tables all (suc place) ≡ Text (min (sum (map segment_bound segments)) max_string) ∷ entries
  following_join place segments entries here start = rw (here, start, taken_back segment_bound segments entries) refl

  join_sound : (place : ℕ) (segments : List Segment) (entries : Entries) → 2 ≤ length segments → length segments ≤ max_segments → length entries < max_stack → standing tables all place ≡ pushed (map segment_bound segments) entries
      → IsSound all tables last place (join_texts (length segments))
  join_sound place segments entries some few room start = record {
    form = rw (le-leb 2 (length segments) some, le-leb (length segments) max_segments few) refl;
    loops = tt;
    index = tt;
    jump = λ e. absurd (cc);
    stack = λ code same. rw (start, taken_back segment_bound segments entries, lt-ltb (length entries) max_stack room) refl;
  }

  -- after a string its text is on top of the entries before it
  pub following_string : (s : Template) (place : ℕ) (entries : Entries) → Stands all place (string_code tables s) → Has tables (string_uses s) → standing tables all place ≡ entries → standing tables all (place + string_length s) ≡ Text (bound_of s) ∷ entries
  following_string [] place entries h known start =
      let same : suc place ≡ place + 1 = omega arith in
      subst (λ p. standing tables all p ≡ Text 0 ∷ entries) same (following_text place [] (found_string tables [] [] [] known) (stands_first all place _ [] h) ∙ ap (λ es. Text 0 ∷ es) start)
  following_string (segment ∷ []) place entries h known start =
      let same : suc place ≡ place + 1 = omega arith in
      subst (λ p. standing tables all p ≡ Text (segment_bound segment) ∷ entries) same
      (following_segment place segment (has_first segment [] known) (stands_first all place _ [] h) ∙ ap (λ es. Text (segment_bound segment) ∷ es) start)
  following_string (one ∷ other ∷ more) place entries h known start =
      let segments : List Segment = one ∷ other ∷ more in
      let pieces = map (push_segment tables) segments in
      let pieces_stand = stands_left all place pieces (join_texts (length segments) ∷ []) h in
      let join_stands = stands_right all place (length segments) pieces (join_texts (length segments) ∷ []) (length-map segments (push_segment tables)) h in
      let same : suc (place + length segments) ≡ place + (length segments + 1) = omega arith in
      subst (λ p. standing tables all p ≡ Text (bound_of segments) ∷ entries) same
      (following_join (place + length segments) segments entries (stands_first all (place + length segments) _ [] join_stands) (following_segments segments place entries pieces_stand known start))

  pub string_sound : (s : Template) (place : ℕ) (entries : Entries) → Stands all place (string_code tables s) → Has tables (string_uses s) → IsBoundedString s → standing tables all place ≡ entries → length entries + max_segments ≤ max_stack → AreSound all tables last place (string_code tables s)
  string_sound [] place entries h known b start room = let number = ap length start in (text_sound place [] (found_string tables [] [] [] known) (omega (arith, number, room)), tt)
  string_sound (segment ∷ []) place entries h known b start room =
      let number = ap length start in
      (segment_sound place segment (has_first segment [] known) (All-head IsBoundedSegment segment [] b.segments) (omega (arith, number, room)), tt)
  string_sound (one ∷ other ∷ more) place entries h known b start room =
      let segments : List Segment = one ∷ other ∷ more in
      let pieces = map (push_segment tables) segments in
      let pieces_stand = stands_left all place pieces (join_texts (length segments) ∷ []) h in
      let after = following_segments segments place entries pieces_stand known start in
      let some : 2 ≤ length segments = omega arith in
      let pieces_sound = segments_sound segments place entries pieces_stand known b.segments start (omega (arith, room, b.few)) in
      sound_both all tables last pieces (join_texts (length segments) ∷ []) place (length segments) (length-map segments (push_segment tables)) pieces_sound
      (join_sound (place + length segments) segments entries some b.few (omega (arith, room)) after, tt)

  has_string : (s : Template) (ss : List Template) → Has tables (strings_uses (s ∷ ss)) → Has tables (string_uses s)
  has_string s ss known = has_left tables (string_uses s) (strings_uses ss) known

  has_strings : (s : Template) (ss : List Template) → Has tables (strings_uses (s ∷ ss)) → Has tables (strings_uses ss)
  has_strings s ss known = has_right tables (string_uses s) (strings_uses ss) known

  -- after strings their texts are on top of the entries before them
  pub following_strings : (ss : List Template) (place : ℕ) (entries : Entries) → Stands all place (strings_code tables ss) → Has tables (strings_uses ss) → standing tables all place ≡ entries → standing tables all (place + strings_length ss) ≡ pushed (map bound_of ss) entries
  following_strings [] place entries h known start = let same : place ≡ place + 0 = omega arith in subst (λ p. standing tables all p ≡ entries) same start
  following_strings (s ∷ ss) place entries h known start =
      let here = stands_left all place (string_code tables s) (strings_code tables ss) h in
      let there = stands_right all place (string_length s) (string_code tables s) (strings_code tables ss) (string_code_length tables s) h in
      let first = following_string s place entries here (has_string s ss known) start in
      let same : place + string_length s + strings_length ss ≡ place + strings_length (s ∷ ss) = omega (arith, sum_by-cons string_length s ss) in
      subst (λ p. standing tables all p ≡ pushed (map bound_of (s ∷ ss)) entries) same
      (following_strings ss (place + string_length s) (Text (bound_of s) ∷ entries) there (has_strings s ss known) first)

  pub strings_sound : (ss : List Template) (place : ℕ) (entries : Entries) → Stands all place (strings_code tables ss) → Has tables (strings_uses ss) → All IsBoundedString ss → standing tables all place ≡ entries → length entries + length ss + max_segments ≤ max_stack
      → AreSound all tables last place (strings_code tables ss)
  strings_sound [] place entries h known b start room = tt
  strings_sound (s ∷ ss) place entries h known b start room =
      let here = stands_left all place (string_code tables s) (strings_code tables ss) h in
      let there = stands_right all place (string_length s) (string_code tables s) (strings_code tables ss) (string_code_length tables s) h in
      let of_first = has_string s ss known in
      let first = following_string s place entries here of_first start in
      sound_both all tables last (string_code tables s) (strings_code tables ss) place (string_length s) (string_code_length tables s)
      (string_sound s place entries here of_first (All-head IsBoundedString s ss b) start (omega (arith, room)))
      (strings_sound ss (place + string_length s) (Text (bound_of s) ∷ entries) there (has_strings s ss known) (All-tail IsBoundedString s ss b) first (omega (arith, room)))

  -- ---- tests

  following_jump : (place : ℕ) (asked : Bool) (target : ℕ) → slice_get all place ≡ Some (jump_if asked target) → standing tables all (suc place) ≡ []
  following_jump place true target h = rw h refl
  following_jump place false target h = rw h refl

  jump_if_sound : (place : ℕ) (asked : Bool) (target : ℕ) → standing tables all place ≡ Truth ∷ [] → IsAimed all tables last place target → IsSound all tables last place (jump_if asked target)
  jump_if_sound place true target h aimed = record { form = refl; loops = tt; index = tt; jump = λ e. aimed; stack = λ code same. rw h refl }
  jump_if_sound place false target h aimed = record { form = refl; loops = tt; index = tt; jump = λ e. aimed; stack = λ code same. rw h refl }

  jump_is_flat : (asked : Bool) (target : ℕ) → is_bracket (operation_of (jump_if asked target).op) ≡ false
  jump_is_flat true target = refl
  jump_is_flat false target = refl

  -- the jump at the end of a test
  aimed_at : (place end : ℕ) (asked : Bool) (target : ℕ) → end ≡ suc place → slice_get all place ≡ Some (jump_if asked target) → IsTarget all tables last end target → IsAimed all tables last place target
  aimed_at place end asked target ends here aim = record {
    forward = omega (arith, ends, aim.0);
    within = aim.1;
    between = aim.2;
    same = aim.3 ∙ ap (inside all) ends ∙ after_flat all place (jump_if asked target) here (jump_is_flat asked target);
  }

  -- after strings, a test and its jump no entry is left
  tail_ends : (place n : ℕ) (strings : List Instruction) (i : Instruction) (asked : Bool) (target : ℕ) → length strings ≡ n → Stands all place (strings ++ i ∷ jump_if asked target ∷ []) → standing tables all (place + (n + 2)) ≡ []
  tail_ends place n strings i asked target e h =
      let tail = stands_right all place n strings (i ∷ jump_if asked target ∷ []) e h in
      let same : suc (suc (place + n)) ≡ place + (n + 2) = omega arith in
      subst (λ p. standing tables all p ≡ []) same (following_jump (suc (place + n)) asked target (stands_first all (suc (place + n)) _ [] (stands_next all (place + n) i (jump_if asked target ∷ []) tail)))

  -- the strings of a question, its instruction and its jump
  ask_sound : (q : Question) (strings : Strings) (place : ℕ) (asked : Bool) (target : ℕ) → Stands all place (strings_code tables (in_order strings) ++ question_code tables q strings ∷ jump_if asked target ∷ [])
      → Has tables (uses_with (row_of q).numbers (strings_of (in_order strings)) (strings_variables (in_order strings))) → AreBoundedStrings (row_of q).takes strings → standing tables all place ≡ [] → IsTarget all tables last (place + (strings_length (in_order strings) + 2)) target → (row_of q).loops ≤ length (inside all place)
      → AreSound all tables last place (strings_code tables (in_order strings) ++ question_code tables q strings ∷ jump_if asked target ∷ [])
  ask_sound q strings place asked target h known b start aim deep =
      let list = in_order strings in
      let pushes = strings_code tables list in
      let n : ℕ = strings_length list in
      let i = question_code tables q strings in
      let number = strings_code_length tables list in
      let of_strings = has_texts tables (row_of q).numbers (strings_of list) (strings_variables list) known in
      let of_numbers = has_numbers tables (row_of q).numbers (strings_of list) (strings_variables list) known in
      let here = stands_left all place pushes (i ∷ jump_if asked target ∷ []) h in
      let tail = stands_right all place n pushes (i ∷ jump_if asked target ∷ []) number h in
      let i_here = stands_first all (place + n) i (jump_if asked target ∷ []) tail in
      let jump_here = stands_first all (suc (place + n)) (jump_if asked target) [] (stands_next all (place + n) i (jump_if asked target ∷ []) tail) in
      let around = flat_inside all pushes place n number here (strings_flat tables list) in
      let before = following_strings list place [] here of_strings start ∙ lists_pushed_are strings in
      let after : standing tables all (suc (place + n)) ≡ Truth ∷ [] = ap (λ o. left_by tables o (standing tables all (place + n))) i_here ∙ question_leaves tables q strings (standing tables all (place + n)) in
      let ends : place + (n + 2) ≡ suc (suc (place + n)) = omega arith in
      sound_both all tables last pushes (i ∷ jump_if asked target ∷ []) place n number
      (strings_sound list place [] here of_strings b.bounded start (omega (arith, b.few))) (
        question_sound tables all last (place + n) q strings b of_numbers (omega (arith, deep, ap length around)) before,
        (jump_if_sound (suc (place + n)) asked target after (aimed_at (suc (place + n)) (place + (n + 2)) asked target ends jump_here aim), tt),
      )

  aim_is_target : (deciding asked : Bool) (ts : TestForms) (end following target : ℕ) → end ≤ following → following ≤ target → inside all following ≡ inside all end → IsTarget all tables last following following → IsTarget all tables last following target → IsTarget all tables last end (aim_of deciding asked ts following target)
  aim_is_target deciding asked no_test end following target le far around h k = (omega arith, k.1, k.2, k.3 ∙ around)
  aim_is_target true true (test t ts) end following target le far around h k = (omega arith, k.1, k.2, k.3 ∙ around)
  aim_is_target false false (test t ts) end following target le far around h k = (omega arith, k.1, k.2, k.3 ∙ around)
  aim_is_target true false (test t ts) end following target le far around h k = (le, h.1, h.2, around)
  aim_is_target false true (test t ts) end following target le far around h k = (le, h.1, h.2, around)

  -- after the code of a test no entry is left
  mutual
    pub test_ends : (t : TestForm) (place : ℕ) (asked : Bool) (target : ℕ) → Stands all place (test_code tables place t asked target) → standing tables all (place + test_length t) ≡ []
    test_ends (asks question strings at) place asked target h = tail_ends place (strings_length (in_order strings)) _ _ asked target (strings_code_length tables (in_order strings)) h
    test_ends (negation t at) place asked target h = test_ends t place _ target h
    test_ends (all_of t ts at) place asked target h =
        let first = test_ends t place _ _ (stands_left all place _ _ h) in
        let same : (place + test_length t) + tests_length ts ≡ place + (test_length t + tests_length ts) = omega arith in
        subst (λ p. standing tables all p ≡ []) same (tests_end ts (place + test_length t) false asked _ target (stands_right all place (test_length t) _ _ (test_code_length tables t place _ _) h) first)
    test_ends (any_of t ts at) place asked target h =
        let first = test_ends t place _ _ (stands_left all place _ _ h) in
        let same : (place + test_length t) + tests_length ts ≡ place + (test_length t + tests_length ts) = omega arith in
        subst (λ p. standing tables all p ≡ []) same (tests_end ts (place + test_length t) true asked _ target (stands_right all place (test_length t) _ _ (test_code_length tables t place _ _) h) first)

    pub tests_end : (ts : TestForms) (place : ℕ) (deciding asked : Bool) (following target : ℕ) → Stands all place (tests_code tables place ts deciding asked following target) → standing tables all place ≡ [] → standing tables all (place + tests_length ts) ≡ []
    tests_end no_test place deciding asked following target h start = let same : place ≡ place + 0 = omega arith in subst (λ p. standing tables all p ≡ []) same start
    tests_end (test t ts) place deciding asked following target h start =
        let first = test_ends t place _ _ (stands_left all place _ _ h) in
        let same : (place + test_length t) + tests_length ts ≡ place + (test_length t + tests_length ts) = omega arith in
        subst (λ p. standing tables all p ≡ []) same (tests_end ts (place + test_length t) deciding asked following target (stands_right all place (test_length t) _ _ (test_code_length tables t place _ _) h) first)

  -- so many loops are open around a test
  mutual
    pub test_sound : (t : TestForm) (place : ℕ) (asked : Bool) (target loops : ℕ) → Stands all place (test_code tables place t asked target) → Has tables (test_uses t) → IsBoundedTest t → standing tables all place ≡ [] → IsTarget all tables last (place + test_length t) target
        → IsTestIn loops t → length (inside all place) ≡ loops → AreSound all tables last place (test_code tables place t asked target)
    test_sound (asks question strings at) place asked target loops h known b start aim in_loops deep = ask_sound question strings place asked target h known b start aim (omega (arith, in_loops, deep))
    test_sound (negation t at) place asked target loops h known b start aim in_loops deep = test_sound t place _ target loops h known b start aim in_loops deep
    test_sound (all_of t ts at) place asked target loops h known b start aim in_loops deep =
        let following : ℕ = place + (test_length t + tests_length ts) in
        let near : place + test_length t ≤ following = omega arith in
        let same : following ≡ (place + test_length t) + tests_length ts = omega arith in
        let closed : IsTarget all tables last following following = (omega arith, omega (arith, aim.0, aim.1), test_ends (all_of t ts at) place asked target h, refl) in
        let here = stands_left all place _ _ h in
        let there = stands_right all place (test_length t) _ _ (test_code_length tables t place _ _) h in
        let own : inside all (place + test_length t) ≡ inside all place = test_inside all tables t place _ _ here in
        let around : inside all following ≡ inside all (place + test_length t) = test_inside all tables (all_of t ts at) place asked target h ∙ sym own in
        let first_aim = aim_is_target false asked ts (place + test_length t) following target near aim.0 around closed aim in
        let first = test_sound t place _ _ loops here (has_left tables (test_uses t) (tests_uses ts) known) b.0 start first_aim in_loops.0 deep in
        let rest = tests_sound ts (place + test_length t) false asked following target loops there (has_right tables (test_uses t) (tests_uses ts) known) b.1 (test_ends t place _ _ here) same aim.0 closed aim around in_loops.1 (ap length own ∙ deep) in
        sound_both all tables last _ _ place (test_length t) (test_code_length tables t place _ _) first rest
    test_sound (any_of t ts at) place asked target loops h known b start aim in_loops deep =
        let following : ℕ = place + (test_length t + tests_length ts) in
        let near : place + test_length t ≤ following = omega arith in
        let same : following ≡ (place + test_length t) + tests_length ts = omega arith in
        let closed : IsTarget all tables last following following = (omega arith, omega (arith, aim.0, aim.1), test_ends (any_of t ts at) place asked target h, refl) in
        let here = stands_left all place _ _ h in
        let there = stands_right all place (test_length t) _ _ (test_code_length tables t place _ _) h in
        let own : inside all (place + test_length t) ≡ inside all place = test_inside all tables t place _ _ here in
        let around : inside all following ≡ inside all (place + test_length t) = test_inside all tables (any_of t ts at) place asked target h ∙ sym own in
        let first_aim = aim_is_target true asked ts (place + test_length t) following target near aim.0 around closed aim in
        let first = test_sound t place _ _ loops here (has_left tables (test_uses t) (tests_uses ts) known) b.0 start first_aim in_loops.0 deep in
        let rest = tests_sound ts (place + test_length t) true asked following target loops there (has_right tables (test_uses t) (tests_uses ts) known) b.1 (test_ends t place _ _ here) same aim.0 closed aim around in_loops.1 (ap length own ∙ deep) in
        sound_both all tables last _ _ place (test_length t) (test_code_length tables t place _ _) first rest

    tests_sound : (ts : TestForms) (place : ℕ) (deciding asked : Bool) (following target loops : ℕ) → Stands all place (tests_code tables place ts deciding asked following target) → Has tables (tests_uses ts) → AreBoundedTests ts → standing tables all place ≡ []
        → following ≡ place + tests_length ts → following ≤ target → IsTarget all tables last following following → IsTarget all tables last following target → inside all following ≡ inside all place → AreTestsIn loops ts → length (inside all place) ≡ loops → AreSound all tables last place (tests_code tables place ts deciding asked following target)
    tests_sound no_test place deciding asked following target loops h known b start at le closed aim around in_loops deep = tt
    tests_sound (test t ts) place deciding asked following target loops h known b start at le closed aim around in_loops deep =
        let near : place + test_length t ≤ following = omega (arith, at) in
        let same : following ≡ (place + test_length t) + tests_length ts = omega (arith, at) in
        let here = stands_left all place _ _ h in
        let there = stands_right all place (test_length t) _ _ (test_code_length tables t place _ _) h in
        let own : inside all (place + test_length t) ≡ inside all place = test_inside all tables t place _ _ here in
        let after : inside all following ≡ inside all (place + test_length t) = around ∙ sym own in
        let first_aim = aim_is_target deciding asked ts (place + test_length t) following target near le after closed aim in
        let first = test_sound t place _ _ loops here (has_left tables (test_uses t) (tests_uses ts) known) b.0 start first_aim in_loops.0 deep in
        let rest = tests_sound ts (place + test_length t) deciding asked following target loops there (has_right tables (test_uses t) (tests_uses ts) known) b.1 (test_ends t place _ _ here) same le closed aim after in_loops.1 (ap length own ∙ deep) in
        sound_both all tables last _ _ place (test_length t) (test_code_length tables t place _ _) first rest

  -- ---- commands

  at_same : (p q : ℕ) → p ≡ q → standing tables all p ≡ [] → standing tables all q ≡ []
  at_same p q same h = subst (λ n. standing tables all n ≡ []) same h

  -- after an instruction that leaves no entry
  after_plain : (place : ℕ) (i : Instruction) → slice_get all place ≡ Some i → left_by tables (Some i) (standing tables all place) ≡ [] → standing tables all (place + 1) ≡ []
  after_plain place i h none = let same : suc place ≡ place + 1 = omega arith in at_same (suc place) (place + 1) same (ap (λ o. left_by tables o (standing tables all place)) h ∙ none)

  -- after the string of an act and its instruction
  after_act : (place : ℕ) (act : Act) (string : Template) → Stands all place (strings_code tables (act_strings act string) ++ act_code tables act ∷ []) → standing tables all (place + (strings_length (act_strings act string) + 1)) ≡ []
  after_act place act string h =
      let strings = act_strings act string in
      let q : ℕ = place + strings_length strings in
      let there = stands_right all place (strings_length strings) (strings_code tables strings) (act_code tables act ∷ []) (strings_code_length tables strings) h in
      let same : q + 1 ≡ place + (strings_length strings + 1) = omega arith in
      at_same _ _ same (after_plain q (act_code tables act) (stands_first all q (act_code tables act) [] there) (act_leaves tables act (standing tables all q)))

  leave_end : (bs : BranchForms) (place end : ℕ) → Stands all place (leave_code bs end) → standing tables all place ≡ [] → standing tables all (place + leave_length bs) ≡ []
  leave_end no_branch place end h start = let same : place ≡ place + 0 = omega arith in at_same place (place + 0) same start
  leave_end (otherwise cs) place end h start = after_plain place _ (stands_first all place _ [] h) refl
  leave_end (branch t cs at bs) place end h start = after_plain place _ (stands_first all place _ [] h) refl

  -- after the code of commands no entry is left
  mutual
    pub command_ends : (c : CommandForm) (place : ℕ) → Stands all place (command_code tables place c) → standing tables all place ≡ [] → standing tables all (place + command_length c) ≡ []
    command_ends (does act string at) place h start = after_act place act string h
    command_ends (for_every_part cs at) place h start =
        let next : ℕ = place + 1 + commands_length cs in
        let same : next + 1 ≡ place + (commands_length cs + 2) = omega arith in
        at_same _ _ same (after_plain next (instruction Next 0 place) (next_stands all place next (commands_code tables (place + 1) cs) h (commands_balanced tables cs (place + 1)) (block_ends all tables cs place)) refl)
    command_ends (choice bs) place h start = branches_end bs place _ h start

    pub commands_end : (cs : CommandForms) (place : ℕ) → Stands all place (commands_code tables place cs) → standing tables all place ≡ [] → standing tables all (place + commands_length cs) ≡ []
    commands_end no_command place h start = let same : place ≡ place + 0 = omega arith in at_same place (place + 0) same start
    commands_end (command c cs) place h start =
        let first = command_ends c place (stands_left all place _ _ h) start in
        let same : (place + command_length c) + commands_length cs ≡ place + (command_length c + commands_length cs) = omega arith in
        at_same _ _ same (commands_end cs (place + command_length c) (stands_right all place (command_length c) _ _ (command_code_length tables c place) h) first)

    pub branches_end : (bs : BranchForms) (place end : ℕ) → Stands all place (branches_code tables place bs end) → standing tables all place ≡ [] → standing tables all (place + branches_length bs) ≡ []
    branches_end no_branch place end h start = let same : place ≡ place + 0 = omega arith in at_same place (place + 0) same start
    branches_end (otherwise cs) place end h start = commands_end cs place h start
    branches_end (branch t cs at bs) place end h start =
        let p = branch_parts_of all tables t cs at bs place end h in
        let tested = test_ends t place false _ p.test in
        let blocked = commands_end cs (place + test_length t) p.block tested in
        let left = leave_end bs (place + test_length t + commands_length cs) end p.leave blocked in
        let same : place + test_length t + commands_length cs + leave_length bs + branches_length bs ≡ place + (test_length t + commands_length cs + leave_length bs + branches_length bs) = omega arith in
        at_same _ _ same (branches_end bs (place + test_length t + commands_length cs + leave_length bs) end p.rest left)

  pub halt_sound : (place : ℕ) → standing tables all place ≡ [] → IsSound all tables last place (plain Halt)
  halt_sound place start = record { form = refl; loops = tt; index = tt; jump = λ e. absurd (cc); stack = λ code same. rw start refl }

  each_sound : (place next : ℕ) → standing tables all place ≡ [] → next_at all place ≡ next → 0 < next → length (inside all place) < max_loops → IsSound all tables last place (instruction Each 0 next)
  each_sound place next start is some room = record {
    form = refl;
    loops = (rw (is, ne_eqb next 0 (λ e. omega (arith, some, e)), eq-eqb next next refl) refl, room);
    index = tt;
    jump = λ e. absurd (cc);
    stack = λ code same. rw start refl;
  }

  next_sound : (place each : ℕ) → standing tables all place ≡ [] → next_at all each ≡ place → 0 < place → IsSound all tables last place (instruction Next 0 each)
  next_sound place each start is some = record {
    form = refl;
    loops = rw (is, ne_eqb place 0 (λ e. omega (arith, some, e)), eq-eqb place place refl) refl;
    index = tt;
    jump = λ e. absurd (cc);
    stack = λ code same. rw start refl;
  }

  -- the string of an act and its instruction
  does_sound : (act : Act) (string : Template) (place : ℕ) → Stands all place (strings_code tables (act_strings act string) ++ act_code tables act ∷ []) → Has tables (uses_with [] (strings_of (act_strings act string)) (strings_variables (act_strings act string) ++ (act_row act).sets))
      → IsBoundedAct act × All IsBoundedString (act_strings act string) → standing tables all place ≡ [] → (act_row act).loops ≤ length (inside all place) → length (inside all place) ≤ max_loops → AreSound all tables last place (strings_code tables (act_strings act string) ++ act_code tables act ∷ [])
  does_sound act string place h known b start deep few =
      let strings = act_strings act string in
      let pushes = strings_code tables strings in
      let n : ℕ = strings_length strings in
      let i = act_code tables act in
      let number = strings_code_length tables strings in
      let of_string = has_string_of tables strings (act_row act).sets known in
      let here = stands_left all place pushes (i ∷ []) h in
      let around = flat_inside all pushes place n number here (strings_flat tables strings) in
      let before = following_strings strings place [] here of_string start in
      sound_both all tables last pushes (i ∷ []) place n number
      (strings_sound strings place [] here of_string b.1 start (omega (arith, one_at_most act string)))
      (act_sound tables all last (place + n) act string b.0 (has_set_of tables strings (act_row act).sets known) (omega (arith, deep, ap length around)) (omega (arith, few, ap length around)) before, tt)

  jump_sound : (place end : ℕ) → standing tables all place ≡ [] → IsAimed all tables last place end → IsSound all tables last place (instruction Jump 0 end)
  jump_sound place end start aimed = record { form = refl; loops = tt; index = tt; jump = λ e. aimed; stack = λ code same. rw start refl }

  leave_sound : (bs : BranchForms) (place end : ℕ) → standing tables all place ≡ [] → place + leave_length bs ≤ end → end ≤ last → standing tables all end ≡ [] → inside all end ≡ inside all place → AreSound all tables last place (leave_code bs end)
  leave_sound no_branch place end start le within between same = tt
  leave_sound (otherwise cs) place end start le within between same = (jump_sound place end start (record { forward = omega (arith, le); within = within; between = between; same = same }), tt)
  leave_sound (branch t cs at bs) place end start le within between same = (jump_sound place end start (record { forward = omega (arith, le); within = within; between = between; same = same }), tt)

  -- so many loops are open around commands
  mutual
    pub command_sound : (c : CommandForm) (place loops : ℕ) → Stands all place (command_code tables place c) → Has tables (command_uses c) → IsBoundedCommand c → standing tables all place ≡ [] → place + command_length c ≤ last
        → loops ≤ max_loops → IsCommandIn loops c → length (inside all place) ≡ loops → AreSound all tables last place (command_code tables place c)
    command_sound (does act string at) place loops h known b start within few in_loops deep = does_sound act string place h known b start (omega (arith, in_loops, deep)) (omega (arith, few, deep))
    command_sound (for_every_part cs at) place loops h known b start within few in_loops deep =
        let block : ℕ = place + 1 in
        let next : ℕ = block + commands_length cs in
        let body = commands_code tables block cs in
        let balanced = commands_balanced tables cs block in
        let ends = block_ends all tables cs place in
        let stands = block_stands all tables cs place h in
        let is : next_at all place ≡ next = loop_next all place next body h balanced ends in
        let some : 0 < next = omega arith in
        let room : length (inside all place) < max_loops = omega (arith, in_loops.0, deep) in
        let first : standing tables all block ≡ [] = after_plain place (instruction Each 0 next) (stands_first all place _ _ h) refl in
        let inner : length (inside all block) ≡ suc loops = omega (arith, ap length (block_inside all tables cs place h), deep) in
        let fits : block + commands_length cs ≤ last = omega (arith, within) in
        let own = commands_sound cs block (suc loops) stands known b first fits (omega (arith, in_loops.0)) in_loops.1 inner in
        let closing = next_sound next place (commands_end cs block stands first) is some in
        let same : block ≡ suc place = omega arith in
        (each_sound place next start is some room, subst (λ p. AreSound all tables last p (body ++ instruction Next 0 place ∷ [])) same (sound_both all tables last body (instruction Next 0 place ∷ []) block (commands_length cs) (commands_code_length tables cs block) own (closing, tt)))
    command_sound (choice bs) place loops h known b start within few in_loops deep =
        let same : place + branches_length bs ≤ place + branches_length bs = omega arith in
        branches_sound bs place (place + branches_length bs) loops h known b start same within (branches_end bs place _ h start) (branches_inside all tables bs place _ h) few in_loops deep

    pub commands_sound : (cs : CommandForms) (place loops : ℕ) → Stands all place (commands_code tables place cs) → Has tables (commands_uses cs) → AreBoundedCommands cs → standing tables all place ≡ [] → place + commands_length cs ≤ last
        → loops ≤ max_loops → AreCommandsIn loops cs → length (inside all place) ≡ loops → AreSound all tables last place (commands_code tables place cs)
    commands_sound no_command place loops h known b start within few in_loops deep = tt
    commands_sound (command c cs) place loops h known b start within few in_loops deep =
        let first_within : place + command_length c ≤ last = omega (arith, within) in
        let rest_within : place + command_length c + commands_length cs ≤ last = omega (arith, within) in
        let here = stands_left all place _ _ h in
        let there = stands_right all place (command_length c) _ _ (command_code_length tables c place) h in
        let first = command_sound c place loops here (has_left tables (command_uses c) (commands_uses cs) known) b.0 start first_within few in_loops.0 deep in
        let after = ap length (command_inside all tables c place here) ∙ deep in
        let rest = commands_sound cs (place + command_length c) loops there (has_right tables (command_uses c) (commands_uses cs) known) b.1 (command_ends c place here start) rest_within few in_loops.1 after in
        sound_both all tables last _ _ place (command_length c) (command_code_length tables c place) first rest

    pub branches_sound : (bs : BranchForms) (place end loops : ℕ) → Stands all place (branches_code tables place bs end) → Has tables (branches_uses bs) → AreBoundedBranches bs → standing tables all place ≡ [] → place + branches_length bs ≤ end → end ≤ last → standing tables all end ≡ []
        → inside all end ≡ inside all place → loops ≤ max_loops → AreBranchesIn loops bs → length (inside all place) ≡ loops → AreSound all tables last place (branches_code tables place bs end)
    branches_sound no_branch place end loops h known b start le within between around few in_loops deep = tt
    branches_sound (otherwise cs) place end loops h known b start le within between around few in_loops deep =
        let fits : place + commands_length cs ≤ last = omega (arith, le, within) in
        commands_sound cs place loops h known b start fits few in_loops deep
    branches_sound (branch t cs at bs) place end loops h known limits start le within between around few in_loops deep =
        let block = place + test_length t in
        let after_block = block + commands_length cs in
        let next = after_block + leave_length bs in
        let fits : block + commands_length cs ≤ last = omega (arith, le, within) in
        let near : block ≤ next = omega arith in
        let inside_last : next ≤ last = omega (arith, le, within) in
        let leaves : after_block + leave_length bs ≤ end = omega (arith, le) in
        let rest_le : next + branches_length bs ≤ end = omega (arith, le) in
        let of_place : place + (test_length t + commands_length cs) ≡ after_block = omega arith in
        let of_next : place + (test_length t + commands_length cs + leave_length bs) ≡ next = omega arith in
        let both = has_left tables (joined (test_uses t) (commands_uses cs)) (branches_uses bs) known in
        let parts = branch_parts_of all tables t cs at bs place end h in
        let tested = test_ends t place false _ parts.test in
        let blocked = commands_end cs block parts.block tested in
        let left = leave_end bs after_block end parts.leave blocked in
        -- the open loops after the test, after the block, and after its jump
        let one : inside all block ≡ inside all place = test_inside all tables t place false next parts.test in
        let two : inside all after_block ≡ inside all block = commands_inside all tables cs block parts.block in
        let three : inside all next ≡ inside all after_block = leave_inside all tables bs after_block end parts.leave in
        let a = test_sound t place false next loops parts.test (has_left tables (test_uses t) (commands_uses cs) both) limits.0 start (near, inside_last, left, three ∙ two) in_loops.0 deep in
        let b = commands_sound cs block loops parts.block (has_right tables (test_uses t) (commands_uses cs) both) limits.1 tested fits few in_loops.1 (ap length one ∙ deep) in
        let c = leave_sound bs after_block end blocked leaves within between (around ∙ sym (two ∙ one)) in
        let d = branches_sound bs next end loops parts.rest (has_right tables (joined (test_uses t) (commands_uses cs)) (branches_uses bs) known) limits.2 left rest_le within between (around ∙ sym (three ∙ two ∙ one)) few in_loops.2 (ap length (three ∙ two ∙ one) ∙ deep) in
        let la = test_code_length tables t place false next in
        let lab = length_two _ _ _ _ la (commands_code_length tables cs block) in
        let labc = length_two _ _ _ _ lab (leave_code_length tables bs end) in
        let ab = sound_both all tables last _ _ place (test_length t) la a b in
        let abc = sound_both all tables last _ _ place (test_length t + commands_length cs) lab ab (subst (λ p. AreSound all tables last p (leave_code bs end)) (sym of_place) c) in
        sound_both all tables last _ _ place (test_length t + commands_length cs + leave_length bs) labc abc (subst (λ p. AreSound all tables last p (branches_code tables next bs end)) (sym of_next) d)
