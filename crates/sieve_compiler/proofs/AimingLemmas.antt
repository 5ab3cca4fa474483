-- Jumps that wait for their targets: where they are aimed, the code is that with the target.
use Rattle.std.proofs.Common.{◌≡◌, ℕ, zero, suc, ◌+◌, ◌<◌, ◌≤◌, Bool, true, false, not, List, [], ◌∷◌, ◌++◌, map, take, drop, set, get_or, length, refl, sym, ap, subst, ◌∙◌, arith}
use Rattle.std.proofs.Math.Dec.{eqb}
use Rattle.std.proofs.lemmas.Bool.{ne_eqb}
use Rattle.std.proofs.lemmas.List.{length-append, append_assoc, append-nil, map-append}
use Rattle.bytecode_format.specs.declared.instruction.Instruction.{Instruction}
use Rattle.bytecode_format.specs.declared.operation.Operation.TheVariants.{Each, Next}
use Rattle.sieve_check.specs.declared.typed.Act.{Act}
use Rattle.sieve_check.specs.declared.typed.Act.TheVariants.{Keep}
use Rattle.bytecode_format.specs.declared.question.Question.{Question}
use Rattle.bytecode_format.specs.declared.question.Question.TheVariants.{Constant}
use Rattle.sieve_check.specs.declared.typed.Segment.{Segment}
use Rattle.sieve_check.specs.declared.typed.Segment.TheVariants.{Text, Variable, Capture}
use Rattle.sieve_check.specs.Acts.{act_strings}
use Rattle.sieve_check.specs.Typed.{Template, Strings, in_order, TestForm, asks, negation, all_of, any_of, TestForms, no_test, test, CommandForm, does, for_every_part, choice, CommandForms, no_command, command, BranchForms, no_branch, otherwise, branch}
use Rattle.sieve_compiler.specs.Aiming.{aimed, with_target, branch_code, first_leave_length, leaves_length, unaimed_code}
use Rattle.sieve_compiler.specs.Tables.{Tables}
use Rattle.sieve_compiler.specs.Lengths.{test_length, tests_length, leave_length, command_length, commands_length, branches_length}
use Rattle.sieve_compiler.specs.Coding.{instruction, jump_if, join_texts, push_segment, string_code, strings_code, question_code, act_code, asked_of, aim_of, test_code, tests_code, leave_code, command_code, commands_code, branches_code}
use Rattle.sieve_compiler.specs.Putting.{Puts}
use Rattle.sieve_compiler.specs.declared.coder.Coder.{Coder}
use Rattle.sieve_compiler.proofs.CodeLengths.{length_two, test_code_length, leave_code_length, command_code_length, commands_code_length, branches_code_length}
use Rattle.sieve_compiler.proofs.PuttingLemmas.{puts_then, puts_both}

-- ---- one instruction after another

abbrev pub aimed_up_to : ℕ → ℕ → List Instruction → List Instruction
aimed_up_to target i all = map (aimed target) (take i all) ++ drop i all

one_more_aimed : (target i : ℕ) (all : List Instruction) (other : Instruction) → i < length all
    → set (aimed_up_to target i all) i (aimed target (get_or (aimed_up_to target i all) i other)) ≡ aimed_up_to target (i + 1) all
one_more_aimed target i [] other within = absurd (omega (arith, within))
one_more_aimed target zero (first ∷ all) other within = refl
one_more_aimed target (suc i) (first ∷ all) other within =
    let f : suc i + 1 ≡ suc (i + 1) = omega arith in
    rw f (ap (λ others. aimed target first ∷ others) (one_more_aimed target i all other (omega (arith, within))))

-- the next one is aimed
pub next_aimed : (target i : ℕ) (now all : List Instruction) (one other : Instruction) → i < length all → now ≡ aimed_up_to target i all → one ≡ aimed target (get_or now i other) → set now i one ≡ aimed_up_to target (i + 1) all
next_aimed target i now all one other within so_far is =
    ap (λ l. set l i one) so_far
    ∙ ap (λ x. set (aimed_up_to target i all) i x) (is ∙ ap (λ l. aimed target (get_or l i other)) so_far)
    ∙ one_more_aimed target i all other within

-- one instruction is aimed
set_here : (before after : List Instruction) (one new : Instruction) → set (before ++ one ∷ after) (length before) new ≡ before ++ new ∷ after
set_here [] after one new = refl
set_here (x ∷ before) after one new = ap (λ l. x ∷ l) (set_here before after one new)

found_here : (before after : List Instruction) (one other : Instruction) → get_or (before ++ one ∷ after) (length before) other ≡ one
found_here [] after one other = refl
found_here (x ∷ before) after one other = found_here before after one other

pub one_set : (items before after : List Instruction) (one found : Instruction) (place target : ℕ) → items ≡ before ++ one ∷ after → place ≡ length before → found ≡ get_or items place found → set items place (with_target target found) ≡ before ++ with_target target one ∷ after
one_set items before after one found place target same at is =
    let here : found ≡ one = is ∙ ap (λ l. get_or l place found) same ∙ ap (λ n. get_or (before ++ one ∷ after) n found) at ∙ found_here before after one found in
    ap (λ l. set l place (with_target target found)) same
    ∙ ap (λ n. set (before ++ one ∷ after) n (with_target target found)) at
    ∙ ap (λ i. set (before ++ one ∷ after) (length before) (with_target target i)) here
    ∙ set_here before after one (with_target target one)

-- ---- a jump waits for its target or has one

-- the target, where a jump has none
abbrev or_target : ℕ → ℕ → ℕ
or_target target zero = target
or_target target (suc n) = suc n

is_known : (n : ℕ) → eqb (suc n) 0 ≡ false
is_known n = ne_eqb (suc n) 0 (λ e. omega (arith, e))

known_target : (target n : ℕ) → 1 ≤ n → or_target target n ≡ n
known_target target zero some = absurd (omega (arith, some))
known_target target (suc n) some = refl

jump_aimed : (target n : ℕ) (asked : Bool) → aimed target (jump_if asked n) ≡ jump_if asked (or_target target n)
jump_aimed target zero true = refl
jump_aimed target zero false = refl
jump_aimed target (suc n) true = rw (is_known n) refl
jump_aimed target (suc n) false = rw (is_known n) refl

aim_aimed : (target : ℕ) (deciding asked : Bool) (ts : TestForms) (following n : ℕ) → 1 ≤ following → or_target target (aim_of deciding asked ts following n) ≡ aim_of deciding asked ts following (or_target target n)
aim_aimed target deciding asked no_test following n some = refl
aim_aimed target true true (test t ts) following n some = refl
aim_aimed target false false (test t ts) following n some = refl
aim_aimed target true false (test t ts) following n some = known_target target following some
aim_aimed target false true (test t ts) following n some = known_target target following some

test_some : (t : TestForm) → 1 ≤ test_length t
test_some (asks question strings at) = omega arith
test_some (negation t at) = test_some t
test_some (all_of t ts at) = omega (arith, test_some t)
test_some (any_of t ts at) = omega (arith, test_some t)

module _ (target : ℕ) (tables : Tables) where
  both : (a b c d : List Instruction) → map (aimed target) a ≡ c → map (aimed target) b ≡ d → map (aimed target) (a ++ b) ≡ c ++ d
  both a b c d e f = map-append (aimed target) a b ∙ ap (λ l. l ++ map (aimed target) b) e ∙ ap (λ l. c ++ l) f

  segment_kept : (s : Segment) → aimed target (push_segment tables s) ≡ push_segment tables s
  segment_kept (Text octets) = refl
  segment_kept (Variable name) = refl
  segment_kept (Capture n) = refl

  segments_kept : (ss : Template) → map (aimed target) (map (push_segment tables) ss) ≡ map (push_segment tables) ss
  segments_kept [] = refl
  segments_kept (s ∷ ss) = ap (λ i. i ∷ map (aimed target) (map (push_segment tables) ss)) (segment_kept s) ∙ ap (λ l. push_segment tables s ∷ l) (segments_kept ss)

  string_kept : (ss : Template) → map (aimed target) (string_code tables ss) ≡ string_code tables ss
  string_kept [] = refl
  string_kept (s ∷ []) = ap (λ i. i ∷ []) (segment_kept s)
  string_kept (one ∷ other ∷ more) =
      both (map (push_segment tables) (one ∷ other ∷ more)) (join_texts (length (one ∷ other ∷ more)) ∷ []) _ _ (segments_kept (one ∷ other ∷ more)) refl

  strings_kept : (ss : List Template) → map (aimed target) (strings_code tables ss) ≡ strings_code tables ss
  strings_kept [] = refl
  strings_kept (s ∷ ss) = both (string_code tables s) (strings_code tables ss) _ _ (string_kept s) (strings_kept ss)

  question_kept : (question : Question) (strings : Strings) → aimed target (question_code tables question strings) ≡ question_code tables question strings
  question_kept (Constant value) strings = refl
  question_kept _ strings = refl

  act_kept : (act : Act) → aimed target (act_code tables act) ≡ act_code tables act
  act_kept Keep = refl
  act_kept _ = refl

  -- a test of a list, from what is known of it alone
  first_aimed : (t : TestForm) (place n : ℕ) (deciding asked : Bool) (ts : TestForms) (following : ℕ) → 1 ≤ following
      → map (aimed target) (test_code tables place t (asked_of deciding asked ts) (aim_of deciding asked ts following n)) ≡ test_code tables place t (asked_of deciding asked ts) (or_target target (aim_of deciding asked ts following n))
      → map (aimed target) (test_code tables place t (asked_of deciding asked ts) (aim_of deciding asked ts following n)) ≡ test_code tables place t (asked_of deciding asked ts) (aim_of deciding asked ts following (or_target target n))
  first_aimed t place n deciding asked ts following some h = h ∙ ap (λ m. test_code tables place t (asked_of deciding asked ts) m) (aim_aimed target deciding asked ts following n some)

  mutual
    -- of a test those jumps wait that leave it
    test_aimed : (t : TestForm) (place n : ℕ) (asked : Bool) → map (aimed target) (test_code tables place t asked n) ≡ test_code tables place t asked (or_target target n)
    test_aimed (asks question strings at) place n asked =
        both (strings_code tables (in_order strings)) (question_code tables question strings ∷ jump_if asked n ∷ []) _ _ (strings_kept (in_order strings))
        (ap (λ i. i ∷ aimed target (jump_if asked n) ∷ []) (question_kept question strings) ∙ ap (λ i. question_code tables question strings ∷ i ∷ []) (jump_aimed target n asked))
    test_aimed (negation t at) place n asked = test_aimed t place n (not asked)
    test_aimed (all_of t ts at) place n asked =
        let following : ℕ = place + (test_length t + tests_length ts) in
        let some : 1 ≤ following = omega (arith, test_some t) in
        both (test_code tables place t (asked_of false asked ts) (aim_of false asked ts following n)) (tests_code tables (place + test_length t) ts false asked following n) _ _
        (first_aimed t place n false asked ts following some (test_aimed t place _ _)) (tests_aimed ts (place + test_length t) n false asked following some)
    test_aimed (any_of t ts at) place n asked =
        let following : ℕ = place + (test_length t + tests_length ts) in
        let some : 1 ≤ following = omega (arith, test_some t) in
        both (test_code tables place t (asked_of true asked ts) (aim_of true asked ts following n)) (tests_code tables (place + test_length t) ts true asked following n) _ _
        (first_aimed t place n true asked ts following some (test_aimed t place _ _)) (tests_aimed ts (place + test_length t) n true asked following some)

    tests_aimed : (ts : TestForms) (place n : ℕ) (deciding asked : Bool) (following : ℕ) → 1 ≤ following → map (aimed target) (tests_code tables place ts deciding asked following n) ≡ tests_code tables place ts deciding asked following (or_target target n)
    tests_aimed no_test place n deciding asked following some = refl
    tests_aimed (test t ts) place n deciding asked following some =
        both (test_code tables place t (asked_of deciding asked ts) (aim_of deciding asked ts following n)) (tests_code tables (place + test_length t) ts deciding asked following n) _ _
        (first_aimed t place n deciding asked ts following some (test_aimed t place _ _)) (tests_aimed ts (place + test_length t) n deciding asked following some)

  leave_aimed : (bs : BranchForms) (n : ℕ) → map (aimed target) (leave_code bs n) ≡ leave_code bs (or_target target n)
  leave_aimed no_branch n = refl
  leave_aimed (otherwise cs) zero = refl
  leave_aimed (otherwise cs) (suc n) = rw (is_known n) refl
  leave_aimed (branch t cs at bs) zero = refl
  leave_aimed (branch t cs at bs) (suc n) = rw (is_known n) refl

  -- the end of an if is no place for none
  choice_known : (bs : BranchForms) (place : ℕ) → let end = place + branches_length bs in branches_code tables place bs (or_target target end) ≡ branches_code tables place bs end
  choice_known no_branch place = refl
  choice_known (otherwise cs) place = refl
  choice_known (branch t cs at bs) place = ap (λ n. branches_code tables place (branch t cs at bs) n) (known_target target _ (omega (arith, test_some t)))

  -- no jump of commands waits, and of branches those to the end alone
  mutual
    command_kept : (c : CommandForm) (place : ℕ) → map (aimed target) (command_code tables place c) ≡ command_code tables place c
    command_kept (does act string at) place = both (strings_code tables (act_strings act string)) (act_code tables act ∷ []) _ _ (strings_kept (act_strings act string)) (ap (λ i. i ∷ []) (act_kept act))
    command_kept (for_every_part cs at) place = ap (λ l. instruction Each 0 (place + 1 + commands_length cs) ∷ l) (both (commands_code tables (place + 1) cs) (instruction Next 0 place ∷ []) _ _ (commands_kept cs (place + 1)) refl)
    command_kept (choice bs) place = branches_aimed bs place (place + branches_length bs) ∙ choice_known bs place

    commands_kept : (cs : CommandForms) (place : ℕ) → map (aimed target) (commands_code tables place cs) ≡ commands_code tables place cs
    commands_kept no_command place = refl
    commands_kept (command c cs) place = both (command_code tables place c) (commands_code tables (place + command_length c) cs) _ _ (command_kept c place) (commands_kept cs (place + command_length c))

    branches_aimed : (bs : BranchForms) (place n : ℕ) → map (aimed target) (branches_code tables place bs n) ≡ branches_code tables place bs (or_target target n)
    branches_aimed no_branch place n = refl
    branches_aimed (otherwise cs) place n = commands_kept cs place
    branches_aimed (branch t cs at bs) place n =
        let block : ℕ = place + test_length t in
        let next : ℕ = block + commands_length cs + leave_length bs in
        let some : 1 ≤ next = omega (arith, test_some t) in
        let tested = test_aimed t place next false ∙ ap (λ m. test_code tables place t false m) (known_target target next some) in
        let a = test_code tables place t false next in
        let b = commands_code tables block cs in
        let c = leave_code bs n in
        both (a ++ b ++ c) (branches_code tables next bs n) _ _ (both (a ++ b) c _ _ (both a b _ _ tested (commands_kept cs block)) (leave_aimed bs n)) (branches_aimed bs next n)

-- where no block is left by a jump, the end doesn't matter
no_leave : (tables : Tables) (bs : BranchForms) (place m n : ℕ) → first_leave_length bs ≡ 0 → branches_code tables place bs m ≡ branches_code tables place bs n
no_leave tables no_branch place m n none = refl
no_leave tables (otherwise cs) place m n none = refl
no_leave tables (branch t cs at no_branch) place m n none = refl
no_leave tables (branch t cs at (otherwise ds)) place m n none = absurd (omega (arith, none))
no_leave tables (branch t cs at (branch u ds bt bs)) place m n none = absurd (omega (arith, none))

-- ---- the coder

-- from one place to another the jumps are aimed
abbrev pub Aims : Coder → Coder → ℕ → ℕ → ℕ → Type 0
Aims old new from end target = (before piece after : List Instruction) → old.instructions.items ≡ before ++ piece ++ after → from ≡ length before → end ≡ length before + length piece → new.instructions.items ≡ before ++ map (aimed target) piece ++ after

regrouped : (a x y z : List Instruction) → a ++ x ++ (y ++ z) ≡ a ++ (x ++ y ++ z)
regrouped a x y z = append_assoc a x (y ++ z) ∙ ap (λ l. a ++ l) (sym (append_assoc x y z))

-- a branch, whose test is aimed when its block and its jump stand
pub branch_put : (a b c d e : Coder) (t : TestForm) (cs : CommandForms) (bs : BranchForms) (from end target : ℕ)
    → Puts a b (test_code a.tables.now (length a.instructions.items) t false 0) → Puts b c (commands_code b.tables.now (length b.instructions.items) cs) → Puts c d (leave_code bs 0)
    → e.tables.now ≡ d.tables.now → from ≡ length a.instructions.items → end ≡ length b.instructions.items → target ≡ length d.instructions.items → Aims d e from end target
    → Puts a e (branch_code a.tables.now (length a.instructions.items) t cs bs)
branch_put a b c d e t cs bs from end target p q r same is_from is_end is_target aims =
    let tables = a.tables.now in
    let out = a.instructions.items in
    let place : ℕ = length out in
    let block : ℕ = place + test_length t in
    let next : ℕ = block + commands_length cs + leave_length bs in
    let waiting = test_code tables place t false 0 in
    let inner = commands_code tables block cs in
    let leave = leave_code bs 0 in
    let test_long : length waiting ≡ test_length t = test_code_length tables t place false 0 in
    let two : Puts a c (waiting ++ inner) = puts_then a b c waiting (test_length t) (λ ts n. commands_code ts n cs) test_long p q in
    let all : Puts a d (waiting ++ inner ++ leave) = puts_both a c d (waiting ++ inner) leave two r in
    let long : length (waiting ++ inner ++ leave) ≡ test_length t + commands_length cs + leave_length bs =
    length_two (waiting ++ inner) leave _ _ (length_two waiting inner _ _ test_long (commands_code_length tables cs block)) (leave_code_length tables bs 0) in
    let test_end : end ≡ place + length waiting = is_end ∙ ap length p.instructions ∙ length-append out waiting in
    let is_next : target ≡ next = omega (arith, is_target, ap length all.instructions, length-append out (waiting ++ inner ++ leave), long) in
    let there = aims out waiting (inner ++ leave) (all.instructions ∙ sym (regrouped out waiting inner leave)) is_from test_end in
    let known : map (aimed target) waiting ≡ test_code tables place t false next = test_aimed target tables t place 0 false ∙ ap (λ n. test_code tables place t false n) is_next in
    record {
      tables = same ∙ all.tables;
      instructions = there ∙ ap (λ l. out ++ l ++ (inner ++ leave)) known ∙ regrouped out (test_code tables place t false next) inner leave;
    }

-- where its jumps to the end are aimed, or there are none, the code of a command is that
unaimed_aimed : (target : ℕ) (tables : Tables) (c : CommandForm) (place : ℕ) → target ≡ place + command_length c → map (aimed target) (unaimed_code tables place c) ≡ command_code tables place c
unaimed_aimed target tables (does act string at) place is_end = command_kept target tables (does act string at) place
unaimed_aimed target tables (for_every_part cs at) place is_end = command_kept target tables (for_every_part cs at) place
unaimed_aimed target tables (choice bs) place is_end = branches_aimed target tables bs place 0 ∙ ap (λ n. branches_code tables place bs n) is_end

unaimed_stands : (tables : Tables) (c : CommandForm) (place : ℕ) → leaves_length c ≡ 0 → unaimed_code tables place c ≡ command_code tables place c
unaimed_stands tables (does act string at) place none = refl
unaimed_stands tables (for_every_part cs at) place none = refl
unaimed_stands tables (choice bs) place none = no_leave tables bs place 0 _ none

unaimed_length : (tables : Tables) (c : CommandForm) (place : ℕ) → length (unaimed_code tables place c) ≡ command_length c
unaimed_length tables (does act string at) place = command_code_length tables (does act string at) place
unaimed_length tables (for_every_part cs at) place = command_code_length tables (for_every_part cs at) place
unaimed_length tables (choice bs) place = branches_code_length tables bs place 0

-- a command, whose jumps to its end are aimed when that is known
pub command_put : (a b e : Coder) (c : CommandForm) (from end target : ℕ) → Puts a b (unaimed_code a.tables.now (length a.instructions.items) c)
    → e.tables.now ≡ b.tables.now → from ≡ length a.instructions.items → end ≡ length b.instructions.items → target ≡ length b.instructions.items → Aims b e from end target
    → Puts a e (command_code a.tables.now (length a.instructions.items) c)
command_put a b e c from end target p same is_from is_end is_target aims =
    let tables = a.tables.now in
    let out = a.instructions.items in
    let place : ℕ = length out in
    let waiting = unaimed_code tables place c in
    let long : length waiting ≡ command_length c = unaimed_length tables c place in
    let whole : length b.instructions.items ≡ place + length waiting = ap length p.instructions ∙ length-append out waiting in
    let is_next : target ≡ place + command_length c = omega (arith, is_target, whole, long) in
    let there = aims out waiting [] (p.instructions ∙ sym (append-nil (out ++ waiting))) is_from (is_end ∙ whole) in
    record {
      tables = same ∙ p.tables;
      instructions = there ∙ append-nil (out ++ map (aimed target) waiting) ∙ ap (λ l. out ++ l) (unaimed_aimed target tables c place is_next);
    }

pub command_stands : (a b : Coder) (c : CommandForm) → leaves_length c ≡ 0 → Puts a b (unaimed_code a.tables.now (length a.instructions.items) c) → Puts a b (command_code a.tables.now (length a.instructions.items) c)
command_stands a b c none p = subst (λ l. Puts a b l) (unaimed_stands a.tables.now c (length a.instructions.items) none) p

-- as many instructions more as the code has
pub room_of : (a b : Coder) (code : List Instruction) (n : ℕ) → length code ≡ n → Puts a b code → length b.instructions.items ≡ length a.instructions.items + n
room_of a b code n long p = omega (arith, ap length p.instructions, length-append a.instructions.items code, long)
