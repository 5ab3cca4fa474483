-- A run lists no more actions than its program's instructions may, and those that are made final are one more at most.
use Rattle.std.proofs.Common.{◌≡◌, ℕ, zero, suc, ◌+◌, ◌≤◌, Bool, true, false, not, ◌&&◌, ◌==◌, nat_lt, cond, List, [], ◌∷◌, ◌++◌, Option, Some, None, filter, length, length-append, slice_get, slice_index_or, slice_set, take, refl, ap, subst, arith}
use Rattle.std.specs.List.{concat}
use Rattle.std.specs.Option.{option_map_or}
use Rattle.std.proofs.lemmas.List.Elements.{filter-append}
use Rattle.octets.specs.Limits.{max_loops, max_stack, max_string, max_value}
use Rattle.bytecode_format.specs.declared.action.Action.{Action}
use Rattle.bytecode_format.specs.declared.action.Action.TheVariants as action
use Rattle.bytecode_format.specs.declared.instruction.Instruction.{Instruction}
use Rattle.bytecode_format.specs.declared.modifiers.Modifiers.{Modifiers}
use Rattle.bytecode_format.specs.declared.operation.Operation.{Operation}
use Rattle.bytecode_format.specs.declared.operation.Operation.TheVariants.{Halt, Literal, Variable, Capture, Join, Set, Not, Jump, JumpIfTrue, JumpIfFalse, Keep, Discard, File, Store, Each, Next, Break, Take, Test}
use Rattle.bytecode_format.specs.Action.{is_same}
use Rattle.bytecode_format.specs.Actions.{first_occurrences, is_listed, with_implicit_keep}
use Rattle.bytecode_format.specs.Modifiers.{modified, modifiers_numbered}
use Rattle.bytecode_format.specs.Operations.{operation_of}
use Rattle.bytecode_format.specs.Questions.{counts_in, question_in}
use Rattle.bytecode_format.specs.Code.{Code}
use Rattle.bytecode_verifier.specs.Acceptance.{IsAccepted}
use Rattle.bytecode_verifier.specs.Counting.{counts, counted_at, times_at, entries_at}
use Rattle.bytecode_verifier.specs.Rows.{is_well_formed}
use Rattle.bytecode_verifier.specs.Rules.{row_in}
use Rattle.bytecode_verifier.specs.declared.counting.Counted.{Counted}
use Rattle.bytecode_verifier.specs.declared.counting.Counted.TheVariants.{Actions, Stores}
use Rattle.bytecode_verifier.proofs.Nesting.{nesting}
use Rattle.mime_decode.specs.Mail.{Mail, Part, IsMail}
use Rattle.mime_decode.specs.Visited.{visited}
use Rattle.mail_matching.specs.Questions.{answer}
use Rattle.sieve_vm.specs.State.{Referred, Value, truth, text, Frame, State, current_part, Turn, goes, ends, traps, start}
use Rattle.sieve_vm.specs.Stack.{OnTop, Lists, texts_on_top, lists_counted, texts_in}
use Rattle.sieve_vm.specs.Charge.{charge_of}
use Rattle.sieve_vm.specs.Machine.{Effect, on, jumps, halts, fails, push, with_truth, with_text, with_texts, with_lists, with_string, with_part, with_meant, branch, is_sound_jump, join, set_modified, set_variable, file, store, store_part, ask, is_about_part, is_outside, tested, set_content, open_loop, next_part, next, close, effect, turn, turn_of, turn_at, step, are_partners, referred_in}
use Rattle.sieve_vm.specs.Runs.{Run, RunEnds}
use Rattle.sieve_vm.specs.Ending.{IsOutcome}
use Rattle.sieve_vm.specs.Listed.{is_counted, number_of}
use Rattle.sieve_vm.specs.Potential.{left_from}
use Rattle.sieve_vm.proofs.Falls.{potential-here, counted-start}
use Rattle.sieve_vm.proofs.Opened.{open-length, inside}
use Rattle.sieve_vm.proofs.Reached.{IsReached, IsSound}
use Rattle.sieve_vm.proofs.SoundSteps.{step_is_sound, start_is_reached}

-- ---- operations that list no action

-- an effect leaves these actions
abbrev Has : List Action → Effect → Type 0
Has actions (on to) = to.actions ≡ actions
Has actions (jumps target to) = to.actions ≡ actions
Has actions (halts to) = to.actions ≡ actions
Has actions fails = Unit {0}

has_if : (actions : List Action) (b : Bool) (e : Effect) → Has actions e → Has actions (cond b e fails)
has_if actions true e has = has
has_if actions false e has = tt

has_unless : (actions : List Action) (b : Bool) (e : Effect) → Has actions e → Has actions (cond b fails e)
has_unless actions true e has = tt
has_unless actions false e has = has

has_push : (value : Value) (s : State) → Has s.actions (push value s)
has_push value s = has_if s.actions (nat_lt (length s.stack) max_stack) (on (record s { stack = value ∷ s.stack })) refl

has_string : (s : State) (o : Option (List ℕ)) → Has s.actions (with_string s o)
has_string s None = tt
has_string s (Some string) = has_push (text string) s

has_tested : (s : State) (o : Option (List (List ℕ))) → Has s.actions (tested s o)
has_tested s None = has_push (truth false) s
has_tested s (Some captures) = has_push (truth true) (record s { captures = captures })

has_texts : (go : List (List ℕ) → State → Effect) (s : State) (o : Option OnTop) → ((texts : List (List ℕ)) (t : State) → Has t.actions (go texts t)) → Has s.actions (with_texts go s o)
has_texts go s None each = tt
has_texts go s (Some top) each = each top.texts (record s { stack = top.below })

has_lists : (go : Lists → State → Effect) (s : State) (o : Option Lists) → ((lists : Lists) (t : State) → Has t.actions (go lists t)) → Has s.actions (with_lists go s o)
has_lists go s None each = tt
has_lists go s (Some top) each = each top (record s { stack = top.below })

has_text : (go : List ℕ → State → Effect) (s : State) (stack : List Value) → ((octets : List ℕ) (t : State) → Has t.actions (go octets t)) → Has s.actions (with_text go s stack)
has_text go s [] each = tt
has_text go s (truth b ∷ rest) each = tt
has_text go s (text octets ∷ rest) each = each octets (record s { stack = rest })

has_truth : (go : Bool → State → Effect) (s : State) (stack : List Value) → ((b : Bool) (t : State) → Has t.actions (go b t)) → Has s.actions (with_truth go s stack)
has_truth go s [] each = tt
has_truth go s (truth b ∷ rest) each = each b (record s { stack = rest })
has_truth go s (text octets ∷ rest) each = tt

has_meant : {A : Type 0} (actions : List Action) (go : A → Effect) (o : Option A) → ((meant : A) → Has actions (go meant)) → Has actions (with_meant go o)
has_meant actions go None each = tt
has_meant actions go (Some meant) each = each meant

has_part : (go : ℕ → Part → State → Effect) (mail : Mail) (s : State) (frames : List Frame) → ((number : ℕ) (part : Part) → Has s.actions (go number part s)) → Has s.actions (with_part go mail s frames)
has_part go mail s [] each = tt
has_part go mail s (frame ∷ frames) each = found (slice_get mail.parts frame.part)
  where
    found : (o : Option Part) → Has s.actions (option_map_or (λ part. go frame.part part s) o fails)
    found None = tt
    found (Some part) = each frame.part part

has_branch : (target : ℕ) (wanted value : Bool) (s : State) → Has s.actions (branch target wanted value s)
has_branch target wanted value s = either (cond wanted value (not value))
  where
    either : (b : Bool) → Has s.actions (cond b (jumps target s) (on s))
    either true = refl
    either false = refl

has_set : (variable : ℕ) (o : Option Modifiers) (value : List ℕ) (s : State) → Has s.actions (set_modified variable o value s)
has_set variable None value s = tt
has_set variable (Some modifiers) value s =
    has_if s.actions (nat_lt variable (length s.variables)) (on (record s { variables = slice_set s.variables variable (take max_value (modified modifiers value)) })) refl

has_open : (next : ℕ) (parts : List ℕ) (s : State) → Has s.actions (open_loop next parts s)
has_open next [] s = refl
has_open next (part ∷ rest) s = refl

has_next_part : (frame : Frame) (frames : List Frame) (parts : List ℕ) (s : State) → Has s.actions (next_part frame frames parts s)
has_next_part frame frames [] s = refl
has_next_part frame frames (part ∷ rest) s = refl

has_next : (program : Referred) (place : ℕ) (s : State) (frames : List Frame) → Has s.actions (next program place s frames)
has_next program place s [] = tt
has_next program place s (frame ∷ frames) =
    has_if s.actions (program.are_partners place s.place && (frame.each == place) && (frame.next == s.place)) (next_part frame frames frame.rest s) (has_next_part frame frames frame.rest s)

has_close : (number : ℕ) (s : State) (frames : List Frame) → Has s.actions (close number s frames)
has_close zero s frames = tt
has_close (suc number) s [] = tt
has_close (suc zero) s (frame ∷ frames) = refl
has_close (suc (suc number)) s (frame ∷ frames) = has_close (suc number) s frames

-- ---- what each operation lists

keep_counts : (counted : Counted) → is_counted counted action.Keep ≡ counts counted (Some Keep)
keep_counts Actions = refl
keep_counts Stores = refl

file_counts : (counted : Counted) (folder : List ℕ) → is_counted counted (action.File folder) ≡ counts counted (Some File)
file_counts Actions folder = refl
file_counts Stores folder = refl

store_counts : (counted : Counted) (folder : List ℕ) (part : ℕ) → is_counted counted (action.Store folder part) ≡ counts counted (Some Store)
store_counts Actions folder part = refl
store_counts Stores folder part = refl

module _ (counted : Counted) where
  -- an effect leaves at most so many that are counted
  abbrev Lists-most : ℕ → Effect → Type 0
  Lists-most most (on to) = number_of counted to.actions ≤ most
  Lists-most most (jumps target to) = number_of counted to.actions ≤ most
  Lists-most most (halts to) = number_of counted to.actions ≤ most
  Lists-most most fails = Unit {0}

  -- where it leaves those that were there
  as_before : (actions : List Action) (n : ℕ) (e : Effect) → Has actions e → Lists-most (number_of counted actions + n) e
  as_before actions n (on to) has = omega (arith, ap (number_of counted) has)
  as_before actions n (jumps target to) has = omega (arith, ap (number_of counted) has)
  as_before actions n (halts to) has = omega (arith, ap (number_of counted) has)
  as_before actions n fails has = tt

  -- one more action
  one_more : (actions : List Action) (a : Action) (b : Bool) → is_counted counted a ≡ b → number_of counted (actions ++ a ∷ []) ≤ number_of counted actions + cond b 1 0
  one_more actions a b same =
      omega (
        arith,
        ap length (filter-append (is_counted counted) actions (a ∷ [])),
        length-append (filter (is_counted counted) actions) (filter (is_counted counted) (a ∷ [])),
        few (is_counted counted a) b same,
      )
    where
      few : (c d : Bool) → c ≡ d → length (cond c (a ∷ []) []) ≤ cond d 1 0
      few true true e = omega arith
      few false d e = omega arith
      few true false e = absurd cc

  most_file : (most : ℕ) (s : State) (stack : List Value) → ((folder : List ℕ) → number_of counted (s.actions ++ action.File folder ∷ []) ≤ most) → Lists-most most (with_text file s stack)
  most_file most s [] each = tt
  most_file most s (truth b ∷ rest) each = tt
  most_file most s (text folder ∷ rest) each = each folder

  most_store_text : (most part : ℕ) (s : State) (stack : List Value) → ((folder : List ℕ) → number_of counted (s.actions ++ action.Store folder part ∷ []) ≤ most) → Lists-most most (with_text (store part) s stack)
  most_store_text most part s [] each = tt
  most_store_text most part s (truth b ∷ rest) each = tt
  most_store_text most part s (text folder ∷ rest) each = each folder

  most_store : (most : ℕ) (mail : Mail) (s : State) (frames : List Frame) → ((part : ℕ) (folder : List ℕ) → number_of counted (s.actions ++ action.Store folder part ∷ []) ≤ most) → Lists-most most (with_part store_part mail s frames)
  most_store most mail s [] each = tt
  most_store most mail s (frame ∷ frames) each = found (slice_get mail.parts frame.part)
    where
      found : (o : Option Part) → Lists-most most (option_map_or (λ part. store_part frame.part part s) o fails)
      found None = tt
      found (Some part) = most_store_text most frame.part s s.stack (each frame.part)

  module _ (code : Code) (mail : Mail) (i : Instruction) (s : State) where
    -- an operation that lists none
    before : (o : Operation) → Has s.actions (effect (referred_in code) mail o i s) → Lists-most (number_of counted s.actions + cond (counts counted (Some o)) 1 0) (effect (referred_in code) mail o i s)
    before o has = as_before s.actions (cond (counts counted (Some o)) 1 0) (effect (referred_in code) mail o i s) has

    lists : (o : Operation) → Lists-most (number_of counted s.actions + cond (counts counted (Some o)) 1 0) (effect (referred_in code) mail o i s)
    lists Halt = before Halt refl
    lists Literal = before Literal (has_string s (slice_get code.strings i.c))
    lists Variable = before Variable (has_string s (slice_get s.variables i.c))
    lists Capture = before Capture (has_push (text (slice_index_or s.captures i.a [])) s)
    lists Join = before Join (has_texts join s (texts_on_top i.b s.stack) (λ texts t. has_push (text (take max_string (concat texts))) t))
    lists Set = before Set (has_text (set_variable i) s s.stack (λ value t. has_set i.c (modifiers_numbered i.a) value t))
    lists (Test test) =
        let counted_lists = lists_counted (counts_in test i) s.stack in
        before (Test test) (has_unless s.actions (is_about_part test && is_outside s.frames) (with_meant (λ question. with_lists (ask mail question) s counted_lists) (question_in code.numbers test i))
        (has_meant s.actions (λ question. with_lists (ask mail question) s counted_lists) (question_in code.numbers test i)
        (λ question. has_lists (ask mail question) s counted_lists (λ lists t. has_tested t (answer mail (current_part t.frames) question (texts_in lists) t.captures)))))
    lists Not = before Not (has_truth (λ b t. on (record t { stack = truth (not b) ∷ t.stack })) s s.stack (λ b t. refl))
    lists Jump = before Jump (has_if s.actions (is_sound_jump (referred_in code) s i) (jumps i.c s) refl)
    lists JumpIfTrue = before JumpIfTrue (has_if s.actions (is_sound_jump (referred_in code) s i) (with_truth (branch i.c true) s s.stack) (has_truth (branch i.c true) s s.stack (λ b t. has_branch i.c true b t)))
    lists JumpIfFalse = before JumpIfFalse (has_if s.actions (is_sound_jump (referred_in code) s i) (with_truth (branch i.c false) s s.stack) (has_truth (branch i.c false) s s.stack (λ b t. has_branch i.c false b t)))
    lists Keep = one_more s.actions action.Keep (counts counted (Some Keep)) (keep_counts counted)
    lists Discard = before Discard refl
    lists File = most_file (number_of counted s.actions + cond (counts counted (Some File)) 1 0) s s.stack (λ folder. one_more s.actions (action.File folder) (counts counted (Some File)) (file_counts counted folder))
    lists Store = most_store (number_of counted s.actions + cond (counts counted (Some Store)) 1 0) mail s s.frames (λ part folder. one_more s.actions (action.Store folder part) (counts counted (Some Store)) (store_counts counted folder part))
    lists Each =
        before Each (has_if s.actions (are_partners code s.place i.c && nat_lt (length s.frames) max_loops) (open_loop i.c (visited (current_part s.frames) mail) s)
        (has_open i.c (visited (current_part s.frames) mail) s))
    lists Next = before Next (has_next (referred_in code) i.c s s.frames)
    lists Break = before Break (has_close i.a s s.frames)
    lists Take =
        before Take (has_part (set_content i) mail s s.frames
        (λ number part. has_if s.actions (nat_lt i.c (length s.variables)) (on (record s { variables = slice_set s.variables i.c (take i.b part.content) })) refl))

  -- a turn after which so many are listed at most
  abbrev Turns-most : ℕ → Turn → Type 0
  Turns-most most (goes to) = number_of counted to.actions ≤ most
  Turns-most most (ends end) = number_of counted end.actions ≤ most
  Turns-most most traps = Unit {0}

  most_turn : (most cost : ℕ) (e : Effect) → Lists-most most e → Turns-most most (turn cost e)
  most_turn most cost (on to) few = few
  most_turn most cost (jumps target to) few = few
  most_turn most cost (halts to) few = few
  most_turn most cost fails few = tt

  module _ (code : Code) (mail : Mail) where
    most_step : (s : State) → Turns-most (number_of counted s.actions + counted_at counted code s.place) (step code mail s)
    most_step s = at (slice_get code.instructions s.place)
      where
        named : (i : Instruction) (o : Option Operation) → Turns-most (number_of counted s.actions + cond (counts counted o) 1 0) (turn_of code mail o i s)
        named i None = tt
        named i (Some o) = formed (is_well_formed (row_in code i) i)
          where
            formed : (b : Bool) → Turns-most (number_of counted s.actions + cond (counts counted (Some o)) 1 0) (cond b (turn (charge_of (referred_in code) mail o i s) (effect (referred_in code) mail o i s)) traps)
            formed true = most_turn _ (charge_of (referred_in code) mail o i s) (effect (referred_in code) mail o i s) (lists code mail i s o)
            formed false = tt

        at : (o : Option Instruction) → Turns-most (number_of counted s.actions + option_map_or (λ (i : Instruction). cond (counts counted (operation_of i.op)) 1 0) o 0) (turn_at code mail s o)
        at None = tt
        at (Some i) = named i (operation_of i.op)

    module _ (is : IsAccepted code) (known : IsMail mail) where
      abbrev price : ℕ → ℕ
      price = counted_at counted code

      abbrev still : State → ℕ
      still s = left_from code mail price s.place s.frames

      sound : (s : State) (turn : Turn) → IsReached code mail s → step code mail s ≡ turn → IsSound code mail s turn
      sound s turn there e = subst (IsSound code mail s) e (step_is_sound code mail is known s there)

      most : (s : State) (turn : Turn) → step code mail s ≡ turn → Turns-most (number_of counted s.actions + price s.place) turn
      most s turn e = subst (Turns-most (number_of counted s.actions + price s.place)) e (most_step s)

      -- along a run what is listed, and what may still be, together never rise
      along : (n : ℕ) (from to : State) → IsReached code mail from → Run code mail n from to → IsReached code mail to × (still to + number_of counted to.actions ≤ still from + number_of counted from.actions)
      along zero from to there run = (subst (IsReached code mail) run there, subst (λ (s : State). still s + number_of counted s.actions ≤ still from + number_of counted from.actions) run (omega arith))
      along (suc n) from to there run =
          let one = sound from (goes run.0) there run.1 in
          let rest = along n run.0 to one.0 run.2 in
          (rest.0, omega (arith, rest.1, one.2 price, most from (goes run.0) run.1))

      from_start : still (start code) ≡ times_at counted code (length mail.parts)
      from_start = counted-start code mail counted (nesting code is)

      reached : (n : ℕ) (s : State) → Run code mail n (start code) s → IsReached code mail s × (still s + number_of counted s.actions ≤ times_at counted code (length mail.parts))
      reached n s run =
          let all = along n (start code) s (start_is_reached code mail is known) run in
          let none : number_of counted (start code).actions ≡ 0 = refl in
          (all.0, omega (arith, all.1, from_start, none))

      pub listed_on_the_way : (n : ℕ) (s : State) → Run code mail n (start code) s → number_of counted s.actions ≤ times_at counted code (length mail.parts)
      listed_on_the_way n s run = omega (arith, (reached n s run).1)

      pub listed_at_the_end : (end : State) → RunEnds code mail end → number_of counted end.actions ≤ times_at counted code (length mail.parts)
      listed_at_the_end end over =
          let s = over.last in
          let all = reached over.steps s over.run in
          let depth = open-length mail s.frames _ all.0.opened in
          let here = potential-here code mail price s.frames s.place depth (inside code mail s.frames s.place (nesting code is) all.0.opened all.0.within) in
          omega (arith, all.1, here, most s (ends end) over.halts)

-- ---- the final actions

number_cons : (counted : Counted) (a : Action) (actions : List Action) → number_of counted (a ∷ actions) ≡ cond (is_counted counted a) 1 0 + number_of counted actions
number_cons counted a actions = go (is_counted counted a)
  where
    go : (b : Bool) → length (cond b (a ∷ filter (is_counted counted) actions) (filter (is_counted counted) actions)) ≡ cond b 1 0 + length (filter (is_counted counted) actions)
    go true = omega arith
    go false = omega arith

fewer_left : (counted : Counted) (keep : Action → Bool) (actions : List Action) → number_of counted (filter keep actions) ≤ number_of counted actions
fewer_left counted keep [] = omega arith
fewer_left counted keep (a ∷ actions) = go (keep a) (fewer_left counted keep actions)
  where
    go : (b : Bool) → number_of counted (filter keep actions) ≤ number_of counted actions → number_of counted (cond b (a ∷ filter keep actions) (filter keep actions)) ≤ number_of counted (a ∷ actions)
    go true rest = omega (arith, number_cons counted a (filter keep actions), number_cons counted a actions, rest)
    go false rest = omega (arith, number_cons counted a actions, rest)

fewer_once : (counted : Counted) (actions : List Action) → number_of counted (first_occurrences actions) ≤ number_of counted actions
fewer_once counted [] = omega arith
fewer_once counted (a ∷ actions) =
    let others : Action → Bool = λ other. not (is_same a other) in
    omega (
      arith,
      number_cons counted a (filter others (first_occurrences actions)),
      fewer_left counted others (first_occurrences actions),
      fewer_once counted actions,
      number_cons counted a actions,
    )

all_counted : (actions : List Action) → number_of Actions actions ≡ length actions
all_counted [] = refl
all_counted (a ∷ actions) = ap suc (all_counted actions)

-- with the implicit keep
with_keep : (counted : Counted) (listed : List Action) (implicit : Bool) → number_of counted (with_implicit_keep listed implicit) ≤ number_of counted listed + cond (counts counted (Some Keep)) 1 0
with_keep counted listed implicit = go (implicit && not (is_listed action.Keep listed))
  where
    go : (b : Bool) → number_of counted (cond b (listed ++ action.Keep ∷ []) listed) ≤ number_of counted listed + cond (counts counted (Some Keep)) 1 0
    go true = one_more counted listed action.Keep (counts counted (Some Keep)) (keep_counts counted)
    go false = omega arith

module _ (code : Code) (mail : Mail) (is : IsAccepted code) (known : IsMail mail) (actions : List Action) (charged : ℕ) (outcome : IsOutcome code mail actions charged) where
  final : (counted : Counted) → number_of counted actions ≤ times_at counted code (length mail.parts) + cond (counts counted (Some Keep)) 1 0
  final counted =
      let end = outcome.end in
      omega (
        arith,
        ap (number_of counted) outcome.actions_are,
        with_keep counted (first_occurrences end.actions) end.implicit_keep,
        fewer_once counted end.actions,
        listed_at_the_end counted code mail is known end outcome.over,
      )

  pub final_few : length actions ≤ entries_at code (length mail.parts)
  final_few = omega (arith, all_counted actions, final Actions)

  pub final_stores : number_of Stores actions ≤ times_at Stores code (length mail.parts)
  final_stores = omega (arith, final Stores)
