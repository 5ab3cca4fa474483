-- The machine: what each instruction does, and where the run goes then.
use Rattle.std.specs.Prelude.{ℕ, zero, suc, ◌+◌, Bool, true, false, ◌&&◌, cond, not, ◌==◌, nat_lt, List, [], ◌∷◌, ◌++◌, Option, Some, None, length, take, slice_get, slice_index_or, slice_set, if◌then◌else◌}
use Rattle.std.specs.List.{concat}
use Rattle.std.specs.Option.{option_map_or}
use Rattle.octets.specs.Limits.{max_loops, max_stack, max_string, max_value}
use Rattle.bytecode_format.specs.declared.action.Action.TheVariants as action
use Rattle.bytecode_format.specs.declared.instruction.Instruction.{Instruction}
use Rattle.bytecode_format.specs.declared.operation.Operation.{Operation}
use Rattle.bytecode_format.specs.declared.operation.Operation.TheVariants.{Halt, Literal, Variable, Capture, Join, Set, Not, Jump, JumpIfTrue, JumpIfFalse, Keep, Discard, File, Store, Each, Next, Break, Take, Test}
use Rattle.bytecode_format.specs.declared.operation.TestOperation.{TestOperation}
use Rattle.bytecode_format.specs.declared.question.Question.{Question}
use Rattle.bytecode_format.specs.Operations.{operation_of}
use Rattle.bytecode_format.specs.Questions.{counts_in, question_in}
use Rattle.bytecode_format.specs.Code.{Code}
use Rattle.bytecode_format.specs.declared.modifiers.Modifiers.{Modifiers}
use Rattle.bytecode_format.specs.Modifiers.{modified, modifiers_numbered}
use Rattle.bytecode_verifier.specs.Rows.{is_well_formed, test_row}
use Rattle.bytecode_verifier.specs.Rules.{row_in}
use Rattle.bytecode_verifier.specs.Places.{holds_at}
use Rattle.bytecode_verifier.specs.Loops.{opens, closes, same_loops}
use Rattle.mime_decode.specs.Mail.{Mail, Part}
use Rattle.mime_decode.specs.Visited.{visited}
use Rattle.mail_matching.specs.Questions.{answer}
use Rattle.sieve_vm.specs.State.{Referred, Value, truth, text, Frame, State, current_part, Turn, goes, ends, traps}
use Rattle.sieve_vm.specs.Stack.{OnTop, Lists, texts_on_top, lists_counted, texts_in}
use Rattle.sieve_vm.specs.Charge.{charge_of}

-- what an operation does: the state that it leaves, still at its own place and without its charge,
-- from which the run goes on with the next instruction, jumps to a place, or ends; or it fails
pub data Effect : Type 0 where
  on : State → Effect
  jumps : ℕ → State → Effect
  halts : State → Effect
  fails : Effect

-- an entry on top of the stack, where there is room for it
abbrev pub push : Value → State → Effect
push value state = if nat_lt (length state.stack) max_stack then on (record state { stack = value ∷ state.stack }) else fails

-- with the truth value on top of the stack, which is taken
abbrev pub with_truth : (Bool → State → Effect) → State → List Value → Effect
with_truth go state (truth b ∷ rest) = go b (record state { stack = rest })
with_truth go state _ = fails

-- with the text on top of the stack, which is taken
abbrev pub with_text : (List ℕ → State → Effect) → State → List Value → Effect
with_text go state (text octets ∷ rest) = go octets (record state { stack = rest })
with_text go state _ = fails

-- with texts on top of the stack, which are taken
abbrev pub with_texts : (List (List ℕ) → State → Effect) → State → Option OnTop → Effect
with_texts go state None = fails
with_texts go state (Some top) = go top.texts (record state { stack = top.below })

-- with lists on top of the stack, which are taken
abbrev pub with_lists : (Lists → State → Effect) → State → Option Lists → Effect
with_lists go state None = fails
with_lists go state (Some top) = go top (record state { stack = top.below })

-- a jump is forward, and keeps the open loops
abbrev pub is_sound_jump : Referred → State → Instruction → Bool
is_sound_jump program state i = nat_lt state.place i.c && program.same_loops state.place i.c

-- to the target where the truth value is this one, else on
abbrev pub branch : ℕ → Bool → Bool → State → Effect
branch target wanted value state = if cond wanted value (not value) then jumps target state else on state

abbrev pub with_string : State → Option (List ℕ) → Effect
with_string state None = fails
with_string state (Some string) = push (text string) state

-- the texts, one after the other, as one text, of which the first octets stay
abbrev pub join : List (List ℕ) → State → Effect
join texts state = push (text (take max_string (concat texts))) state

-- the variable's value is the text, modified, of which the first octets stay
abbrev pub set_modified : ℕ → Option Modifiers → List ℕ → State → Effect
set_modified variable None value state = fails
set_modified variable (Some modifiers) value state =
    if nat_lt variable (length state.variables) then on (record state { variables = slice_set state.variables variable (take max_value (modified modifiers value)) }) else fails

abbrev pub set_variable : Instruction → List ℕ → State → Effect
set_variable i value state = set_modified i.c (modifiers_numbered i.a) value state

-- the folder is listed, and the implicit keep is taken away
abbrev pub file : List ℕ → State → Effect
file folder state = on (record state { actions = state.actions ++ action.File folder ∷ []; implicit_keep = false })

-- with the current part, its number first
abbrev pub with_part : (ℕ → Part → State → Effect) → Mail → State → List Frame → Effect
with_part go mail state [] = fails
with_part go mail state (frame ∷ frames) = option_map_or (λ part. go frame.part part state)
    (slice_get mail.parts frame.part) fails

-- the part is stored in the folder; the implicit keep stays
abbrev pub store : ℕ → List ℕ → State → Effect
store number folder state = on (record state { actions = state.actions ++ action.Store folder number ∷ [] })

abbrev pub store_part : ℕ → Part → State → Effect
store_part number part state = with_text (store number) state state.stack

-- with what a number stands for
abbrev pub with_meant : {A : Type 0} → (A → Effect) → Option A → Effect
with_meant go None = fails
with_meant go (Some meant) = go meant

-- whether a test has matched, with the captures after it; one that hasn't leaves them
abbrev pub tested : State → Option (List (List ℕ)) → Effect
tested state None = push (truth false) state
tested state (Some captures) = push (truth true) (record state { captures = captures })

-- whether a test is about the current part, and whether there is none
abbrev pub is_about_part : TestOperation → Bool
is_about_part test = (test_row test).needs_part

abbrev pub is_outside : List Frame → Bool
is_outside [] = true
is_outside (frame ∷ frames) = false

-- what asking a question of the message comes to, with these lists
abbrev pub ask : Mail → Question → Lists → State → Effect
ask mail question lists state =
    tested state (answer mail (current_part state.frames) question (texts_in lists) state.captures)

-- the variable's value is the first octets of the current part's content, so many, or all where there are fewer
abbrev pub set_content : Instruction → ℕ → Part → State → Effect
set_content i number part state =
    if nat_lt i.c (length state.variables) then on (record state { variables = slice_set state.variables i.c (take i.b part.content) }) else fails

-- a loop up to the Next at a place is open with the first of the parts; without parts the run goes on after it
abbrev pub open_loop : ℕ → List ℕ → State → Effect
open_loop next [] state = jumps (suc next) state
open_loop next (part ∷ rest) state = on (record state { frames = record { each = state.place; next = next; part = part; rest = rest } ∷ state.frames })

-- the loop of an Each whose Next stands at a place, where no more are open than may be
abbrev pub each : Referred → Mail → ℕ → State → Effect
each program mail next state =
    if program.are_partners state.place next && nat_lt (length state.frames) max_loops then open_loop next (visited (current_part state.frames) mail) state else fails

-- the loop goes on with its next part, or it is closed
abbrev pub next_part : Frame → List Frame → List ℕ → State → Effect
next_part frame frames [] state = on (record state { frames = frames })
next_part frame frames (part ∷ rest) state = jumps (suc frame.each) (record state { frames = record frame { part = part; rest = rest } ∷ frames })

-- the innermost open loop is that of an Each at a place and of this Next
abbrev pub next : Referred → ℕ → State → List Frame → Effect
next program each state [] = fails
next program each state (frame ∷ frames) =
    if program.are_partners each state.place && (frame.each == each) && (frame.next == state.place) then next_part frame frames frame.rest state else fails

-- so many loops are closed, the innermost first, and the run goes on after the Next of the last
abbrev pub close : ℕ → State → List Frame → Effect
close zero state frames = fails
close (suc n) state [] = fails
close (suc zero) state (frame ∷ frames) = jumps (suc frame.next) (record state { frames = frames })
close (suc (suc n)) state (frame ∷ frames) = close (suc n) state frames

-- what each operation does
abbrev pub effect : Referred → Mail → Operation → Instruction → State → Effect
effect program mail Halt i state = halts state
effect program mail Literal i state = with_string state (slice_get program.strings i.c)
effect program mail Variable i state = with_string state (slice_get state.variables i.c)
effect program mail Capture i state = push (text (slice_index_or state.captures i.a [])) state
effect program mail Join i state = with_texts join state (texts_on_top i.b state.stack)
effect program mail Set i state = with_text (set_variable i) state state.stack
effect program mail (Test test) i state = if is_about_part test && is_outside state.frames then fails else with_meant
    (λ question. with_lists (ask mail question) state (lists_counted (counts_in test i) state.stack))
    (question_in program.numbers test i)
effect program mail Not i state = with_truth (λ b s. on (record s { stack = truth (not b) ∷ s.stack })) state state.stack
effect program mail Jump i state = if is_sound_jump program state i then jumps i.c state else fails
effect program mail JumpIfTrue i state = if is_sound_jump program state i then with_truth (branch i.c true) state state.stack else fails
effect program mail JumpIfFalse i state = if is_sound_jump program state i then with_truth (branch i.c false) state state.stack else fails
effect program mail Keep i state = on (record state { actions = state.actions ++ action.Keep ∷ []; implicit_keep = false })
effect program mail Discard i state = on (record state { implicit_keep = false })
effect program mail File i state = with_text file state state.stack
effect program mail Store i state = with_part store_part mail state state.frames
effect program mail Each i state = each program mail i.c state
effect program mail Next i state = next program i.c state state.frames
effect program mail Break i state = close i.a state state.frames
effect program mail Take i state = with_part (set_content i) mail state state.frames

-- the instructions at two places are an Each and a Next that name each other
abbrev pub are_partners : Code → ℕ → ℕ → Bool
are_partners code each next =
    holds_at code each (λ i. opens (operation_of i.op) && (i.c == next))
    && holds_at code next (λ i. closes (operation_of i.op) && (i.c == each))

-- what the instructions of a program may refer to
abbrev pub referred_in : Code → Referred
referred_in code = record { strings = code.strings; numbers = code.numbers; same_loops = same_loops code; are_partners = are_partners code }

-- the turn of an instruction at a place, from its charge and its effect
abbrev pub turn : ℕ → Effect → Turn
turn cost (on state) = goes (record state { place = suc state.place; charge = state.charge + cost })
turn cost (jumps target state) = goes (record state { place = target; charge = state.charge + cost })
turn cost (halts state) = ends (record state { charge = state.charge + cost })
turn cost fails = traps

-- an octet that names no operation traps, and so do fields out of their ranges
abbrev pub turn_of : Code → Mail → Option Operation → Instruction → State → Turn
turn_of code mail None i state = traps
turn_of code mail (Some operation) i state =
    if is_well_formed (row_in code i) i then turn (charge_of (referred_in code) mail operation i state) (effect (referred_in code) mail operation i state) else traps

-- a place past the end traps
abbrev pub turn_at : Code → Mail → State → Option Instruction → Turn
turn_at code mail state None = traps
turn_at code mail state (Some i) = turn_of code mail (operation_of i.op) i state

-- one step
abbrev pub step : Code → Mail → State → Turn
step code mail state = turn_at code mail state (slice_get code.instructions state.place)
