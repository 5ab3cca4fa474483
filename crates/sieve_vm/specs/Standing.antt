-- Private: how the machine's fields stand for a state of a run.
use Rattle.std.specs.Prelude.{◌≡◌, ◌+◌, ℕ, Bool, true, List, [], ◌∷◌, Option, Some, None, is_some, map, reverse}
use Rattle.std.specs.Option.{unwrap_or}
use Rattle.bytecode_format.specs.Actions.{first_occurrences}
use Rattle.bytecode_format.specs.Code.{Code}
use Rattle.bytecode_format.specs.declared.question.Counts.{Counts}
use Rattle.bytecode_format.specs.declared.question.Question.{Question}
use Rattle.mail_matching.specs.FirstMatch.{no_captures}
use Rattle.mail_matching.specs.Questions.{answer}
use Rattle.mail_matching.specs.Texts.{AreTexts}
use Rattle.mime_decode.specs.Mail.{Mail}
use Rattle.sieve_vm.specs.declared.entry.Entry.{Entry}
use Rattle.sieve_vm.specs.declared.entry.Entry.TheVariants.{Truth, Text}
use Rattle.sieve_vm.specs.SharedTexts.{items_of}
use Rattle.sieve_vm.specs.declared.machine.Done.{Done}
use Rattle.sieve_vm.specs.declared.machine.Flow.{Flow}
use Rattle.sieve_vm.specs.declared.machine.Flow.TheVariants.{On, To, Ends}
use Rattle.sieve_vm.specs.declared.machine.Machine.{Machine}
use Rattle.sieve_vm.specs.declared.machine.Position.{Position}
use Rattle.sieve_vm.specs.declared.workspace.Pushed.{Pushed}
use Rattle.sieve_vm.specs.declared.workspace.Workspace.{Workspace}
use Rattle.sieve_vm.specs.State.{Value, truth, text, State, start}
use Rattle.sieve_vm.specs.Machine.{Effect, on, jumps, halts}
use Rattle.sieve_vm.specs.Runs.{Run}
use Rattle.sieve_vm.specs.Stack.{Lists, lists_counted, texts_in}
use Rattle.sieve_vm.specs.Charge.{cost_of_asking}

-- an entry of the stack as the value that it is
abbrev pub value_of : Entry → Value
value_of (Truth b) = truth b
value_of (Text octets) = text (items_of octets)

-- the octets of an entry that is a text
abbrev pub octets_of : Entry → List ℕ
octets_of (Truth b) = []
octets_of (Text octets) = items_of octets

-- the values below a truth value, with it where it stands apart on top of them
abbrev pub with_top : Option Bool → List Value → List Value
with_top None below = below
with_top (Some b) below = truth b ∷ below

-- what the stack, the variables and the captures hold
pub record Held : Type 0 where
  pub stack : List Value
  pub variables : List (List ℕ)
  pub captures : List (List ℕ)

abbrev pub held_of : Workspace → Held
held_of work =
    record {
      stack = with_top work.top (map value_of (reverse work.entries.items));
      variables = map items_of work.variables.items;
      captures = work.captures;
    }

-- a workspace with which nothing was done
abbrev pub IsNew : Workspace → Type 0
IsNew work = (work.top ≡ None) × (work.entries.items ≡ []) × (work.variables.items ≡ []) × (work.captures ≡ no_captures)

-- what a state holds there
abbrev pub held_by : State → Held
held_by state = record { stack = state.stack; variables = state.variables; captures = state.captures }

-- what is held after a question with these lists: they are taken, whether it is true is pushed, and the captures are those after it
abbrev pub asked : Mail → Option ℕ → Question → Lists → Held → Held
asked mail current question top held =
    record {
      stack = truth (is_some (answer mail current question (texts_in top) held.captures)) ∷ top.below;
      variables = held.variables;
      captures = unwrap_or (answer mail current question (texts_in top) held.captures) held.captures;
    }

-- lists of so many texts of a test are on top of the stack
abbrev pub HasLists : Counts → Held → Type 0
HasLists counts held =
    (top : Lists) × ((lists_counted counts held.stack ≡ Some top) × AreTexts top.names × AreTexts top.params × AreTexts top.keys)

-- a question was asked with lists of so many texts, and that costs so much
abbrev pub WasAsked : Mail → Option ℕ → Question → Counts → Held → Held → ℕ → Type 0
WasAsked mail current question counts old new cost =
    (top : Lists) → lists_counted counts old.stack ≡ Some top
    → (cost ≡ cost_of_asking mail current question top) × (new ≡ asked mail current question top old)

-- the octets of the entries that are lent for a test
abbrev pub texts_of : Pushed → List (List ℕ)
texts_of pushed = map octets_of pushed.entries.now

-- what is charged one
abbrev pub once : Flow → Done
once flow = record { flow = flow; cost = 0 }

-- what is charged so much beyond one, and goes on
abbrev pub charged_for : ℕ → Done
charged_for cost = record { flow = On; cost = cost }

-- the machine stands for the state of a run on the message, but for its place and charge
pub record Represents (mail : Mail) (state : State) (machine : Machine) : Type 0 where
  pub work : held_of machine.work ≡ held_by state
  pub mail_is : machine.loops.mail ≡ mail
  pub frames : machine.loops.frames ≡ state.frames
  pub actions : machine.actions ≡ first_occurrences state.actions
  pub implicit_keep : machine.implicit_keep ≡ state.implicit_keep

-- with its position it stands for all of the state
pub record Stands (mail : Mail) (state : State) (position : Position) (machine : Machine) : Type 0 where
  pub place : position.place ≡ state.place
  pub charge : position.charged ≡ state.charge
  pub holds : Represents mail state machine

-- a machine with which nothing was done
pub record IsNewMachine (machine : Machine) : Type 0 where
  pub work : IsNew machine.work
  pub frames : machine.loops.frames ≡ []
  pub actions : machine.actions ≡ []
  pub implicit_keep : machine.implicit_keep ≡ true

-- the machine and its position stand for this state of the program's run
pub record IsIn (code : Code) (mail : Mail) (state : State) (position : Position) (machine : Machine) : Type 0 where
  pub steps : ℕ
  pub run : Run code mail steps (start code) state
  pub stands : Stands mail state position machine

-- they stand for a state of the program's run
abbrev pub IsRunning : Code → Mail → Position → Machine → Type 0
IsRunning code mail position machine = (state : State) × IsIn code mail state position machine

-- the machine has had the effect, and answers where the run goes
abbrev pub GoesFrom : Mail → Effect → Flow → Machine → Type 0
GoesFrom mail (on state) On machine = Represents mail state machine
GoesFrom mail (jumps target state) (To place) machine = (place ≡ target) × Represents mail state machine
GoesFrom mail (halts state) Ends machine = Represents mail state machine
GoesFrom mail _ _ machine = ⊥

-- the same, and it answers what that is charged beyond one
abbrev pub HasDone : Mail → Effect → ℕ → Done → Machine → Type 0
HasDone mail effect charge done machine = GoesFrom mail effect done.flow machine × (1 + done.cost ≡ charge)
