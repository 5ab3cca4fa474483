-- What a script does on a message, told event by event, and what its tests find there. What isn't reached has no event.
use Rattle.std.specs.Prelude.{ℕ, Bool, true, false, ◌&&◌, List, [], ◌∷◌, ◌++◌, flat_map, slice_get, Option, None, Some, if◌then◌else◌}
use Rattle.bytecode_format.specs.declared.action.Action.{Action}
use Rattle.bytecode_format.specs.declared.action.Action.TheVariants as action
use Rattle.bytecode_format.specs.Actions.{final_actions}
use Rattle.mail_matching.specs.Questions.{found}
use Rattle.mail_matching.specs.declared.finding.Finding.{Finding}
use Rattle.mime_decode.specs.Mail.{Mail}
use Rattle.mime_decode.specs.Visited.{visited}
use Rattle.sieve_check.specs.Acts.{act_row}
use Rattle.sieve_check.specs.declared.typed.Act.{Act}
use Rattle.sieve_check.specs.declared.typed.Act.TheVariants.{Keep, Discard, FileInto, Set, Take, Store, Leave, Stop}
use Rattle.bytecode_format.specs.declared.question.Question.{Question}
use Rattle.sieve_check.specs.Typed.{TestForm, asks, negation, all_of, any_of, TestForms, no_test, test, CommandForm, does, for_every_part, choice, CommandForms, no_command, command, BranchForms, no_branch, otherwise, branch}
use Rattle.sieve_meaning.specs.Meaning.{Effects, no_effects, expanded, texts_of, Verdict, test_does, Ending, normal, stopped, broken, effects_of, act_does, command_does, commands_do, stored}

-- what came of a test or a command
pub data Occurrence : Type 0 where
  -- what a simple test asks, whether it is true, and what it finds
  asked : Question → Bool → Option Finding → Occurrence
  -- whether the negation of a test is true, whether all tests are, and whether any is
  negated : Bool → Occurrence
  all_held : Bool → Occurrence
  any_held : Bool → Occurrence
  -- an action was done, with its string, expanded; where it sets a variable, with the value that this has then
  acted : Act → List ℕ → Occurrence
  -- a turn of a loop begins
  turned : Occurrence

-- an event: the number of the token at which the test or command begins, the current part, and what came of it. A
-- turn of a loop has the part of the turn
pub record Event : Type 0 where
  pub at : ℕ
  pub part : Option ℕ
  pub what : Occurrence

abbrev pub event : ℕ → Option ℕ → Occurrence → Event
event at part what = record { at = at; part = part; what = what }

-- the variable that an action sets, by its name, if it sets one
abbrev pub variable_of : Act → Option (List ℕ)
variable_of act = slice_get (act_row act).sets 0

-- what is told of an action: the value that the variable has then which it sets; its string, where it sets none
abbrev pub value_after : Option (List ℕ) → List ℕ → Effects → List ℕ
value_after None text after = text
value_after (Some name) text after = after.variables name

abbrev pub told_of : Act → List ℕ → Effects → List ℕ
told_of act text after = value_after (variable_of act) text after

abbrev pub act_event : Mail → Option ℕ → Act → List ℕ → ℕ → Effects → Event
act_event mail part act text at effects =
    event at part (acted act (told_of act text (effects_of (act_does mail part act text effects))))

-- what is told after a test, where it is true; and where it isn't
abbrev pub on_true : Verdict → (Effects → List Event) → List Event
on_true v next = if v.value then next v.effects else []

abbrev pub on_false : Verdict → (Effects → List Event) → List Event
on_false v next = if v.value then [] else next v.effects

-- what is told after commands that go on to the next
abbrev pub on_normal : Ending → (Effects → List Event) → List Event
on_normal (normal effects) next = next effects
on_normal (stopped effects) next = []
on_normal (broken loops effects) next = []

-- Below, the current part is that of the innermost loop, by its number; none outside of loops.

abbrev mutual
  -- the events of a test. A test of other tests is told after those that were asked
  pub test_events : Mail → Option ℕ → TestForm → Effects → List Event
  test_events mail part (asks question strings at) effects =
      event at part (asked question (test_does mail part (asks question strings at) effects).value
      (found mail part question (texts_of effects strings))) ∷ []
  test_events mail part (negation t at) effects =
      test_events mail part t effects
      ++ event at part (negated (test_does mail part (negation t at) effects).value) ∷ []
  test_events mail part (all_of t ts at) effects =
      (test_events mail part t effects ++ on_true (test_does mail part t effects) (λ e. all_events mail part ts e))
      ++ event at part (all_held (test_does mail part (all_of t ts at) effects).value) ∷ []
  test_events mail part (any_of t ts at) effects =
      (test_events mail part t effects ++ on_false (test_does mail part t effects) (λ e. any_events mail part ts e))
      ++ event at part (any_held (test_does mail part (any_of t ts at) effects).value) ∷ []

  -- those of tests, up to the first that isn't true
  pub all_events : Mail → Option ℕ → TestForms → Effects → List Event
  all_events mail part no_test effects = []
  all_events mail part (test t ts) effects =
      test_events mail part t effects ++ on_true (test_does mail part t effects) (λ e. all_events mail part ts e)

  -- those of tests, up to the first that is
  pub any_events : Mail → Option ℕ → TestForms → Effects → List Event
  any_events mail part no_test effects = []
  any_events mail part (test t ts) effects =
      test_events mail part t effects ++ on_false (test_does mail part t effects) (λ e. any_events mail part ts e)

-- those of a loop that begins at a token: each turn, and what is told in it, up to one that stops the script or leaves the loop
abbrev pub turns_events : ℕ → (ℕ → Effects → Ending) → (ℕ → Effects → List Event) → List ℕ → Effects → List Event
turns_events at turn told [] effects = []
turns_events at turn told (part ∷ parts) effects =
    (event at (Some part) turned ∷ told part effects)
    ++ on_normal (turn part effects) (λ e. turns_events at turn told parts e)

abbrev mutual
  -- those of a command
  pub command_events : Mail → Option ℕ → CommandForm → Effects → List Event
  command_events mail part (does act string at) effects =
      act_event mail part act (expanded effects string) at effects ∷ []
  command_events mail part (for_every_part cs at) effects =
      turns_events at (λ number e. commands_do mail (Some number) cs e) (λ number e. commands_events mail (Some number) cs e)
      (visited part mail) effects
  command_events mail part (choice branches) effects = choice_events mail part branches effects

  -- those of commands, one after the other
  pub commands_events : Mail → Option ℕ → CommandForms → Effects → List Event
  commands_events mail part no_command effects = []
  commands_events mail part (command c cs) effects =
      command_events mail part c effects ++ on_normal (command_does mail part c effects) (λ e. commands_events mail part cs e)

  -- those of the tests of branches, up to the first that is true, and of its block; else of that of the else
  pub choice_events : Mail → Option ℕ → BranchForms → Effects → List Event
  choice_events mail part no_branch effects = []
  choice_events mail part (otherwise cs) effects = commands_events mail part cs effects
  choice_events mail part (branch t cs at bs) effects =
      let v = test_does mail part t effects in
      test_events mail part t effects
      ++ (if v.value then commands_events mail part cs v.effects else choice_events mail part bs v.effects)

-- those of a script on a message
abbrev pub script_events : Mail → CommandForms → List Event
script_events mail script = commands_events mail None script no_effects

-- ---- what the events come to

-- the actions that an act lists with its string, expanded
abbrev pub actions_of : Option ℕ → Act → List ℕ → List Action
actions_of part Keep text = action.Keep ∷ []
actions_of part Discard text = []
actions_of part FileInto folder = action.File folder ∷ []
actions_of part (Set modifiers name) value = []
actions_of part (Take most name) value = []
actions_of part Store folder = stored part folder
actions_of part (Leave loops) text = []
actions_of part Stop text = []

-- it leaves the implicit keep as it stands
abbrev pub leaves_keep : Act → Bool
leaves_keep Keep = false
leaves_keep Discard = false
leaves_keep FileInto = false
leaves_keep (Set modifiers name) = true
leaves_keep (Take most name) = true
leaves_keep Store = true
leaves_keep (Leave loops) = true
leaves_keep Stop = true

-- the actions that an event lists
abbrev pub listed : Option ℕ → Occurrence → List Action
listed part (asked question value finding) = []
listed part (negated value) = []
listed part (all_held value) = []
listed part (any_held value) = []
listed part (acted act text) = actions_of part act text
listed part turned = []

-- what was listed by events, in order
abbrev pub event_actions : Event → List Action
event_actions e = listed e.part e.what

abbrev pub listed_by : List Event → List Action
listed_by events = flat_map event_actions events

-- whether the implicit keep stands after an event, where it stood
abbrev pub keeps : Occurrence → Bool
keeps (asked question value finding) = true
keeps (negated value) = true
keeps (all_held value) = true
keeps (any_held value) = true
keeps (acted act text) = leaves_keep act
keeps turned = true

-- whether it stands after events, where it stood or not before them
abbrev pub keep_after : Bool → List Event → Bool
keep_after stands [] = stands
keep_after stands (e ∷ es) = keep_after (stands && keeps e.what) es

-- the final actions that events come to: all that they know of the meaning
abbrev pub come_to : List Event → List Action
come_to events = final_actions (listed_by events) (keep_after true events)
