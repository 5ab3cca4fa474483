-- What a script means. Where its tests and commands stand in it says nothing here.
use Rattle.std.specs.Prelude.{ℕ, ◌-◌, Bool, true, false, not, nat_lt, bytes_eq, List, [], ◌∷◌, ◌++◌, flat_map, map, slice_index_or, take, Option, None, Some, if◌then◌else◌}
use Rattle.octets.specs.Limits.{max_string, max_value}
use Rattle.bytecode_format.specs.declared.action.Action.{Action}
use Rattle.bytecode_format.specs.declared.action.Action.TheVariants as action
use Rattle.bytecode_format.specs.Actions.{final_actions}
use Rattle.bytecode_format.specs.Modifiers.{modified}
use Rattle.mail_matching.specs.FirstMatch.{no_captures}
use Rattle.mail_matching.specs.Questions.{Texts, answer, current}
use Rattle.mime_decode.specs.Mail.{Mail, Part as MailPart}
use Rattle.mime_decode.specs.Visited.{visited}
use Rattle.sieve_check.specs.declared.typed.Act.{Act}
use Rattle.sieve_check.specs.declared.typed.Act.TheVariants.{Keep, Discard, FileInto, Set, Take, Store, Leave, Stop}
use Rattle.sieve_check.specs.declared.typed.Segment.{Segment}
use Rattle.sieve_check.specs.declared.typed.Segment.TheVariants.{Text, Variable, Capture}
use Rattle.sieve_check.specs.Typed.{Template, Strings, TestForm, asks, negation, all_of, any_of, TestForms, no_test, test, CommandForm, does, for_every_part, choice, CommandForms, no_command, command, BranchForms, no_branch, otherwise, branch}

-- what a script has done so far: the values of variables by their names in lower case, the captures
-- of the last match that set them, the actions, and whether the implicit keep stands
pub record Effects : Type 0 where
  pub variables : List ℕ → List ℕ
  pub captures : List (List ℕ)
  pub actions : List Action
  pub implicit_keep : Bool

-- nothing yet: variables and captures are empty, and the implicit keep stands
abbrev pub no_effects : Effects
no_effects = record { variables = λ name. []; captures = no_captures; actions = []; implicit_keep = true }

-- what stands for a segment: itself, or the value of what it refers to, which is empty where that was never set
abbrev pub value_of : Effects → Segment → List ℕ
value_of effects (Text octets) = octets
value_of effects (Variable name) = effects.variables name
value_of effects (Capture n) = slice_index_or effects.captures n []

-- a string, expanded (RFC 5229, section 3), and cut
abbrev pub expanded : Effects → Template → List ℕ
expanded effects template = take max_string (flat_map (value_of effects) template)

-- strings, each expanded
abbrev pub all_expanded : Effects → List Template → List (List ℕ)
all_expanded effects templates = map (expanded effects) templates

-- the texts of a test: its strings, each expanded
abbrev pub texts_of : Effects → Strings → Texts
texts_of effects strings = record {
  names = all_expanded effects strings.names;
  params = all_expanded effects strings.params;
  keys = all_expanded effects strings.keys;
}

-- the values of variables, of which one is new
abbrev pub with_value : List ℕ → List ℕ → (List ℕ → List ℕ) → List ℕ → List ℕ
with_value name value variables other = if bytes_eq name other then value else variables other

-- a test's truth value, and what was done by then
pub record Verdict : Type 0 where
  pub value : Bool
  pub effects : Effects

abbrev pub verdict : Bool → Effects → Verdict
verdict value effects = record { value = value; effects = effects }

abbrev pub turned : Verdict → Verdict
turned v = verdict (not v.value) v.effects

-- the tests after one, which are made only where it doesn't decide: a false one decides that not
-- all are true, a true one that any is
abbrev pub and_then : Verdict → (Effects → Verdict) → Verdict
and_then v next = if v.value then next v.effects else verdict false v.effects

abbrev pub or_else : Verdict → (Effects → Verdict) → Verdict
or_else v next = if v.value then verdict true v.effects else next v.effects

-- how commands end, and what was done by then: on to the next, or the script is stopped, or so many
-- loops are left at once
pub data Ending : Type 0 where
  normal : Effects → Ending
  stopped : Effects → Ending
  broken : ℕ → Effects → Ending

-- what was done by then
abbrev pub effects_of : Ending → Effects
effects_of (normal effects) = effects
effects_of (stopped effects) = effects
effects_of (broken loops effects) = effects

-- on with the next, where the commands before it end so
abbrev pub followed_by : Ending → (Effects → Ending) → Ending
followed_by (normal effects) next = next effects
followed_by (stopped effects) next = stopped effects
followed_by (broken loops effects) next = broken loops effects

-- a loop is left: with it the one around, where more are to be left; else the run goes on after it
abbrev pub left : ℕ → Effects → Ending
left loops effects = if nat_lt 1 loops then broken (loops - 1) effects else normal effects

-- on with the next turn of a loop, where a turn of it ends so
abbrev pub after_turn : Ending → (Effects → Ending) → Ending
after_turn (normal effects) next = next effects
after_turn (stopped effects) next = stopped effects
after_turn (broken loops effects) next = left loops effects

-- the turns of a loop, one for each part, up to one that stops the script or leaves the loop
abbrev pub turns : (ℕ → Effects → Ending) → List ℕ → Effects → Ending
turns turn [] effects = normal effects
turns turn (part ∷ parts) effects = after_turn (turn part effects) (λ e. turns turn parts e)

-- what a test comes to, from the captures after it, if it is true; where it isn't, nothing changes
abbrev pub matched : Option (List (List ℕ)) → Effects → Verdict
matched None effects = verdict false effects
matched (Some captures) effects = verdict true (record effects { captures = captures })

-- Below, the current part is that of the innermost loop, by its number; none outside of loops.

-- the values of variables after the first octets of the current part's content were taken into one,
-- at most so many; as they were, where there is no part, as in no checked script
abbrev pub with_taken : ℕ → List ℕ → Option MailPart → (List ℕ → List ℕ) → List ℕ → List ℕ
with_taken most name None variables = variables
with_taken most name (Some part) variables = with_value name (take most part.content) variables

-- the actions of storing the current part in a folder
abbrev pub stored : Option ℕ → List ℕ → List Action
stored None folder = []
stored (Some number) folder = action.Store folder number ∷ []

abbrev mutual
  -- what a test comes to
  pub test_does : Mail → Option ℕ → TestForm → Effects → Verdict
  test_does mail part (asks question strings at) effects =
      matched (answer mail part question (texts_of effects strings) effects.captures) effects
  test_does mail part (negation t at) effects = turned (test_does mail part t effects)
  test_does mail part (all_of t ts at) effects = and_then (test_does mail part t effects) (λ e. all_do mail part ts e)
  test_does mail part (any_of t ts at) effects = or_else (test_does mail part t effects) (λ e. any_do mail part ts e)

  -- whether all tests are true, from left to right up to the first that isn't
  pub all_do : Mail → Option ℕ → TestForms → Effects → Verdict
  all_do mail part no_test effects = verdict true effects
  all_do mail part (test t ts) effects = and_then (test_does mail part t effects) (λ e. all_do mail part ts e)

  -- whether any is true, up to the first that is
  pub any_do : Mail → Option ℕ → TestForms → Effects → Verdict
  any_do mail part no_test effects = verdict false effects
  any_do mail part (test t ts) effects = or_else (test_does mail part t effects) (λ e. any_do mail part ts e)

-- what an action does with its string, expanded; one that takes none doesn't look at it (RFC 5228, sections 3 and 4; RFC 5229, section 4; RFC 5703, section 3)
abbrev pub act_does : Mail → Option ℕ → Act → List ℕ → Effects → Ending
act_does mail part Keep text effects = normal (record effects { actions = effects.actions ++ action.Keep ∷ []; implicit_keep = false })
act_does mail part Discard text effects = normal (record effects { implicit_keep = false })
act_does mail part FileInto folder effects = normal (record effects { actions = effects.actions ++ action.File folder ∷ []; implicit_keep = false })
-- the value is modified and cut
act_does mail part (Set modifiers name) value effects =
    normal (record effects { variables = with_value name (take max_value (modified modifiers value)) effects.variables })
-- all of the content, where it has no more octets than that; ours
act_does mail part (Take most name) text effects = normal (record effects { variables = with_taken most name (current mail part) effects.variables })
-- the implicit keep stands as it stood; ours
act_does mail part Store folder effects = normal (record effects { actions = effects.actions ++ stored part folder })
act_does mail part (Leave loops) text effects = broken loops effects
act_does mail part Stop text effects = stopped effects

abbrev mutual
  -- what a command does
  pub command_does : Mail → Option ℕ → CommandForm → Effects → Ending
  command_does mail part (does act string at) effects = act_does mail part act (expanded effects string) effects
  -- outside of loops each part of the message, in a loop each one below its current part, in
  -- preorder (RFC 5703, section 3)
  command_does mail part (for_every_part cs at) effects = turns (λ number e. commands_do mail (Some number) cs e)
      (visited part mail) effects
  command_does mail part (choice branches) effects = choice_does mail part branches effects

  -- what commands do, one after the other
  pub commands_do : Mail → Option ℕ → CommandForms → Effects → Ending
  commands_do mail part no_command effects = normal effects
  commands_do mail part (command c cs) effects = followed_by (command_does mail part c effects)
      (λ e. commands_do mail part cs e)

  -- the block of the first branch whose test is true, else that of the else, if there is one
  pub choice_does : Mail → Option ℕ → BranchForms → Effects → Ending
  choice_does mail part no_branch effects = normal effects
  choice_does mail part (otherwise cs) effects = commands_do mail part cs effects
  choice_does mail part (branch t cs at bs) effects =
      let v = test_does mail part t effects in
      if v.value then commands_do mail part cs v.effects else choice_does mail part bs v.effects

-- the final actions of a script on a message
abbrev pub meaning : Mail → CommandForms → List Action
meaning mail script =
    let effects = effects_of (commands_do mail None script no_effects) in
    final_actions effects.actions effects.implicit_keep
