-- Private: what the functions answer that look for faults.
use Rattle.std.specs.Prelude.{◌≡◌, ℕ, ◌<◌, true, false, List, [], ◌∷◌, ◌++◌, length, map, take, bytes_eq, Option, Some, None, Result, MatchOption, MatchResult}
use Rattle.std.specs.Borrow.{Bor}
use Rattle.octets.specs.Ascii.{lowercase_of}
use Rattle.octets.specs.Limits.{max_variables}
use Rattle.octets.specs.Once.{with_more}
use Rattle.sieve_check.specs.declared.causes.Cause.{Cause}
use Rattle.sieve_check.specs.declared.causes.ReasonKind.{ReasonKind}
use Rattle.sieve_check.specs.declared.causes.ReasonKind.TheVariants.{ManyVariables}
use Rattle.sieve_check.specs.declared.findings.Findings.{Findings}
use Rattle.sieve_check.specs.declared.mentions.Mentions.{Mentions}
use Rattle.sieve_check.specs.declared.loops.Loops.{Loops}
use Rattle.sieve_check.specs.declared.surroundings.Surroundings.{Surroundings}
use Rattle.sieve_check.specs.declared.variable_names.VariableNames.{VariableNames}
use Rattle.sieve_check.specs.Reading.{all_lists, loop_in}
use Rattle.sieve_check.specs.ReasonView.{refused_view}
use Rattle.sieve_check.specs.Private.{cause_view}
use Rattle.sieve_check.specs.Causes as causes
use Rattle.sieve_check.specs.Rules as rules
use Rattle.sieve_check.specs.Rules.{Visit, max_found, names_mentioned, names_past, refused_among, same_reason, strings_of}
use Rattle.sieve_check.specs.Surroundings.{Loop, Context, opens_many}

-- the loops that are open, the innermost first
abbrev pub open_loops : Loops → List Loop
open_loops loops = map loop_in (take loops.number loops.names)

-- the code's surroundings, as a definition sees them
abbrev pub context_of : Surroundings → Context
context_of s = record { required = s.required; loops = open_loops s.loops; takes_require = s.takes_require; after_if = s.after_if }

-- the loops around a block, around which these are opened, where there may be so many
abbrev pub LoopsWithin : Context → List Loop → Option Loops → Type 0
LoopsWithin s opened result = MatchOption result (opens_many opened s ≡ true)
    (λ all. (opens_many opened s ≡ false) × (open_loops all ≡ opened ++ s.loops))

-- the names so far, in lower case
abbrev pub shown : List (Bor (List ℕ)) → List (List ℕ)
shown names = map (λ (name : Bor (List ℕ)). lowercase_of name.now) names

abbrev pub listed : VariableNames → List (List ℕ)
listed names = shown names.names.items

-- the name that is set, if one is
abbrev pub set_in : Option (Bor (List ℕ)) → List (List ℕ)
set_in None = []
set_in (Some name) = name.now ∷ []

-- the code's mentions, as a definition sees them
abbrev pub mentions_in : Mentions → rules.Mentions
mentions_in m = record { expanded = strings_of (all_lists m.expanded); set = set_in m.set }

-- what a command or test has to do with variables, where nothing is wrong with it, by the names that
-- it brings; else what is wrong
abbrev pub Finds : List (List ℕ) → Option causes.Cause → Result Mentions Cause → Type 0
Finds names cause result =
    MatchResult result (λ m. (cause ≡ None) × (names_mentioned (mentions_in m) ≡ names))
    (λ found. cause ≡ Some (cause_view found))

-- the names with more of them are more than there may be: as many as may be are kept
pub record Overflows (names more after : List (List ℕ)) : Type 0 where
  pub many : max_variables < length (with_more bytes_eq names more)
  pub kept : after ≡ take max_variables (with_more bytes_eq names more)

-- the names with more of them, where they are within the limit; else that they aren't
abbrev pub Adds : {A : Type 0} → List (List ℕ) → List (List ℕ) → Result A ReasonKind → List (List ℕ) → Type 0
Adds names more result after =
    MatchResult result
    (λ _. after ≡ with_more bytes_eq names more)
    (λ kind. (kind ≡ ManyVariables) × Overflows names more after)

-- what was refused so far
abbrev pub refused_in : Findings → List causes.Refused
refused_in findings = map refused_view findings.refused.items

-- these were added to what is refused, but for what was told there, and up to the limit; the names are the same
pub record AreNoted (old : Findings) (more : List causes.Refused) (new : Findings) : Type 0 where
  pub names : listed new.names ≡ listed old.names
  pub refused : refused_in new ≡ take max_found (with_more same_reason (refused_in old) more)

-- the names after visits
abbrev pub names_after : List (List ℕ) → List Visit → List (List ℕ)
names_after names [] = names
names_after names (v ∷ vs) = names_after (names_past names v) vs

-- after visits, the names are those after them, and what is refused of them was added to what was refused before, but
-- for what was lacking there, and up to the limit
pub record AreVisited (old : Findings) (visits : List Visit) (new : Findings) : Type 0 where
  pub names : listed new.names ≡ names_after (listed old.names) visits
  pub refused : refused_in new
      ≡ take max_found (with_more same_reason (refused_in old) (refused_among (listed old.names) visits))
