-- Tests, commands, branches and turns, done and told one after another.
use Rattle.std.proofs.Common.{◌≡◌, ◌∙◌, ℕ, Bool, true, false, ap, refl, List, [], ◌∷◌, ◌++◌, Option, Some, sym, subst, append_assoc, append-nil, Result}
use Rattle.std.specs.Result.{IsErrAnd, MatchResult}
use Rattle.std.proofs.lemmas.Result.{MatchResult-weaker, err_from_is_err_and}
use Rattle.mime_decode.specs.Mail.{Mail}
use Rattle.sieve_check.specs.Typed.{TestForm, TestForms, test, CommandForm, CommandForms, command, BranchForms, otherwise, branch}
use Rattle.sieve_meaning.specs.declared.evaluator.Evaluator.{Evaluator}
use Rattle.sieve_meaning.specs.declared.evaluator.Flow.{Flow}
use Rattle.sieve_meaning.specs.declared.evaluator.Flow.TheVariants.{GoesOn, Stopped, Leaves}
use Rattle.sieve_meaning.specs.Evaluation.{HasEvaluated, StandsAt}
use Rattle.sieve_meaning.specs.Private.{Gives}
use Rattle.sieve_meaning.specs.Meaning.{Effects, Verdict, verdict, Ending, normal, stopped, broken, and_then, or_else, followed_by, after_turn, test_does, all_do, any_do, command_does, commands_do, choice_does, turns}
use Rattle.sieve_meaning.specs.Traced.{Event, event, turned, on_true, on_false, on_normal, test_events, all_events, any_events, command_events, commands_events, choice_events, turns_events}
use Rattle.sieve_meaning.specs.Private.{turn_does, turn_events}
use Rattle.sieve_meaning.proofs.MeaningLemmas.{goes_on, stays, stopped_at, left_at, left_flow}

-- ---- results

-- an error that is handed on
pub passed_on : {T E : Type 0} (r : Result T E) (cause : E) (P : T → Type 0) (Q : E → Type 0) → IsErrAnd r (λ y. y ≡ cause) → Q cause → MatchResult r P Q
passed_on r cause P Q h q = let e = err_from_is_err_and r h in rw e.1 (subst Q (sym e.2) q)

-- what commands come to and what was heard, for the same in other words
pub ends_as : {F : Type 0} (heard : List Event → Type 0) (stops : F → List Event → Type 0) (r : Result Flow F) (m : Evaluator) (x y : Ending) (xs ys : List Event) → x ≡ y → xs ≡ ys
    → MatchResult r (λ flow. StandsAt x flow m × heard xs) (λ why. stops why xs) → MatchResult r (λ flow. StandsAt y flow m × heard ys) (λ why. stops why ys)
ends_as heard stops r m x y xs ys same all h =
    subst (λ z. MatchResult r (λ flow. StandsAt z flow m × heard ys) (λ why. stops why ys)) same
    (subst (λ zs. MatchResult r (λ flow. StandsAt x flow m × heard zs) (λ why. stops why zs)) all h)

-- ---- what is left

-- what is left to do of a whole comes to the same as all of it; what was told, with the events that are left, is what was
-- told before and the events of the whole
pub record Remains {F V : Type 0} (heard : List Event → Type 0) (does : F → Effects → V) (tells : F → Effects → List Event) (whole : F) (e : Effects) (before : List Event) (rest : F) (run : Evaluator) : Type 0 where
  pub effects : Effects
  pub stands : HasEvaluated effects run
  pub same : does rest effects ≡ does whole e
  pub events : List Event
  pub told : heard events
  pub left : events ++ tells rest effects ≡ before ++ tells whole e

-- an evaluation that stopped in some events stopped in these and more
abbrev pub Grows : {E : Type 0} → (E → List Event → Type 0) → Type 0
Grows {E} stops = (why : E) (events more : List Event) → stops why events → stops why (events ++ more)

-- whatever was told before the first state, this is so of the second
abbrev pub Goes : {W F V : Type 0} → (W → List Event → W → Type 0) → W → W → (F → Effects → V) → (F → Effects → List Event) → F → F → Evaluator → Evaluator → Type 0
Goes {W} heard old new does tells whole rest run0 run = (e : Effects) → HasEvaluated e run0 → (start : W) (before : List Event) → heard start before old
    → Remains (λ events. heard start events new) does tells whole e before rest run

-- all of it is left
pub goes_whole : {F V : Type 0} (heard : List Event → Type 0) (does : F → Effects → V) (tells : F → Effects → List Event) (whole : F) (e : Effects) (before : List Event) (run : Evaluator) → HasEvaluated e run → heard before → Remains heard does tells whole e before whole run
goes_whole heard does tells whole e before run stands told = record { effects = e; stands = stands; same = refl; events = before; told = told; left = refl }

next_left : (events xs ys left all : List Event) → left ≡ xs ++ ys → events ++ left ≡ all → (events ++ xs) ++ ys ≡ all
next_left events xs ys left all is h = append_assoc events xs ys ∙ sym (ap (λ l. events ++ l) is) ∙ h

-- the next events were told
stepped : {F V : Type 0} (heard0 heard : List Event → Type 0) (does : F → Effects → V) (tells : F → Effects → List Event) (whole : F) (e : Effects) (before : List Event) (rest next : F) (m0 m : Evaluator) (h : Remains heard0 does tells whole e before rest m0) (f : Effects) (xs : List Event)
    → HasEvaluated f m → does next f ≡ does rest h.effects → tells rest h.effects ≡ xs ++ tells next f → heard (h.events ++ xs) → Remains heard does tells whole e before next m
stepped heard0 heard does tells whole e before rest next m0 m h f xs stands same is told = record {
  effects = f;
  stands = stands;
  same = same ∙ h.same;
  events = h.events ++ xs;
  told = told;
  left = next_left h.events xs (tells next f) (tells rest h.effects) (before ++ tells whole e) is h.left;
}

-- these were the last ones
finished : {F V : Type 0} (heard0 heard : List Event → Type 0) (does : F → Effects → V) (tells : F → Effects → List Event) (whole : F) (e : Effects) (before : List Event) (rest : F) (m0 : Evaluator) (h : Remains heard0 does tells whole e before rest m0) (xs ys : List Event)
    → tells rest h.effects ≡ xs ++ ys → ys ≡ [] → heard (h.events ++ xs) → heard (before ++ tells whole e)
finished heard0 heard does tells whole e before rest m0 h xs ys is none told =
    subst heard (ap (λ l. h.events ++ l) (sym (is ∙ ap (λ l. xs ++ l) none ∙ append-nil xs)) ∙ h.left) told

-- none were left
pub all_told : {F V : Type 0} (heard : List Event → Type 0) (does : F → Effects → V) (tells : F → Effects → List Event) (whole : F) (e : Effects) (before : List Event) (rest : F) (m : Evaluator) (h : Remains heard does tells whole e before rest m)
    → tells rest h.effects ≡ [] → heard (before ++ tells whole e)
all_told heard does tells whole e before rest m h none = subst heard (sym (append-nil h.events) ∙ ap (λ l. h.events ++ l) (sym none) ∙ h.left) h.told

-- the evaluation stopped in the next ones
pub goes_stopped : {F V E : Type 0} (heard0 : List Event → Type 0) (stops : E → List Event → Type 0) (why : E) (does : F → Effects → V) (tells : F → Effects → List Event) (whole : F) (e : Effects) (before : List Event) (rest : F) (m0 : Evaluator) (h : Remains heard0 does tells whole e before rest m0) (xs ys : List Event)
    → Grows stops → tells rest h.effects ≡ xs ++ ys → stops why (h.events ++ xs) → stops why (before ++ tells whole e)
goes_stopped heard0 stops why does tells whole e before rest m0 h xs ys grows is later =
    subst (stops why) (next_left h.events xs ys (tells rest h.effects) (before ++ tells whole e) is h.left) (grows why (h.events ++ xs) ys later)

-- ---- all of some tests

abbrev pub AllRemain : (List Event → Type 0) → Mail → Option ℕ → TestForms → Effects → List Event → TestForms → Evaluator → Type 0
AllRemain heard mail part whole e before rest m = Remains heard (λ ts x. all_do mail part ts x) (λ ts x. all_events mail part ts x) whole e before rest m

-- a test was true, and those after it are left
pub all_step : (heard0 heard : List Event → Type 0) (mail : Mail) (part : Option ℕ) (whole : TestForms) (e : Effects) (before : List Event) (t : TestForm) (ts : TestForms) (value : Bool) (m0 m : Evaluator) (h : AllRemain heard0 mail part whole e before (test t ts) m0)
    → Gives (test_does mail part t h.effects) value m × heard (h.events ++ test_events mail part t h.effects) → value ≡ true → AllRemain heard mail part whole e before ts m
all_step heard0 heard mail part whole e before t ts value m0 m h is on =
    let f = h.effects in
    let v = test_does mail part t f in
    let holds : v.value ≡ true = is.0.0 ∙ on in
    let step : and_then v (λ x. all_do mail part ts x) ≡ all_do mail part ts v.effects = rw holds refl in
    let later : on_true v (λ x. all_events mail part ts x) ≡ all_events mail part ts v.effects = rw holds refl in
    stepped heard0 heard (λ xs x. all_do mail part xs x) (λ xs x. all_events mail part xs x) whole e before (test t ts) ts m0 m h v.effects (test_events mail part t f) is.0.1 (sym step) (ap (λ l. test_events mail part t f ++ l) later) is.1

-- a test was false
pub all_stop : (heard0 heard : List Event → Type 0) (mail : Mail) (part : Option ℕ) (whole : TestForms) (e : Effects) (before : List Event) (t : TestForm) (ts : TestForms) (value : Bool) (m0 m : Evaluator) (h : AllRemain heard0 mail part whole e before (test t ts) m0)
    → Gives (test_does mail part t h.effects) value m × heard (h.events ++ test_events mail part t h.effects) → value ≡ false
    → Gives (all_do mail part whole e) false m × heard (before ++ all_events mail part whole e)
all_stop heard0 heard mail part whole e before t ts value m0 m h is off =
    let f = h.effects in
    let v = test_does mail part t f in
    let fails : v.value ≡ false = is.0.0 ∙ off in
    let same : and_then v (λ x. all_do mail part ts x) ≡ verdict false v.effects = rw fails refl in
    let none : on_true v (λ x. all_events mail part ts x) ≡ [] = rw fails refl in (
      subst (λ x. Gives x false m) (sym same ∙ h.same) (refl, is.0.1),
      finished heard0 heard (λ xs x. all_do mail part xs x) (λ xs x. all_events mail part xs x) whole e before (test t ts) m0 h (test_events mail part t f) _ refl none is.1,
    )

-- ---- any of some tests

abbrev pub AnyRemain : (List Event → Type 0) → Mail → Option ℕ → TestForms → Effects → List Event → TestForms → Evaluator → Type 0
AnyRemain heard mail part whole e before rest m = Remains heard (λ ts x. any_do mail part ts x) (λ ts x. any_events mail part ts x) whole e before rest m

-- a test was false, and those after it are left
pub any_step : (heard0 heard : List Event → Type 0) (mail : Mail) (part : Option ℕ) (whole : TestForms) (e : Effects) (before : List Event) (t : TestForm) (ts : TestForms) (value : Bool) (m0 m : Evaluator) (h : AnyRemain heard0 mail part whole e before (test t ts) m0)
    → Gives (test_does mail part t h.effects) value m × heard (h.events ++ test_events mail part t h.effects) → value ≡ false → AnyRemain heard mail part whole e before ts m
any_step heard0 heard mail part whole e before t ts value m0 m h is off =
    let f = h.effects in
    let v = test_does mail part t f in
    let fails : v.value ≡ false = is.0.0 ∙ off in
    let step : or_else v (λ x. any_do mail part ts x) ≡ any_do mail part ts v.effects = rw fails refl in
    let later : on_false v (λ x. any_events mail part ts x) ≡ any_events mail part ts v.effects = rw fails refl in
    stepped heard0 heard (λ xs x. any_do mail part xs x) (λ xs x. any_events mail part xs x) whole e before (test t ts) ts m0 m h v.effects (test_events mail part t f) is.0.1 (sym step) (ap (λ l. test_events mail part t f ++ l) later) is.1

-- a test was true
pub any_stop : (heard0 heard : List Event → Type 0) (mail : Mail) (part : Option ℕ) (whole : TestForms) (e : Effects) (before : List Event) (t : TestForm) (ts : TestForms) (value : Bool) (m0 m : Evaluator) (h : AnyRemain heard0 mail part whole e before (test t ts) m0)
    → Gives (test_does mail part t h.effects) value m × heard (h.events ++ test_events mail part t h.effects) → value ≡ true
    → Gives (any_do mail part whole e) true m × heard (before ++ any_events mail part whole e)
any_stop heard0 heard mail part whole e before t ts value m0 m h is on =
    let f = h.effects in
    let v = test_does mail part t f in
    let holds : v.value ≡ true = is.0.0 ∙ on in
    let same : or_else v (λ x. any_do mail part ts x) ≡ verdict true v.effects = rw holds refl in
    let none : on_false v (λ x. any_events mail part ts x) ≡ [] = rw holds refl in (
      subst (λ x. Gives x true m) (sym same ∙ h.same) (refl, is.0.1),
      finished heard0 heard (λ xs x. any_do mail part xs x) (λ xs x. any_events mail part xs x) whole e before (test t ts) m0 h (test_events mail part t f) _ refl none is.1,
    )

-- ---- commands

abbrev pub CommandsRemain : (List Event → Type 0) → Mail → Option ℕ → CommandForms → Effects → List Event → CommandForms → Evaluator → Type 0
CommandsRemain heard mail part whole e before rest m = Remains heard (λ cs x. commands_do mail part cs x) (λ cs x. commands_events mail part cs x) whole e before rest m

-- nothing is told after commands that don't go on
none_told : (x : Ending) (flow : Flow) (m : Evaluator) (next : Effects → List Event) → (flow ≡ GoesOn → ⊥) → StandsAt x flow m → on_normal x next ≡ []
none_told (normal f) GoesOn m next off h = absurd (off refl)
none_told (normal f) Stopped m next off h = absurd h
none_told (normal f) (Leaves n) m next off h = absurd h
none_told (stopped f) flow m next off h = refl
none_told (broken k f) flow m next off h = refl

-- a command goes on, and those after it are left
pub commands_step : (heard0 heard : List Event → Type 0) (mail : Mail) (part : Option ℕ) (whole : CommandForms) (e : Effects) (before : List Event) (c : CommandForm) (cs : CommandForms) (flow : Flow) (m0 m : Evaluator) (h : CommandsRemain heard0 mail part whole e before (command c cs) m0)
    → StandsAt (command_does mail part c h.effects) flow m × heard (h.events ++ command_events mail part c h.effects) → flow ≡ GoesOn → CommandsRemain heard mail part whole e before cs m
commands_step heard0 heard mail part whole e before c cs flow m0 m h is on =
    let f = h.effects in
    let next = goes_on (command_does mail part c f) flow m on is.0 in
    let step : followed_by (command_does mail part c f) (λ x. commands_do mail part cs x) ≡ commands_do mail part cs next.0 = ap (λ x. followed_by x (λ y. commands_do mail part cs y)) next.2 in
    let later : on_normal (command_does mail part c f) (λ x. commands_events mail part cs x) ≡ commands_events mail part cs next.0 = ap (λ x. on_normal x (λ y. commands_events mail part cs y)) next.2 in
    stepped heard0 heard (λ xs x. commands_do mail part xs x) (λ xs x. commands_events mail part xs x) whole e before (command c cs) cs m0 m h next.0 (command_events mail part c f) next.1 (sym step) (ap (λ l. command_events mail part c f ++ l) later) is.1

-- a command doesn't go on
pub commands_stop : (heard0 heard : List Event → Type 0) (mail : Mail) (part : Option ℕ) (whole : CommandForms) (e : Effects) (before : List Event) (c : CommandForm) (cs : CommandForms) (flow : Flow) (m0 m : Evaluator) (h : CommandsRemain heard0 mail part whole e before (command c cs) m0)
    → StandsAt (command_does mail part c h.effects) flow m × heard (h.events ++ command_events mail part c h.effects) → (flow ≡ GoesOn → ⊥) → StandsAt (commands_do mail part whole e) flow m × heard (before ++ commands_events mail part whole e)
commands_stop heard0 heard mail part whole e before c cs flow m0 m h is off =
    let x = command_does mail part c h.effects in (
      subst (λ y. StandsAt y flow m) h.same (stays x flow m (λ y. commands_do mail part cs y) off is.0),
      finished heard0 heard (λ xs y. commands_do mail part xs y) (λ xs y. commands_events mail part xs y) whole e before (command c cs) m0 h (command_events mail part c h.effects) _ refl
          (none_told x flow m (λ y. commands_events mail part cs y) off is.0) is.1,
    )

-- ---- branches

abbrev pub ChoiceRemains : (List Event → Type 0) → Mail → Option ℕ → BranchForms → Effects → List Event → BranchForms → Evaluator → Type 0
ChoiceRemains heard mail part whole e before rest m = Remains heard (λ bs x. choice_does mail part bs x) (λ bs x. choice_events mail part bs x) whole e before rest m

-- a test was false, and the branches after it are left
pub choice_passed : (heard0 heard : List Event → Type 0) (mail : Mail) (part : Option ℕ) (whole : BranchForms) (e : Effects) (before : List Event) (t : TestForm) (cs : CommandForms) (at : ℕ) (bs : BranchForms) (value : Bool) (m0 m : Evaluator) (h : ChoiceRemains heard0 mail part whole e before (branch t cs at bs) m0)
    → Gives (test_does mail part t h.effects) value m × heard (h.events ++ test_events mail part t h.effects) → value ≡ false → ChoiceRemains heard mail part whole e before bs m
choice_passed heard0 heard mail part whole e before t cs at bs value m0 m h is off =
    let f = h.effects in
    let v = test_does mail part t f in
    let fails : v.value ≡ false = is.0.0 ∙ off in
    let step : choice_does mail part (branch t cs at bs) f ≡ choice_does mail part bs v.effects = rw fails refl in
    let later : choice_events mail part (branch t cs at bs) f ≡ test_events mail part t f ++ choice_events mail part bs v.effects = rw fails refl in
    stepped heard0 heard (λ xs x. choice_does mail part xs x) (λ xs x. choice_events mail part xs x) whole e before (branch t cs at bs) bs m0 m h v.effects (test_events mail part t f) is.0.1 (sym step) later is.1

-- a test was true, and its block is left
pub choice_taken : (heard0 heard : List Event → Type 0) (mail : Mail) (part : Option ℕ) (whole : BranchForms) (e : Effects) (before : List Event) (t : TestForm) (cs : CommandForms) (at : ℕ) (bs : BranchForms) (value : Bool) (m0 m : Evaluator) (h : ChoiceRemains heard0 mail part whole e before (branch t cs at bs) m0)
    → Gives (test_does mail part t h.effects) value m × heard (h.events ++ test_events mail part t h.effects) → value ≡ true → ChoiceRemains heard mail part whole e before (otherwise cs) m
choice_taken heard0 heard mail part whole e before t cs at bs value m0 m h is on =
    let f = h.effects in
    let v = test_does mail part t f in
    let holds : v.value ≡ true = is.0.0 ∙ on in
    let step : choice_does mail part (branch t cs at bs) f ≡ commands_do mail part cs v.effects = rw holds refl in
    let later : choice_events mail part (branch t cs at bs) f ≡ test_events mail part t f ++ commands_events mail part cs v.effects = rw holds refl in
    stepped heard0 heard (λ xs x. choice_does mail part xs x) (λ xs x. choice_events mail part xs x) whole e before (branch t cs at bs) (otherwise cs) m0 m h v.effects (test_events mail part t f) is.0.1 (sym step) later is.1

-- ---- turns

abbrev pub TurnsRemain : (List Event → Type 0) → ℕ → Mail → CommandForms → List ℕ → Effects → List Event → List ℕ → Evaluator → Type 0
TurnsRemain heard at mail block whole e before rest m = Remains heard (λ ps x. turns (turn_does mail block) ps x) (λ ps x. turns_events at (turn_does mail block) (turn_events mail block) ps x) whole e before rest m

-- what is told of a turn
abbrev pub whole_turn : ℕ → Mail → CommandForms → ℕ → Effects → List Event
whole_turn at mail block number f = event at (Some number) turned ∷ turn_events mail block number f

-- a turn goes on, and those after it are left
pub turns_step : (heard0 heard : List Event → Type 0) (at : ℕ) (mail : Mail) (block : CommandForms) (whole : List ℕ) (e : Effects) (before : List Event) (number : ℕ) (ps : List ℕ) (flow : Flow) (m0 m : Evaluator) (h : TurnsRemain heard0 at mail block whole e before (number ∷ ps) m0)
    → StandsAt (turn_does mail block number h.effects) flow m × heard (h.events ++ whole_turn at mail block number h.effects) → flow ≡ GoesOn → TurnsRemain heard at mail block whole e before ps m
turns_step heard0 heard at mail block whole e before number ps flow m0 m h is on =
    let f = h.effects in
    let does = turn_does mail block in
    let tells = turn_events mail block in
    let next = goes_on (does number f) flow m on is.0 in
    let step : after_turn (does number f) (λ x. turns does ps x) ≡ turns does ps next.0 = ap (λ x. after_turn x (λ y. turns does ps y)) next.2 in
    let later : on_normal (does number f) (λ x. turns_events at does tells ps x) ≡ turns_events at does tells ps next.0 = ap (λ x. on_normal x (λ y. turns_events at does tells ps y)) next.2 in
    stepped heard0 heard (λ xs x. turns does xs x) (λ xs x. turns_events at does tells xs x) whole e before (number ∷ ps) ps m0 m h next.0 (whole_turn at mail block number f) next.1 (sym step) (ap (λ l. whole_turn at mail block number f ++ l) later) is.1

-- a turn is the last one
last_turn : (heard0 heard : List Event → Type 0) (at : ℕ) (mail : Mail) (block : CommandForms) (whole : List ℕ) (e : Effects) (before : List Event) (number : ℕ) (ps : List ℕ) (flow result : Flow) (m0 m : Evaluator) (h : TurnsRemain heard0 at mail block whole e before (number ∷ ps) m0)
    → StandsAt (turn_does mail block number h.effects) flow m × heard (h.events ++ whole_turn at mail block number h.effects) → (flow ≡ GoesOn → ⊥)
    → StandsAt (after_turn (turn_does mail block number h.effects) (λ y. turns (turn_does mail block) ps y)) result m
    → StandsAt (turns (turn_does mail block) whole e) result m × heard (before ++ turns_events at (turn_does mail block) (turn_events mail block) whole e)
last_turn heard0 heard at mail block whole e before number ps flow result m0 m h is off stands =
    let does = turn_does mail block in
    let tells = turn_events mail block in (
      subst (λ x. StandsAt x result m) h.same stands,
      finished heard0 heard (λ xs x. turns does xs x) (λ xs x. turns_events at does tells xs x) whole e before (number ∷ ps) m0 h (whole_turn at mail block number h.effects) _ refl
          (none_told (does number h.effects) flow m (λ y. turns_events at does tells ps y) off is.0) is.1,
    )

stopped_not_on : (flow : Flow) → flow ≡ Stopped → flow ≡ GoesOn → ⊥
stopped_not_on flow is on = let e : Stopped ≡ GoesOn = sym is ∙ on in cc

leaves_not_on : (flow : Flow) (loops : ℕ) → flow ≡ Leaves loops → flow ≡ GoesOn → ⊥
leaves_not_on flow loops is on = let e : Leaves loops ≡ GoesOn = sym is ∙ on in cc

-- a turn stops the script
pub turns_stop : (heard0 heard : List Event → Type 0) (at : ℕ) (mail : Mail) (block : CommandForms) (whole : List ℕ) (e : Effects) (before : List Event) (number : ℕ) (ps : List ℕ) (flow : Flow) (m0 m : Evaluator) (h : TurnsRemain heard0 at mail block whole e before (number ∷ ps) m0)
    → StandsAt (turn_does mail block number h.effects) flow m × heard (h.events ++ whole_turn at mail block number h.effects) → flow ≡ Stopped
    → StandsAt (turns (turn_does mail block) whole e) Stopped m × heard (before ++ turns_events at (turn_does mail block) (turn_events mail block) whole e)
turns_stop heard0 heard at mail block whole e before number ps flow m0 m h is on =
    let x = turn_does mail block number h.effects in
    last_turn heard0 heard at mail block whole e before number ps flow Stopped m0 m h is (stopped_not_on flow on)
    (stopped_at x (λ y. turns (turn_does mail block) ps y) m (subst (λ l. StandsAt x l m) on is.0))

-- a turn leaves the loop
pub turns_leave : (heard0 heard : List Event → Type 0) (at : ℕ) (mail : Mail) (block : CommandForms) (whole : List ℕ) (e : Effects) (before : List Event) (number : ℕ) (ps : List ℕ) (flow result : Flow) (loops : ℕ) (m0 m : Evaluator) (h : TurnsRemain heard0 at mail block whole e before (number ∷ ps) m0)
    → StandsAt (turn_does mail block number h.effects) flow m × heard (h.events ++ whole_turn at mail block number h.effects) → flow ≡ Leaves loops → result ≡ left_flow loops
    → StandsAt (turns (turn_does mail block) whole e) result m × heard (before ++ turns_events at (turn_does mail block) (turn_events mail block) whole e)
turns_leave heard0 heard at mail block whole e before number ps flow result loops m0 m h is on left =
    let x = turn_does mail block number h.effects in
    last_turn heard0 heard at mail block whole e before number ps flow result m0 m h is (leaves_not_on flow loops on)
    (subst (λ r. StandsAt (after_turn x (λ y. turns (turn_does mail block) ps y)) r m) (sym left)
    (left_at x (λ y. turns (turn_does mail block) ps y) loops m (subst (λ l. StandsAt x l m) on is.0)))

-- the events of a turn, as they are told
pub turn_told_as : (at : ℕ) (mail there : Mail) (part : Option ℕ) (number : ℕ) (block : CommandForms) (f : Effects) (events : List Event) → there ≡ mail → part ≡ Some number
    → (events ++ event at (Some number) turned ∷ []) ++ commands_events there part block f ≡ events ++ whole_turn at mail block number f
turn_told_as at mail there part number block f events same is =
    append_assoc events (event at (Some number) turned ∷ []) (commands_events there part block f)
    ∙ ap (λ (t : Mail). events ++ event at (Some number) turned ∷ commands_events t part block f) same
    ∙ ap (λ (p : Option ℕ). events ++ event at (Some number) turned ∷ commands_events mail p block f) is

-- a turn, as it is called
pub turn_as : (heard : List Event → Type 0) (at : ℕ) (mail there : Mail) (part : Option ℕ) (number : ℕ) (block : CommandForms) (f : Effects) (flow : Flow) (m : Evaluator) (events : List Event) → there ≡ mail → part ≡ Some number
    → StandsAt (commands_do there part block f) flow m × heard ((events ++ event at (Some number) turned ∷ []) ++ commands_events there part block f)
    → StandsAt (turn_does mail block number f) flow m × heard (events ++ whole_turn at mail block number f)
turn_as heard at mail there part number block f flow m events same is h = (
  subst (λ x. StandsAt x flow m) (ap (λ (t : Mail). commands_do t part block f) same ∙ ap (λ (p : Option ℕ). commands_do mail p block f) is) h.0,
  subst heard (turn_told_as at mail there part number block f events same is) h.1,
)

-- ---- tests of other tests

-- the last event of a test of other tests
pub compound : {F : Type 0} (heard : List Event → Type 0) (stops : F → List Event → Type 0) (r : Result Bool F) (v : Verdict) (value : Bool) (m : Evaluator) (before xs : List Event) (last : Event)
    → Gives v value m → MatchResult r (λ x. (x ≡ value) × heard ((before ++ xs) ++ last ∷ [])) (λ why. stops why ((before ++ xs) ++ last ∷ []))
    → MatchResult r (λ x. Gives v x m × heard (before ++ (xs ++ last ∷ []))) (λ why. stops why (before ++ (xs ++ last ∷ [])))
compound heard stops r v value m before xs last gives h =
    let all = append_assoc before xs (last ∷ []) in
    MatchResult-weaker r h (λ x is. ((gives.0 ∙ sym is.0, gives.1), subst heard all is.1)) (λ why s. subst (stops why) all s)

-- the first test decides
pub all_decided : (heard : List Event → Type 0) (v : Verdict) (value : Bool) (m : Evaluator) (before xs : List Event) (next : Effects → Verdict) (more : Effects → List Event)
    → Gives v value m × heard (before ++ xs) → value ≡ false → Gives (and_then v next) false m × heard (before ++ (xs ++ on_true v more))
all_decided heard v value m before xs next more is off =
    let fails : v.value ≡ false = is.0.0 ∙ off in
    let none : on_true v more ≡ [] = rw fails refl in
    let same : and_then v next ≡ verdict false v.effects = rw fails refl in
    (subst (λ x. Gives x false m) (sym same) (refl, is.0.1), subst (λ l. heard (before ++ l)) (sym (ap (λ l. xs ++ l) none ∙ append-nil xs)) is.1)

pub any_decided : (heard : List Event → Type 0) (v : Verdict) (value : Bool) (m : Evaluator) (before xs : List Event) (next : Effects → Verdict) (more : Effects → List Event)
    → Gives v value m × heard (before ++ xs) → value ≡ true → Gives (or_else v next) true m × heard (before ++ (xs ++ on_false v more))
any_decided heard v value m before xs next more is on =
    let holds : v.value ≡ true = is.0.0 ∙ on in
    let none : on_false v more ≡ [] = rw holds refl in
    let same : or_else v next ≡ verdict true v.effects = rw holds refl in
    (subst (λ x. Gives x true m) (sym same) (refl, is.0.1), subst (λ l. heard (before ++ l)) (sym (ap (λ l. xs ++ l) none ∙ append-nil xs)) is.1)

-- the others were asked
pub all_asked : (heard : List Event → Type 0) (v : Verdict) (first last : Bool) (m : Evaluator) (before xs : List Event) (next : Effects → Verdict) (more : Effects → List Event)
    → v.value ≡ first → first ≡ true → Gives (next v.effects) last m × heard ((before ++ xs) ++ more v.effects) → Gives (and_then v next) last m × heard (before ++ (xs ++ on_true v more))
all_asked heard v first last m before xs next more is on later =
    let holds : v.value ≡ true = is ∙ on in
    let some : on_true v more ≡ more v.effects = rw holds refl in
    let same : and_then v next ≡ next v.effects = rw holds refl in
    (subst (λ x. Gives x last m) (sym same) later.0, subst heard (append_assoc before xs (more v.effects) ∙ ap (λ l. before ++ (xs ++ l)) (sym some)) later.1)

pub any_asked : (heard : List Event → Type 0) (v : Verdict) (first last : Bool) (m : Evaluator) (before xs : List Event) (next : Effects → Verdict) (more : Effects → List Event)
    → v.value ≡ first → first ≡ false → Gives (next v.effects) last m × heard ((before ++ xs) ++ more v.effects) → Gives (or_else v next) last m × heard (before ++ (xs ++ on_false v more))
any_asked heard v first last m before xs next more is off later =
    let fails : v.value ≡ false = is ∙ off in
    let some : on_false v more ≡ more v.effects = rw fails refl in
    let same : or_else v next ≡ next v.effects = rw fails refl in
    (subst (λ x. Gives x last m) (sym same) later.0, subst heard (append_assoc before xs (more v.effects) ∙ ap (λ l. before ++ (xs ++ l)) (sym some)) later.1)

-- the evaluation stopped in the first test, or in the others
pub first_stops : {E : Type 0} (stops : E → List Event → Type 0) (why : E) (before xs ys zs : List Event) → Grows stops → stops why (before ++ xs) → stops why (before ++ ((xs ++ ys) ++ zs))
first_stops stops why before xs ys zs grows h =
    subst (stops why) (append_assoc before xs (ys ++ zs) ∙ ap (λ l. before ++ l) (sym (append_assoc xs ys zs))) (grows why (before ++ xs) (ys ++ zs) h)

pub others_stop : {E : Type 0} (stops : E → List Event → Type 0) (why : E) (before xs ys more zs : List Event) → Grows stops → ys ≡ more → stops why ((before ++ xs) ++ more) → stops why (before ++ ((xs ++ ys) ++ zs))
others_stop stops why before xs ys more zs grows is h =
    subst (stops why) (append_assoc (before ++ xs) ys zs ∙ append_assoc before xs (ys ++ zs) ∙ ap (λ l. before ++ l) (sym (append_assoc xs ys zs)))
    (grows why ((before ++ xs) ++ ys) zs (subst (λ l. stops why ((before ++ xs) ++ l)) (sym is) h))

pub one_stops : {E : Type 0} (stops : E → List Event → Type 0) (why : E) (before xs zs : List Event) → Grows stops → stops why (before ++ xs) → stops why (before ++ (xs ++ zs))
one_stops stops why before xs zs grows h = subst (stops why) (append_assoc before xs zs) (grows why (before ++ xs) zs h)

pub told_if : (v : Verdict) (first : Bool) (more : Effects → List Event) → v.value ≡ first → first ≡ true → on_true v more ≡ more v.effects
told_if v first more is on = let holds : v.value ≡ true = is ∙ on in rw holds refl

pub told_unless : (v : Verdict) (first : Bool) (more : Effects → List Event) → v.value ≡ first → first ≡ false → on_false v more ≡ more v.effects
told_unless v first more is off = let fails : v.value ≡ false = is ∙ off in rw fails refl
