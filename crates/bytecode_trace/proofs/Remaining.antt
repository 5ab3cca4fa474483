-- What is left to be written of a trace.
use Rattle.std.proofs.Common.{◌≡◌, ℕ, suc, ◌-◌, ◌<◌, true, false, List, [], ◌++◌, Some, refl, sym, ap, subst, ◌∙◌, append-nil, arith}
use Rattle.std.specs.Borrow.{GName}
use Rattle.std.specs.List.{flat_map}
use Rattle.bytecode_format.specs.Code.{Code}
use Rattle.mime_decode.specs.Mail.{Mail}
use Rattle.devices.specs.Device.{HasBroken, HasTaken, Output}
use Rattle.devices.specs.Pages.{PageView, writes}
use Rattle.devices.proofs.Outputs.{broken_first}
use Rattle.devices.proofs.PageLemmas.{writes_both}
use Rattle.sieve_vm.specs.Machine.{step}
use Rattle.sieve_vm.specs.Moment.{Moment, come_to, further, goes_on, state_in, turn_at}
use Rattle.sieve_vm.specs.Potential.{limit_of}
use Rattle.sieve_vm.specs.State.{State, Turn, goes, ends, traps}
use Rattle.bytecode_trace.specs.Steps.{and_then, steps_from}
use Rattle.bytecode_trace.specs.Printed.{step_line}
use Rattle.bytecode_trace.specs.Private.{left_from, line_at, line_between, lines_left}

module _ (code : Code) (mail : Mail) where
  -- the line of a step from a state, and those of the steps after it
  by_step : (most : ℕ) (s : State) (u : Turn) → flat_map (step_line code) (and_then s u (steps_from code mail most)) ≡ line_between code (Some s) (state_in u) ++ flat_map (step_line code) (left_from code mail most u)
  by_step most s (goes t) = refl
  by_step most s (ends t) = refl
  by_step most s traps = refl

  by_turn : (m most : ℕ) (t : Turn) → m ≡ suc most → goes_on t ≡ true → flat_map (step_line code) (left_from code mail m t) ≡ line_between code (state_in t) (state_in (further code mail t)) ++ flat_map (step_line code) (left_from code mail most (further code mail t))
  by_turn m most (goes s) e on = rw e (by_step most s (step code mail s))
  by_turn m most (ends s) e on = absurd cc
  by_turn m most traps e on = absurd cc

  -- where a run goes on the next line is that of its next step
  pub next_line : (n : ℕ) → n < limit_of code mail → goes_on (come_to code mail n) ≡ true → lines_left code mail n ≡ line_at code mail n ++ lines_left code mail (suc n)
  next_line n below on = by_turn (limit_of code mail - n) (limit_of code mail - suc n) (come_to code mail n) (omega (arith, below)) on

  -- where it is over none is left
  over_turn : (m : ℕ) (t : Turn) → goes_on t ≡ false → flat_map (step_line code) (left_from code mail m t) ≡ []
  over_turn m (goes s) off = absurd cc
  over_turn m (ends s) off = refl
  over_turn m traps off = refl

  pub none_left : (n : ℕ) → goes_on (come_to code mail n) ≡ false → lines_left code mail n ≡ []
  none_left n off = over_turn (limit_of code mail - n) (come_to code mail n) off

-- the first of what is left was written
pub wrote_first : (left xs ys : List ℕ) (v w u : PageView) → left ≡ xs ++ ys → w ≡ writes xs v → writes left v ≡ u → writes ys w ≡ u
wrote_first left xs ys v w u is wrote whole = ap (writes ys) wrote ∙ writes_both xs ys v ∙ ap (λ l. writes l v) (sym is) ∙ whole

-- the sink broke in what is on a page, and the rest of the text is left
pub broken_before : (v : PageView) (name : GName) (start now : Output) (text left : List ℕ) → writes left v ≡ record { name = name; start = start; text = text } → HasBroken v.text v.start now → HasBroken text start now
broken_before v name start now text left is broken =
    subst (λ xs. HasBroken xs start now) (ap (λ (w : PageView). w.text) is)
    (broken_first v.text left (subst (λ s. HasBroken v.text s now) (ap (λ (w : PageView). w.start) is) broken))

-- the same output by another name
pub broken_same : {text : List ℕ} {start a b : Output} → HasBroken text start a → a ≡ b → HasBroken text start b
broken_same {text} {start} broken same = subst (λ now. HasBroken text start now) same broken

-- the sink has taken what is on a page, also by another name of its view
pub taken_same : (v w : PageView) (now : Output) → w ≡ v → HasTaken v.text v.start now → HasTaken w.text w.start now
taken_same v w now same taken = subst (λ (u : PageView). HasTaken u.text u.start now) (sym same) taken

-- the sink has taken what is on a page, and nothing of the text is left
pub taken_whole : (v : PageView) (name : GName) (start now after : Output) (text left : List ℕ) → writes left v ≡ record { name = name; start = start; text = text } → left ≡ [] → HasTaken v.text v.start now → now ≡ after → HasTaken text start after
taken_whole v name start now after text left is none taken same =
    let whole : v.text ≡ text = sym (append-nil v.text) ∙ ap (λ xs. v.text ++ xs) (sym none) ∙ ap (λ (w : PageView). w.text) is in
    subst (λ end. HasTaken text start end) same (subst (λ xs. HasTaken xs start now) whole (subst (λ s. HasTaken v.text s now) (ap (λ (w : PageView). w.start) is) taken))

-- ---- states that a run has come to

-- a run on its way, of this program and message, goes on within the budget
pub within_run : (run : Moment) (code : Code) (mail : Mail) → run.code ≡ code → run.mail ≡ mail → goes_on (turn_at run) ≡ true → run.steps < limit_of run.code run.mail → (run.steps < limit_of code mail) × (goes_on (come_to code mail run.steps) ≡ true)
within_run run code mail same_code same_mail on below = (
  subst (λ (x : Code). run.steps < limit_of x mail) same_code (subst (λ (y : Mail). run.steps < limit_of run.code y) same_mail below),
  subst (λ (x : Code). goes_on (come_to x mail run.steps) ≡ true) same_code (subst (λ (y : Mail). goes_on (come_to run.code y run.steps) ≡ true) same_mail on),
)

-- nothing is left of one that is over
pub over_run : (run : Moment) (code : Code) (mail : Mail) → run.code ≡ code → run.mail ≡ mail → goes_on (turn_at run) ≡ false → lines_left code mail run.steps ≡ []
over_run run code mail same_code same_mail off =
    none_left code mail run.steps (subst (λ (x : Code). goes_on (come_to x mail run.steps) ≡ false) same_code (subst (λ (y : Mail). goes_on (come_to run.code y run.steps) ≡ false) same_mail off))
