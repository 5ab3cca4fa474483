-- What an operation on the workspace leaves of the state that the machine stands for.
use Rattle.std.proofs.Common.{◌≡◌, ℕ, ◌+◌, Bool, true, false, List, [], ◌∷◌, Option, Some, None, drop, is_some, refl, subst, ap, ◌∙◌, arith}
use Rattle.std.specs.Bool.{then_some}
use Rattle.std.specs.Option.{unwrap_or}
use Rattle.bytecode_format.specs.declared.question.Counts.{Counts}
use Rattle.bytecode_format.specs.declared.question.Question.{Question}
use Rattle.mime_decode.specs.Mail.{Mail}
use Rattle.mail_matching.specs.Outcomes.{after}
use Rattle.mail_matching.specs.Questions.{IsDecidedAs, answer, answered, asked, compared_cost, decides, looked_cost, texts_of}
use Rattle.mail_matching.specs.declared.outcome.Outcome.{Outcome}
use Rattle.sieve_vm.specs.declared.machine.Flow.TheVariants.{On, To}
use Rattle.sieve_vm.specs.declared.machine.Machine.{Machine}
use Rattle.sieve_vm.specs.declared.workspace.Workspace.{Workspace}
use Rattle.sieve_vm.specs.Charge.{cost_of_asking}
use Rattle.sieve_vm.specs.Machine.{next_part}
use Rattle.sieve_vm.specs.Looks.{Visits}
use Rattle.sieve_vm.specs.Visits.{Continues, HasSameLoops}
use Rattle.sieve_vm.specs.State.{Value, truth, Frame, State}
use Rattle.sieve_vm.specs.Stack.{Lists, lists_counted, texts_in}
use Rattle.sieve_vm.specs.Standing.{Held, held_of, held_by, Represents, GoesFrom}

module _ (mail : Mail) (s : State) (m : Machine) (stands : Represents mail s m) where
  -- the stack is that of the state
  pub stack_is : (held_of m.work).stack ≡ s.stack
  stack_is = ap (λ (h : Held). h.stack) stands.work

  pub lists_there : (counted counts : Counts) (top : Lists) → counted ≡ counts → lists_counted counts s.stack ≡ Some top → lists_counted counted (held_of m.work).stack ≡ Some top
  lists_there counted counts top same e = ap (λ n. lists_counted n (held_of m.work).stack) same ∙ ap (lists_counted counts) stack_is ∙ e

  -- what the workspace holds has changed, and nothing else
  pub holds_now : (work : Workspace) (change : Held → Held) → held_of work ≡ change (held_of m.work)
      → Represents mail (record s { stack = (change (held_by s)).stack; variables = (change (held_by s)).variables; captures = (change (held_by s)).captures }) (record m { work = work })
  holds_now work change now =
      record {
        work = now ∙ ap change stands.work;
        mail_is = stands.mail_is;
        frames = stands.frames;
        actions = stands.actions;
        implicit_keep = stands.implicit_keep;
      }

  -- the open loops are as they were
  pub same_loops : (loops : Visits) → HasSameLoops m.loops loops → Represents mail s (record m { loops = loops })
  same_loops loops same =
      record {
        work = stands.work;
        mail_is = same.mail ∙ stands.mail_is;
        frames = same.frames ∙ stands.frames;
        actions = stands.actions;
        implicit_keep = stands.implicit_keep;
      }

  -- the open loops have changed
  pub loops_now : (loops : Visits) (frames : List Frame) (held : List Bool) → loops ≡ record m.loops { frames = frames; held = held } → Represents mail (record s { frames = frames }) (record m { loops = loops })
  loops_now loops frames held now =
      record {
        work = stands.work;
        mail_is = ap (λ (l : Visits). l.mail) now ∙ stands.mail_is;
        frames = ap (λ (l : Visits). l.frames) now;
        actions = stands.actions;
        implicit_keep = stands.implicit_keep;
      }

  -- the innermost loop was closed
  pub next_closes : (frame : Frame) (frames : List Frame) (rest : List ℕ) (loops : Visits) → Continues frame frames rest None m.loops loops → GoesFrom mail (next_part frame frames rest s) On (record m { loops = loops })
  next_closes frame frames [] loops h = loops_now loops frames (drop 1 m.loops.held) h.1
  next_closes frame frames (part ∷ rest) loops h = absurd (let none = h.0 in cc)

  -- it goes on
  pub next_continues : (frame : Frame) (frames : List Frame) (rest : List ℕ) (each : ℕ) (loops : Visits) → Continues frame frames rest (Some each) m.loops loops → GoesFrom mail (next_part frame frames rest s) (To (each + 1)) (record m { loops = loops })
  next_continues frame frames [] each loops h = absurd (let none = h.0 in cc)
  next_continues frame frames (part ∷ rest) each loops h =
      let is = h.0 in
      let same : each ≡ frame.each = cc in
      (omega (arith, same), loops_now loops (record frame { part = part; rest = rest } ∷ frames) (false ∷ drop 1 m.loops.held) h.1)

-- the place that it answers is that of its Each
pub continues_each : (frame : Frame) (frames : List Frame) (rest : List ℕ) (each : ℕ) (old new : Visits) → Continues frame frames rest (Some each) old new → each ≡ frame.each
continues_each frame frames [] each old new h = absurd (let none = h.0 in cc)
continues_each frame frames (part ∷ rest) each old new h = let is = h.0 in cc

-- the texts of lists that are lent
pub same_texts : (top : Lists) (names params keys : List (List ℕ)) → names ≡ top.names → params ≡ top.params → keys ≡ top.keys → texts_of names params keys ≡ texts_in top
same_texts top names params keys n p k = rw (n, p, k) refl

-- ---- what is held after a question

module _ (held : Held) (below : List Value) (found : Option (List (List ℕ))) where
  -- these were taken for it, and this is what it came to
  abbrev After : Held
  After = record { stack = truth (is_some found) ∷ below; variables = held.variables; captures = unwrap_or found held.captures }

  -- what is pushed where it is decided
  pub decided_held : (value : Bool) → found ≡ then_some value held.captures → (let pushed : Held = record held { stack = truth value ∷ below } in pushed) ≡ After
  decided_held true is = rw is refl
  decided_held false is = rw is refl

  -- what a test has set is kept, and whether it has matched is pushed
  pub settled : (dropped kept pushed : Held) (outcome : Outcome) (matched : Bool) → dropped ≡ record held { stack = below } → matched ≡ is_some (after outcome dropped.captures)
      → kept ≡ record dropped { captures = unwrap_or (after outcome dropped.captures) dropped.captures } → pushed ≡ record kept { stack = truth matched ∷ kept.stack } → after outcome held.captures ≡ found → pushed ≡ After
  settled dropped kept pushed outcome matched drops matches keeps pushes right =
      let told : matched ≡ is_some found = matches ∙ ap (λ (h : Held). is_some (after outcome h.captures)) drops ∙ ap is_some right in
      let set : kept ≡ record held { stack = below; captures = unwrap_or found held.captures } = keeps ∙ ap (λ (h : Held). record h { captures = unwrap_or (after outcome h.captures) h.captures }) drops ∙ ap (λ o. record held { stack = below; captures = unwrap_or o held.captures }) right in
      pushes ∙ ap (λ (h : Held). record h { stack = truth matched ∷ h.stack }) set ∙ ap (λ b. record held { stack = truth b ∷ below; captures = unwrap_or found held.captures }) told

-- what a question comes to that compares no values, and what it costs
pub plain_answers : (mail : Mail) (at : Option ℕ) (q : Question) (top : Lists) (names : List (List ℕ)) (value : Bool) (looked : ℕ) (captures : List (List ℕ)) → names ≡ top.names → IsDecidedAs mail at q names value looked
    → (answer mail at q (texts_in top) captures ≡ then_some value captures) × (cost_of_asking mail at q top ≡ looked)
plain_answers mail at q top names value looked captures same d =
    let asks : asked mail at q (texts_in top) ≡ decides value = subst (λ n. asked mail at q (texts_of n top.params top.keys) ≡ decides value) same (d.asks top.params top.keys) in
    let costs : looked_cost mail at q (texts_in top) ≡ looked = subst (λ n. looked_cost mail at q (texts_of n top.params top.keys) ≡ looked) same (d.costs top.params top.keys) in
    let none : compared_cost (asked mail at q (texts_in top)) top.keys ≡ 0 = ap (λ a. compared_cost a top.keys) asks in
    (ap (λ a. answered a top.keys captures) asks, omega (arith, costs, none))
