-- What comes of a line, from what came of its words and of what they ask for.
use Rattle.std.proofs.Common.{◌≡◌, ◌∙◌, ◌++◌, ap, append-nil, inl, inr, refl, subst, sym, arith, ℕ, List, [], Result, Ok, Err, IfOk, OnErr}
use Rattle.std.proofs.lemmas.Result.{on_err_weaker}
use Rattle.sqlite_trees.specs.declared.store.Store.{Ghosts}
use Rattle.sqlite_trees.specs.Tree.{Trees}
use Rattle.sqlite.specs.Held.{Held, state}
use Rattle.sqlite.specs.State.{State, Survives}
use Rattle.devices.specs.Device.{HasBroken, HasPut, HasTaken, Output}
use Rattle.devices.proofs.Outputs.{broken_later}
use Rattle.depot_actions.specs.Applying.{MayAdd}
use Rattle.depot_jobs.specs.Host.{HostState}
use Rattle.depot_batch.specs.Answers.{AreNoTexts, HasComeOf, HasPutReport, IsReportOn, IsUnasked, Says, outcome_of, report_told, text_as, unasked_report}
use Rattle.depot_batch.specs.Asked.{AskNothing}
use Rattle.depot_batch.specs.Batch.{Did, Happens}
use Rattle.depot_batch.specs.Effects.{Effect, HasCome, HasWords, HasWritten, IsAsked, IsWrong, MayMake, depot_and_output}
use Rattle.depot_batch.specs.Said.{InFull, InLines, InShort, OfFault, OfRefusal, Said, Suits, Wording, answer_in, closing, lines_in, outcome_in, short_value, told_line, value_line}
use Rattle.depot_batch.specs.Turns.{Alone, Broken, Whole, Writing}
use Rattle.depot_batch.specs.declared.format.Format.{Format}
use Rattle.depot_batch.specs.declared.asked.Asked.{Asked}
use Rattle.depot_batch.specs.declared.asked.LineFault.{LineFault}
use Rattle.depot_batch.specs.declared.asked.LineFault.TheVariants as faults
use Rattle.depot_batch.specs.declared.line.Unasked.{Unasked}
use Rattle.depot_batch.specs.declared.line.Unasked.TheVariants as unasked
use Rattle.depot_batch.specs.declared.outcome.Outcome.{Outcome}
use Rattle.depot_batch.specs.declared.report.Report.{Report}
use Rattle.depot_batch.specs.declared.report.Report.TheVariants.{Done, Refused, Wrong}
use Rattle.refusals.specs.declared.refusal.Refusal.TheVariants.{Memory}

-- what nothing happened to survives
pub still : {P : Trees → Type 0} (s : State) → Survives s s P
still s = record {
  clean = omega arith;
  shield = λ shielded. shielded;
  counts = omega arith;
  limit = refl;
  closes = λ clean is. inl is;
  crash = λ clean db left. inl left;
}

-- what may be left may be left for more than one reason
pub more_left : {P Q : Trees → Type 0} (old new : State) → ((db : Trees) → P db → Q db) → Survives old new P → Survives old new Q
more_left old new more survives = record {
  clean = survives.clean;
  shield = survives.shield;
  counts = survives.counts;
  limit = survives.limit;
  closes = survives.closes;
  crash = λ clean db left. elim (survives.crash clean db left) [ inl was ↦ inl was | inr made ↦ inr (more db made) ];
}

-- words that ask for nothing are wrong
wrong_words : (octets : List ℕ) (words : List (List ℕ)) (fault : LineFault) → HasWords octets words → AskNothing words fault → IsWrong octets fault
wrong_words octets words faults.Unfinished has nothing = absurd nothing
wrong_words octets words faults.Words has nothing = absurd nothing
wrong_words octets words faults.NotText has nothing = absurd nothing
wrong_words octets words faults.NoCommand has nothing = (words, has, nothing)
wrong_words octets words (faults.Form form) has nothing = (words, has, nothing)
wrong_words octets words (faults.Number form) has nothing = (words, has, nothing)
wrong_words octets words faults.Encoding has nothing = (words, has, nothing)

-- so are words that aren't all texts
pub no_texts : (octets : List ℕ) (words : List (List ℕ)) (why : Unasked) → HasWords octets words → AreNoTexts words why → IsUnasked octets why
no_texts octets words (unasked.Wrong fault) has are = subst (λ f. IsWrong octets f) (sym are.0) (words, has, are.1)
no_texts octets words unasked.NoMemory has are = tt

pub nothing_asked : (octets : List ℕ) (words : List (List ℕ)) (fault : LineFault) → HasWords octets words → AskNothing words fault → IsUnasked octets (unasked.Wrong fault)
nothing_asked octets words fault has nothing = wrong_words octets words fault has nothing

-- a text was taken, and then a call failed
pub broken_after : (text : List ℕ) (s0 s1 s2 : Output) → HasTaken text s0 s1 → HasBroken [] s1 s2 → HasBroken text s0 s2
broken_after text s0 s1 s2 taken broken = subst (λ octets. HasBroken octets s0 s2) (append-nil text) (broken_later text [] taken broken)

-- an equal text was written, or broke off
pub put_as : {A E : Type 0} {r : Result A E} {a b : List ℕ} {old new : Output} → a ≡ b → HasPut r a old new → HasPut r b old new
put_as {A} {E} {r} {a} {b} {old} {new} same put = subst (λ (text : List ℕ). HasPut r text old new) same put

-- what came of what is asked, with what a report says of it
record Come (Had : Effect → Type 0) (name octets : List ℕ) (report : Report) (host host2 : HostState) : Type 0 where
  said : Said
  says : Says report said
  come : HasCome Had name octets (outcome_of report) said host host2

come_of : (Had : Effect → Type 0) (name octets : List ℕ) (asked : Asked) (report : Report) (host host2 : HostState) → IsAsked octets asked → HasComeOf Had name asked report host host2
    → Come Had name octets report host host2
come_of Had name octets asked (Done answer) host host2 is come = record { said = come.0; says = come.1; come = (asked, is, come.2) }
come_of Had name octets asked (Refused refusal) host host2 is come = record {
  said = OfRefusal refusal;
  says = record { outcome = refl; lines = refl; told = refl };
  come = (refl, inr (asked, is, come));
}
come_of Had name octets asked (Wrong fault) host host2 is come = absurd come

-- a report is written as what it says
same_text : (wording : Wording) (report : Report) (said : Said) → Says report said → text_as wording report ≡ answer_in wording said
same_text InLines report said says = ap (λ text. text ++ closing (outcome_of report)) says.lines ∙ ap (λ outcome. lines_in said ++ closing outcome) says.outcome
same_text InFull report said says =
    ap (λ outcome. told_line outcome (report_told report)) says.outcome ∙ ap (told_line (outcome_in said)) says.told
same_text InShort report said says = ap (λ outcome. value_line (short_value outcome)) says.outcome

module _ {S : Type 0} (g : Ghosts S) (name octets : List ℕ) where
  -- what is asked was done, or refused
  pub asked_reported : (asked : Asked) (report : Report) (old new : Held S) (host host2 : HostState) → IsAsked octets asked → HasComeOf (Did g old new) name asked report host host2
      → Survives (state g old) (state g new) (MayMake (λ command. MayAdd command (state g old)) asked host host2) → IsReportOn g name octets report old new host host2
  asked_reported asked report old new host host2 is come survives =
      let one = come_of (Did g old new) name octets asked report host host2 is come in
      record {
        said = one.said;
        says = one.says;
        come = one.come;
        outlasts = more_left (state g old) (state g new) (λ db made. (asked, is, made)) survives;
      }

  -- nothing was asked
  pub unasked_reported : (why : Unasked) (old : Held S) (host : HostState) → IsUnasked octets why → IsReportOn g name octets (unasked_report why) old old host host
  unasked_reported (unasked.Wrong fault) old host wrong = record {
    said = OfFault fault;
    says = record { outcome = refl; lines = refl; told = refl };
    come = (fault, wrong, refl, (refl, refl));
    outlasts = still (state g old);
  }
  unasked_reported unasked.NoMemory old host wrong = record {
    said = OfRefusal Memory;
    says = record { outcome = refl; lines = refl; told = refl };
    come = (refl, inl (refl, (refl, refl)));
    outlasts = still (state g old);
  }

  module _ (format : Format) (report : Report) (old new : Held S) (host host2 : HostState) (out out2 : Output) (is : IsReportOn g name octets report old new host host2) where
    answered_so : (writing : Writing) (wording : Wording) → Suits format wording → HasWritten writing (text_as wording report) out out2
        → Happens g name format (Alone octets (outcome_of report)) writing (depot_and_output old host out) (depot_and_output new host2 out2)
    answered_so writing wording suits written = record {
      come = record {
        said = is.said;
        come = is.come;
        wording = wording;
        suits = suits;
        written = subst (λ text. HasWritten writing text out out2) (same_text wording report is.said is.says) written;
      };
      outlasts = is.outlasts;
    }

    -- the report was written, or broke off
    pub answered : {E : Type 0} (r : Result Outcome E) → IfOk r (λ outcome. outcome ≡ outcome_of report) → HasPutReport r format report out out2
        → IfOk r (λ outcome. Happens g name format (Alone octets outcome) Whole (depot_and_output old host out) (depot_and_output new host2 out2))
    answered (Ok outcome) same has =
        subst (λ o. Happens g name format (Alone octets o) Whole (depot_and_output old host out) (depot_and_output new host2 out2)) (sym same) (answered_so Whole has.wording has.suits has.put.ok)
    answered (Err e) same has = tt

    pub broken_off : {E : Type 0} (r : Result Outcome E) → HasPutReport r format report out out2
        → OnErr r ((outcome : Outcome) × Happens g name format (Alone octets outcome) Broken (depot_and_output old host out) (depot_and_output new host2 out2))
    broken_off r has = on_err_weaker r (λ written. (outcome_of report, answered_so Broken has.wording has.suits written)) has.put.err
