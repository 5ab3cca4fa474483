-- Private: how the code answers a line.
use Rattle.std.specs.Prelude.{◌≡◌, ℕ, List, [], ◌∷◌, ◌++◌, Result, Some, codes, map}
use Rattle.std.specs.List.{All, flat_map}
use Rattle.std.specs.Str.{IsUtf8}
use Rattle.sqlite_trees.specs.declared.store.Store.{Ghosts}
use Rattle.sqlite.specs.Held.{Held, state}
use Rattle.sqlite.specs.State.{Survives}
use Rattle.devices.specs.Device.{HasPut, Output}
use Rattle.part_store.specs.Entries.{Listing}
use Rattle.part_store.specs.Standing.{listed}
use Rattle.printing.specs.Printed.{refusal_line}
use Rattle.serde_json.specs.Data.{member, no_members}
use Rattle.serde_json.specs.View.{members_view}
use Rattle.depot_jobs.specs.Host.{HostState}
use Rattle.depot_cli.specs.Printed.{text_in as reply_text}
use Rattle.depot_cli.specs.declared.task.Reply.{Reply}
use Rattle.depot_cli.specs.declared.task.Reply.TheVariants as replies
use Rattle.refusals.specs.declared.refusal.Refusal.TheVariants.{Memory}
use Rattle.depot_batch.specs.Asked.{wrong_line}
use Rattle.depot_batch.specs.Batch.{Did, MayLeaveIn}
use Rattle.depot_batch.specs.Effects.{Effect, HasCome, IsDone, IsRefused, IsWrong}
use Rattle.depot_batch.specs.Said.{InFull, InLines, InShort, OfLines, OfMembers, Said, Suits, Told, Wording, closing, entries_members, exported_members, exported_text, fault_members, filed_in, lines_in, number_value, outcome_in, refusal_members, short_value, told_in, told_line, value_line}
use Rattle.depot_batch.specs.Turns.{Alone}
use Rattle.depot_batch.specs.Words.{words_of}
use Rattle.depot_batch.specs.declared.answering.Answer.{Answer}
use Rattle.depot_batch.specs.declared.answering.Answer.TheVariants.{Replied, Exported}
use Rattle.depot_batch.specs.declared.asked.Asked.{Asked}
use Rattle.depot_batch.specs.declared.asked.LineFault.TheVariants.{NotText}
use Rattle.depot_batch.specs.declared.format.Format.{Format}
use Rattle.depot_batch.specs.declared.line.Unasked.{Unasked}
use Rattle.depot_batch.specs.declared.line.Unasked.TheVariants.{Wrong, NoMemory}
use Rattle.depot_batch.specs.declared.outcome.Outcome.{Outcome}
use Rattle.depot_batch.specs.declared.outcome.Outcome.TheVariants as outcomes
use Rattle.depot_batch.specs.declared.report.Report.{Report}
use Rattle.depot_batch.specs.declared.report.Report.TheVariants as reports
use Rattle.depot_batch.specs.declared.values.Told.{Told as Made}
use Rattle.depot_batch.specs.declared.values.Told.TheVariants as made

-- ---- what a line is answered with

-- what is printed of an answer
abbrev pub text_in : Answer → List ℕ
text_in (Replied reply) = reply_text reply
text_in (Exported number) = exported_text number

-- of a report
abbrev pub report_text : Report → List ℕ
report_text (reports.Done answer) = text_in answer
report_text (reports.Refused refusal) = refusal_line refusal
report_text (reports.Wrong fault) = wrong_line fault

-- the outcome of its line
abbrev pub outcome_of : Report → Outcome
outcome_of (reports.Done answer) = outcomes.Done
outcome_of (reports.Refused refusal) = outcomes.Refused refusal
outcome_of (reports.Wrong fault) = outcomes.Wrong

-- the report, and the line that ends the answer
abbrev pub answer_text : Report → List ℕ
answer_text report = report_text report ++ closing (outcome_of report)

-- what is told of a reply in JSON beside the status
abbrev pub reply_told : Reply → Told
reply_told replies.Stored = OfMembers no_members
reply_told (replies.Filed rows) = OfMembers (entries_members (map listed rows.items))
reply_told (replies.Listed rows) = OfMembers (entries_members (map listed rows.items))
reply_told (replies.Catalog lines) = OfLines lines.items
reply_told (replies.Removed number) = OfMembers (member (codes "removed") (number_value number) no_members)
reply_told (replies.Migrated count) = OfMembers (member (codes "migrated") (number_value count) no_members)

-- of an answer
abbrev pub answer_told : Answer → Told
answer_told (Replied reply) = reply_told reply
answer_told (Exported number) = OfMembers (exported_members number)

-- of a report
abbrev pub report_told : Report → Told
report_told (reports.Done answer) = answer_told answer
report_told (reports.Refused refusal) = OfMembers (refusal_members refusal)
report_told (reports.Wrong fault) = OfMembers (fault_members fault)

-- what the code makes of it
abbrev pub told_by : Made → Told
told_by (made.Members members) = OfMembers (members_view members.entries)
told_by (made.Lines lines) = OfLines lines.now

-- a report, as it is written
abbrev pub text_as : Wording → Report → List ℕ
text_as InLines report = answer_text report
text_as InFull report = told_line (outcome_of report) (report_told report)
text_as InShort report = value_line (short_value (outcome_of report))

-- a report was written in this format, or broke off
pub record HasPutReport {A E : Type 0} (result : Result A E) (format : Format) (report : Report) (old new : Output) : Type 0 where
  pub wording : Wording
  pub suits : Suits format wording
  pub put : HasPut result (text_as wording report) old new

-- so were the answers to deliveries that filed these entries
pub record HasPutFiled {A E : Type 0} (result : Result A E) (format : Format) (filed : List (List Listing)) (old new : Output) : Type 0 where
  pub wording : Wording
  pub suits : Suits format wording
  pub put : HasPut result (flat_map (filed_in wording) filed) old new

-- a report says this
pub record Says (report : Report) (said : Said) : Type 0 where
  pub outcome : outcome_of report ≡ outcome_in said
  pub lines : report_text report ≡ lines_in said
  pub told : report_told report ≡ told_in said

-- ---- lines

-- the words of a line were read
abbrev pub HasLineWords : List ℕ → List (List ℕ) → Type 0
HasLineWords octets words = (text : List ℕ) × (octets ≡ text ++ 10 ∷ []) × (words_of text ≡ Some words)

-- the words of a line weren't asked: it is wrong, or memory was refused
abbrev pub IsUnasked : List ℕ → Unasked → Type 0
IsUnasked octets (Wrong fault) = IsWrong octets fault
IsUnasked octets NoMemory = Unit {0}

-- words aren't all texts, or memory was refused
abbrev pub AreNoTexts : List (List ℕ) → Unasked → Type 0
AreNoTexts words (Wrong fault) = (fault ≡ NotText) × (All IsUtf8 words → ⊥)
AreNoTexts words NoMemory = Unit {0}

-- what a line is answered with that wasn't asked
abbrev pub unasked_report : Unasked → Report
unasked_report (Wrong fault) = reports.Wrong fault
unasked_report NoMemory = reports.Refused Memory

-- what came of what is asked, by what was done with a depot
abbrev pub HasComeOf : (Effect → Type 0) → List ℕ → Asked → Report → HostState → HostState → Type 0
HasComeOf Had name asked (reports.Done answer) host host2 = (said : Said) × Says (reports.Done answer) said × IsDone Had name asked said host host2
HasComeOf Had name asked (reports.Refused refusal) host host2 = IsRefused Had name asked refusal host host2
HasComeOf Had name asked (reports.Wrong fault) host host2 = ⊥

module _ {S : Type 0} (g : Ghosts S) where
  -- what came of a line, and what a crash may leave of it
  pub record IsReportOn (name line : List ℕ) (report : Report) (old new : Held S) (host host2 : HostState) : Type 0 where
    pub said : Said
    pub says : Says report said
    pub come : HasCome (Did g old new) name line (outcome_of report) said host host2
    pub outlasts : Survives (state g old) (state g new) (MayLeaveIn (Alone line (outcome_of report)) (state g old) host host2)
