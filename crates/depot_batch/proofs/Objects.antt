-- Objects have no floats, and their text has no line break.
use Rattle.std.proofs.Common.{◌≡◌, ◌≢◌, ◌∙◌, ◌-◌, ◌++◌, ap, arith, cond, not, refl, subst, sym, ℕ, Bool, List, [], ◌∷◌, Option, Some, None, codes, false, length, map, take, true, true≢false}
use Rattle.std.specs.Fmt.{digits}
use Rattle.std.specs.List.{All}
use Rattle.std.specs.Prelude.{◌==◌, ⊤}
use Rattle.std.specs.Str.{chars}
use Rattle.std.proofs.lemmas.List.Elements.{All-cons, All-nil}
use Rattle.json.proofs.OnLiterals.{json_on_literals}
use Rattle.serde_json.specs.Data.{Data, Members, boolean, put}
use Rattle.serde_json.specs.Written.{compact_text, has_float}
use Rattle.part_store.specs.Entries.{Listing}
use Rattle.part_store.specs.Standing.{listed}
use Rattle.depot_actions.specs.DepotState.{Catalog, Command, Reply as DepotReply, SetScript, SetCode, Deliver, ListAll, ListSince, ProgramOf, Export, Remove, Migrate}
use Rattle.depot_actions.specs.DepotState as depot
use Rattle.depot_actions.specs.PlainMedia.{is_one_line}
use Rattle.refusals.specs.Lines.{name_of, number_of, place_of}
use Rattle.refusals.specs.declared.refusal.Refusal.{Refusal}
use Rattle.depot_cli.specs.Printed.{kind_text}
use Rattle.depot_cli.specs.declared.task.Reply.{Reply}
use Rattle.depot_cli.specs.declared.task.Reply.TheVariants as replies
use Rattle.catalog.proofs.Plain.{AllPlain, ArePlain, IsPlain, IsVisible, array_plain, number_plain, object_plain, put_plain, string_plain}
use Rattle.catalog.proofs.PlainLines.{text_plain}
use Rattle.depot_batch.specs.Answers.{answer_told, outcome_of, report_told, reply_told as told_of}
use Rattle.depot_batch.specs.Asked.{sentence_of}
use Rattle.depot_batch.specs.Lines.{IsLine}
use Rattle.depot_batch.specs.Said.{InFull, InLines, InShort, OfExport, OfFault, OfLines, OfMembers, OfRefusal, OfReply, Said, Suits, Told, Wording, answer_in, as_items, catalog_line, comma_for, entries_members, entry_value, fault_members, filed_in, listed_members, migrated_members, number_value, outcome_in, refusal_members, reply_told, short_value, status_of, told_in, told_line, value_line, with_place, with_status}
use Rattle.depot_batch.specs.declared.answering.Answer.{Answer}
use Rattle.depot_batch.specs.declared.answering.Answer.TheVariants.{Exported, Replied}
use Rattle.depot_batch.specs.declared.asked.LineFault.{LineFault}
use Rattle.depot_batch.specs.declared.format.Format.TheVariants.{Json}
use Rattle.depot_batch.specs.declared.outcome.Outcome.{Outcome}
use Rattle.depot_batch.specs.declared.outcome.Outcome.TheVariants as outcomes
use Rattle.depot_batch.specs.declared.report.Report.{Report}
use Rattle.depot_batch.specs.declared.report.Report.TheVariants as reports
use Rattle.depot_batch.proofs.Closing.{both, one_line_both}

-- ---- members

entry_plain : (entry : Listing) → IsPlain 2 (entry_value entry)
entry_plain entry =
    object_plain 1 _
    (text_plain 0 entry.folder, (string_plain 1 (kind_text entry.kind), (text_plain 0 entry.media, (text_plain 0 entry.name, (number_plain 1 entry.number, (number_plain 1 entry.octets, tt))))))

entries_plain : (entries : List Listing) → AllPlain 2 (map entry_value entries)
entries_plain [] = tt
entries_plain (entry ∷ entries) = (entry_plain entry, entries_plain entries)

entries_are : (entries : List Listing) → ArePlain 3 (entries_members entries)
entries_are entries = (array_plain 2 (map entry_value entries) (entries_plain entries), tt)

listed_are : (reply : DepotReply) → ArePlain 3 (listed_members reply)
listed_are (depot.Listed entries) = entries_are entries
listed_are depot.Done = tt
listed_are (depot.Program program) = tt
listed_are (depot.Text text) = tt
listed_are (depot.Migrated count) = tt

migrated_are : (reply : DepotReply) → ArePlain 3 (migrated_members reply)
migrated_are (depot.Migrated count) = (number_plain 3 count, tt)
migrated_are depot.Done = tt
migrated_are (depot.Program program) = tt
migrated_are (depot.Text text) = tt
migrated_are (depot.Listed entries) = tt

-- what is told has members that are plain
abbrev AreTold : Told → Type 0
AreTold (OfMembers members) = ArePlain 3 members
AreTold (OfLines lines) = ⊤

reply_are : (command : Command) (reply : DepotReply) → AreTold (reply_told command reply)
reply_are (SetScript user script) reply = tt
reply_are (SetCode user program) reply = tt
reply_are (Deliver user message) reply = listed_are reply
reply_are (ListAll user) reply = listed_are reply
reply_are (ListSince user number) reply = listed_are reply
reply_are (Catalog user number) reply = tt
reply_are (ProgramOf user) reply = tt
reply_are (Export user number encoding) reply = tt
reply_are (Remove user number) reply = (number_plain 3 number, tt)
reply_are Migrate reply = migrated_are reply

place_are : (place : Option ℕ) (members : Members) → ArePlain 3 members → ArePlain 3 (with_place place members)
place_are None others are = are
place_are (Some place) others are = put_plain 3 (codes "place") (number_value place) others (number_plain 3 place) are

refusal_are : (refusal : Refusal) → ArePlain 3 (refusal_members refusal)
refusal_are refusal = place_are (place_of refusal) _ (string_plain 3 (name_of refusal), (number_plain 3 (number_of refusal), tt))

fault_are : (fault : LineFault) → ArePlain 3 (fault_members fault)
fault_are fault = (string_plain 3 (sentence_of fault), tt)

said_are : (said : Said) → AreTold (told_in said)
said_are (OfReply command reply) = reply_are command reply
said_are (OfExport number) = (number_plain 3 number, tt)
said_are (OfRefusal refusal) = refusal_are refusal
said_are (OfFault fault) = fault_are fault

told_are : (reply : Reply) → AreTold (told_of reply)
told_are replies.Stored = tt
told_are (replies.Filed rows) = entries_are (map listed rows.items)
told_are (replies.Listed rows) = entries_are (map listed rows.items)
told_are (replies.Catalog lines) = tt
told_are (replies.Removed number) = (number_plain 3 number, tt)
told_are (replies.Migrated count) = (number_plain 3 count, tt)

answer_are : (answer : Answer) → AreTold (answer_told answer)
answer_are (Replied reply) = told_are reply
answer_are (Exported number) = (number_plain 3 number, tt)

report_are : (report : Report) → AreTold (report_told report)
report_are (reports.Done answer) = answer_are answer
report_are (reports.Refused refusal) = refusal_are refusal
report_are (reports.Wrong fault) = fault_are fault

-- ---- objects

status_plain : (outcome : Outcome) (members : Members) → ArePlain 3 members → IsPlain 4 (with_status outcome members)
status_plain outcome members are =
    object_plain 3 (put (codes "status") (number_value (status_of outcome)) members)
    (put_plain 3 (codes "status") (number_value (status_of outcome)) members (number_plain 3 (status_of outcome)) are)

pub report_whole : (report : Report) (members : Members) → report_told report ≡ OfMembers members → has_float (with_status (outcome_of report) members) ≡ false
report_whole report members is = (status_plain (outcome_of report) members (subst AreTold is (report_are report))).whole

pub filed_whole : (entries : List Listing) → has_float (with_status outcomes.Done (entries_members entries)) ≡ false
filed_whole entries = (status_plain outcomes.Done (entries_members entries) (entries_are entries)).whole

-- ---- what stands for an answer

pub short_done : compact_text (short_value outcomes.Done) ≡ codes "{\"incomplete\":true,\"status\":0}"
unfolding digits chars json_on_literals
short_done = refl

pub short_refused : (refusal : Refusal) → compact_text (short_value (outcomes.Refused refusal)) ≡ codes "{\"incomplete\":true,\"status\":1}"
unfolding digits chars json_on_literals
short_refused refusal = refl

pub short_wrong : compact_text (short_value outcomes.Wrong) ≡ codes "{\"incomplete\":true,\"status\":2}"
unfolding digits chars json_on_literals
short_wrong = refl

-- ---- lines

abbrev IsInner : ℕ → Type 0
IsInner octet = octet ≢ 10

inner : (text : List ℕ) → IsVisible text → All IsInner text
inner [] visible = All-nil IsInner
inner (octet ∷ text) visible = All-cons IsInner octet text (λ is. omega (arith, is, visible.0)) (inner text visible.1)

value_is_line : (value : Data) → IsVisible (compact_text value) → IsLine (value_line value)
value_is_line value visible = record { text = compact_text value; ends = refl; plain = inner (compact_text value) visible }

-- the items of a catalog have commas for line breaks
comma_other : (octet : ℕ) → not (comma_for octet == 10) ≡ true
comma_other octet = go (octet == 10) refl
  where
    go : (b : Bool) → octet == 10 ≡ b → not (cond b 44 octet == 10) ≡ true
    go true is = refl
    go false is = rw is refl

commas_one_line : (octets : List ℕ) → is_one_line (map comma_for octets) ≡ true
commas_one_line [] = refl
commas_one_line (octet ∷ octets) = rw (comma_other octet) (commas_one_line octets)

one_line_inner : (text : List ℕ) → is_one_line text ≡ true → All IsInner text
one_line_inner [] one = All-nil IsInner
one_line_inner (octet ∷ text) one =
    let parts = both (not (octet == 10)) (is_one_line text) one in
    All-cons IsInner octet text (λ is. true≢false (sym parts.0 ∙ ap (λ o. not (o == 10)) is)) (one_line_inner text parts.1)

catalog_is_line : (lines : List ℕ) → IsLine (catalog_line lines)
catalog_is_line lines =
    let start = codes "{\"catalog\":[" in
    let end = codes "],\"status\":0}" in
    let begun = one_line_both start (as_items lines) refl (commas_one_line (take (length lines - 1) lines)) in
    record {
      text = start ++ as_items lines ++ end;
      ends = refl;
      plain = one_line_inner (start ++ as_items lines ++ end) (one_line_both (start ++ as_items lines) end begun refl);
    }

true_plain : IsPlain 0 (boolean true)
true_plain = record { whole = refl; shallow = omega arith; visible = (omega arith, (omega arith, (omega arith, (omega arith, tt)))) }

short_plain : (outcome : Outcome) → IsPlain 1 (short_value outcome)
short_plain outcome = object_plain 0 _ (true_plain, (number_plain 0 (status_of outcome), tt))

told_is_line : (outcome : Outcome) (told : Told) → AreTold told → IsLine (told_line outcome told)
told_is_line outcome (OfMembers members) are = let plain = status_plain outcome members are in value_is_line (with_status outcome members) plain.visible
told_is_line outcome (OfLines lines) are = catalog_is_line lines

pub answer_is_line : (wording : Wording) → Suits Json wording → (said : Said) → IsLine (answer_in wording said)
answer_is_line InLines suits said = absurd suits
answer_is_line InFull suits said = told_is_line (outcome_in said) (told_in said) (said_are said)
answer_is_line InShort suits said = let plain = short_plain (outcome_in said) in value_is_line (short_value (outcome_in said)) plain.visible

pub filed_is_line : (wording : Wording) → Suits Json wording → (entries : List Listing) → IsLine (filed_in wording entries)
filed_is_line InLines suits entries = absurd suits
filed_is_line InFull suits entries =
    let plain = status_plain outcomes.Done (entries_members entries) (entries_are entries) in
    value_is_line (with_status outcomes.Done (entries_members entries)) plain.visible
filed_is_line InShort suits entries = let plain = short_plain outcomes.Done in value_is_line (short_value outcomes.Done) plain.visible
