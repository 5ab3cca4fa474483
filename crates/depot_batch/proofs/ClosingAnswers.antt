-- No line of an answer begins with `= `.
use Rattle.std.proofs.Common.{◌≡◌, ◌∙◌, refl, sym, ap, append_assoc, arith, cond, codes, Bool, true, false, ◌++◌, ℕ, List, [], ◌∷◌, map, Option, Some, None, true≢false}
use Rattle.std.specs.Prelude.{filter, flat_map, nat_lt}
use Rattle.std.specs.Borrow.{Bor}
use Rattle.std.specs.List.{list_all}
use Rattle.std.specs.Fmt.{decimal}
use Rattle.sqlite_trees.specs.declared.store.Store.{Ghosts}
use Rattle.sqlite.specs.Held.{Held, state}
use Rattle.sqlite.specs.State.{HasCleanDisk, State}
use Rattle.mime_decode.specs.Mail.{mail_of}
use Rattle.catalog.specs.Catalog.{Filed, catalog, line_among, messages_of, parts_of, piece_of, row_of_filed}
use Rattle.catalog.specs.Lines.{message_line, part_line}
use Rattle.catalog.specs.Rows.{Row}
use Rattle.catalog.specs.Stored.{digests_of, messages_with, stored_in}
use Rattle.catalog.specs.declared.entry.Place.{Place}
use Rattle.catalog.proofs.Plain.{IsVisible}
use Rattle.catalog.proofs.PlainLines.{message_plain, part_plain}
use Rattle.part_store.specs.Entries.{Entries, Entry, Listing, entries_of, entries_since, listing_of}
use Rattle.part_store.specs.Standing.{Stands}
use Rattle.part_store.specs.declared.entry.Kind.{Kind}
use Rattle.part_store.specs.declared.entry.Kind.TheVariants.{Message, Part}
use Rattle.depot_actions.specs.DepotState.{Reply as DepotReply, filed_of}
use Rattle.depot_actions.specs.DepotState as depot
use Rattle.depot_actions.specs.PlainMedia.{HavePlainMedia, is_one_line}
use Rattle.refusals.specs.Lines.{name_of, number_of, place_of, place_text, refusal_text}
use Rattle.refusals.specs.declared.refusal.Refusal.{Refusal}
use Rattle.refusals.specs.declared.refusal.Refusal.TheVariants.{Memory}
use Rattle.printing.specs.Printed.{line, quoted, refusal_line}
use Rattle.depot_jobs.specs.declared.request.Access.TheVariants as accesses
use Rattle.depot_jobs.specs.declared.request.Deposit.TheVariants as deposits
use Rattle.depot_cli.specs.declared.task.WithReply.{WithReply}
use Rattle.depot_cli.specs.declared.task.WithReply.TheVariants.{FromFile, OnUser, Migrate}
use Rattle.depot_cli.specs.Printed.{entries_text, entry_text, kind_text, reply_text}
use Rattle.depot_cli.specs.Requests.{on_depot, request_command}
use Rattle.depot_cli.specs.Tasks.{HasDone}
use Rattle.depot_cli.specs.declared.entries.Detail.TheVariants.{Brief, Full}
use Rattle.depot_batch.specs.Batch.{Did}
use Rattle.depot_batch.specs.Effects.{DepotAndOutput, HasCome, IsDone}
use Rattle.depot_batch.specs.Said.{Said, lines_in}
use Rattle.depot_batch.specs.Asked.{Text, wrong_line}
use Rattle.depot_batch.specs.Closings.{has_closing}
use Rattle.depot_batch.specs.declared.asked.Asked.{Asked}
use Rattle.depot_batch.specs.declared.asked.Asked.TheVariants.{Reply, Export as IntoFile}
use Rattle.depot_batch.specs.declared.asked.Form.TheVariants as forms
use Rattle.depot_batch.specs.declared.asked.LineFault.{LineFault}
use Rattle.depot_batch.specs.declared.asked.LineFault.TheVariants as faults
use Rattle.depot_batch.specs.declared.outcome.Outcome.{Outcome}
use Rattle.depot_batch.specs.declared.outcome.Outcome.TheVariants.{Done, Refused, Wrong}
use Rattle.depot_batch.proofs.Closing.{begins_otherwise, both, decimal_begins, decimal_one_line, line_alone, line_passes, lines_pass, one_line_both, other, quoted_one_line}

-- a text of one line, which begins otherwise
abbrev Safe : List ℕ → Type 0
Safe text = (begins_otherwise text ≡ true) × (is_one_line text ≡ true)

safe_both : (a b : List ℕ) → Safe a → is_one_line b ≡ true → Safe (a ++ b)
safe_both [] b safe more = absurd (true≢false (sym safe.0))
safe_both (x ∷ xs) b safe more = (safe.0, one_line_both (x ∷ xs) b safe.1 more)

safe_line : (text : List ℕ) → Safe text → has_closing true (line text) ≡ false
safe_line text safe = line_alone text safe.0 safe.1

-- ---- what a depot replies

kind_one_line : (kind : Kind) → is_one_line (kind_text kind) ≡ true
kind_one_line Message = refl
kind_one_line Part = refl

brief_safe : (entry : Listing) → Safe (entry_text Brief entry)
brief_safe entry =
    let number = decimal entry.number in
    let spaced = number ++ codes " " in
    let kind = spaced ++ kind_text entry.kind in
    safe_both (kind ++ codes " ") (quoted entry.folder)
    (safe_both kind (codes " ")
    (safe_both spaced (kind_text entry.kind)
    (safe_both number (codes " ") (decimal_begins entry.number, decimal_one_line entry.number) refl) (kind_one_line entry.kind)) refl) (quoted_one_line entry.folder)

full_safe : (entry : Listing) → is_one_line entry.media ≡ true → Safe (entry_text Full entry)
full_safe entry plain =
    let folder = entry_text Brief entry in
    let spaced = folder ++ codes " " in
    let name = spaced ++ quoted entry.name in
    let before_media = name ++ codes " " in
    let media = before_media ++ entry.media in
    safe_both (media ++ codes " ") (decimal entry.octets)
    (safe_both media (codes " ")
    (safe_both before_media entry.media
    (safe_both name (codes " ")
    (safe_both spaced (quoted entry.name) (safe_both folder (codes " ") (brief_safe entry) refl) (quoted_one_line entry.name)) refl) plain) refl) (decimal_one_line entry.octets)

all_true : {A : Type 0} (xs : List A) → list_all (λ _. true) xs ≡ true
all_true [] = refl
all_true (x ∷ xs) = all_true xs

pub brief_closes_none : (entries : List Listing) → has_closing true (entries_text Brief entries) ≡ false
brief_closes_none [] = refl
brief_closes_none (e ∷ es) =
    lines_pass (entry_text Brief) (e ∷ es) (λ _. true) (all_true (e ∷ es)) (λ x fit. (brief_safe x).0) (λ x fit. (brief_safe x).1)

full_closes_none : (entries : List Listing) → list_all (λ x. is_one_line x.media) entries ≡ true → has_closing true (entries_text Full entries) ≡ false
full_closes_none [] plain = refl
full_closes_none (e ∷ es) plain =
    lines_pass (entry_text Full) (e ∷ es) (λ x. is_one_line x.media) plain (λ x fit. (full_safe x fit).0) (λ x fit. (full_safe x fit).1)

-- some of the entries have the media types of all
plain_some : (fit : Entry → Bool) (entries : List Entry) → list_all (λ x. is_one_line x.media) entries ≡ true → list_all (λ x. is_one_line x.media) (filter fit entries) ≡ true
plain_some fit [] plain = refl
plain_some fit (x ∷ xs) plain = go (fit x) (plain_some fit xs (both _ _ plain).1)
  where
    go : (b : Bool) → list_all (λ x. is_one_line x.media) (filter fit xs) ≡ true → list_all (λ x. is_one_line x.media) (cond b (x ∷ filter fit xs) (filter fit xs)) ≡ true
    go true rest =
        let here : is_one_line x.media ≡ true = (both (is_one_line x.media) _ plain).0 in
        rw here rest
    go false rest = rest

-- and so have their listings
plain_listed : (entries : List Entry) → list_all (λ x. is_one_line x.media) entries ≡ true → list_all (λ (x : Listing). is_one_line x.media) (map listing_of entries) ≡ true
plain_listed [] plain = refl
plain_listed (x ∷ xs) plain =
    let here : is_one_line x.media ≡ true = (both (is_one_line x.media) _ plain).0 in
    rw here (plain_listed xs (both _ _ plain).1)

numbered_safe : (words : List ℕ) (number : ℕ) → Safe words → has_closing true (line (words ++ decimal number)) ≡ false
numbered_safe words number safe = safe_line (words ++ decimal number) (safe_both words (decimal number) safe (decimal_one_line number))

delivered : (reply : DepotReply) (user message : List ℕ) → has_closing true (reply_text (depot.Deliver user message) reply) ≡ false
delivered (depot.Listed entries) user message = brief_closes_none entries
delivered depot.Done user message = refl
delivered (depot.Program program) user message = refl
delivered (depot.Text text) user message = refl
delivered (depot.Migrated number) user message = refl

migrated : (reply : DepotReply) → has_closing true (reply_text depot.Migrate reply) ≡ false
migrated (depot.Migrated number) = numbered_safe (codes "migrated ") number (refl, refl)
migrated depot.Done = refl
migrated (depot.Program program) = refl
migrated (depot.Text text) = refl
migrated (depot.Listed entries) = refl

listed : (user : List ℕ) (reply : DepotReply) (old new : State) (before : Entries) → HasDone (depot.ListAll user) reply old new → HasCleanDisk new → Stands old.now before
    → HavePlainMedia before → has_closing true (reply_text (depot.ListAll user) reply) ≡ false
listed user reply old new before done clean stands plain =
    let accepted = (done clean).1 before stands in
    let is : reply ≡ depot.Listed (map listing_of (entries_of user before)) = accepted.1.step.0 in
    ap (λ r. has_closing true (reply_text (depot.ListAll user) r)) is ∙ full_closes_none _ (plain_listed (entries_of user before) (plain_some _ before.entries plain))

listed_since : (user : List ℕ) (number : ℕ) (reply : DepotReply) (old new : State) (before : Entries) → HasDone (depot.ListSince user number) reply old new → HasCleanDisk new
    → Stands old.now before → HavePlainMedia before → has_closing true (reply_text (depot.ListSince user number) reply) ≡ false
listed_since user number reply old new before done clean stands plain =
    let accepted = (done clean).1 before stands in
    let is : reply ≡ depot.Listed (map listing_of (entries_since user number before)) = accepted.1.step.0 in
    ap (λ r. has_closing true (reply_text (depot.ListSince user number) r)) is
    ∙ full_closes_none _ (plain_listed (entries_since user number before) (plain_some _ (entries_of user before) (plain_some _ before.entries plain)))

-- the lines of a catalog
one_line : (text : List ℕ) → IsVisible text → is_one_line text ≡ true
one_line [] visible = refl
one_line (x ∷ xs) visible = rw (other x 10 (λ e. omega (arith, e, visible.0))) (one_line xs visible.1)

text_passes : (text more : List ℕ) → begins_otherwise text ≡ true → IsVisible text → has_closing true ((text ++ 10 ∷ []) ++ more) ≡ has_closing true more
text_passes text more begins visible = ap (has_closing true) (append_assoc text (10 ∷ []) more) ∙ line_passes text more begins (one_line text visible)

entry_passes : (all : List Filed) (x : Filed) (more : List ℕ) → has_closing true (line_among all x ++ more) ≡ has_closing true more
entry_passes all x more = go x.is_message
  where
    row : Row
    row = row_of_filed x

    stored : List Place
    stored = stored_in (digests_of (mail_of x.octets)) (parts_of all)

    messages : List Place
    messages = messages_with row.digest (messages_of all)

    go : (b : Bool) → has_closing true ((cond b (message_line row (mail_of x.octets) stored) (part_line row messages) ++ 10 ∷ []) ++ more) ≡ has_closing true more
    go true = text_passes (message_line row (mail_of x.octets) stored) more refl (message_plain row (mail_of x.octets) stored).visible
    go false = text_passes (part_line row messages) more refl (part_plain row messages).visible

catalog_closes_none : (after : ℕ) (all some : List Filed) → has_closing true (flat_map (piece_of after all) some) ≡ false
catalog_closes_none after all [] = refl
catalog_closes_none after all (x ∷ xs) = go (nat_lt after x.number) (catalog_closes_none after all xs)
  where
    rest : List ℕ
    rest = flat_map (piece_of after all) xs

    go : (b : Bool) → has_closing true rest ≡ false → has_closing true (cond b (line_among all x) [] ++ rest) ≡ false
    go true none = entry_passes all x rest ∙ none
    go false none = none

catalogued : (user : List ℕ) (number : ℕ) (reply : DepotReply) (old new : State) (before : Entries) → HasDone (depot.Catalog user number) reply old new → HasCleanDisk new
    → Stands old.now before → has_closing true (reply_text (depot.Catalog user number) reply) ≡ false
catalogued user number reply old new before done clean stands =
    let accepted = (done clean).1 before stands in
    let all = map filed_of (entries_of user before) in
    let is : reply ≡ depot.Text (catalog number all) = accepted.1.step.0 in
    ap (λ r. has_closing true (reply_text (depot.Catalog user number) r)) is ∙ catalog_closes_none number all all

replied : (command : WithReply (Bor Text)) (octets : List ℕ) (reply : DepotReply) (old new : State) (before : Entries)
    → HasDone (request_command (on_depot command) octets) reply old new → HasCleanDisk new → Stands old.now before → HavePlainMedia before
    → has_closing true (reply_text (request_command (on_depot command) octets) reply) ≡ false
replied (FromFile deposits.Script user file) octets reply old new before done clean stands plain = refl
replied (FromFile deposits.Code user file) octets reply old new before done clean stands plain = refl
replied (FromFile deposits.Message user file) octets reply old new before done clean stands plain = delivered reply user.now octets
replied (OnUser accesses.List user) octets reply old new before done clean stands plain = listed user.now reply old new before done clean stands plain
replied (OnUser (accesses.Since number) user) octets reply old new before done clean stands plain = listed_since user.now number reply old new before done clean stands plain
replied (OnUser (accesses.Catalog number) user) octets reply old new before done clean stands plain = catalogued user.now number reply old new before done clean stands
replied (OnUser (accesses.Remove number) user) octets reply old new before done clean stands plain = numbered_safe (codes "removed ") number (refl, refl)
replied Migrate octets reply old new before done clean stands plain = migrated reply

-- ---- what is refused, or wrong

name_one_line : (refusal : Refusal) → is_one_line (name_of refusal) ≡ true
name_one_line Memory = refl
name_one_line _ = refl

place_one_line : (place : Option ℕ) → is_one_line (place_text place) ≡ true
place_one_line None = refl
place_one_line (Some place) = one_line_both (codes " at ") (decimal place) refl (decimal_one_line place)

refused_closes_none : (refusal : Refusal) → has_closing true (refusal_line refusal) ≡ false
refused_closes_none refusal =
    let number = codes "refused " ++ decimal (number_of refusal) in
    let name = number ++ codes " " ++ name_of refusal in
    safe_line (refusal_text refusal)
    (safe_both name (place_text (place_of refusal))
    (safe_both (number ++ codes " ") (name_of refusal)
    (safe_both number (codes " ") (safe_both (codes "refused ") (decimal (number_of refusal)) (refl, refl) (decimal_one_line (number_of refusal))) refl)
    (name_one_line refusal)) (place_one_line (place_of refusal)))

wrong_closes_none : (fault : LineFault) → has_closing true (wrong_line fault) ≡ false
wrong_closes_none faults.Unfinished = refl
wrong_closes_none faults.Words = refl
wrong_closes_none faults.NotText = refl
wrong_closes_none faults.NoCommand = refl
wrong_closes_none (faults.Form (forms.FromFile deposits.Script)) = refl
wrong_closes_none (faults.Form (forms.FromFile deposit)) = refl
wrong_closes_none (faults.Form form) = refl
wrong_closes_none (faults.Number forms.Since) = refl
wrong_closes_none (faults.Number form) = refl
wrong_closes_none faults.Encoding = refl

-- ---- answers

module _ {S : Type 0} (g : Ghosts S) where
  done_closes_none : (name : List ℕ) (asked : Asked) (said : Said) (old new : DepotAndOutput (Held S)) (before : Entries)
      → IsDone (Did g old.depot new.depot) name asked said old.host new.host → HasCleanDisk (state g new.depot) → Stands (state g old.depot).now before
      → HavePlainMedia before → has_closing true (lines_in said) ≡ false
  done_closes_none name (Reply command) said old new before done clean stands plain =
      let answered = done.2 in
      ap (λ (x : Said). has_closing true (lines_in x)) answered.2
      ∙ replied command done.0 answered.0 (state g old.depot) (state g new.depot) before answered.1 clean stands plain
  done_closes_none name (IntoFile export) said old new before done clean stands plain =
      ap (λ (x : Said). has_closing true (lines_in x)) done.0 ∙ numbered_safe (codes "exported ") export.number (refl, refl)

  pub closes_none : (name octets : List ℕ) (outcome : Outcome) (said : Said) (old new : DepotAndOutput (Held S)) → HasCome (Did g old.depot new.depot) name octets outcome said old.host new.host
      → HasCleanDisk (state g new.depot) → (before : Entries) → Stands (state g old.depot).now before → HavePlainMedia before → has_closing true (lines_in said) ≡ false
  closes_none name octets Done said old new come clean before stands plain =
      done_closes_none name come.0 said old new before come.2 clean stands plain
  closes_none name octets (Refused refusal) said old new come clean before stands plain = ap (λ (x : Said). has_closing true (lines_in x)) come.0 ∙ refused_closes_none refusal
  closes_none name octets Wrong said old new come clean before stands plain = ap (λ (x : Said). has_closing true (lines_in x)) come.2 ∙ wrong_closes_none come.0
