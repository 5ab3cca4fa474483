-- What a report says.
use Rattle.std.proofs.Common.{◌≡◌, ◌∙◌, ap, refl, sym}
use Rattle.depot_actions.specs.DepotState.{Catalog, Command, Reply as DepotReply, SetScript, SetCode, Deliver, ListAll, ListSince, ProgramOf, Export, Remove, Migrate}
use Rattle.depot_cli.specs.Printed.{Tells, reply_text, text_in}
use Rattle.depot_cli.specs.declared.task.Reply.{Reply}
use Rattle.depot_batch.specs.Answers.{Says, reply_told as told_of}
use Rattle.depot_batch.specs.Said.{OfLines, OfMembers, OfReply, catalog_lines, listed_members, migrated_members, reply_told}
use Rattle.depot_batch.specs.declared.answering.Answer.TheVariants.{Replied}
use Rattle.depot_batch.specs.declared.report.Report.TheVariants.{Done}

same_told : (command : Command) (reply : DepotReply) (told : Reply) → Tells command reply told → told_of told ≡ reply_told command reply
same_told (SetScript user script) reply told tells = ap told_of tells
same_told (SetCode user program) reply told tells = ap told_of tells
same_told (Deliver user message) reply told tells = ap told_of tells.1 ∙ sym (ap (λ r. OfMembers (listed_members r)) tells.2)
same_told (ListAll user) reply told tells = ap told_of tells.1 ∙ sym (ap (λ r. OfMembers (listed_members r)) tells.2)
same_told (ListSince user number) reply told tells = ap told_of tells.1 ∙ sym (ap (λ r. OfMembers (listed_members r)) tells.2)
same_told (Catalog user number) reply told tells = ap told_of tells.1 ∙ sym (ap (λ r. OfLines (catalog_lines r)) tells.2)
same_told (ProgramOf user) reply told tells = absurd tells
same_told (Export user number encoding) reply told tells = absurd tells
same_told (Remove user number) reply told tells = ap told_of tells
same_told Migrate reply told tells = ap told_of tells.1 ∙ sym (ap (λ r. OfMembers (migrated_members r)) tells.2)

-- a reply of the code says what the depot replied
pub says_reply : (command : Command) (reply : DepotReply) (told : Reply) → text_in told ≡ reply_text command reply → Tells command reply told → Says (Done (Replied told)) (OfReply command reply)
says_reply command reply told text tells = record { outcome = refl; lines = text; told = same_told command reply told tells }
