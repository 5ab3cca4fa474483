-- A command whose file was read, and which the depot did or refused.
use Rattle.std.proofs.Common.{inr, refl, List, ℕ, Result, Ok, Err, IfErr, IfOk}
use Rattle.std.specs.Borrow.{Bor}
use Rattle.sqlite_trees.specs.declared.store.Store.{Ghosts}
use Rattle.sqlite.specs.Held.{Held, state}
use Rattle.sqlite.specs.State.{Survives}
use Rattle.depot_actions.specs.Applying.{MayAdd}
use Rattle.depot_jobs.specs.Host.{HostState}
use Rattle.depot_jobs.specs.Inputs.{HasReadFile, file_of}
use Rattle.depot_cli.specs.Requests.{on_depot, request_command}
use Rattle.depot_cli.specs.Tasks.{HasAnswered, HasRefused}
use Rattle.depot_cli.specs.declared.task.Reply.{Reply as Told}
use Rattle.depot_cli.specs.declared.task.WithReply.{WithReply}
use Rattle.refusals.specs.declared.refusal.Refusal.{Refusal}
use Rattle.depot_batch.specs.Answers.{Says}
use Rattle.depot_batch.specs.Asked.{Text}
use Rattle.depot_batch.specs.Batch.{Did}
use Rattle.depot_batch.specs.Effects.{HasNotReplied, HasReplied, MayMake}
use Rattle.depot_batch.specs.Said.{OfReply, Said}
use Rattle.depot_batch.specs.declared.answering.Answer.TheVariants.{Replied}
use Rattle.depot_batch.specs.declared.asked.Asked.TheVariants.{Reply}
use Rattle.depot_batch.specs.declared.report.Report.TheVariants.{Done}
use Rattle.depot_batch.proofs.LineLemmas.{more_left}
use Rattle.depot_batch.proofs.Saying.{says_reply}

module _ {S : Type 0} (g : Ghosts S) (command : WithReply (Bor Text)) (octets : List ℕ) (old new : Held S) (host host2 : HostState)
    (read : HasReadFile (file_of (on_depot command)) octets host host2) where
  pub done_reply : (r : Result Told Refusal) → IfOk r (λ told. HasAnswered (request_command (on_depot command) octets) told (state g old) (state g new))
      → IfOk r (λ told. (said : Said) × Says (Done (Replied told)) said × HasReplied (Did g old new) (on_depot command) said host host2)
  done_reply (Ok told) answered = (
    OfReply (request_command (on_depot command) octets) answered.0,
    says_reply (request_command (on_depot command) octets) answered.0 told answered.2 answered.3,
    (octets, read, (answered.0, answered.1, refl)),
  )
  done_reply (Err refusal) answered = tt

  pub refused_reply : (r : Result Told Refusal) → IfErr r (λ e. HasRefused (request_command (on_depot command) octets) e (state g old) (state g new))
      → IfErr r (λ e. HasNotReplied (Did g old new) (on_depot command) e host host2)
  refused_reply (Ok reply) refused = tt
  refused_reply (Err refusal) refused = inr (octets, read, refused)

  pub left_by_reply : Survives (state g old) (state g new) (MayAdd (request_command (on_depot command) octets) (state g old))
      → Survives (state g old) (state g new) (MayMake (λ command. MayAdd command (state g old)) (Reply command) host host2)
  left_by_reply survives = more_left (state g old) (state g new) (λ db made. (octets, read, made)) survives
