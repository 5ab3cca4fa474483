-- What jobs answer, why they are refused, and what answering does.
use Rattle.std.specs.Prelude.{◌≡◌, ◌≢◌, ◌<◌, ◌⊎◌, ◌++◌, ℕ, true, false, List, [], ◌∷◌, length, codes, Some}
use Rattle.octets.specs.Limits.{max_program, max_script}
use Rattle.octet_lanes.specs.Encoding.{IsOctets}
use Rattle.devices.specs.Device.{HasBroken, HasStopped, HasTaken, Output}
use Rattle.encodings.specs.Texts.{IsUnread, Reads, text_of}
use Rattle.bytecode_cost.specs.Text.{budget_text}
use Rattle.bytecode_format.specs.declared.action.Action.{Action}
use Rattle.bytecode_format.specs.declared.operation.Operation.TheVariants.{Keep, Halt}
use Rattle.bytecode_format.specs.Code.{Code}
use Rattle.bytecode_format.specs.Operations.{octet_of}
use Rattle.bytecode_format.specs.Spelling.{spelling}
use Rattle.bytecode_listing.specs.Items.{FaultsAt, Lists, kind_of}
use Rattle.bytecode_listing.specs.Listing.{accepted_listing, refused_listing}
use Rattle.bytecode_verifier.specs.Acceptance.{refusal_of}
use Rattle.bytecode_verifier.specs.Budget.{budget_of}
use Rattle.bytecode_verifier.specs.declared.error.Refusal.{Refusal as BrokenRule}
use Rattle.sieve_check.specs.Typed.{CommandForms}
use Rattle.sieve_engine.specs.Evaluation.{IsCompiled, IsEvaluation, IsEvaluationRefusal, IsScript}
use Rattle.sieve_engine.specs.Execution as engine
use Rattle.sieve_engine.specs.Execution.{IsChecked, IsExecution, IsProgramRefusal, IsRefusal, Spells}
use Rattle.sieve_explain.specs.Explaining.{Explains, IsRemarked, listing_told}
use Rattle.mime_decode.specs.Mail.{IsReadable, mail_of}
use Rattle.depot_jobs.specs.Host.{HasMadeFile, HasNotMade, HostState}
use Rattle.depot_jobs.specs.Limit.{limit_text}
use Rattle.depot_jobs.specs.Printed.{ok_text, parts_text}
use Rattle.depot_jobs.specs.Requests.{Job}
use Rattle.depot_jobs.specs.Statuses.{refused, success}
use Rattle.printing.specs.Printed.{line, refusal_line, report_text, wrote_text}
use Rattle.depot_jobs.specs.Tracing.{IsTraceRefusal, IsTraced, is_program}
use Rattle.refusals.specs.Causes.{of_verifier}
use Rattle.refusals.specs.Scripts.{IsScriptRefusal}
use Rattle.refusals.specs.declared.refusal.Refusal.{Refusal}
use Rattle.refusals.specs.declared.refusal.Refusal.TheVariants as refusals
use Rattle.depot_jobs.specs.declared.work.Runner.TheVariants.{Run, Eval, Trace}
use Rattle.depot_jobs.specs.declared.work.Tool.TheVariants.{KeepAll, Check, Explain, Compile, Verify, Limit, Disassemble, Assemble, Parts, Encode, Decode}
use Rattle.depot_jobs.specs.declared.work.WithoutDepot.TheVariants.{OnFile, OnMessage}

-- the program that keeps every message
abbrev pub keeping_code : Code
keeping_code =
    record {
      version = 1;
      variables = 0;
      numbers = [];
      strings = [];
      instructions = record { op = octet_of Keep; a = 0; b = 0; c = 0 } ∷ record { op = octet_of Halt; a = 0; b = 0; c = 0 } ∷ [];
    }

-- what a program's listing is followed by: a comment with what the verifier says of the program
abbrev pub commented : List ℕ → List ℕ
commented verdict = codes "; " ++ verdict

-- a program's listing, and what the verifier says of it: what each instruction of an accepted one
-- adds to the budget, and that; of a refused one the refusal, at its place and at the end
abbrev pub IsListing : List ℕ → List ℕ → Type 0
IsListing octets text =
    ((code : Code) × IsChecked octets code
    × (text ≡ accepted_listing code ++ commented (line (budget_text (budget_of code)))))
    ⊎ ((code : Code) × (rule : BrokenRule) × Spells octets code × (refusal_of code ≡ Some rule)
    × (text ≡ refused_listing rule code ++ commented (refusal_line (of_verifier rule))))

-- What a job answers: a text; a trace, which goes out as it is made, so that memory may be refused when some of it is
-- out; the fault of a script or a listing, in words, and its refusal; or a program, which becomes the file of a name,
-- and is made from that of another.
pub data Answer : Type 0 where
  says : List ℕ → Answer
  traces : List ℕ → Answer
  finds : List ℕ → Refusal → Answer
  writes : List ℕ → List ℕ → List ℕ → Answer

-- the answer is the lines of a run
abbrev pub Reports : (List Action → ℕ → ℕ → Type 0) → Answer → Type 0
Reports Runs answer =
    (actions : List Action) × (charged : ℕ) × (limit : ℕ) × Runs actions charged limit
    × (answer ≡ says (report_text actions charged limit))

-- The answer of a job: the lines of a run; that a script has no fault, and what is remarked of it, or its fault; the
-- program of a script or a listing, or the fault of that; the budget of an accepted program, or how much it may charge
-- and file; a program's listing; the lines of a message's parts; the octets and nothing else; or a trace.
abbrev pub Answers : Job → Answer → Type 0
Answers (OnFile KeepAll message) answer = Reports (IsExecution (spelling keeping_code) message.octets.now) answer
Answers (OnFile Check script) answer = (form : CommandForms) × IsScript script.octets.now form
    × (answer ≡ says (line ok_text))
Answers (OnFile Explain script) answer =
    ((form : CommandForms) × (remarks : List ℕ) × IsScript script.octets.now form
    × IsRemarked script.name.now script.octets.now remarks × (answer ≡ says (line ok_text ++ remarks)))
    ⊎ ((text : List ℕ) × (refusal : Refusal) × (refusal ≢ refusals.Memory) × IsScriptRefusal script.octets.now refusal
    × Explains script.name.now script.octets.now refusal text × (answer ≡ finds text refusal))
Answers (OnFile (Compile out) script) answer = (code : Code) × IsCompiled script.octets.now code
    × (answer ≡ writes out.now script.name.now (spelling code))
Answers (OnFile Verify program) answer = (code : Code) × IsChecked program.octets.now code
    × (answer ≡ says (line (budget_text (budget_of code))))
Answers (OnFile (Limit octets parts) program) answer = (code : Code) × IsChecked program.octets.now code
    × (answer ≡ says (line (limit_text code octets parts)))
Answers (OnFile Disassemble program) answer = (text : List ℕ) × IsListing program.octets.now text
    × (answer ≡ says text)
Answers (OnFile (Assemble out) listing) answer =
    ((code : Code) × Lists listing.octets.now code × (answer ≡ writes out.now listing.name.now (spelling code)))
    ⊎ ((place : ℕ) × FaultsAt listing.octets.now place
    × (answer ≡ finds (listing_told listing.name.now listing.octets.now place (kind_of listing.octets.now)) (refusals.Listing place)))
Answers (OnFile Parts message) answer = IsReadable message.octets.now
    × (answer ≡ says (parts_text (mail_of message.octets.now).parts))
Answers (OnFile (Encode encoding) octets) answer = answer ≡ says (text_of encoding octets.octets.now)
Answers (OnFile (Decode encoding) text) answer = (octets : List ℕ) × IsOctets octets
    × Reads encoding text.octets.now octets × (answer ≡ says octets)
Answers (OnMessage Run program message) answer = Reports (IsExecution program.octets.now message.octets.now) answer
Answers (OnMessage Eval script message) answer = Reports (IsEvaluation script.octets.now message.octets.now) answer
Answers (OnMessage Trace file message) answer = (text : List ℕ)
    × IsTraced file.name.now file.octets.now message.octets.now text × (answer ≡ traces text)

-- the octets spell no program, or memory was refused
abbrev pub IsUnspelled : List ℕ → Refusal → Type 0
IsUnspelled octets refusal = (refusal ≡ refusals.Memory)
    ⊎ ((refusal ≡ refusals.Spelling) × ((code : Code) → Spells octets code → ⊥))

-- the first refusal of a job's octets
abbrev pub IsJobRefusal : Job → Refusal → Type 0
IsJobRefusal (OnFile KeepAll message) refusal = IsRefusal (spelling keeping_code) message.octets.now refusal
IsJobRefusal (OnFile Check script) refusal = IsScriptRefusal script.octets.now refusal
IsJobRefusal (OnFile Explain script) refusal = refusal ≡ refusals.Memory
IsJobRefusal (OnFile (Compile out) script) refusal = IsScriptRefusal script.octets.now refusal
IsJobRefusal (OnFile Verify program) refusal = IsProgramRefusal program.octets.now refusal
IsJobRefusal (OnFile (Limit octets parts) program) refusal = IsProgramRefusal program.octets.now refusal
IsJobRefusal (OnFile Disassemble program) refusal = IsUnspelled program.octets.now refusal
IsJobRefusal (OnFile (Assemble out) listing) refusal = refusal ≡ refusals.Memory
IsJobRefusal (OnFile Parts message) refusal = engine.IsUnread message.octets.now refusal
IsJobRefusal (OnFile (Encode encoding) octets) refusal = refusal ≡ refusals.Memory
IsJobRefusal (OnFile (Decode encoding) text) refusal = IsUnread encoding text.octets.now refusal
IsJobRefusal (OnMessage Run program message) refusal = IsRefusal program.octets.now message.octets.now refusal
IsJobRefusal (OnMessage Eval script message) refusal = IsEvaluationRefusal script.octets.now message.octets.now refusal
IsJobRefusal (OnMessage Trace file message) refusal = IsTraceRefusal file.octets.now message.octets.now refusal

-- The job's script, or its program, has more octets than the limit, which is judged before memory
-- is taken. To explain a script takes memory, however long it is.
abbrev pub HasLongScript : Job → Type 0
HasLongScript (OnFile Check script) = max_script < length script.octets.now
HasLongScript (OnFile (Compile out) script) = max_script < length script.octets.now
HasLongScript (OnMessage Eval script message) = max_script < length script.octets.now
HasLongScript (OnMessage Trace file message) =
    (is_program file.octets.now ≡ false) × (max_script < length file.octets.now)
HasLongScript _ = ⊥

abbrev pub HasLongProgram : Job → Type 0
HasLongProgram (OnFile Verify program) = max_program < length program.octets.now
HasLongProgram (OnFile (Limit octets parts) program) = max_program < length program.octets.now
HasLongProgram (OnFile Disassemble program) = max_program < length program.octets.now
HasLongProgram (OnMessage Run program message) = max_program < length program.octets.now
HasLongProgram (OnMessage Trace file message) =
    (is_program file.octets.now ≡ true) × (max_program < length file.octets.now)
HasLongProgram _ = ⊥

-- ---- what answering does

-- what a command works with: the host, standard output and standard error
pub record HostAndOutputs : Type 0 where
  pub host : HostState
  pub out : Output
  pub err : Output

abbrev pub host_and_outputs : HostState → Output → Output → HostAndOutputs
host_and_outputs host out err = record { host = host; out = out; err = err }

-- the line of a refusal was written, or the sink broke while it was
abbrev pub HasTold : Refusal → Output → Output → Type 0
HasTold refusal old new = HasTaken (refusal_line refusal) old new ⊎ HasBroken (refusal_line refusal) old new

-- a text was written whole, with the status of success; of standard error this is known
abbrev pub IsWritten : Type 0 → List ℕ → ℕ → HostAndOutputs → HostAndOutputs → Type 0
IsWritten quiet text status old new = (status ≡ success) × HasTaken text old.out new.out × quiet

-- it broke off, and the cause was told
abbrev pub BreaksOff : Refusal → List ℕ → ℕ → HostAndOutputs → HostAndOutputs → Type 0
BreaksOff cause text status old new = (status ≡ refused) × HasStopped cause text old.out new.out
    × HasTold cause old.err new.err

-- a refusal was told; of standard output this is known
abbrev pub IsRefused : Type 0 → Refusal → ℕ → HostAndOutputs → HostAndOutputs → Type 0
IsRefused unwritten refusal status old new = (status ≡ refused) × HasTold refusal old.err new.err × unwritten

-- What is done with an answer. A text is written, or breaks off because a call fails; a trace, also because memory is
-- refused. A fault's words are written, and its refusal is told. A program's file is made, and how many octets it has
-- is written; or the file could not be made. Where nothing is to be written to standard output, or to standard error,
-- this is known of it.
abbrev pub IsGiven : (unwritten quiet : Type 0) → Answer → ℕ → HostAndOutputs → HostAndOutputs → Type 0
IsGiven unwritten quiet (says text) status old new =
    (new.host ≡ old.host) × (IsWritten quiet text status old new ⊎ BreaksOff refusals.Write text status old new)
IsGiven unwritten quiet (traces text) status old new =
    (new.host ≡ old.host)
    × (IsWritten quiet text status old new ⊎ ((cause : Refusal) × BreaksOff cause text status old new))
IsGiven unwritten quiet (finds text refusal) status old new =
    (new.host ≡ old.host)
    × (IsRefused (HasTaken text old.out new.out) refusal status old new ⊎ BreaksOff refusals.Write text status old new)
IsGiven unwritten quiet (writes name source octets) status old new =
    (HasMadeFile name source octets old.host new.host
    × (IsWritten quiet (line (wrote_text (length octets))) status old new
    ⊎ BreaksOff refusals.Write (line (wrote_text (length octets))) status old new))
    ⊎ ((refusal : Refusal) × HasNotMade refusal name source old.host new.host
    × IsRefused unwritten refusal status old new)

-- what comes of a job, with this status: its answer was given, or it was refused
abbrev pub HasOutcome : (unwritten quiet : Type 0) → Job → ℕ → HostAndOutputs → HostAndOutputs → Type 0
HasOutcome unwritten quiet job status old new =
    ((answer : Answer) × Answers job answer × IsGiven unwritten quiet answer status old new)
    ⊎ ((refusal : Refusal) × IsJobRefusal job refusal × (new.host ≡ old.host)
    × IsRefused unwritten refusal status old new)
