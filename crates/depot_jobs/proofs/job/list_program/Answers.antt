use Rattle.std.proofs.Common.{◌≡◌, ◌≢◌, ℕ, List, ◌++◌, Some, inr, ap, ◌∙◌}
use Rattle.std.proofs.lemmas.Result.{IfOk-weaker}
use Rattle.bytecode_format.specs.Code.{Code}
use Rattle.bytecode_listing.specs.Listing.{refused_listing}
use Rattle.bytecode_verifier.specs.Acceptance.{refusal_of}
use Rattle.bytecode_verifier.specs.declared.error.Refusal.{Refusal as BrokenRule}
use Rattle.bytecode_verifier.specs.declared.error.Refusal.TheVariants.{Memory}
use Rattle.refusals.specs.Causes.{of_verifier}
use Rattle.sieve_engine.specs.Execution.{Spells}
use Rattle.depot_jobs.specs.Jobs.{IsListing, commented}
use Rattle.depot_jobs.specs.Private.{lines_text}
use Rattle.printing.specs.Printed.{refusal_line}
use Rattle.depot_jobs.specs.declared.job.Lines.{Lines}
use Rattle.depot_jobs.proofs.job.list_program.Goals as goal

-- what is listed of a program that breaks a rule is its listing
refused : (octets : List ℕ) (code listed : Code) (rule : BrokenRule) (lines : Lines) → Spells octets code → listed ≡ code → (rule ≢ Memory → refusal_of code ≡ Some rule)
    → (rule ≢ Memory) × (lines_text lines ≡ refused_listing rule listed ++ commented (refusal_line (of_verifier rule)))
    → IsListing octets (lines_text lines)
refused octets code listed rule lines spells same broken (other, text) =
    inr (code, rule, spells, broken other, text ∙ ap (λ (p : Code). refused_listing rule p ++ commented (refusal_line (of_verifier rule))) same)

pub returns-in-Err-clause-listed : goal.returns-in-Err-clause-listed
returns-in-Err-clause-listed c =
    let spells : Spells c.args.program.now c.in_ok-program.program = record { within = c.in_ok-program.ensures.found.0; spelt = c.in_ok-program.ensures.found.1 } in
    IfOk-weaker c.list_refused.result _ _
    (λ lines listed. refused c.args.program.now c.in_ok-program.program c.in-Err.program c.in-Err.rule lines spells c.in-Err.ensures.same c.in-Err.ensures.refused listed)
    c.list_refused.ensures.listed
