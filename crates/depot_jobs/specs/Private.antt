-- Private: how files that are being made are named, and what an answer is made of.
use Rattle.std.specs.Prelude.{ℕ, List, ◌++◌, codes, string_bytes}
use Rattle.std.specs.Fmt.{decimal}
use Rattle.depot_jobs.specs.Jobs.{Answer, commented, finds, says, traces, writes}
use Rattle.depot_jobs.specs.Printed.{ok_text}
use Rattle.printing.specs.Printed.{line, refusal_line, report_text, wrote_text}
use Rattle.depot_jobs.specs.declared.job.JobAnswer.{JobAnswer}
use Rattle.depot_jobs.specs.declared.job.JobAnswer.TheVariants as answers
use Rattle.depot_jobs.specs.declared.job.Lines.{Lines}
use Rattle.depot_jobs.specs.declared.job.Verdict.{Verdict}
use Rattle.depot_jobs.specs.declared.job.Lines.TheVariants as lines
use Rattle.depot_jobs.specs.declared.job.Verdict.TheVariants as verdicts
use Rattle.bytecode_trace.specs.Printed as program
use Rattle.depot_jobs.specs.declared.tracing.Traced.{Traced}
use Rattle.depot_jobs.specs.declared.tracing.Traced.TheVariants as kinds
use Rattle.depot_jobs.specs.declared.tracing.TracedProgram.{TracedProgram}
use Rattle.depot_jobs.specs.declared.tracing.TracedScript.{TracedScript}
use Rattle.sieve_check.specs.TypedView.{commands_form}
use Rattle.sieve_trace.specs.Printed.{sheet}
use Rattle.sieve_trace.specs.Written.{trace_text}

-- the name of a file that is being made, by the number of the process and by how many names were taken
abbrev pub new_name : ℕ → ℕ → List ℕ
new_name number n = codes ".depot-" ++ (decimal number ++ (codes "-" ++ decimal n))

-- the line of what the verifier says of a program
abbrev pub verdict_line : Verdict → List ℕ
verdict_line (verdicts.Accepted budget) = line (string_bytes budget)
verdict_line (verdicts.Refused refusal) = refusal_line refusal

-- the text of what an answer is made of
abbrev pub lines_text : Lines → List ℕ
lines_text lines.NoFault = line ok_text
lines_text (lines.Remarks text) = line ok_text ++ text.items
lines_text (lines.Wrote octets) = line (wrote_text octets)
lines_text (lines.Budget text) = line (string_bytes text)
lines_text (lines.Listing listing verdict) = listing.items ++ commented (verdict_line verdict)
lines_text (lines.Octets octets) = octets.items
lines_text (lines.Report report) = report_text report.outcome.actions.items report.outcome.charged report.limit

-- the text of a trace and of the report that is behind it
abbrev pub script_text : TracedScript → List ℕ
script_text traced =
    trace_text (sheet traced.name.now traced.places traced.message) (commands_form traced.checked.commands)
    ++ report_text traced.report.outcome.actions.items traced.report.outcome.charged traced.report.limit

abbrev pub program_text : TracedProgram → List ℕ
program_text traced =
    program.trace_text traced.verified traced.message
    ++ report_text traced.report.outcome.actions.items traced.report.outcome.charged traced.report.limit

abbrev pub traced_text : Traced → List ℕ
traced_text (kinds.Script traced) = script_text traced
traced_text (kinds.Program traced) = program_text traced

-- the answer that the code has made
abbrev pub answer_in : JobAnswer → Answer
answer_in (answers.Says lines) = says (lines_text lines)
answer_in (answers.Traces traced) = traces (traced_text traced)
answer_in (answers.Finds text refusal) = finds text.items refusal
answer_in (answers.Writes name source octets) = writes name.now source.now octets.items
