use Rattle.std.proofs.Common.{rules}
use Rattle.std.proofs.lemmas.Result.{err_from_is_err_and}
use Rattle.bytecode_trace.specs.Printed.{trace_text}
use Rattle.devices.proofs.Outputs.{broken_later}
use Rattle.printing.specs.Printed.{report_text}
use Rattle.depot_jobs.proofs.TraceLemmas.{passed_on, stopped_first}
use Rattle.depot_jobs.proofs.tracing.put_program.Goals as goal

pub returns-in_err-trace : goal.returns-in_err-trace
returns-in_err-trace g c =
    let traced = c.args.traced.now in
    let steps = trace_text traced.verified traced.message in
    let report = report_text traced.report.outcome.actions.items traced.report.outcome.charged traced.report.limit in
    let stopped = passed_on c.from_residual.result _ _ c.from_residual.ensures.1
    (stopped_first (g.O.Sink.output c.args.out.now) (g.O.Sink.output c.trace.new.out) c.in_err-trace.field-0.0 steps report c.in_err-trace.ensures.put.err) in
    record { ok = search rules; err = stopped }

pub returns-in_err-put_report : goal.returns-in_err-put_report
returns-in_err-put_report g c =
    let traced = c.args.traced.now in
    let steps = trace_text traced.verified traced.message in
    let report = report_text traced.report.outcome.actions.items traced.report.outcome.charged traced.report.limit in
    let p = err_from_is_err_and c.from_residual-in_err-put_report.result c.from_residual-in_err-put_report.ensures.1 in
    record { ok = search rules; err = rw (p.1, p.2) (broken_later steps report c.in_ok-trace.ensures.put.ok c.in_err-put_report.ensures.err) }
