use Rattle.devices.proofs.Outputs.{broken_later}
use Rattle.printing.specs.Printed.{report_text}
use Rattle.sieve_check.specs.TypedView.{commands_form}
use Rattle.sieve_trace.specs.Printed.{sheet}
use Rattle.sieve_trace.specs.Written.{trace_text}
use Rattle.depot_jobs.proofs.tracing.put_script.Goals as goal

pub returns-in-Err : goal.returns-in-Err
returns-in-Err g c =
    let traced = c.args.traced.now in
    let events = trace_text (sheet traced.name.now traced.places traced.message) (commands_form traced.checked.commands) in
    record { ok = tt; err = broken_later events (report_text traced.report.outcome.actions.items traced.report.outcome.charged traced.report.limit) c.in-Ok.ensures.put.ok c.in-Err.ensures.err }
