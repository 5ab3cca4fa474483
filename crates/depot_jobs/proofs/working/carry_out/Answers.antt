use Rattle.std.proofs.Common.{ap, inl}
use Rattle.depot_jobs.specs.Jobs.{host_and_outputs}
use Rattle.depot_jobs.proofs.WorkingLemmas.{outcome, with_octets}
use Rattle.depot_jobs.proofs.working.carry_out.Goals as goal

pub returns-in-Ok : goal.returns-in-Ok
returns-in-Ok g c =
    let mid = g.H.Host.state c.read_inputs.new.host in
    let old = host_and_outputs mid (g.O.Sink.output c.args.out.now) (g.E.Sink.output c.args.err.now) in
    let new = host_and_outputs (g.H.Host.state c.answer.new.host) (g.O.Sink.output c.answer.new.out) (g.E.Sink.output c.answer.new.err) in
    inl (record {
      first = c.in-Ok.first.items;
      second = c.in-Ok.second.items;
      mid = mid;
      read = c.in-Ok.ensures.read;
      job = c.job_of-job.result;
      is_job = with_octets c.args.work c.job_of-job.result c.deref.ensures.value c.deref-in-Ok.ensures.value c.job_of-job.ensures;
      outcome = outcome (ap g.O.Sink.output) (ap g.E.Sink.output) c.job_of-job.result c.answer.result old new c.answer.ensures.outcome;
    })
