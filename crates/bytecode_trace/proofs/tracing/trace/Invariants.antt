use Rattle.std.proofs.Common.{◌≡◌, ◌-◌}
use Rattle.devices.specs.Device.{HasTaken}
use Rattle.devices.specs.Pages.{start_of, text_on, view_of, writes}
use Rattle.sieve_vm.specs.Potential.{limit_of}
use Rattle.bytecode_trace.specs.Printed.{trace_text}
use Rattle.bytecode_trace.specs.Private.{lines_left}
use Rattle.bytecode_trace.proofs.tracing.trace.Given as goal

-- the lines of the steps so far were printed and taken, and those of the others are left
abbrev pub invariant-steps : goal.invariant-steps
invariant-steps g l =
    (l.run.code ≡ l.verified) × (l.run.mail ≡ l.message)
    × (writes (lines_left l.verified l.message l.run.steps) (view_of l.page) ≡ writes (trace_text l.verified l.message) (view_of l.initial.page))
    × HasTaken (text_on l.page) (start_of l.page) (g.O.Sink.output l.page.out.now)

-- the steps that are left are within what is left of the budget
abbrev pub decreases-steps : goal.decreases-steps
decreases-steps g l = limit_of l.verified l.message - l.run.steps
