-- What is written of a trace.
use Rattle.std.specs.Prelude.{ℕ, List}
use Rattle.devices.specs.Device.{HasBegun, HasBroken, Output}
use Rattle.sieve_check.specs.Typed.{CommandForms}
use Rattle.sieve_meaning.specs.Traced.{script_events}
use Rattle.sieve_trace.specs.declared.error.TraceError.{TraceError}
use Rattle.sieve_trace.specs.declared.error.TraceError.TheVariants.{Memory, Write}
use Rattle.sieve_trace.specs.Printed.{Sheet, told}

-- the trace of a script on a message: the lines of its events
abbrev pub trace_text : Sheet → CommandForms → List ℕ
trace_text page script = told page (script_events page.mail script)

-- why a text isn't written to its end: memory was refused between two calls, or one call failed
abbrev pub HasStopped : TraceError → List ℕ → Output → Output → Type 0
HasStopped Memory text old new = HasBegun text old new
HasStopped Write text old new = HasBroken text old new
