-- Private: how the code goes: what it prints by, and what has been printed between two states of the printer.
use Rattle.std.specs.Borrow.{GName}
use Rattle.std.specs.Prelude.{◌≡◌, ℕ, List}
use Rattle.devices.specs.Device.{HasTaken, Output}
use Rattle.mime_decode.specs.Mail.{Mail}
use Rattle.sieve_meaning.specs.Traced.{Event}
use Rattle.sieve_trace.specs.declared.error.TraceError.{TraceError}
use Rattle.sieve_trace.specs.declared.lines.Lines.{Lines}
use Rattle.sieve_trace.specs.declared.scene.Scene.{Scene}
use Rattle.sieve_trace.specs.Printed.{Sheet, told}
use Rattle.sieve_trace.specs.Written.{HasStopped}

-- what lines are printed by, with the name as they begin with it
abbrev pub labelled : List ℕ → List (List ℕ) → Mail → Sheet
labelled label places mail = record { label = label; places = places; mail = mail }

-- what the code prints by
abbrev pub sheet_of : Lines → Scene → Sheet
sheet_of lines scene = labelled lines.label.now lines.places.now scene.message.now

-- the lines of these events were written to the sink
pub record HasPrinted (name0 name : GName) (page0 page : Sheet) (events : List Event) (old new : Output) : Type 0 where
  pub same_sink : name ≡ name0
  pub same_sheet : page ≡ page0
  pub taken : HasTaken (told page0 events) old new

-- the first octets of these lines were written, and then the trace ended
pub record HasEnded (why : TraceError) (name0 name : GName) (page0 : Sheet) (events : List Event) (old new : Output) : Type 0 where
  pub same_sink : name ≡ name0
  pub stopped : HasStopped why (told page0 events) old new
