use Rattle.std.proofs.Common.{◌≡◌}
use Rattle.devices.specs.Supply.{Supply}
use Rattle.depot_batch.specs.Private.{HasFirst, format_of, on, places_of}
use Rattle.depot_batch.proofs.Batches.{StandsSo}
use Rattle.depot_batch.proofs.serving.serve_lines.Given as goal

abbrev pub invariant-turns : goal.invariant-turns
invariant-turns g l =
    (places_of l.desk ≡ places_of l.fn.desk)
    × (g.E.Sink.output l.err ≡ g.E.Sink.output l.fn.err)
    × (l.fn.desk.format ≡ format_of l.fn.first → (before : Supply)
    → HasFirst l.fn.first before
    (record { left = g.R.Read.remaining l.fn.input.inner; given = l.fn.input.given; has_ended = l.fn.input.has_ended; faults = l.fn.input.faults })
    → StandsSo g.S.Store l.fn.desk.name.now l.fn.desk.format l.counter l.alone before
    (record { left = g.R.Read.remaining l.input.inner; given = l.input.given; has_ended = l.input.has_ended; faults = l.input.faults })
    (on g.H.Host.state g.W.Write.contents l.fn.desk) (on g.H.Host.state g.W.Write.contents l.desk))
