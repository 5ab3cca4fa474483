-- Private: the laws of a printer, as a watcher has them.
use Rattle.std.proofs.Common.{◌≡◌, ◌∙◌, ap, ℕ, List, [], ◌++◌, sym, subst, append_assoc, append-nil}
use Rattle.std.proofs.lemmas.Grind.{flat_map-append}
use Rattle.std.specs.Borrow.{GName}
use Rattle.devices.specs.Device.{HasBegun, HasTaken, Output}
use Rattle.devices.proofs.Outputs.{broken_first}
use Rattle.sieve_meaning.specs.Traced.{Event}
use Rattle.sieve_trace.specs.declared.error.TraceError.{TraceError}
use Rattle.sieve_trace.specs.declared.error.TraceError.TheVariants.{Memory, Write}
use Rattle.sieve_trace.specs.Printed.{Sheet, event_line, told}
use Rattle.sieve_trace.specs.Private.{HasEnded, HasPrinted}
use Rattle.sieve_trace.specs.Written.{HasStopped}

-- the first octets of a text were written, before what follows it
begun_first : {s0 s1 : Output} (xs ys : List ℕ) → HasBegun xs s0 s1 → HasBegun (xs ++ ys) s0 s1
begun_first xs ys first = record {
  prefix = first.prefix;
  rest = first.rest ++ ys;
  whole = ap (λ text. text ++ ys) first.whole ∙ append_assoc first.prefix first.rest ys;
  taken = first.taken;
}

stopped_first : (s0 s1 : Output) (why : TraceError) (xs ys : List ℕ) → HasStopped why xs s0 s1 → HasStopped why (xs ++ ys) s0 s1
stopped_first s0 s1 Memory xs ys first = begun_first xs ys first
stopped_first s0 s1 Write xs ys first = broken_first xs ys first

-- memory was refused after a text was written
pub stopped_by_memory : {s0 s1 : Output} (text : List ℕ) → HasTaken text s0 s1 → HasStopped Memory text s0 s1
stopped_by_memory text taken = record { prefix = text; rest = []; whole = sym (append-nil text); taken = taken }

pub ended_by_refusal : {name0 name : GName} {page0 page : Sheet} {events : List Event} {s0 s1 : Output} {why : TraceError} → why ≡ Memory → HasPrinted name0 name page0 page events s0 s1 → HasEnded why name0 name page0 events s0 s1
ended_by_refusal {name0} {name} {page0} {page} {events} {s0} {s1} is printed = record {
  same_sink = printed.same_sink;
  stopped = subst (λ e. HasStopped e (told page0 events) s0 s1) (sym is) (stopped_by_memory (told page0 events) printed.taken);
}

pub ended_in_more : {name0 name : GName} {page0 : Sheet} {events : List Event} {s0 s1 : Output} (why : TraceError) (more : List Event) → HasEnded why name0 name page0 events s0 s1 → HasEnded why name0 name page0 (events ++ more) s0 s1
ended_in_more {name0} {name} {page0} {events} {s0} {s1} why more ended = record {
  same_sink = ended.same_sink;
  stopped = subst (λ text. HasStopped why text s0 s1) (sym (flat_map-append (event_line page0) events more)) (stopped_first s0 s1 why (told page0 events) (told page0 more) ended.stopped);
}
