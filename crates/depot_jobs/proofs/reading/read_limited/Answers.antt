use Rattle.std.proofs.Common.{◌≡◌, ◌∙◌, ◌+◌, ◌≤◌, arith, length-take-le, take, vec_len}
use Rattle.depot_jobs.proofs.SupplyLemmas.{given_more}
use Rattle.depot_jobs.proofs.reading.read_limited.Goals as goal

pub returns-then-filled-limit-clause-refused : goal.returns-then-filled-limit-clause-refused
returns-then-filled-limit-clause-refused g c =
    let filled = c.pieces.filled in
    let n = c.in-Ok.n in
    let octets = c.read_from.new.octets.items in
    let read = c.in-Ok.ensures in
    let bound : filled + n ≤ vec_len c.read_from.new.octets = read.bound in
    let len : vec_len c.read_from.new.octets ≤ c.args.limit + 1 = omega (arith, read.len, c.in_ok-make_room.ensures.small) in
    let all : filled + n ≡ c.args.limit + 1 = omega (arith, bound, len, c.if-filled-limit.true) in (
      take (filled + n) octets,
      length-take-le (filled + n) octets (omega (arith, bound, c.read_from.new.octets.ok.0)) ∙ all,
      given_more c.pieces.octets.items c.make_room.new.octets.items octets filled n c.pieces.invariant.given c.in_ok-make_room.ensures.kept read.kept read.ok,
    )

pub pieces-preserved : goal.pieces-preserved
pieces-preserved g c =
    let filled = c.pieces.filled in
    let n = c.in-Ok.n in
    let read = c.in-Ok.ensures in
    record {
      more = omega (arith, c.if-filled-limit.false);
      filled = read.bound;
      small = omega (arith, read.len, c.in_ok-make_room.ensures.small);
      given =
          given_more c.pieces.octets.items c.make_room.new.octets.items c.read_from.new.octets.items filled n c.pieces.invariant.given c.in_ok-make_room.ensures.kept read.kept read.ok;
    }
