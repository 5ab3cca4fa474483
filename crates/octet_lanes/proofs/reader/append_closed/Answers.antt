use Rattle.std.proofs.Common.{ℕ, ◌%◌, ◌^◌, ◌<◌, map, ap}
use Rattle.std.proofs.lemmas.List.Elements.{All-map, All-same}
use Rattle.std.proofs.Math.Nat.{mod-lt}
use Rattle.octet_lanes.specs.Encoding.{width}
use Rattle.octet_lanes.proofs.Reading.{closed_read, zero_small}
use Rattle.octet_lanes.proofs.reader.append_closed.Goals as goal

pub append_values-requires-clause-small : goal.append_values-requires-clause-small
append_values-requires-clause-small c =
    let w = width c.args.alphabet in
    let P : ℕ → Type 0 = λ value. value < 2 ^ w in
    let f : ℕ → ℕ = λ class. class % 2 ^ w in
    All-same P c.some_values.result (map f c.close_up-n.result.0) c.some_values.ensures (All-map P f c.close_up-n.result.0 (λ k d l. mod-lt _ (zero_small c.args.alphabet)))

pub returns-clause-read : goal.returns-clause-read
returns-clause-read c =
    let a = c.args.alphabet in
    let n = c.close_up-n.result.1 in
    closed_read a n (n % c.quantum_characters.result) c.start_of_last.result c.args.block.now c.args.classes.now c.close_up-n.result.0 c.some_values.result c.args.out.now.items c.append_values.new.out.items
    c.requires.classes c.requires.free c.close_up-n.ensures.number c.close_up-n.ensures.lanes c.some_values.ensures (ap (λ q. n % q) c.quantum_characters.ensures) c.start_of_last.ensures.values
    c.in_ok-append_values.ensures.bits
