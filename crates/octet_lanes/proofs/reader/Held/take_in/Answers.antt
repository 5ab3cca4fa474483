use Rattle.std.proofs.Common.{ℕ, ◌^◌, ◌<◌, ◌++◌, length, drop}
use Rattle.std.proofs.lemmas.List.Elements.{All-drop}
use Rattle.std.proofs.lemmas.Simd.{Each1-from_get_or}
use Rattle.octet_lanes.specs.Held.{held_bits, kept_bits, taken_bits}
use Rattle.octet_lanes.proofs.Reading.{few_left, taken_in}
use Rattle.octet_lanes.proofs.reader.Held.take_in.Goals as goal

pub returns-clause-octets : goal.returns-clause-octets
returns-clause-octets c =
    let a = c.args.alphabet in
    let was = c.args.out.now.items in
    let now = c.read.new.out.items in
    let P : ℕ → Type 0 = λ octet. octet < 2 ^ 8 in
    let each = All-drop P (length was) now (λ i d l. c.type_inv.out i d l) in
    let small = Each1-from_get_or P (drop (length was) now) 0 (λ i l. each i 0 l) in
    (taken_in was now (kept_bits a c.read.new.self) (kept_bits a c.args.self.now ++ taken_bits a c.args.self.now.ended c.args.piece.now)
    c.in_default.ensures.grown small (few_left (held_bits a c.read.new.self)) c.in_default.ensures.bits).0

pub returns-clause-kept : goal.returns-clause-kept
returns-clause-kept c =
    let a = c.args.alphabet in
    let was = c.args.out.now.items in
    let now = c.read.new.out.items in
    let P : ℕ → Type 0 = λ octet. octet < 2 ^ 8 in
    let each = All-drop P (length was) now (λ i d l. c.type_inv.out i d l) in
    let small = Each1-from_get_or P (drop (length was) now) 0 (λ i l. each i 0 l) in
    (taken_in was now (kept_bits a c.read.new.self) (kept_bits a c.args.self.now ++ taken_bits a c.args.self.now.ended c.args.piece.now)
    c.in_default.ensures.grown small (few_left (held_bits a c.read.new.self)) c.in_default.ensures.bits).1
