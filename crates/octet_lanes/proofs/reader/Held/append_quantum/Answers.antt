use Rattle.std.proofs.Common.{◌≡◌, ◌≤◌, ◌*◌, ◌/◌, ◌++◌, [], length, take, ap, sym, ◌∙◌, arith}
use Rattle.std.proofs.Math.Nat.{mul-le-mul_right}
use Rattle.std.proofs.lemmas.List.{length-take-le}
use Rattle.octet_lanes.specs.declared.reader.Held.{Held}
use Rattle.octet_lanes.specs.Encoding.{all_bits, left_over, quantum, text_bits, width}
use Rattle.octet_lanes.specs.Held.{held_bits, kept_bits, taken_bits}
use Rattle.octet_lanes.proofs.Bits.{length-all_bits}
use Rattle.octet_lanes.proofs.Reading.{few_characters, none_left, quantum_bits, quantum_given}
use Rattle.octet_lanes.proofs.reader.Held.append_quantum.Goals as goal
use Rattle.octet_lanes.proofs.reader.Held.append_quantum.Goals.{then-self-quantum_characters, else-self-quantum_characters}

pub returns-clause-bits : goal.returns-clause-bits
returns-clause-bits c =
    let a = c.args.alphabet in
    let w = width a in
    let was = c.args.self.now in
    let read = c.next_quantum-rest.new.self in
    let self = c.if-self-quantum_characters.self in
    let rest = c.next_quantum-rest.result.now in
    let few = c.next_quantum-rest.ensures.few in
    let now = all_bits 8 c.append_values.new.out.items in
    let was_many : length (take was.n was.values) ≡ was.n = length-take-le was.n was.values (omega (arith, c.requires.held.long, c.requires.held.few, few_characters a)) in
    let read_many : length (take read.n read.values) ≡ read.n = length-take-le read.n read.values (omega (arith, few.0, few.1, few_characters a)) in
    let was_long : length (held_bits a was) ≡ was.n * w = length-all_bits w (take was.n was.values) ∙ ap (λ n. n * w) was_many in
    let read_long : length (held_bits a read) ≡ read.n * w = length-all_bits w (take read.n read.values) ∙ ap (λ n. n * w) read_many in
    let more : was.n * w ≤ read.n * w = mul-le-mul_right w few.2 in
    let given = ap (λ x. was.n * x / 8) c.width.ensures ∙ ap (λ n. n / 8) (sym was_long) in
    let same = quantum_given (was.n * c.width.result / 8) (all_bits 8 c.args.out.now.items) now (held_bits a was) (held_bits a read) (taken_bits a read.ended rest) (text_bits a c.args.text.now)
    given (omega arith) c.next_quantum-rest.ensures.bits c.in_ok-append_values.ensures.bits in
    elim c.if-self-quantum_characters.branch [
      | then-self-quantum_characters w' ↦
          let none : Held = record { values = read.values; n = 0; ended = read.ended } in
          let full : read.n ≡ quantum a = w'.if-self-quantum_characters.true ∙ c.quantum_characters.ensures in
          let left : left_over 8 (held_bits a read) ≡ [] = none_left (read.n * w / 8) (held_bits a read) (read_long ∙ quantum_bits a read.n full) in
          ap (λ held. now ++ (kept_bits a held ++ taken_bits a held.ended rest)) w'.self-is
          ∙ ap (λ l. now ++ (l ++ taken_bits a read.ended rest)) (sym left)
          ∙ same
      | else-self-quantum_characters w' ↦ ap (λ held. now ++ (kept_bits a held ++ taken_bits a held.ended rest)) w'.self-is ∙ same
    ]
