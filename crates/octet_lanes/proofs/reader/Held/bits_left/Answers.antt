use Rattle.std.proofs.Common.{◌≡◌, ◌*◌, ◌/◌, ◌%◌, ◌-◌, length, take, sym, ap, ◌∙◌, arith}
use Rattle.std.proofs.lemmas.List.{length-drop, length-take-le}
use Rattle.octet_lanes.specs.Encoding.{width}
use Rattle.octet_lanes.specs.Held.{held_bits}
use Rattle.octet_lanes.proofs.Bits.{length-all_bits}
use Rattle.octet_lanes.proofs.Reading.{few_characters}
use Rattle.octet_lanes.proofs.reader.Held.bits_left.Goals as goal

pub returns : goal.returns
returns c =
    let a = c.args.alphabet in
    let held = c.args.self.now in
    let bits = held_bits a held in
    let many : length (take held.n held.values) ≡ held.n = length-take-le held.n held.values (omega (arith, c.requires.long, c.requires.few, few_characters a)) in
    let long : length bits ≡ held.n * width a = length-all_bits (width a) (take held.n held.values) ∙ ap (λ n. n * width a) many in
    let left : length bits % 8 ≡ length bits - length bits / 8 * 8 = omega arith in
    ap (λ w. held.n * w % 8) c.width.ensures ∙ ap (λ n. n % 8) (sym long) ∙ left ∙ sym (length-drop (length bits / 8 * 8) bits)
