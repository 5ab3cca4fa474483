use Rattle.std.proofs.Common.{◌≡◌, ◌*◌, ◌-◌, ◌/◌, length, take, ◌∙◌, arith}
use Rattle.std.proofs.lemmas.List.{length-drop}
use Rattle.octet_lanes.specs.declared.alphabet.Alphabet.TheVariants.{Base64}
use Rattle.octet_lanes.specs.Held.{held_bits}
use Rattle.octet_lanes.proofs.Bits.{length-all_bits}
use Rattle.lanes_base64_mime.proofs.decode.Decoder.finish.Goals as goal

pub returns-clause-even : goal.returns-clause-even
returns-clause-even c =
    let held = c.self.inside.held in
    let bits = held_bits Base64 held in
    let long : length bits ≡ length (take held.n held.values) * 6 = length-all_bits 6 (take held.n held.values) in
    let left : c.bits_left.result ≡ length bits - length bits / 8 * 8 = c.bits_left.ensures ∙ length-drop (length bits / 8 * 8) bits in
    (omega arith, omega arith)
