use Rattle.std.proofs.Common.{◌≡◌, ◌*◌, ◌/◌, ◌-◌, ◌≤◌, ◌++◌, length, take, drop, sym, ap, ◌∙◌, subst, arith}
use Rattle.std.proofs.lemmas.List.{length-take-le, take-append-drop}
use Rattle.std.proofs.lemmas.List.Concat.{flat_map-append}
use Rattle.octet_lanes.specs.Encoding.{all_bits, bits_of, width}
use Rattle.octet_lanes.proofs.Reading.{few_octets, ok_then, values_given}
use Rattle.octet_lanes.proofs.reader.append_values.Goals as goal

pub returns-clause-bits : goal.returns-clause-bits
returns-clause-bits c =
    let a = c.args.alphabet in
    let w = width a in
    let n = c.args.n in
    let g = c.args.given in
    let out = c.args.out.now.items in
    let values = c.args.values.now in
    let m = n * c.width.result / 8 in
    let octets = c.join.result in
    let width_is : m ≡ n * w / 8 = ap (λ x. n * x / 8) c.width.ensures in
    let many : length (take n values) ≡ n = length-take-le n values (omega (arith, c.told-values, c.requires.few)) in
    let is : m ≡ length (take n values) * w / 8 = width_is ∙ ap (λ k. k * w / 8) (sym many) in
    let few : m ≤ 4 * w = subst (λ k. k ≤ 4 * w) (sym width_is) (few_octets a n c.requires.few) in
    let from : g ≤ m = subst (λ k. g ≤ k) (sym width_is) c.requires.given in
    let bits : all_bits 8 (take (4 * w) octets) ≡ all_bits w (take n values ++ drop n values) = c.join.ensures ∙ ap (all_bits w) (sym (take-append-drop n values)) in
    ok_then c.extend_from_slice.result c.extend_from_slice.new.self.items out (take (m - g) (drop g octets)) c.extend_from_slice.ensures.items (λ e.
    ap (all_bits 8) e ∙ flat_map-append (bits_of 8) out (take (m - g) (drop g octets)) ∙ ap (λ l. all_bits 8 out ++ l) (values_given w m g (take n values) (drop n values) octets is few from bits))
