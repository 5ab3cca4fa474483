use Rattle.std.proofs.Common.{◌++◌, ◌∷◌, [], ◌+◌, ◌^◌, ◌<◌, ◌≤◌, length, take, sym, ap, ◌∙◌, arith}
use Rattle.std.proofs.lemmas.List.{length-set, take_more_set}
use Rattle.std.proofs.lemmas.List.Elements.{All-set}
use Rattle.octet_lanes.specs.Encoding.{all_bits, contains_padding, quantum, text_bits, width}
use Rattle.octet_lanes.specs.Held.{held_bits}
use Rattle.octet_lanes.proofs.Reading.{class_below, few_characters, no_padding_first, stray_passed, value_taken}
use Rattle.octet_lanes.proofs.reader.Held.next_quantum.Goals as goal

pub octets-preserved-then-value : goal.octets-preserved-then-value
octets-preserved-then-value c =
    let a = c.args.alphabet in
    let before = c.octets.self in
    let n = before.n in
    let values = before.values in
    let value = c.class-value.result in
    let octet = c.in-Some.octet.now in
    let after = c.in-Some.after.now in
    let cases = c.in-Some.ensures.cases in
    let is = c.class-value.ensures in
    let few : n + 1 ≤ quantum a = omega (arith, c.octets-test.true, c.quantum_characters.ensures) in
    let within : n < length values = omega (arith, c.octets.invariant.long, few_characters a) in
    let small : value < 2 ^ width a = class_below a octet value is c.if-value.true in
    record {
      long = length-set values n value ∙ c.octets.invariant.long;
      few = few;
      more = omega (arith, c.octets.invariant.more);
      small = All-set (λ v. v < 2 ^ width a) values n value small c.octets.invariant.small;
      goes_on = c.octets.invariant.goes_on;
      bits = ap (λ l. all_bits (width a) l ++ text_bits a after) (take_more_set values n value within ∙ ap (λ v. take n values ++ v ∷ []) is)
          ∙ value_taken a (take n values) octet after c.if-octet-eq-PADDING.false (λ e. c.if-value.true (is ∙ e))
          ∙ ap (λ l. held_bits a before ++ text_bits a l) (sym cases.0)
          ∙ c.octets.invariant.bits;
      ended = sym (no_padding_first octet after c.if-octet-eq-PADDING.false) ∙ ap contains_padding (sym cases.0) ∙ c.octets.invariant.ended;
      shorter = (omega (arith, cases.1, c.octets.invariant.shorter.0), λ _. omega (arith, cases.1, c.octets.invariant.shorter.0));
    }

pub octets-preserved : goal.octets-preserved
octets-preserved c =
    let a = c.args.alphabet in
    let before = c.octets.self in
    let octet = c.in-Some.octet.now in
    let after = c.in-Some.after.now in
    let cases = c.in-Some.ensures.cases in
    record {
      long = c.octets.invariant.long;
      few = c.octets.invariant.few;
      more = c.octets.invariant.more;
      small = c.octets.invariant.small;
      goes_on = c.octets.invariant.goes_on;
      bits = ap (λ l. held_bits a before ++ l) (sym (stray_passed a octet after c.if-octet-eq-PADDING.false (sym c.class-value.ensures ∙ c.if-value.false)) ∙ ap (text_bits a) (sym cases.0))
          ∙ c.octets.invariant.bits;
      ended = sym (no_padding_first octet after c.if-octet-eq-PADDING.false) ∙ ap contains_padding (sym cases.0) ∙ c.octets.invariant.ended;
      shorter = (omega (arith, cases.1, c.octets.invariant.shorter.0), λ _. omega (arith, cases.1, c.octets.invariant.shorter.0));
    }
