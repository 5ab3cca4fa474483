use Rattle.std.proofs.Common.{sym, ap, ◌∙◌}
use Rattle.octet_lanes.specs.Encoding.{contains_padding, text_bits}
use Rattle.octet_lanes.proofs.Reading.{no_padding_first, stray_passed}
use Rattle.octet_lanes.proofs.reader.after_strays.Goals as goal

pub strays-preserved : goal.strays-preserved
strays-preserved c =
    let a = c.args.alphabet in
    let octet = c.in-Some.octet.now in
    let after = c.in-Some.after.now in
    let here = c.in-Some.ensures.cases in
    let other = c.if-octet-eq-PADDING.false in
    record {
      bits = sym (stray_passed a octet after other (sym c.class.ensures ∙ c.if-class.false)) ∙ ap (text_bits a) (sym here.0) ∙ c.strays.invariant.bits;
      ended = sym (no_padding_first octet after other) ∙ ap contains_padding (sym here.0) ∙ c.strays.invariant.ended;
    }
