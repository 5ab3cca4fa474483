use Rattle.std.proofs.Common.{◌<◌, ◌∙◌, ap, length, arith}
use Rattle.std.proofs.lemmas.List.{length-map}
use Rattle.std.specs.List.{slice_range}
use Rattle.glob_match.specs.declared.captures.Stretch.{Stretch}
use Rattle.glob_match.specs.Captures.{texts}
use Rattle.glob_match.proofs.Gathered.{octets_more, texts_more}
use Rattle.glob_match.proofs.captures.Captures.gathered.Goals as goal

pub loop-number-preserved : goal.loop-number-preserved
loop-number-preserved c =
    let value = c.args.value.now in
    let all = texts value c.args.self.now in
    let number = c.loop-number.number in
    let size = length-map c.args.self.now (λ (s : Stretch). slice_range value s.start s.end) in
    let lt : number < length all = omega (arith, c.loop-number-test.true, c.len-number-end.ensures.value, ap length c.self.view_is, size) in
    let so_far = c.loop-number.invariant in
    let done = c.in_ok-add_text.ensures in (
      done.octets ∙ octets_more all number c.loop-number.octets.items c.text.result.now lt c.text.ensures so_far.0,
      done.texts ∙ texts_more all number (texts c.loop-number.octets.items c.loop-number.captures) c.text.result.now lt c.text.ensures so_far.1,
      done.within,
      omega (arith, done.number, so_far.3),
    )
