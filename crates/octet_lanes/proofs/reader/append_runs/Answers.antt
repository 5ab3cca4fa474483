use Rattle.std.proofs.Common.{◌++◌, length, ap, ◌∙◌, arith}
use Rattle.std.proofs.lemmas.List.{length-drop}
use Rattle.octet_lanes.specs.Encoding.{all_bits, contains_padding, text_bits}
use Rattle.octet_lanes.proofs.Reading.{grown_on, read_on}
use Rattle.octet_lanes.proofs.reader.append_runs.Goals as goal

pub runs-preserved : goal.runs-preserved
runs-preserved c =
    let a = c.args.alphabet in
    let text = c.runs.rest.now in
    let now = c.append_first.new.out.items in
    let on = read_on a c.in_ok-read.read text c.runs.out.items now c.in_ok-read.ensures.read in
    record {
      bits = ap (λ l. all_bits 8 now ++ text_bits a l) c.split_at.ensures.back ∙ on.0 ∙ c.runs.invariant.bits;
      ended = ap contains_padding c.split_at.ensures.back ∙ on.1 ∙ c.runs.invariant.ended;
      shorter = omega (arith, ap length c.split_at.ensures.back ∙ length-drop c.in_ok-read.read text, c.runs.invariant.shorter);
      grown = grown_on c.args.out.now.items c.runs.out.items now c.runs.invariant.grown c.in_ok-read.ensures.grown;
    }
