use Rattle.std.proofs.Common.{◌∙◌, ap, length, arith}
use Rattle.octet_lanes.proofs.Reading.{few_left}
use Rattle.lanes_base64_mime.specs.Pieces.{bits_with}
use Rattle.std.specs.List.{slice_range}
use Rattle.mime_decode.proofs.Feeding.{base64_begun, base64_ended, base64_fed}
use Rattle.mime_decode.proofs.content.decoded_base64.Goals as goal

pub loop-line-init : goal.loop-line-init
loop-line-init c =
    let unread = c.into_iter-line-iterator.ensures.into_iter_gives ∙ c.new-line-items.ensures in record {
      same_text = ap (λ u. u.text) unread;
      few = omega (arith, ap (λ k. length k.bits) c.new-decoder.ensures);
      so_far = base64_begun c.args.body.now c.in_ok-octets.octets.items c.new-decoder.result c.into_iter-line-iterator.result.place
          c.in_ok-octets.ensures.items c.new-decoder.ensures (ap (λ u. u.place) unread);
    }

pub loop-line-preserved : goal.loop-line-preserved
loop-line-preserved c =
    let text = c.args.body.now in
    let was = c.loop-line.invariant in
    let line = c.in-Some.line in
    let steps = c.in-Some.ensures.steps in
    let here = steps.here in
    let fed = c.in_ok-feed.ensures in
    let kept = few_left (bits_with c.loop-line.decoder (slice_range text line.start line.stop)) in record {
      same_text = steps.same_text ∙ was.same_text;
      few = omega (arith, kept, ap (λ k. length k.bits) fed.kept);
      so_far =
          rw steps.after (base64_fed text c.loop-line.octets.items c.feed.new.out.items c.loop-line.decoder c.feed.new.self _ c.loop-line.line-iterator.place line.start line.stop
          here.start (omega (arith, here.end_after_start, here.stop_after_end)) was.few fed.octets fed.kept was.so_far);
    }

pub returns : goal.returns
returns c =
    let text = c.args.body.now in
    let was = c.loop-line.invariant in
    let ended = c.in-None.ensures.steps.ended ∙ ap length was.same_text in
    base64_ended text c.loop-line.octets.items c.loop-line.decoder _ c.loop-line.line-iterator.place ended was.few was.so_far
