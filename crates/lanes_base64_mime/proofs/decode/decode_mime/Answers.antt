use Rattle.std.proofs.Common.{◌++◌, ap, ◌∙◌}
use Rattle.octet_lanes.specs.Encoding.{octets_of}
use Rattle.lanes_base64_mime.specs.Pieces.{bits_with}
use Rattle.lanes_base64_mime.proofs.Pieces.{mime_octets_of}
use Rattle.lanes_base64_mime.proofs.decode.decode_mime.Goals as goal

pub returns : goal.returns
returns c =
    let text = c.args.text.now in
    c.in_ok-feed.ensures.octets
    ∙ ap (λ l. l ++ octets_of (bits_with c.new-decoder.result text)) c.in_ok-out.ensures.items
    ∙ ap (λ kept. octets_of (bits_with kept text)) c.new-decoder.ensures
    ∙ mime_octets_of text
