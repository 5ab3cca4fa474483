use Rattle.std.proofs.Common.{◌≡◌, ◌<◌, ◌++◌, length, drop}
use Rattle.octet_lanes.specs.Encoding.{octets_of}
use Rattle.lanes_base64_mime.specs.MimeBase64.{mime_decoding_of}
use Rattle.lanes_base64_mime.specs.Pieces.{bits_with}
use Rattle.mime_decode.proofs.content.decoded_base64.Given as goal

abbrev pub invariant-loop-line : goal.invariant-loop-line
invariant-loop-line l = record {
  same_text : l.line-iterator.text ≡ l.body;
  few : length l.decoder.bits < 8;
  so_far : l.octets.items ++ octets_of (bits_with l.decoder (drop l.line-iterator.place l.body)) ≡ mime_decoding_of l.body;
}
