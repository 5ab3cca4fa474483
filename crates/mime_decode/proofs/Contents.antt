-- A content is no longer than its body.
use Rattle.std.proofs.Common.{ℕ, ◌≤◌, List, length, arith}
use Rattle.mime_params.specs.declared.encoding.TransferEncoding.{TransferEncoding}
use Rattle.mime_params.specs.declared.encoding.TransferEncoding.TheVariants.{QuotedPrintable, Base64}
use Rattle.lanes_base64_mime.specs.MimeBase64.{mime_decoding_of}
use Rattle.lanes_base64_mime.proofs.Rooms.{decoding_fits}
use Rattle.quoted_printable.proofs.Lengths.{no_longer}
use Rattle.mime_decode.specs.Content.{content_of}

-- base64 stands for six bits at most for each octet, so for at most as many octets as the body has
base64_no_longer : (text : List ℕ) → length (mime_decoding_of text) ≤ length text
base64_no_longer text = omega (arith, decoding_fits text)

pub content_fits : (encoding : TransferEncoding) (body : List ℕ) → length (content_of encoding body) ≤ length body
content_fits QuotedPrintable body = no_longer body
content_fits Base64 body = base64_no_longer body
content_fits _ body = omega arith
