use Rattle.std.proofs.Common.{◌≡◌, ◌++◌, length}
use Rattle.lanes_base64_mime.specs.MimeBase64.{mime_encoding_of}
use Rattle.lanes_base64_mime.proofs.encode.encode_mime.Given as goal

abbrev pub invariant-lines : goal.invariant-lines
invariant-lines l = l.out.items ++ mime_encoding_of l.rest ≡ mime_encoding_of l.octets

abbrev pub decreases-lines : goal.decreases-lines
decreases-lines l = length l.rest
