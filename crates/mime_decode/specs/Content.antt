-- The content of a part, and its digest (RFC 2045, section 6; FIPS 180-4; RFC 4648, section 8).
use Rattle.std.specs.Prelude.{ℕ, Bool, true, false, List}
use Rattle.mime_params.specs.declared.encoding.TransferEncoding.{TransferEncoding}
use Rattle.mime_params.specs.declared.encoding.TransferEncoding.TheVariants.{SevenBit, EightBit, Binary, QuotedPrintable, Base64, Unknown}
use Rattle.quoted_printable.specs.QuotedPrintable.{decoding_of}
use Rattle.lanes_base64_mime.specs.MimeBase64.{mime_decoding_of}
use Rattle.sha2.specs.Sha256.{sha256}
use Rattle.hex.specs.Hex.{encode_lower}

-- whether a body in this encoding is decoded
abbrev pub is_decoded : TransferEncoding → Bool
is_decoded SevenBit = false
is_decoded EightBit = false
is_decoded Binary = false
is_decoded QuotedPrintable = true
is_decoded Base64 = true
is_decoded Unknown = false

-- the octets that a body in this encoding stands for; where nothing is decoded they are the body as it stands
abbrev pub content_of : TransferEncoding → List ℕ → List ℕ
content_of SevenBit body = body
content_of EightBit body = body
content_of Binary body = body
content_of QuotedPrintable body = decoding_of body
content_of Base64 body = mime_decoding_of body
content_of Unknown body = body

-- the digest of octets: the hexadecimal digits, in lower case, of their SHA-256
abbrev pub digest_of : List ℕ → List ℕ
digest_of octets = encode_lower (sha256 octets)
