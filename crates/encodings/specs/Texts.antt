-- Octets as texts (RFC 4648; RFC 2045, sections 6.7 and 6.8), and texts as octets.
use Rattle.std.specs.Prelude.{◌≡◌, ◌%◌, ℕ, List, length}
use Rattle.base64.specs.Engines.{standard}
use Rattle.base64.specs.GeneralPurpose.{encode_of}
use Rattle.hex.specs.Hex.{encode_upper}
use Rattle.lanes_base64_mime.specs.MimeBase64.{mime_decoding_of, mime_encoding_of}
use Rattle.octet_lanes.specs.Encoding.{IsOctets, encoding_of}
use Rattle.octet_lanes.specs.declared.alphabet.Alphabet.TheVariants as alphabet
use Rattle.octets.specs.Ascii.{uppercase_of}
use Rattle.quoted_printable.specs.QuotedPrintable as qp
use Rattle.refusals.specs.declared.refusal.Refusal.{Refusal}
use Rattle.refusals.specs.declared.refusal.Refusal.TheVariants.{Memory, NotCanonical}
use Rattle.encodings.specs.declared.encoding.Encoding.{Encoding}
use Rattle.encodings.specs.declared.encoding.Encoding.TheVariants.{Raw, Base64, Base64Mime, Base32, Base32Hex, Base16, Qp}

-- the text of octets
abbrev pub text_of : Encoding → List ℕ → List ℕ
text_of Raw octets = octets
text_of Base64 octets = encode_of standard octets
text_of Base64Mime octets = mime_encoding_of octets
text_of Base32 octets = encoding_of alphabet.Base32 octets
text_of Base32Hex octets = encoding_of alphabet.Base32Hex octets
text_of Base16 octets = encode_upper octets
text_of Qp octets = qp.encoding_of octets

-- Octets whose text comes first, whatever octets follow them: whole groups of 24 or 40 bits (RFC
-- 4648, sections 4 and 6), or whole lines of 76 characters (RFC 2045, section 6.8). In
-- quoted-printable what follows decides where a line ends.
abbrev pub IsPiece : Encoding → List ℕ → Type 0
IsPiece Raw octets = Unit {0}
IsPiece Base64 octets = length octets % 3 ≡ 0
IsPiece Base64Mime octets = length octets % 57 ≡ 0
IsPiece Base32 octets = length octets % 5 ≡ 0
IsPiece Base32Hex octets = length octets % 5 ≡ 0
IsPiece Base16 octets = Unit {0}
IsPiece Qp octets = ⊥

-- A text reads as octets: in MIME base64 by their bits, whatever stands between them; in
-- quoted-printable line by line; in base16 where it is their text but for the case of letters; else
-- where it is their text.
abbrev pub Reads : Encoding → List ℕ → List ℕ → Type 0
Reads Base64Mime text octets = octets ≡ mime_decoding_of text
Reads Base16 text octets = uppercase_of text ≡ text_of Base16 octets
Reads Qp text octets = octets ≡ qp.decoding_of text
Reads encoding text octets = text ≡ text_of encoding octets

-- why a text isn't decoded: memory was refused, or it reads as no octets
abbrev pub IsUnread : Encoding → List ℕ → Refusal → Type 0
IsUnread encoding text Memory = Unit {0}
IsUnread encoding text NotCanonical = (octets : List ℕ) → IsOctets octets → Reads encoding text octets → ⊥
IsUnread encoding text _ = ⊥
