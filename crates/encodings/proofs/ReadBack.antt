-- Texts read back.
use Rattle.std.proofs.Common.{◌≡◌, ℕ, List, Result, Ok, refl, sym, ap, ◌∙◌}
use Rattle.base64.specs.Engines.{standard}
use Rattle.base64.specs.GeneralPurpose.{decode_of}
use Rattle.base64.proofs.EngineFacts.{decode_of-encode_of}
use Rattle.hex.specs.Hex as hex
use Rattle.hex.proofs.HexLemmas.{decode_of-encode_upper}
use Rattle.lanes_base64_mime.proofs.Lines.{law}
use Rattle.quoted_printable.proofs.ReadBack.{law as reads_back}
use Rattle.octet_lanes.specs.Encoding.{IsOctets}
use Rattle.octet_lanes.specs.declared.alphabet.Alphabet.TheVariants as alphabet
use Rattle.octet_lanes.proofs.ReadBack.{spelled_by_one}
use Rattle.encodings.specs.Texts.{Reads, text_of}
use Rattle.encodings.specs.declared.encoding.Encoding.{Encoding}
use Rattle.encodings.specs.declared.encoding.Encoding.TheVariants.{Raw, Base64, Base64Mime, Base32, Base32Hex, Base16, Qp}
use Rattle.encodings.proofs.Hexadecimal.{decoded_is_written}
use Rattle.encodings.proofs.Readings.{octets_are_bytes}

one_value : {E : Type 0} (r : Result (List ℕ) E) (x y : List ℕ) → r ≡ Ok x → r ≡ Ok y → x ≡ y
one_value r x y e f = cc (sym e ∙ f)

pub at_most_one : (encoding : Encoding) (text x y : List ℕ) → IsOctets x → IsOctets y → Reads encoding text x → Reads encoding text y → x ≡ y
at_most_one Raw text x y small other e f = sym e ∙ f
at_most_one Base64 text x y small other e f =
    one_value (decode_of standard text) x y
    (ap (decode_of standard) e ∙ decode_of-encode_of standard x refl (octets_are_bytes x small))
    (ap (decode_of standard) f ∙ decode_of-encode_of standard y refl (octets_are_bytes y other))
at_most_one Base64Mime text x y small other e f = e ∙ sym f
at_most_one Qp text x y small other e f = e ∙ sym f
at_most_one Base32 text x y small other e f = spelled_by_one alphabet.Base32 text x y small other e f
at_most_one Base32Hex text x y small other e f = spelled_by_one alphabet.Base32Hex text x y small other e f
at_most_one Base16 text x y small other e f =
    one_value (hex.decode_of (hex.encode_upper x)) x y
    (decode_of-encode_upper x (octets_are_bytes x small))
    (ap hex.decode_of (sym e ∙ f) ∙ decode_of-encode_upper y (octets_are_bytes y other))

pub written_is_read : (encoding : Encoding) (octets : List ℕ) → IsOctets octets → Reads encoding (text_of encoding octets) octets
written_is_read Base64Mime octets small = sym (law octets small)
written_is_read Qp octets small = sym (reads_back octets small)
written_is_read Base16 octets small =
    decoded_is_written (hex.encode_upper octets) octets (decode_of-encode_upper octets (octets_are_bytes octets small))
written_is_read _ octets small = refl
