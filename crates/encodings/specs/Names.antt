-- The names of encodings.
use Rattle.std.specs.Prelude.{◌∷◌, ℕ, List, [], Option, codes}
use Rattle.std.specs.List.{find}
use Rattle.std.specs.Str.{bytes_eq}
use Rattle.encodings.specs.declared.encoding.Encoding.{Encoding}
use Rattle.encodings.specs.declared.encoding.Encoding.TheVariants.{Raw, Base64, Base64Mime, Base32, Base32Hex, Base16, Qp}

-- the name of an encoding
abbrev pub name_of : Encoding → List ℕ
name_of Raw = codes "raw"
name_of Base64 = codes "base64"
name_of Base64Mime = codes "base64-mime"
name_of Base32 = codes "base32"
name_of Base32Hex = codes "base32hex"
name_of Base16 = codes "base16"
name_of Qp = codes "qp"

abbrev pub all_encodings : List Encoding
all_encodings = Raw ∷ Base64 ∷ Base64Mime ∷ Base32 ∷ Base32Hex ∷ Base16 ∷ Qp ∷ []

-- the encoding of a name
abbrev pub encoding_of : List ℕ → Option Encoding
encoding_of name = find (λ encoding. bytes_eq name (name_of encoding)) all_encodings
