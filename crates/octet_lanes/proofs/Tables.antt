-- The tables of classes, computed at each octet.
use Rattle.std.proofs.Common.{◌≡◌, ℕ, ◌<◌, T, eqb, List, get_or, eqb→eq}
use Rattle.octet_lanes.specs.Encoding.{class_of}
use Rattle.octet_lanes.specs.declared.alphabet.Alphabet.{Alphabet}
use Rattle.octet_lanes.specs.declared.alphabet.Alphabet.TheVariants.{Base64, Base32, Base32Hex}
use Rattle.octet_lanes.specs.declared.classes.TheConstants.{BASE64_CLASSES, BASE32_CLASSES, BASE32HEX_CLASSES}
use Rattle.octet_lanes.proofs.Symbols.{all_below, every_below}

-- what a table that is right at each octet gives for one of them
in_table : (alphabet : Alphabet) (table : List ℕ) → T (all_below (λ b. eqb (get_or table b 0) (class_of alphabet b)) 256)
    → (octet : ℕ) → octet < 256 → get_or table octet 0 ≡ class_of alphabet octet
in_table alphabet table right octet small = eqb→eq _ _ (every_below (λ b. eqb (get_or table b 0) (class_of alphabet b)) 256 right octet small)

pub base64_class : (octet : ℕ) → octet < 256 → get_or BASE64_CLASSES octet 0 ≡ class_of Base64 octet
base64_class = in_table Base64 BASE64_CLASSES tt

pub base32_class : (octet : ℕ) → octet < 256 → get_or BASE32_CLASSES octet 0 ≡ class_of Base32 octet
base32_class = in_table Base32 BASE32_CLASSES tt

pub base32hex_class : (octet : ℕ) → octet < 256 → get_or BASE32HEX_CLASSES octet 0 ≡ class_of Base32Hex octet
base32hex_class = in_table Base32Hex BASE32HEX_CLASSES tt
