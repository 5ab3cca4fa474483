-- Which of its two forms the value of octets has, and how it is read.
use Rattle.std.proofs.Common.{◌≡◌, ℕ, List, Bool, true, false, Some, refl, ap, if◌then◌else◌}
use Rattle.std.specs.Str.{IsUtf8, is_utf8}
use Rattle.std.specs.Result.{result_ok}
use Rattle.std.proofs.lemmas.Str.{IsUtf8-from_is_utf8, is_utf8-from_IsUtf8}
use Rattle.base64.specs.Engines.{standard}
use Rattle.base64.specs.GeneralPurpose.{IsBytes, decoded_of}
use Rattle.base64.proofs.EngineFacts.{decode_of-encode_of}
use Rattle.serde_json.specs.Data.{Data, string}
use Rattle.catalog.specs.Texts.{base64_value, octets_in, text_value}

from_not_true : (b : Bool) → ¬ (b ≡ true) → b ≡ false
from_not_true true n = absurd (n refl)
from_not_true false n = refl

pub of_utf8 : (octets : List ℕ) → IsUtf8 octets → text_value octets ≡ string octets
of_utf8 octets u = rw (is_utf8-from_IsUtf8 octets u) refl

pub of_others : (octets : List ℕ) → ¬ (IsUtf8 octets) → text_value octets ≡ base64_value octets
of_others octets n = rw (from_not_true (is_utf8 octets) (λ e. n (IsUtf8-from_is_utf8 octets e))) refl

either_form : (P : Data → Type 0) (octets : List ℕ) (b : Bool) → P (string octets) → P (base64_value octets) → P (if b then string octets else base64_value octets)
either_form P octets true p q = p
either_form P octets false p q = q

-- what holds of both forms holds of the value
pub of_both : (P : Data → Type 0) (octets : List ℕ) → P (string octets) → P (base64_value octets) → P (text_value octets)
of_both P octets p q = either_form P octets (is_utf8 octets) p q

base64_read : (octets : List ℕ) → IsBytes octets → octets_in (base64_value octets) ≡ Some octets
unfolding decoded_of
base64_read octets small = ap result_ok (decode_of-encode_of standard octets refl small)

pub read_back : (octets : List ℕ) → IsBytes octets → octets_in (text_value octets) ≡ Some octets
read_back octets small = of_both (λ value. octets_in value ≡ Some octets) octets refl (base64_read octets small)
