-- Texts that read as no octets.
use Rattle.std.proofs.Common.{◌≡◌, ℕ, ◌<◌, ◌⊎◌, inl, inr, zero, suc, List, [], ◌∷◌, Ok, Err, sym, subst, ◌∙◌, arith}
use Rattle.std.specs.Prelude.{◌↔◌}
use Rattle.std.proofs.lemmas.List.Elements.{All-head, All-tail}
use Rattle.base64.specs.Engines.{standard}
use Rattle.base64.specs.GeneralPurpose.{IsDecodeFailure, IsBytes, decode_of, encode_of}
use Rattle.base64.specs.declared.decode.DecodeAllocError.{DecodeAllocError}
use Rattle.base64.specs.declared.decode.DecodeAllocError.TheVariants as base64
use Rattle.hex.specs.Hex as hex_text
use Rattle.hex.specs.declared.error.FromHexError.{FromHexError}
use Rattle.hex.specs.declared.error.FromHexError.TheVariants as hex
use Rattle.octet_lanes.specs.Encoding.{IsOctets}
use Rattle.refusals.specs.Causes.{of_base16, of_base64}
use Rattle.encodings.specs.Texts.{IsUnread, Reads}
use Rattle.encodings.specs.declared.encoding.Encoding.TheVariants.{Base64, Base16}
use Rattle.encodings.proofs.Hexadecimal.{written_decodes}

pub octets_are_bytes : (octets : List ℕ) → IsOctets octets → IsBytes octets
octets_are_bytes [] h i = omega arith
octets_are_bytes (x ∷ octets) h zero = All-head (λ o. o < 256) x octets h
octets_are_bytes (x ∷ octets) h (suc i) = octets_are_bytes octets (All-tail (λ o. o < 256) x octets h) i

-- a text that `base64` refuses reads as nothing
pub refused_base64 : (text : List ℕ) (error : DecodeAllocError) → IsDecodeFailure standard text error
    → ((octets : List ℕ) → IsBytes octets → (decode_of standard text ≡ Ok octets) ↔ (text ≡ encode_of standard octets))
    → IsUnread Base64 text (of_base64 error)
refused_base64 text base64.OutOfMemory fails strict = tt
refused_base64 text (base64.DecodeError error) fails strict = λ octets small reads.
    cc (sym ((strict octets (octets_are_bytes octets small)).1 reads) ∙ fails)

-- a text that `hex` refuses reads as nothing
unread : (text : List ℕ) (error : FromHexError) → hex_text.decode_of text ≡ Err error → (octets : List ℕ) → IsOctets octets → Reads Base16 text octets → ⊥
unread text error fails octets small reads = cc (sym (written_decodes text octets (octets_are_bytes octets small) reads).1 ∙ fails)

pub refused_base16 : (text : List ℕ) (error : FromHexError) → (error ≡ hex.OutOfMemory) ⊎ (hex_text.decode_of text ≡ Err error) → IsUnread Base16 text (of_base16 error)
refused_base16 text error (inl memory) = subst (λ e. IsUnread Base16 text (of_base16 e)) (sym memory) tt
refused_base16 text hex.OutOfMemory (inr fails) = tt
refused_base16 text (hex.InvalidHexCharacter c place) (inr fails) = unread text (hex.InvalidHexCharacter c place) fails
refused_base16 text hex.OddLength (inr fails) = unread text hex.OddLength fails
refused_base16 text hex.InvalidStringLength (inr fails) = unread text hex.InvalidStringLength fails
