-- The two digits of an octet read back.
use Rattle.std.proofs.Common.{◌≡◌, ◌∙◌, ◌<◌, ◌+◌, ◌*◌, ◌/◌, ◌%◌, ◌==◌, ◌&&◌, ap, refl, ℕ, Bool, true, false, Some, None, if◌then◌else◌, arith, eqb-true}
use Rattle.std.specs.Fmt.{digit_glyph}
use Rattle.std.specs.Char.{digit_value}
use Rattle.std.proofs.lemmas.Bool.{and_parts, agree_below_at}
use Rattle.octets.specs.Escapes.{is_hex, octet_of_digits}

reads_back : ℕ → Bool
reads_back d = is_hex (digit_glyph false d) && (digit_value (digit_glyph false d) == d)

record IsDigit (d : ℕ) : Type 0 where
  hex : is_hex (digit_glyph false d) ≡ true
  value : digit_value (digit_glyph false d) ≡ d

digit : (d : ℕ) → d < 16 → IsDigit d
unfolding reads_back
digit d h =
    let both = and_parts (is_hex (digit_glyph false d)) (digit_value (digit_glyph false d) == d) (agree_below_at reads_back (λ _. true) 16 d refl h) in
    record { hex = both.0; value = eqb-true (digit_value (digit_glyph false d)) d both.1 }

pub both_digits : (octet : ℕ) → octet < 256
    → octet_of_digits (digit_glyph false (octet / 16)) (digit_glyph false (octet % 16)) ≡ Some octet
both_digits octet h =
    let high = digit (octet / 16) (omega arith) in
    let low = digit (octet % 16) (omega arith) in
    let read : ℕ = 16 * digit_value (digit_glyph false (octet / 16)) + digit_value (digit_glyph false (octet % 16)) in
    let same : read ≡ octet = omega (arith, high.value, low.value) in
    ap (λ b. if b && is_hex (digit_glyph false (octet % 16)) then Some read else None) high.hex
    ∙ ap (λ b. if b then Some read else None) low.hex
    ∙ ap Some same
