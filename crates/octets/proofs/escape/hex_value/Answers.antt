use Rattle.std.proofs.Common.{◌≡◌, ◌∙◌, ◌<◌, ◌≤◌, ◌==◌, ◌&&◌, ap, sym, refl, not, ℕ, Bool, true, false, Some, None, if◌then◌else◌, nat_lt, slice_index_or, arith, eqb-true}
use Rattle.std.specs.Char.{digit_value}
use Rattle.std.proofs.lemmas.Bool.{and_parts, agree_below_at, lt-ltb, le-ltb}
use Rattle.octets.specs.Escapes.{is_hex}
use Rattle.octets.specs.declared.escape.TheConstants.{VALUES}
use Rattle.octets.proofs.escape.hex_value.Goals as goal

-- the table says of an octet what the definition says
told : ℕ → Bool
told o = if nat_lt (slice_index_or VALUES o 0) 16 then is_hex o && (digit_value o == slice_index_or VALUES o 0) else not (is_hex o)

all_told : (o : ℕ) → o < 256 → told o ≡ true
unfolding told
all_told o h = agree_below_at told (λ _. true) 256 o refl h

digit : (o v : ℕ) → nat_lt v 16 ≡ true → (if nat_lt v 16 then is_hex o && (digit_value o == v) else not (is_hex o)) ≡ true → Some v ≡ (if is_hex o then Some (digit_value o) else None)
digit o v few is =
    let both = and_parts (is_hex o) (digit_value o == v) (ap (λ b. if b then is_hex o && (digit_value o == v) else not (is_hex o)) (sym few) ∙ is) in
    ap Some (sym (eqb-true (digit_value o) v both.1)) ∙ ap (λ b. if b then Some (digit_value o) else None) (sym both.0)

not_true : (b : Bool) → not b ≡ true → b ≡ false
not_true true h = cc
not_true false h = refl

none : (o v : ℕ) → nat_lt v 16 ≡ false → (if nat_lt v 16 then is_hex o && (digit_value o == v) else not (is_hex o)) ≡ true → None ≡ (if is_hex o then Some (digit_value o) else None)
none o v many is =
    let no = not_true (is_hex o) (ap (λ b. if b then is_hex o && (digit_value o == v) else not (is_hex o)) (sym many) ∙ is) in
    ap (λ b. if b then Some (digit_value o) else None) (sym no)

pub returns-then-value-lt16 : goal.returns-then-value-lt16
unfolding told
returns-then-value-lt16 c = digit c.args.octet (slice_index_or VALUES c.args.octet 0) (lt-ltb _ 16 c.if-value-lt16.true) (all_told c.args.octet (omega arith))

pub returns-else-value-lt16 : goal.returns-else-value-lt16
unfolding told
returns-else-value-lt16 c = none c.args.octet (slice_index_or VALUES c.args.octet 0) (le-ltb _ 16 c.if-value-lt16.false) (all_told c.args.octet (omega arith))
