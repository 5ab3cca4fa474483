-- Octets that stand for the same whatever comes after them.
use Rattle.std.proofs.Common.{◌≡◌, ◌≢◌, ℕ, ◌+◌, ◌*◌, ◌≤◌, ◌&&◌, true, List, [], ◌∷◌, ◌++◌, inl, inr, sym, ◌∙◌, ap, arith, length, drop, get_or, subst}
use Rattle.std.specs.Char.{digit_value}
use Rattle.std.specs.Prelude.{Some, None}
use Rattle.std.proofs.lemmas.Bool.{cases_Bool}
use Rattle.std.proofs.lemmas.List.{append_assoc, length-append}
use Rattle.octets.specs.Escapes.{is_hex, octet_of_digits}
use Rattle.quoted_printable.specs.QuotedPrintable.{unescaped}
use Rattle.quoted_printable.specs.Private.{AreFor, Decodes}
use Rattle.quoted_printable.proofs.Decoded.{unescaped-other}

-- ---- two digits

pub digits_some : (high low octet : ℕ) → Some octet ≡ octet_of_digits high low → ((is_hex high && is_hex low) ≡ true) × (octet ≡ 16 * digit_value high + digit_value low)
digits_some high low octet e = elim (cases_Bool (is_hex high && is_hex low)) [
  | inl both ↦ (both, let same = rw both at e in cc)
  | inr other ↦ absurd (let none = rw other at e in cc)
]

pub digits_none : (high low : ℕ) → None ≡ octet_of_digits high low → (is_hex high && is_hex low) ≢ true
digits_none high low e both = absurd (let some = rw both at e in cc)

-- ---- one octet

pub escape_stands : (text rest : List ℕ) (octet : ℕ) → 2 ≤ length text → Some octet ≡ octet_of_digits (get_or text 0 0) (get_or text 1 0) → rest ≡ drop 2 text
    → Decodes (61 ∷ text) octet rest
escape_stands [] rest octet long e back = absurd (omega arith)
escape_stands (high ∷ []) rest octet long e back = absurd (omega arith)
escape_stands (high ∷ low ∷ text) rest octet long e back =
    let (both, is) = digits_some high low octet e in
    subst (λ l. Decodes (61 ∷ high ∷ low ∷ text) octet l) (sym back)
    (record {
      line = rw both (ap (λ n. n ∷ unescaped text) (sym is));
      shorter = omega arith;
    })

pub plain_stands : (text rest : List ℕ) (octet : ℕ) → text ≡ octet ∷ rest → octet ≢ 61 → Decodes text octet rest
plain_stands text rest octet e no_equals =
    subst (λ l. Decodes l octet rest) (sym e)
    (record {
      line = unescaped-other octet rest no_equals;
      shorter = omega arith;
    })

-- ---- several octets

pub are_more : (text octets rest left : List ℕ) (octet : ℕ) → AreFor text octets rest → Decodes rest octet left → AreFor text (octets ++ octet ∷ []) left
are_more text octets rest left octet so_far next = record {
  line = so_far.line ∙ ap (λ l. octets ++ l) next.line ∙ sym (append_assoc octets (octet ∷ []) (unescaped left));
  shorter = let long = length-append octets (octet ∷ []) in omega (arith, long, so_far.shorter, next.shorter);
}
