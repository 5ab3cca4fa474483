-- What is told can be printed anywhere, since it is escaped when it is written.
use Rattle.std.proofs.Common.{◌≡◌, ◌∙◌, ℕ, zero, suc, ◌+◌, ◌/◌, ◌%◌, ◌<◌, ◌≤◌, Bool, true, false, cond, Option, Some, None, List, [], ◌∷◌, ◌++◌, ap, sym, subst, refl, arith, lt-ltb, le-ltb, append-nil}
use Rattle.std.specs.List.{list_all}
use Rattle.std.specs.Char.{encode_utf8}
use Rattle.std.specs.Str.{all_scalars}
use Rattle.std.specs.Prelude.{nat_lt, ◌&&◌, ◌||◌, ◌==◌, if◌then◌else◌, flat_map, drop, encode_utf8_all}
use Rattle.std.specs.Fmt.{digit_glyph}
use Rattle.std.proofs.Math.Utf8.{low_scalar, scalar}
use Rattle.std.proofs.lemmas.Str.{encode_ascii, encodes-append}
use Rattle.std.proofs.lemmas.Bool.{agree_below_at, and_parts, ltb-true}
use Rattle.std.proofs.lemmas.Bool.Decides.{nat_tests}
use Rattle.std.proofs.lemmas.Grind.{flat_map-append}
use Rattle.std.proofs.lemmas.List.Folds.{list_all-append}
use Rattle.refusals.specs.declared.fault_kind.FaultKind.{FaultKind}
use Rattle.octets.specs.Limits.{max_script}
use Rattle.refusals.specs.declared.refusal.Refusal.{Refusal}
use Rattle.refusals.specs.declared.refusal.Refusal.TheVariants as refused
use Rattle.sieve_explain.specs.Characters.{first_piece, is_graphic, is_sign, is_visible, more_octets, pieces, pieces_after}
use Rattle.sieve_explain.specs.Explaining.{Explains, TellsFault, depth_told, listing_told, look_told, printed, printed_one, reasons_told, syntax_told, told}
use Rattle.sieve_explain.specs.Faults.{lexical_blanks, listing_blanks, look_text, too_long_blanks}
use Rattle.sieve_explain.specs.Printable.{IsAsciiOrVisible, IsReadable, have_no_controls, is_ascii_or_visible, is_no_control, is_readable}
use Rattle.sieve_explain.specs.Shown.{escaped, is_name_octet, name_octet, shown, shown_character, shown_name, shown_octets, shown_piece}
use Rattle.sieve_explain.specs.declared.shown.Style.TheVariants.{Line}
use Rattle.sieve_explain.proofs.Pieces.{spelled}

-- ---- texts that pass a test

abbrev Passes : (ℕ → Bool) → List ℕ → Type 0
Passes test text = list_all test text ≡ true

pass_append : (test : ℕ → Bool) (xs ys : List ℕ) → Passes test xs → Passes test ys → Passes test (xs ++ ys)
pass_append test xs ys p q = list_all-append test xs ys ∙ ap (λ (b : Bool). b && list_all test ys) p ∙ q

scalars_append : (cs ds : List ℕ) → all_scalars cs ≡ true → all_scalars ds ≡ true → all_scalars (cs ++ ds) ≡ true
scalars_append [] ds p q = q
scalars_append (c ∷ cs) ds p q =
    let first = and_parts (scalar c) (all_scalars cs) p in
    ap (λ (b : Bool). b && all_scalars (cs ++ ds)) first.0 ∙ scalars_append cs ds first.1 q

-- ---- readable texts

readable_none : IsReadable []
readable_none = ([], refl, refl, refl)

readable_append : (xs ys : List ℕ) → IsReadable xs → IsReadable ys → IsReadable (xs ++ ys)
readable_append xs ys (cs, s, p, e) (ds, t, q, f) =
    (cs ++ ds, scalars_append cs ds s t, pass_append is_readable cs ds p q, encodes-append cs ds ∙ ap (λ (zs : List ℕ). zs ++ encode_utf8_all ds) e ∙ ap (λ (zs : List ℕ). xs ++ zs) f)

readable_one : (c : ℕ) → scalar c ≡ true → is_readable c ≡ true → IsReadable (encode_utf8 c)
readable_one c s e = (c ∷ [], ap (λ (b : Bool). b && true) s, ap (λ (b : Bool). b && true) e, append-nil (encode_utf8 c))

readable_octet : (c : ℕ) → c < 128 → is_readable c ≡ true → IsReadable (c ∷ [])
readable_octet c low e = subst IsReadable (encode_ascii c low) (readable_one c (low_scalar c (omega arith)) e)

-- the digits of an escape
abbrev is_plain_digit : ℕ → Bool
is_plain_digit n = nat_lt (digit_glyph false n) 128 && is_readable (digit_glyph false n)

readable_glyph : (n : ℕ) → n < 16 → IsReadable (digit_glyph false n ∷ [])
readable_glyph n h =
    let is = and_parts (nat_lt (digit_glyph false n) 128) (is_readable (digit_glyph false n)) (agree_below_at is_plain_digit (λ _. true) 16 n refl h) in
    readable_octet (digit_glyph false n) (ltb-true (digit_glyph false n) 128 is.0) is.1

readable_escaped : (octet : ℕ) → IsReadable (escaped octet)
readable_escaped octet =
    let second = digit_glyph false (octet % 16) ∷ [] in
    readable_append (92 ∷ []) (digit_glyph false (octet / 16 % 16) ∷ second) (readable_octet 92 (omega arith) refl)
    (readable_append (digit_glyph false (octet / 16 % 16) ∷ []) second (readable_glyph (octet / 16 % 16) (omega arith)) (readable_glyph (octet % 16) (omega arith)))

readable_escapes : (octets : List ℕ) → IsReadable (flat_map escaped octets)
readable_escapes [] = readable_none
readable_escapes (x ∷ xs) = readable_append (escaped x) (flat_map escaped xs) (readable_escaped x) (readable_escapes xs)

-- ---- what is escaped

as_shown : (plain blank : Bool) (own other : List ℕ) → (plain ≡ true → IsReadable own) → IsReadable other → IsReadable (if plain then own else (if blank then 32 ∷ [] else other))
as_shown true blank own other p q = p refl
as_shown false true own other p q = readable_octet 32 (omega arith) refl
as_shown false false own other p q = q

readable_shown : (found : Option ℕ) (octets : List ℕ) → ((c : ℕ) → found ≡ Some c → (scalar c ≡ true) × (encode_utf8 c ≡ octets)) → IsReadable (shown_octets Line found octets)
unfolding shown_character
readable_shown None octets spelled = readable_escapes octets
readable_shown (Some c) octets spelled =
    let is = spelled c refl in
    as_shown (is_readable c) (c == 9) octets (flat_map escaped octets) (λ e. subst IsReadable is.1 (readable_one c is.0 e)) (readable_escapes octets)

readable_after : (more : ℕ) (text : List ℕ) → IsReadable (shown Line (pieces_after more text))
readable_after zero [] = readable_none
readable_after (suc more) [] = readable_none
readable_after zero (octet ∷ rest) =
    let text = octet ∷ rest in
    readable_append (shown_piece Line (first_piece text)) (shown Line (pieces_after (more_octets text) rest))
    (readable_shown (first_piece text).char (first_piece text).octets (λ c found. spelled text c found)) (readable_after (more_octets text) rest)
readable_after (suc more) (octet ∷ rest) = readable_after more rest

readable_text : (text : List ℕ) → IsReadable (shown Line (pieces text))
unfolding pieces
readable_text text = readable_after 0 text

-- ---- no control characters

plain_no_control : (octet : ℕ) → is_name_octet octet ≡ true → is_no_control octet ≡ true
plain_no_control octet e = ap (λ (b : Bool). b || octet == 10) e

plain_no_controls : (octets : List ℕ) → Passes is_name_octet octets → Passes is_no_control octets
plain_no_controls [] e = refl
plain_no_controls (x ∷ xs) e =
    let p = and_parts (is_name_octet x) (list_all is_name_octet xs) e in
    ap (λ (b : Bool). b && list_all is_no_control xs) (plain_no_control x p.0) ∙ plain_no_controls xs p.1

high_plain : (octet : ℕ) → 128 ≤ octet → is_name_octet octet ≡ true
high_plain octet h = grind (arith, nat_tests)

-- none is among the octets of a character outside of ASCII
high_character : (c : ℕ) → 128 ≤ c → Passes is_name_octet (encode_utf8 c)
unfolding encode_utf8
high_character c h = cases (nat_lt c 128) (nat_lt c 2048) (nat_lt c 65536) (le-ltb c 128 h) where
  at : (octet : ℕ) → 128 ≤ octet → (xs : List ℕ) → Passes is_name_octet xs → Passes is_name_octet (octet ∷ xs)
  at octet h xs p = ap (λ (b : Bool). b && list_all is_name_octet xs) (high_plain octet h) ∙ p

  cases : (a b d : Bool) → a ≡ false
      → Passes is_name_octet (cond a (c ∷ []) (cond b ((192 + c / 64) ∷ (128 + c % 64) ∷ []) (cond d ((224 + c / 4096) ∷ (128 + c / 64 % 64) ∷ (128 + c % 64) ∷ [])
      ((240 + c / 262144) ∷ (128 + c / 4096 % 64) ∷ (128 + c / 64 % 64) ∷ (128 + c % 64) ∷ []))))
  cases true b d e = absurd (cc)
  cases false true d e = at (192 + c / 64) (omega arith) ((128 + c % 64) ∷ []) (at (128 + c % 64) (omega arith) [] refl)
  cases false false true e =
      at (224 + c / 4096) (omega arith) ((128 + c / 64 % 64) ∷ (128 + c % 64) ∷ [])
      (at (128 + c / 64 % 64) (omega arith) ((128 + c % 64) ∷ []) (at (128 + c % 64) (omega arith) [] refl))
  cases false false false e =
      at (240 + c / 262144) (omega arith) ((128 + c / 4096 % 64) ∷ (128 + c / 64 % 64) ∷ (128 + c % 64) ∷ [])
      (at (128 + c / 4096 % 64) (omega arith) ((128 + c / 64 % 64) ∷ (128 + c % 64) ∷ [])
      (at (128 + c / 64 % 64) (omega arith) ((128 + c % 64) ∷ []) (at (128 + c % 64) (omega arith) [] refl)))

low_no_control : (c : ℕ) → (is_graphic c || c == 10) ≡ true → is_no_control c ≡ true
low_no_control c e = grind (arith, nat_tests)

-- a readable character has none
without_control : (c : ℕ) → is_readable c ≡ true → Passes is_no_control (encode_utf8 c)
without_control c e = by_side (nat_lt c 128) refl where
  by_side : (b : Bool) → nat_lt c 128 ≡ b → Passes is_no_control (encode_utf8 c)
  by_side true side =
      let is : (is_graphic c || c == 10) ≡ true = sym (ap (λ (b : Bool). (if b then is_graphic c else is_sign c) || c == 10) side) ∙ e in
      ap (list_all is_no_control) (encode_ascii c (ltb-true c 128 side)) ∙ ap (λ (b : Bool). b && true) (low_no_control c is)
  by_side false side = plain_no_controls (encode_utf8 c) (high_character c (grind (arith, nat_tests)))

-- nor has a readable text
without_controls : (text : List ℕ) → IsReadable text → Passes is_no_control text
without_controls text (cs, s, p, e) = subst (Passes is_no_control) e (each cs p) where
  each : (cs : List ℕ) → list_all is_readable cs ≡ true → Passes is_no_control (encode_utf8_all cs)
  each [] p = refl
  each (c ∷ cs) p =
      let q = and_parts (is_readable c) (list_all is_readable cs) p in
      pass_append is_no_control (encode_utf8 c) (encode_utf8_all cs) (without_control c q.0) (each cs q.1)

-- ---- the name

name_octet_plain : (octet : ℕ) (plain : Bool) → (plain ≡ true → is_no_control octet ≡ true) → Passes is_no_control (if plain then octet ∷ [] else escaped octet)
name_octet_plain octet true h = ap (λ (b : Bool). b && true) (h refl)
name_octet_plain octet false h = without_controls (escaped octet) (readable_escaped octet)

-- as it is printed, no name has a control character
name_without_controls : (name : List ℕ) → Passes is_no_control (shown_name name)
unfolding name_octet
name_without_controls [] = refl
name_without_controls (x ∷ xs) =
    pass_append is_no_control (name_octet x) (shown_name xs) (name_octet_plain x (is_name_octet x) (plain_no_control x)) (name_without_controls xs)

-- a name without such characters is printed as it is
name_kept : (name : List ℕ) → Passes is_name_octet name → shown_name name ≡ name
unfolding name_octet
name_kept [] e = refl
name_kept (x ∷ xs) e =
    let p = and_parts (is_name_octet x) (list_all is_name_octet xs) e in
    ap (λ (b : Bool). (if b then x ∷ [] else escaped x) ++ shown_name xs) p.0 ∙ ap (λ (rest : List ℕ). x ∷ rest) (name_kept xs p.1)

kept_readable : (c : ℕ) → c < 128 → is_name_octet c ≡ true → is_readable c ≡ true
kept_readable c low e = ap (λ (b : Bool). (if b then is_graphic c else is_sign c) || c == 10) (lt-ltb c 128 low) ∙ kept c low e where
  kept : (c : ℕ) → c < 128 → is_name_octet c ≡ true → (is_graphic c || c == 10) ≡ true
  kept c low e = grind (arith, nat_tests)

-- a character of ASCII stays as it is, or is escaped
readable_ascii : (c : ℕ) → c < 128 → IsReadable (name_octet c)
unfolding name_octet
readable_ascii c low = by_kind (is_name_octet c) refl where
  by_kind : (b : Bool) → is_name_octet c ≡ b → IsReadable (if b then c ∷ [] else escaped c)
  by_kind true e = readable_octet c low (kept_readable c low e)
  by_kind false e = readable_escaped c

readable_character : (c : ℕ) → scalar c ≡ true → is_ascii_or_visible c ≡ true → IsReadable (shown_name (encode_utf8 c))
readable_character c s e = by_side (nat_lt c 128) refl where
  by_side : (b : Bool) → nat_lt c 128 ≡ b → IsReadable (shown_name (encode_utf8 c))
  by_side true side =
      let low : c < 128 = ltb-true c 128 side in
      subst (λ (xs : List ℕ). IsReadable (shown_name xs)) (sym (encode_ascii c low)) (subst IsReadable (sym (append-nil (name_octet c))) (readable_ascii c low))
  by_side false side =
      let seen : is_visible c ≡ true = sym (ap (λ (b : Bool). b || is_visible c) side) ∙ e in
      subst IsReadable (sym (name_kept (encode_utf8 c) (high_character c (grind (arith, nat_tests))))) (readable_one c s (ap (λ (b : Bool). b || c == 10) seen))

-- a name of characters of ASCII and visible ones is readable as it is printed
readable_name : (name : List ℕ) → IsAsciiOrVisible name → IsReadable (shown_name name)
readable_name name (cs, s, p, e) = subst (λ (xs : List ℕ). IsReadable (shown_name xs)) e (each cs s p) where
  each : (cs : List ℕ) → all_scalars cs ≡ true → list_all is_ascii_or_visible cs ≡ true → IsReadable (shown_name (encode_utf8_all cs))
  each [] s e = readable_none
  each (c ∷ cs) s e =
      let p = and_parts (scalar c) (all_scalars cs) s in
      let q = and_parts (is_ascii_or_visible c) (list_all is_ascii_or_visible cs) e in
      subst IsReadable (sym (flat_map-append name_octet (encode_utf8 c) (encode_utf8_all cs)))
      (readable_append (shown_name (encode_utf8 c)) (shown_name (encode_utf8_all cs)) (readable_character c p.0 q.0) (each cs p.1 q.1))

-- ---- whatever is printed

-- the text is made of remarks
abbrev pub IsPrinted : List ℕ → List ℕ → Type 0
IsPrinted name text = (remarks : List (List ℕ)) × (text ≡ printed name remarks)

pub whole : (name text : List ℕ) → IsPrinted name text → have_no_controls text ≡ true
whole name text (remarks, e) = subst (Passes is_no_control) (sym e) (each remarks) where
  each : (remarks : List (List ℕ)) → Passes is_no_control (printed name remarks)
  each [] = refl
  each (r ∷ rs) =
      let own = shown Line (pieces r) in
      pass_append is_no_control (shown_name name ++ own) (printed name rs)
      (pass_append is_no_control (shown_name name) own (name_without_controls name) (without_controls own (readable_text r))) (each rs)

pub readable : (name text : List ℕ) → IsAsciiOrVisible name → IsPrinted name text → IsReadable text
readable name text visible (remarks, e) = subst IsReadable (sym e) (each remarks) where
  each : (remarks : List (List ℕ)) → IsReadable (printed name remarks)
  each [] = readable_none
  each (r ∷ rs) =
      let own = shown Line (pieces r) in
      readable_append (shown_name name ++ own) (printed name rs) (readable_append (shown_name name) own (readable_name name visible) (readable_text r)) (each rs)

fault_printed : (name script : List ℕ) (refusal : Refusal) (text : List ℕ) → TellsFault name script refusal text → IsPrinted name text
fault_printed name script (refused.Lexical place) text e = (told script place (lexical_blanks (drop place script)), e)
fault_printed name script refused.ScriptTooLong text e = (told script max_script too_long_blanks, e)
fault_printed name script (refused.Syntax number) text (tokens, are, e) = (syntax_told script number tokens, e)
fault_printed name script (refused.TooDeep number) text (tokens, are, e) = (depth_told script number tokens, e)
fault_printed name script (refused.UnknownCommand number) text (commands, parsed, (tokens, are, e)) = (reasons_told script commands tokens, e)
fault_printed name script (refused.MissingCapability number) text (commands, parsed, (tokens, are, e)) = (reasons_told script commands tokens, e)
fault_printed name script (refused.UnknownCapability number) text (commands, parsed, (tokens, are, e)) = (reasons_told script commands tokens, e)
fault_printed name script (refused.BadArguments number) text (commands, parsed, (tokens, are, e)) = (reasons_told script commands tokens, e)
fault_printed name script (refused.Limit number) text (commands, parsed, (tokens, are, e)) = (reasons_told script commands tokens, e)
fault_printed name script _ text e = absurd e

pub explanation_printed : (name script : List ℕ) (refusal : Refusal) (text : List ℕ) → Explains name script refusal text → IsPrinted name text
explanation_printed name script refusal text it =
    let (remarks, e) = fault_printed name script refusal it.fault it.tells in
    let look = look_told (look_text script) in
    (remarks ++ look, it.whole ∙ ap (λ (t : List ℕ). t ++ printed name look) e ∙ sym (flat_map-append (printed_one name) remarks look))

pub listing_printed : (name listing : List ℕ) (place : ℕ) (kind : FaultKind) → IsPrinted name (listing_told name listing place kind)
listing_printed name listing place kind = (told listing place (listing_blanks kind (drop place listing)), refl)
