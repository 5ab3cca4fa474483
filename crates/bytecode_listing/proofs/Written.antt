-- Fields, operations, strings and lines, read as they were written.
use Rattle.std.proofs.Common.{◌≡◌, ℕ, ◌/◌, ◌%◌, ◌<◌, ◌≤◌, ◌==◌, ◌&&◌, Bool, true, false, if◌then◌else◌, List, [], ◌∷◌, ◌++◌, length, Option, Some, None, Result, Ok, Err, refl, sym, ap, subst, ◌∙◌, append_assoc, append-nil, arith, eqb-true, le-leb, codes}
use Rattle.std.specs.Prelude.{not, bytes_eq}
use Rattle.std.specs.List.{flat_map, list_all, AllByRecursion}
use Rattle.std.specs.Fmt.{digit_glyph}
use Rattle.std.specs.Option.{option_map}
use Rattle.std.proofs.lemmas.Bool.{and_parts, agree_below_at}
use Rattle.std.proofs.lemmas.Bool.Decides.{nat_tests}
use Rattle.bytecode_format.specs.Operations.{name_of, operation_of}
use Rattle.bytecode_format.specs.declared.operation.Operation.{Operation}
use Rattle.bytecode_listing.specs.Names.{named_among, octet_named}
use Rattle.bytecode_listing.specs.Listing.{title, operation_text}
use Rattle.readable_text.specs.Quoted.{escaped_octet, is_plain, quoted, two_digits}
use Rattle.bytecode_listing.specs.Tokens.{InText, is_word_octet, tokens_from, tokens_of}
use Rattle.bytecode_listing.specs.Labels.{◌>>=◌}
use Rattle.bytecode_listing.specs.Items.{Tokens, word_at, text_at, left_at, octet_in, octet_at, found, operation_at}
use Rattle.octets.specs.Escapes.{escape_at}
use Rattle.octets.proofs.Digits.{both_digits}
use Rattle.bytecode_listing.proofs.Lexing.{quote_first, said_goes_on, text_ends}
use Rattle.bytecode_listing.proofs.Words.{Stops, IsWord, word_reads, word_then}

-- a reading that goes on after a first one
pub read_on : {A B : Type 0} (r : Result A ℕ) (x : A) (f : A → Result B ℕ) (y : Result B ℕ) → r ≡ Ok x → f x ≡ y → (r >>= f) ≡ y
read_on r x f y e k = ap (λ r. r >>= f) e ∙ k

-- ---- two hexadecimal digits

is_word_glyph : ℕ → Bool
is_word_glyph d = is_word_octet (digit_glyph false d)

word_glyph : (d : ℕ) → d < 16 → is_word_octet (digit_glyph false d) ≡ true
unfolding is_word_glyph
word_glyph d h = agree_below_at is_word_glyph (λ _. true) 16 d refl h

digits_word : (octet : ℕ) → octet < 256 → IsWord (two_digits octet)
digits_word octet h =
    let high = word_glyph (octet / 16) (omega arith) in
    let low = word_glyph (octet % 16) (omega arith) in
    record { some = omega arith; octets = ap (λ b. b && (is_word_octet (digit_glyph false (octet % 16)) && true)) high ∙ ap (λ b. b && true) low }

-- ---- operations

is_found : ℕ → Option ℕ → Bool
is_found octet None = false
is_found octet (Some found) = found == octet

reads_back : ℕ → Option Operation → Bool
reads_back octet None = true
reads_back octet (Some operation) =
    (not (length (name_of operation) == 0) && list_all is_word_octet (name_of operation))
    && (not (bytes_eq (name_of operation) (codes "OP")) && is_found octet (octet_named (name_of operation)))

record IsNamed (octet : ℕ) (operation : Operation) : Type 0 where
  word : IsWord (name_of operation)
  other : bytes_eq (name_of operation) (codes "OP") ≡ false
  found : octet_named (name_of operation) ≡ Some octet

named : (octet : ℕ) (operation : Operation) → octet < 256 → operation_of octet ≡ Some operation → IsNamed octet operation
unfolding reads_back is_found named_among
named octet operation h e =
    let reads : reads_back octet (operation_of octet) ≡ true = agree_below_at (λ o. reads_back o (operation_of o)) (λ _. true) 256 octet refl h in
    let here : reads_back octet (Some operation) ≡ true = subst (λ o. reads_back octet o ≡ true) e reads in
    let outer = and_parts (not (length (name_of operation) == 0) && list_all is_word_octet (name_of operation)) (not (bytes_eq (name_of operation) (codes "OP")) && is_found octet (octet_named (name_of operation))) here in
    let first = and_parts (not (length (name_of operation) == 0)) (list_all is_word_octet (name_of operation)) outer.0 in
    let second = and_parts (not (bytes_eq (name_of operation) (codes "OP"))) (is_found octet (octet_named (name_of operation))) outer.1 in
    record { word = record { some = some (length (name_of operation)) first.0; octets = first.1 }; other = no (bytes_eq (name_of operation) (codes "OP")) second.0; found = is (octet_named (name_of operation)) second.1 }
  where
    some : (n : ℕ) → not (n == 0) ≡ true → 0 < n
    some n h = grind (arith, nat_tests)

    no : (b : Bool) → not b ≡ true → b ≡ false
    no true h = absurd cc
    no false h = refl

    is : (o : Option ℕ) → is_found octet o ≡ true → o ≡ Some octet
    is None h = absurd cc
    is (Some n) h = ap (λ n. Some n) (eqb-true n octet h)

pub operation_reads : (octet : ℕ) (rest : List ℕ) → octet < 256 → Stops rest → operation_at (tokens_of (operation_text octet ++ rest)) ≡ Ok (octet, tokens_of rest)
unfolding operation_at octet_at
operation_reads octet rest h s = by_operation (operation_of octet) refl
  where
    by_operation : (o : Option Operation) → operation_of octet ≡ o → operation_at (tokens_of (title octet o ++ rest)) ≡ Ok (octet, tokens_of rest)
    by_operation None e =
        let digits : List ℕ = two_digits octet ++ rest in
        read_on (word_at (tokens_of (codes "OP" ++ 32 ∷ digits))) (codes "OP", tokens_of digits) (λ read. if bytes_eq read.0 (codes "OP") then octet_at read.1 else found (octet_named read.0) (left_at (tokens_of (codes "OP" ++ 32 ∷ digits))) read.1) (Ok (octet, tokens_of rest))
        (word_then (codes "OP") 32 digits (record { some = omega arith; octets = refl }) refl refl)
        (read_on (word_at (tokens_of digits)) (two_digits octet, tokens_of rest) (λ read. found (octet_in read.0) (left_at (tokens_of digits)) read.1) (Ok (octet, tokens_of rest))
        (word_reads (two_digits octet) rest (digits_word octet h) s)
        (ap (λ (o : Option ℕ). found o (left_at (tokens_of digits)) (tokens_of rest)) (both_digits octet h)))
    by_operation (Some operation) e =
        let is = named octet operation h e in
        let text : Tokens = tokens_of (name_of operation ++ rest) in
        read_on (word_at text) (name_of operation, tokens_of rest) (λ read. if bytes_eq read.0 (codes "OP") then octet_at read.1 else found (octet_named read.0) (left_at text) read.1) (Ok (octet, tokens_of rest))
        (word_reads (name_of operation) rest is.word s)
        (ap (λ b. if b then octet_at (tokens_of rest) else found (octet_named (name_of operation)) (left_at text) (tokens_of rest)) is.other
        ∙ ap (λ (o : Option ℕ). found o (left_at text) (tokens_of rest)) is.found)

-- ---- strings

plain_is : (octet : ℕ) → is_plain octet ≡ true → ((octet == 34) ≡ false) × ((octet == 92) ≡ false)
plain_is octet h = (grind (arith, nat_tests), grind (arith, nat_tests))

octet_said : (start : ℕ) (said rest : List ℕ) (octet : ℕ) → octet < 256 → tokens_from (InText start said) (escaped_octet octet ++ rest) ≡ tokens_from (InText start (said ++ octet ∷ [])) rest
octet_said start said rest octet h = by_class (is_plain octet) refl
  where
    by_class : (b : Bool) → is_plain octet ≡ b → tokens_from (InText start said) ((if b then octet ∷ [] else 92 ∷ two_digits octet) ++ rest) ≡ tokens_from (InText start (said ++ octet ∷ [])) rest
    by_class true e =
        let plain = plain_is octet e in
        said_goes_on start said (octet ∷ rest) rest octet octet rest refl plain.0 (ap (λ b. if b then escape_at rest else Some (octet, rest)) plain.1)
    by_class false e =
        let digits : List ℕ = two_digits octet ++ rest in
        said_goes_on start said (92 ∷ digits) digits 92 octet rest refl refl (ap (option_map (λ o. let p : ℕ × List ℕ = (o, rest) in p)) (both_digits octet h))

octets_said : (start : ℕ) (said octets rest : List ℕ) → AllByRecursion (λ octet. octet < 256) octets → tokens_from (InText start said) (flat_map escaped_octet octets ++ rest) ≡ tokens_from (InText start (said ++ octets)) rest
octets_said start said [] rest h = ap (λ (t : List ℕ). tokens_from (InText start t) rest) (sym (append-nil said))
octets_said start said (octet ∷ octets) rest h =
    let more : List ℕ = flat_map escaped_octet octets ++ rest in
    ap (tokens_from (InText start said)) (append_assoc (escaped_octet octet) (flat_map escaped_octet octets) rest)
    ∙ octet_said start said more octet h.0
    ∙ octets_said start (said ++ octet ∷ []) octets rest h.1
    ∙ ap (λ (t : List ℕ). tokens_from (InText start t) rest) (append_assoc said (octet ∷ []) octets)

pub text_reads : (octets rest : List ℕ) → AllByRecursion (λ octet. octet < 256) octets → length octets ≤ 16384 → text_at (tokens_of (quoted octets ++ rest)) ≡ Ok (octets, tokens_of rest)
text_reads octets rest h short =
    let inner : List ℕ = (flat_map escaped_octet octets ++ 34 ∷ []) ++ rest in
    let start : ℕ = length (34 ∷ inner) in
    ap text_at (quote_first inner)
    ∙ ap (λ (t : List ℕ). text_at (tokens_from (InText start []) t)) (append_assoc (flat_map escaped_octet octets) (34 ∷ []) rest)
    ∙ ap text_at (octets_said start [] octets (34 ∷ rest) h)
    ∙ text_ends start octets rest
    ∙ ap (λ b. let r : Result (List ℕ × Tokens) ℕ = if b then Ok (octets, tokens_of rest) else Err start in r) (le-leb (length octets) 16384 short)
