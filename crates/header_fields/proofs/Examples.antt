-- The headers of small texts, by computation.
use Rattle.std.proofs.Common.{◌≡◌, ℕ, List, [], ◌∷◌, ◌++◌, false, true, refl, codes}
use Rattle.header_fields.specs.Fields.{Field}
use Rattle.header_fields.specs.Header.{Header, header_of}
use Rattle.header_fields.specs.Extent.{field_lines_of}

abbrev field : List ℕ → List ℕ → Field
field name value = record { name = name; value = value; folded = false }

abbrev folded : List ℕ → List ℕ → Field
folded name value = record { name = name; value = value; folded = true }

abbrev header : List Field → ℕ → Header
header fields body_start = record { fields = fields; body_start = body_start }

abbrev lf : List ℕ
lf = 10 ∷ []

abbrev crlf : List ℕ
crlf = 13 ∷ 10 ∷ []

abbrev tab : List ℕ
tab = 9 ∷ []

no_octets : header_of [] ≡ header [] 0
no_octets = refl

two_fields : header_of (codes "X :" ++ lf ++ codes "S: a" ++ crlf ++ crlf ++ codes "B: b") ≡ header (field (codes "X") [] ∷ field (codes "S") (codes "a") ∷ []) 12
two_fields = refl

no_empty_line : header_of (codes "S: a" ++ lf) ≡ header (field (codes "S") (codes "a") ∷ []) 5
no_empty_line = refl

trimmed_after_joining : header_of (codes "X: a" ++ lf ++ codes " " ++ lf ++ codes " b ") ≡ header (folded (codes "X") (codes "a  b") ∷ []) 10
trimmed_after_joining = refl

lone_cr_stays : header_of (codes "X:" ++ tab ++ 13 ∷ []) ≡ header (field (codes "X") (13 ∷ []) ∷ []) 4
lone_cr_stays = refl

skipped_with_continuation : header_of (codes " a" ++ lf ++ codes "S: 1" ++ lf ++ codes "b c:" ++ lf ++ codes " 2" ++ lf) ≡ header (field (codes "S") (codes "1") ∷ []) 16
skipped_with_continuation = refl

lines_of_fields : field_lines_of (codes "a" ++ lf ++ codes "S: 1" ++ crlf ++ codes " 2" ++ lf ++ codes "T:" ++ lf ++ lf)
    ≡ record { start = 2; stop = 11 } ∷ record { start = 11; stop = 14 } ∷ []
lines_of_fields = refl
