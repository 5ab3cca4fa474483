-- Strings as they are expanded.
use Rattle.std.proofs.Common.{◌≡◌, ℕ, ◌+◌, ◌-◌, ◌<◌, ◌≤◌, All, true, refl, sym, ap, ◌∙◌, arith, List, [], ◌∷◌, ◌++◌, map, take, length, min, get_or, inl, inr, bytes_eq, if◌then◌else◌}
use Rattle.std.specs.Global.{Vec}
use Rattle.std.specs.List.{flat_map, list_all}
use Rattle.std.proofs.lemmas.Bool.{and_parts, cases_lt}
use Rattle.std.proofs.lemmas.Grind.{flat_map-append}
use Rattle.std.proofs.lemmas.List.Elements.{All-nil, All-cons}
use Rattle.std.proofs.lemmas.List.{append-nil, length-take, map-append, take-append-le, take-take, take_all, take_more}
use Rattle.std.proofs.Math.Seq.{take-append-add}
use Rattle.octets.specs.Limits.{max_string}
use Rattle.sieve_check.specs.declared.typed.Segment.{Segment}
use Rattle.sieve_check.specs.declared.typed.Segment.TheVariants.{Text, Variable, Capture}
use Rattle.sieve_check.specs.Typed.{Template}
use Rattle.sieve_check.specs.TypedView.{templates_of}
use Rattle.sieve_meaning.specs.Expanded.{is_written, written}
use Rattle.sieve_meaning.specs.Meaning.{Effects, all_expanded, expanded, value_of, with_value}

taken_up_to : (xs : List ℕ) (n : ℕ) → take (min (length xs) n) xs ≡ take n xs
taken_up_to xs n = elim (cases_lt (length xs) n) [
  | inl lt ↦ ap (λ m. take m xs) (omega arith) ∙ take_all (length xs) xs (omega arith) ∙ sym (take_all n xs (omega arith))
  | inr le ↦ ap (λ m. take m xs) (omega arith)
]

-- a text with as much of another as there is room for
pub appended : (most : ℕ) (xs ys : List ℕ) (n : ℕ) → length xs ≤ most → n ≡ min (length ys) (most - length xs) → xs ++ take n ys ≡ take most (xs ++ ys)
appended most xs ys n le is =
    ap (λ m. xs ++ take m ys) is ∙ ap (λ zs. xs ++ zs) (taken_up_to ys (most - length xs))
    ∙ sym (take-append-add xs ys (most - length xs)) ∙ ap (λ m. take m (xs ++ ys)) (omega arith)

-- a text that is cut before another is put after it
pub cut_twice : (most : ℕ) (xs ys : List ℕ) → take most (take most xs ++ ys) ≡ take most (xs ++ ys)
cut_twice most xs ys = elim (cases_lt (length xs) most) [
  | inl lt ↦ ap (λ zs. take most (zs ++ ys)) (take_all most xs (omega arith))
  | inr le ↦ take-append-le most (take most xs) ys (omega (arith, length-take most xs)) ∙ take-take most most xs (omega arith) ∙ ap (λ n. take n xs) (omega arith) ∙ sym (take-append-le most xs ys le)
]

-- one more segment
pub one_more_segment : (e : Effects) (segments : List Segment) (i : ℕ) (segment : Segment) → i < length segments → segment ≡ get_or segments i segment
    → take max_string (expanded e (take i segments) ++ value_of e segment) ≡ expanded e (take (i + 1) segments)
one_more_segment e segments i segment lt is =
    cut_twice max_string (flat_map (value_of e) (take i segments)) (value_of e segment)
    ∙ ap (take max_string) (
    ap (λ v. flat_map (value_of e) (take i segments) ++ v) (sym (append-nil (value_of e segment)))
    ∙ sym (flat_map-append (value_of e) (take i segments) (segment ∷ []))
    ∙ ap (λ s. flat_map (value_of e) (take i segments ++ s ∷ [])) is
    ∙ ap (flat_map (value_of e)) (sym (take_more segments i segment lt)))

-- one more string
pub one_more_string : (e : Effects) (strings : List (Vec Segment)) (i : ℕ) (string : Vec Segment) → i < length strings → string ≡ get_or strings i string
    → all_expanded e (templates_of (take i strings)) ++ expanded e string.items ∷ [] ≡ all_expanded e (templates_of (take (i + 1) strings))
one_more_string e strings i string lt is =
    sym (ap (λ ss. all_expanded e (templates_of ss)) (take_more strings i string lt ∙ ap (λ s. take i strings ++ s ∷ []) (sym is))
    ∙ ap (all_expanded e) (map-append (λ (s : Vec Segment). s.items) (take i strings) (string ∷ []))
    ∙ map-append (expanded e) (templates_of (take i strings)) (string.items ∷ []))

-- the values of variables with a new one, where they were the same before
pub same_values : (name v w : List ℕ) (f g : List ℕ → List ℕ) → v ≡ w → ((other : List ℕ) → f other ≡ g other) → (other : List ℕ) → with_value name v f other ≡ with_value name w g other
same_values name v w f g same each other = ap (λ x. with_value name x f other) same ∙ ap (λ x. if bytes_eq name other then w else x) (each other)

-- ---- strings without references

-- a single segment
pub one_segment : (e : Effects) (segment : Segment) → take max_string (value_of e segment) ≡ expanded e (segment ∷ [])
one_segment e segment = ap (take max_string) (sym (append-nil (value_of e segment)))

-- the string of it
pub only_segment : (string : List Segment) (segment : Segment) → length string ≡ 1 → segment ≡ get_or string 0 segment → segment ∷ [] ≡ string
only_segment [] segment one is = absurd (omega (arith, one))
only_segment (x ∷ []) segment one is = ap (λ s. s ∷ []) is
only_segment (x ∷ y ∷ ys) segment one is = absurd (omega (arith, one))

string_as_written : (e : Effects) (string : Template) → is_written string ≡ true → written string ≡ expanded e string
string_as_written e [] h = refl
string_as_written e (Text octets ∷ []) h = one_segment e (Text octets)
string_as_written e (Variable name ∷ []) h = absurd (cc)
string_as_written e (Capture n ∷ []) h = absurd (cc)
string_as_written e (Text octets ∷ s ∷ ss) h = absurd (cc)
string_as_written e (Variable name ∷ s ∷ ss) h = absurd (cc)
string_as_written e (Capture n ∷ s ∷ ss) h = absurd (cc)

-- what such strings are doesn't depend on what was done
pub as_written : (e : Effects) (strings : List (Vec Segment)) → list_all (λ (s : Vec Segment). is_written s.items) strings ≡ true
    → map (λ (s : Vec Segment). written s.items) strings ≡ all_expanded e (templates_of strings)
as_written e [] h = refl
as_written e (s ∷ ss) h =
    let both = and_parts (is_written s.items) (list_all (λ (t : Vec Segment). is_written t.items) ss) h in
    ap (λ t. t ∷ map (λ (u : Vec Segment). written u.items) ss) (string_as_written e s.items both.0) ∙ ap (λ ts. expanded e s.items ∷ ts) (as_written e ss both.1)

abbrev pub IsShort : List ℕ → Type 0
IsShort text = length text ≤ max_string

pub cut_short : (text : List ℕ) → IsShort (take max_string text)
cut_short text = omega (arith, length-take max_string text)

string_short : (string : Template) → IsShort (written string)
string_short [] = omega arith
string_short (Text octets ∷ []) = cut_short octets
string_short (Variable name ∷ []) = omega arith
string_short (Capture n ∷ []) = omega arith
string_short (Text octets ∷ s ∷ ss) = omega arith
string_short (Variable name ∷ s ∷ ss) = omega arith
string_short (Capture n ∷ s ∷ ss) = omega arith

pub written_short : (strings : List (Vec Segment)) → All IsShort (map (λ (s : Vec Segment). written s.items) strings)
written_short [] = All-nil IsShort
written_short (s ∷ ss) = All-cons IsShort (written s.items) (map (λ (t : Vec Segment). written t.items) ss) (string_short s.items) (written_short ss)
