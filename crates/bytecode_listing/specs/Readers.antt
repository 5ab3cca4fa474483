-- Private: how the readers go.
use Rattle.std.specs.Prelude.{◌≡◌, ℕ, ◌+◌, ◌-◌, ◌*◌, ◌^◌, ◌&&◌, nat_lt, if◌then◌else◌, false, List, [], ◌∷◌, length, Option, Some, None, Result, Ok, Err, ◌==◌}
use Rattle.std.specs.Char.{is_ascii_digit}
use Rattle.std.specs.Borrow.{Bor}
use Rattle.std.specs.Str.{all_ascii_digits}
use Rattle.bytecode_listing.specs.declared.error.ReadError.{ReadError}
use Rattle.bytecode_listing.specs.declared.error.ReadError.TheVariants.{Memory, At}
use Rattle.refusals.specs.declared.fault_kind.FaultKind.{FaultKind}
use Rattle.bytecode_listing.specs.declared.error.ListingError.{ListingError}
use Rattle.bytecode_listing.specs.declared.error.ListingError.TheVariants as listings
use Rattle.bytecode_listing.specs.declared.error.ListingError.TheVariants.{Fault}
use Rattle.bytecode_listing.specs.Tokens.{is_white, tokens_of}
use Rattle.bytecode_listing.specs.Items.{Tokens, Drafted, Fields, value_from}
use Rattle.bytecode_listing.specs.declared.assembling.Parts.{Parts}
use Rattle.bytecode_listing.specs.declared.items.Fields as items
use Rattle.bytecode_listing.specs.declared.drafts.Line.{Line}
use Rattle.bytecode_listing.specs.Labels.{place_of}
use Rattle.std.specs.BTreeMap.{BTreeMap, get_by}
use Rattle.std.specs.Ordering.{nat_cmp}
use Rattle.std.specs.Cmp.Lexicographic.{slice_cmp}

-- what a function returned, seen by view, is what reading gives, unless memory ran out
abbrev pub Fails : {Y : Type 0} → ReadError → Result Y ℕ → Type 0
Fails Memory read = Unit {0}
Fails (At left) read = read ≡ Err left

abbrev pub Gives : {X Y : Type 0} → (X → Y) → Result X ReadError → Result Y ℕ → Type 0
Gives view (Ok x) read = read ≡ Ok (view x)
Gives view (Err e) read = Fails e read

-- what was read, seen by view, and the tokens of the octets after it
abbrev pub with_rest : {X Y : Type 0} → (X → Y) → X × Bor (List ℕ) → Y × Tokens
with_rest view x = (view x.0, tokens_of x.1.now)

abbrev pub and_rest : {X : Type 0} → X × Bor (List ℕ) → X × Tokens
and_rest x = with_rest (λ y. y) x

-- the fields that have been given, and what a listing says, as the code has them
abbrev pub read_fields : items.Fields → Fields
read_fields given = record { a = given.a; b = given.b; c = given.c }

abbrev pub drafted : Parts → Drafted
drafted parts = record {
  version = parts.version;
  variables = parts.variables;
  numbers = parts.numbers.items;
  strings = parts.strings.items;
  lines = parts.lines.items;
}

-- the error of a listing of so many octets, whose fault is of that kind
abbrev pub fault_in : ℕ → FaultKind → ReadError → ListingError
fault_in whole kind Memory = listings.Memory
fault_in whole kind (At left) = Fault (whole - left) kind

-- a number and one more digit, where 64 bits hold it
abbrev pub one_more : ℕ → ℕ → Option ℕ
one_more value digit =
    if is_ascii_digit digit && nat_lt (10 * value + (digit - 48)) (2 ^ 64)
    then Some (10 * value + (digit - 48))
    else None

-- an octet that is neither blank nor begins a comment, or none
abbrev pub IsStart : List ℕ → Type 0
IsStart [] = Unit {0}
IsStart (octet ∷ rest) = (is_white octet ≡ false) × ((octet == 59) ≡ false)

-- the word that stands first, and the octets after it; no octet of a word, where none stands there
abbrev pub led : List ℕ → List ℕ → Result (List ℕ × Tokens) ℕ
led [] rest = Err (length rest)
led (octet ∷ octets) rest = Ok (octet ∷ octets, tokens_of rest)

-- the number that digits spell after those of n, where 64 bits hold it
abbrev pub decimal_on : ℕ → List ℕ → Option ℕ
decimal_on n digits =
    if all_ascii_digits digits && nat_lt (value_from n digits) (2 ^ 64)
    then Some (value_from n digits)
    else None

-- whether a map has the place of each name that labels among lines, and no more
abbrev pub IsPlaces : BTreeMap (Bor (List ℕ)) ℕ → List Line → Type 0
IsPlaces places lines =
    (name : List ℕ)
    → get_by (λ (key : Bor (List ℕ)). slice_cmp nat_cmp name key.now) places ≡ place_of lines name
