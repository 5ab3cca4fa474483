-- The first value and key that match, and the captures after them.
use Rattle.std.proofs.Common.{◌≡◌, ℕ, suc, ◌≤◌, Bool, true, false, List, [], ◌∷◌, ◌++◌, length, Option, None, Some, is_some, option_map, refl, sym, ◌∙◌, ap, arith, inl, inr, if◌then◌else◌}
use Rattle.std.specs.Option.{option_and_then, option_or}
use Rattle.std.proofs.lemmas.Bool.{cases_Bool}
use Rattle.glob_match.specs.Comparison.{is_match}
use Rattle.glob_match.specs.Containment.{contains_match}
use Rattle.glob_match.specs.Matching.{match_of}
use Rattle.glob_match.specs.declared.comparator.Comparator.{Comparator}
use Rattle.glob_match.specs.declared.match_type.Match.{Match}
use Rattle.glob_match.specs.declared.match_type.MatchType.{MatchType}
use Rattle.glob_match.specs.declared.match_type.MatchType.TheVariants.{Is, Contains, Matches}
use Rattle.mail_matching.specs.Costs.{extent_of}
use Rattle.mail_matching.specs.Findings.{Pair, after_pair, finding_from, finding_of, first_pair, is_matched_by, is_pair, key_of, pair}
use Rattle.mail_matching.specs.FirstMatch.{after_comparison, after_match, first_key, first_match, ten_of}
use Rattle.mail_matching.proofs.Extents.{extent-append, extent_one}
use Rattle.mail_matching.specs.Private.{IsCounted, further}
use Rattle.mail_matching.specs.declared.finding.Finding.{Finding}
use Rattle.mail_matching.specs.declared.finding.Finding.TheVariants.{Pair as Matched, NoneOf}

-- ---- a value and a key

some_if : (b : Bool) (captures : List (List ℕ)) → is_some (if b then Some captures else None) ≡ b
some_if true captures = refl
some_if false captures = refl

some_map : {A B : Type 0} (f : A → B) (o : Option A) → is_some (option_map f o) ≡ is_some o
some_map f None = refl
some_map f (Some x) = refl

one_matches : (kind : MatchType) (comparator : Comparator) (value key : List ℕ) (captures : List (List ℕ)) → is_some (after_comparison kind comparator value key captures) ≡ is_matched_by kind comparator value key
one_matches Is comparator value key captures = some_if (is_match comparator value key) captures
one_matches Contains comparator value key captures = some_if (contains_match comparator value key) captures
one_matches Matches comparator value key captures = some_map ten_of (match_of comparator value key)

-- ---- a value and keys

-- the captures after the key that it matches
abbrev after_key : Match → List ℕ → List (List ℕ) → Option (List ℕ) → Option (List (List ℕ))
after_key how value captures found = option_and_then (λ key. after_match how value key captures) found

or_first : {A : Type 0} (a b : Option A) → is_some a ≡ true → option_or a b ≡ a
or_first None b holds = absurd (cc)
or_first (Some x) b holds = refl

or_second : {A : Type 0} (a b : Option A) → is_some a ≡ false → option_or a b ≡ b
or_second None b fails = refl
or_second (Some x) b fails = absurd (cc)

pub key_captures : (how : Match) (value : List ℕ) (keys captures : List (List ℕ)) → first_key how value keys captures ≡ after_key how value captures (key_of how value keys)
key_captures how value [] captures = refl
key_captures how value (key ∷ keys) captures =
    let one = one_matches how.kind how.comparator value key captures in
    elim (cases_Bool (is_matched_by how.kind how.comparator value key)) [
      | inl fits ↦ rw fits (or_first (after_match how value key captures) (first_key how value keys captures) (one ∙ fits))
      | inr differs ↦ rw differs (or_second (after_match how value key captures) (first_key how value keys captures) (one ∙ differs) ∙ key_captures how value keys captures)
    ]

or_some : {A B : Type 0} (a b : Option A) (c d : Option B) → is_some a ≡ is_some c → is_some b ≡ is_some d → is_some (option_or a b) ≡ is_some (option_or c d)
or_some None b None d first second = second
or_some None b (Some y) d first second = absurd (cc)
or_some (Some x) b None d first second = absurd (cc)
or_some (Some x) b (Some y) d first second = refl

pub key_found : (how : Match) (value : List ℕ) (keys captures : List (List ℕ)) → is_some (first_key how value keys captures) ≡ is_some (key_of how value keys)
key_found how value [] captures = refl
key_found how value (key ∷ keys) captures =
    let one = one_matches how.kind how.comparator value key captures in
    elim (cases_Bool (is_matched_by how.kind how.comparator value key)) [
      | inl fits ↦ rw fits (ap is_some (or_first (after_match how value key captures) (first_key how value keys captures) (one ∙ fits)) ∙ one ∙ fits)
      | inr differs ↦ rw differs (ap is_some (or_second (after_match how value key captures) (first_key how value keys captures) (one ∙ differs)) ∙ key_found how value keys captures)
    ]

-- ---- values and keys

pub holds_where_found : (how : Match) (values keys captures : List (List ℕ)) → is_some (first_match how values keys captures) ≡ is_some (first_pair how values keys)
holds_where_found how [] keys captures = refl
holds_where_found how (value ∷ values) keys captures =
    or_some (first_key how value keys captures) (first_match how values keys captures) (option_map (pair value) (key_of how value keys)) (first_pair how values keys)
    (key_found how value keys captures ∙ sym (some_map (pair value) (key_of how value keys)))
    (holds_where_found how values keys captures)

-- of a value and of the values after it
after_either : (how : Match) (value : List ℕ) (captures : List (List ℕ)) (key : Option (List ℕ)) (rest : Option Pair) (a b : Option (List (List ℕ))) → is_some a ≡ is_some key → a ≡ after_key how value captures key → b ≡ after_pair how captures rest
    → option_or a b ≡ after_pair how captures (option_or (option_map (pair value) key) rest)
after_either how value captures None rest None b same first second = second
after_either how value captures None rest (Some x) b same first second = absurd (cc)
after_either how value captures (Some key) rest None b same first second = absurd (cc)
after_either how value captures (Some key) rest (Some x) b same first second = first

pub captures_after : (how : Match) (values keys captures : List (List ℕ)) → first_match how values keys captures ≡ after_pair how captures (first_pair how values keys)
captures_after how [] keys captures = refl
captures_after how (value ∷ values) keys captures =
    after_either how value captures (key_of how value keys) (first_pair how values keys) (first_key how value keys captures) (first_match how values keys captures)
    (key_found how value keys captures) (key_captures how value keys captures) (captures_after how values keys captures)

-- ---- findings

pub from_pair : (number : ℕ) (found : Option Pair) → is_pair (finding_from number found) ≡ is_some found
from_pair number None = refl
from_pair number (Some p) = refl

pub finding_holds : (how : Match) (values keys captures : List (List ℕ)) → is_pair (finding_of how values keys) ≡ is_some (first_match how values keys captures)
finding_holds how values keys captures = from_pair (length values) (first_pair how values keys) ∙ sym (holds_where_found how values keys captures)

-- one more value than those of the rest
one_more : (number : ℕ) (value : List ℕ) (key : Option (List ℕ)) (rest : Option Pair)
    → finding_from (suc number) (option_or (option_map (pair value) key) rest) ≡ further (finding_from 1 (option_or (option_map (pair value) key) None)) (finding_from number rest)
one_more number value None None = ap NoneOf (omega arith)
one_more number value None (Some p) = refl
one_more number value (Some key) rest = refl

pub finding_first : (how : Match) (value : List ℕ) (values keys : List (List ℕ)) → finding_of how (value ∷ values) keys ≡ further (finding_of how (value ∷ []) keys) (finding_of how values keys)
finding_first how value values keys = one_more (length values) value (key_of how value keys) (first_pair how values keys)

pub further_assoc : (a b c : Finding) → further (further a b) c ≡ further a (further b c)
further_assoc (Matched value key) b c = refl
further_assoc (NoneOf n) (Matched value key) c = refl
further_assoc (NoneOf n) (NoneOf m) (Matched value key) = refl
further_assoc (NoneOf n) (NoneOf m) (NoneOf k) = ap NoneOf (omega arith)

pub further_none : (finding : Finding) → further finding (NoneOf 0) ≡ finding
further_none (Matched value key) = refl
further_none (NoneOf n) = ap NoneOf (omega arith)

pub none_further : (finding : Finding) → further (NoneOf 0) finding ≡ finding
none_further (Matched value key) = refl
none_further (NoneOf n) = ap NoneOf (omega arith)

pub finding-append : (how : Match) (values more keys : List (List ℕ)) → finding_of how (values ++ more) keys ≡ further (finding_of how values keys) (finding_of how more keys)
finding-append how [] more keys = sym (none_further (finding_of how more keys))
finding-append how (value ∷ values) more keys =
    finding_first how value (values ++ more) keys
    ∙ ap (further (finding_of how (value ∷ []) keys)) (finding-append how values more keys)
    ∙ sym (further_assoc (finding_of how (value ∷ []) keys) (finding_of how values keys) (finding_of how more keys))
    ∙ ap (λ f. further f (finding_of how more keys)) (sym (finding_first how value values keys))

-- ---- what is kept of them

pub begins : (most : ℕ) → IsCounted most (NoneOf 0) (record { most = most; finding = NoneOf 0 })
begins most = record { limit = refl; kept = ap NoneOf (omega arith) }

-- a value is more than nothing
pub values_few : (values : List (List ℕ)) → length values ≤ extent_of values
values_few [] = omega arith
values_few (value ∷ values) =
    omega (arith, values_few values, extent_one value, extent-append (value ∷ []) values)
