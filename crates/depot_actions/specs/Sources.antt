-- Private: where the contents of actions come from.
use Rattle.std.specs.Prelude.{◌≡◌, ℕ, ◌<◌, ◌≤◌, List, Option, None, Some, IfSome, length, slice_index_or}
use Rattle.bytecode_format.specs.declared.action.Action.{Action}
use Rattle.bytecode_format.specs.declared.action.Action.TheVariants.{Keep, File, Store}

-- a part by its number, and after all parts the message
abbrev pub source_of : ℕ → Action → ℕ
source_of parts Keep = parts
source_of parts (File folder) = parts
source_of parts (Store folder part) = part

-- what is known of a source is a place before this one that has it
abbrev pub AreFirsts : List ℕ → ℕ → List (Option ℕ) → Type 0
AreFirsts sources place firsts =
    (source : ℕ) → IfSome (slice_index_or firsts source None) (λ first. (first < place) × (slice_index_or sources first 0 ≡ source))

-- each place names one that has its source
abbrev pub HaveFirsts : List ℕ → List ℕ → Type 0
HaveFirsts sources firsts =
    (place : ℕ) → place < length firsts → slice_index_or sources (slice_index_or firsts place 0) 0 ≡ slice_index_or sources place 0

-- the source of each place before this one is known, at that place or one before it
abbrev pub AreEarliest : List ℕ → ℕ → List (Option ℕ) → Type 0
AreEarliest sources place firsts =
    (earlier : ℕ) → earlier < place
    → (first : ℕ) × (slice_index_or firsts (slice_index_or sources earlier 0) None ≡ Some first) × (first ≤ earlier)

-- each place names none after the first one that has its source
abbrev pub NameEarliest : List ℕ → List ℕ → Type 0
NameEarliest sources firsts =
    (earlier place : ℕ) → earlier < place → place < length firsts → slice_index_or sources earlier 0 ≡ slice_index_or sources place 0
    → slice_index_or firsts place 0 ≤ earlier
