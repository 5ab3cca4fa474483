-- The entries of texts that are pushed, and that as many can be taken.
use Rattle.std.proofs.Common.{◌≡◌, ℕ, List, [], ◌∷◌, ◌++◌, Some, map, length, min, sum, refl, ap, ◌∙◌}
use Rattle.std.proofs.lemmas.List.{length-map, map-append}
use Rattle.bytecode_verifier.specs.Shape.{Entries, Texts, bound_in, take_texts}
use Rattle.bytecode_verifier.proofs.Again.{onto, on_top_again}
use Rattle.bytecode_verifier.specs.declared.shape.Entry.TheVariants.{Text}
use Rattle.octets.specs.Limits.{max_string, max_value}
use Rattle.sieve_check.specs.declared.typed.Segment.{Segment}
use Rattle.sieve_check.specs.declared.typed.Segment.TheVariants.{Text as Stretch, Variable, Capture}
use Rattle.sieve_check.specs.Typed.{Template, Strings, in_order}

-- the entries of texts that were pushed, the last one first, by their bounds
abbrev pub pushed : List ℕ → Entries → Entries
pushed bounds entries = onto Text bounds entries

-- texts after others
pub onto_append : {Entry Text : Type 0} (entry_of : Text → Entry) (xs ys : List Text) (stack : List Entry) → onto entry_of (xs ++ ys) stack ≡ onto entry_of ys (onto entry_of xs stack)
onto_append entry_of [] ys stack = refl
onto_append entry_of (x ∷ xs) ys stack = onto_append entry_of xs ys (entry_of x ∷ stack)

-- how long the value of a segment may be, and that of a string
abbrev pub segment_bound : Segment → ℕ
segment_bound (Stretch octets) = length octets
segment_bound (Variable name) = max_value
segment_bound (Capture n) = max_value

abbrev pub bound_of : Template → ℕ
bound_of [] = 0
bound_of (segment ∷ []) = segment_bound segment
bound_of (one ∷ other ∷ more) = min (sum (map segment_bound (one ∷ other ∷ more))) max_string

-- the entries of a question's strings, by their lists
abbrev pub lists_pushed : Strings → Entries
lists_pushed strings = pushed (map bound_of strings.keys) (pushed (map bound_of strings.params) (pushed (map bound_of strings.names) []))

pub lists_pushed_are : (strings : Strings) → pushed (map bound_of (in_order strings)) [] ≡ lists_pushed strings
lists_pushed_are strings =
    let two : List Template = strings.names ++ strings.params in
    ap (λ bounds. pushed bounds []) (map-append bound_of two strings.keys ∙ ap (λ bounds. bounds ++ map bound_of strings.keys) (map-append bound_of strings.names strings.params))
    ∙ onto_append Text (map bound_of strings.names ++ map bound_of strings.params) (map bound_of strings.keys) []
    ∙ ap (pushed (map bound_of strings.keys)) (onto_append Text (map bound_of strings.names) (map bound_of strings.params) [])

-- as many texts as were pushed can be taken
pub taken_back : {A : Type 0} (bound : A → ℕ) (xs : List A) (entries : Entries) → take_texts (length xs) (pushed (map bound xs) entries) ≡ Some (let t : Texts = record { texts = map bound xs; below = entries } in t)
taken_back bound xs entries = on_top_again bound_in Text (λ b. refl) (length xs) (map bound xs) entries (length-map xs bound)
