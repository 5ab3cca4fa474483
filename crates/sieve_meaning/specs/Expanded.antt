-- Private: how the code's expanded strings stand for texts.
use Rattle.std.specs.Prelude.{ℕ, Bool, true, false, List, [], ◌∷◌, map, take}
use Rattle.std.specs.Global.{Vec}
use Rattle.octets.specs.Limits.{max_string}
use Rattle.sieve_check.specs.declared.typed.Segment.{Segment}
use Rattle.sieve_check.specs.declared.typed.Segment.TheVariants.{Text}
use Rattle.sieve_check.specs.Typed.{Template}
use Rattle.sieve_meaning.specs.declared.expanded_list.ExpandedText.{ExpandedText}
use Rattle.sieve_meaning.specs.declared.expanded_list.ExpandedText.TheVariants.{Lent, Made}
use Rattle.sieve_meaning.specs.declared.expanded_list.ExpandedList.{ExpandedList}
use Rattle.sieve_meaning.specs.declared.expanded_list.ExpandedList.TheVariants.{Written, Expanded}

-- the octets of a string
abbrev pub octets_of : ExpandedText → List ℕ
octets_of (Lent octets) = octets.now
octets_of (Made octets) = octets

-- whether a string is text as it stands, without references, and in one piece
abbrev pub is_written : Template → Bool
is_written [] = true
is_written (Text octets ∷ []) = true
is_written _ = false

-- the text of a string that is one piece of text, cut; of any other none
abbrev pub written : Template → List ℕ
written (Text octets ∷ []) = take max_string octets
written _ = []

-- the octets of each string of a list
abbrev pub items_of : ExpandedList → List (List ℕ)
items_of (Written strings) = map (λ (string : Vec Segment). written string.items) strings.now
items_of (Expanded texts) = map octets_of texts.items
