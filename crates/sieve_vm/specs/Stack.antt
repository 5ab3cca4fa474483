-- The texts that an instruction takes from the stack.
use Rattle.std.specs.Prelude.{ℕ, List, ◌∷◌, Option, Some, None, length}
use Rattle.bytecode_format.specs.declared.question.Counts.{Counts}
use Rattle.bytecode_verifier.specs.Taken as taken
use Rattle.mail_matching.specs.Questions.{Texts}
use Rattle.sieve_vm.specs.State.{Value, truth, text}

-- the octets of an entry that is a text
abbrev pub text_in : Value → Option (List ℕ)
text_in (truth b) = None
text_in (text octets) = Some octets

-- texts on top of the stack, and the entries below them
abbrev pub OnTop : Type 0
OnTop = taken.OnTop Value (List ℕ)

-- so many texts
abbrev pub texts_on_top : ℕ → List Value → Option OnTop
texts_on_top n stack = taken.texts_on_top text_in n stack

-- lists of texts, and the entries below them
abbrev pub Lists : Type 0
Lists = taken.Lists Value (List ℕ)

-- so many names or sources, so many parameters above them, and so many keys above these
abbrev pub lists_on_top : ℕ → ℕ → ℕ → List Value → Option Lists
lists_on_top names params keys stack = taken.lists_on_top text_in names params keys stack

-- the lists of a test that has so many
abbrev pub lists_counted : Counts → List Value → Option Lists
lists_counted counts stack = lists_on_top counts.names counts.params counts.keys stack

-- the texts of the lists
abbrev pub texts_in : Lists → Texts
texts_in lists = record { names = lists.names; params = lists.params; keys = lists.keys }

-- how many octets the text on top has
abbrev pub length_on_top : List Value → ℕ
length_on_top (text octets ∷ stack) = length octets
length_on_top _ = 0
