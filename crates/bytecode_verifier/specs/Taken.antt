-- Texts that are taken from the top of a stack, whatever its entries are: of the verifier's they are bounds, of the machine's octets.
use Rattle.std.specs.Prelude.{ℕ, zero, suc, List, [], ◌∷◌, ◌++◌, Option, Some, None}
use Rattle.std.specs.Option.{option_and_then, option_map}

-- texts on top of a stack, in the order in which they were pushed, and the entries below them
pub record OnTop (Entry Text : Type 0) : Type 0 where
  pub texts : List Text
  pub below : List Entry

-- with one that was pushed after them
abbrev pub with_last : {Entry Text : Type 0} → Text → OnTop Entry Text → OnTop Entry Text
with_last text top = record { texts = top.texts ++ text ∷ []; below = top.below }

-- so many texts, or None where an entry is missing or is no text
abbrev pub texts_on_top : {Entry Text : Type 0} → (Entry → Option Text) → ℕ → List Entry → Option (OnTop Entry Text)
texts_on_top text_of zero stack = Some (record { texts = []; below = stack })
texts_on_top text_of (suc n) [] = None
texts_on_top text_of (suc n) (entry ∷ stack) = option_and_then (λ text. option_map (with_last text) (texts_on_top text_of n stack)) (text_of entry)

-- lists of texts: names or sources, the parameters that were pushed after them, the keys after these, and the entries below
pub record Lists (Entry Text : Type 0) : Type 0 where
  pub names : List Text
  pub params : List Text
  pub keys : List Text
  pub below : List Entry

abbrev pub with_params_and_keys : {Entry Text : Type 0} → List Text → List Text → OnTop Entry Text → Lists Entry Text
with_params_and_keys params keys names = record { names = names.texts; params = params; keys = keys; below = names.below }

-- so many names or sources, and so many parameters above them, below keys that were taken
abbrev pub lists_below : {Entry Text : Type 0} → (Entry → Option Text) → ℕ → ℕ → OnTop Entry Text → Option (Lists Entry Text)
lists_below {Entry} {Text} text_of names params keys =
    option_and_then (λ (between : OnTop Entry Text). option_map (with_params_and_keys between.texts keys.texts) (texts_on_top text_of names between.below))
    (texts_on_top text_of params keys.below)

-- so many names or sources, so many parameters above them, and so many keys above these
abbrev pub lists_on_top : {Entry Text : Type 0} → (Entry → Option Text) → ℕ → ℕ → ℕ → List Entry → Option (Lists Entry Text)
lists_on_top text_of names params keys stack = option_and_then (lists_below text_of names params) (texts_on_top text_of keys stack)
