-- Private: how a text that only contracts see is held.
use Rattle.std.specs.Prelude.{ℕ, List, [], ◌∷◌, ◌++◌}
use Rattle.devices.specs.declared.ghost_text.Last.{Last}
use Rattle.devices.specs.declared.ghost_text.Last.TheVariants.{Nothing, After}

-- the text that ends so
abbrev pub text_of : Last → List ℕ
text_of Nothing = []
text_of (After before octet) = before.value ++ octet.value ∷ []
