-- The names and keys of a test.
use Rattle.std.specs.Prelude.{ℕ, ◌≤◌, All, List, length}
use Rattle.octets.specs.Limits.{max_stack, max_string}

-- texts that the machine's stack can hold: no more than its entries, none longer than a string
pub record AreTexts (texts : List (List ℕ)) : Type 0 where
  pub few : length texts ≤ max_stack
  pub short : All (λ text. length text ≤ max_string) texts
