-- Octets that can be read as a tree of parts.
use Rattle.std.specs.Prelude.{◌≡◌, ℕ, ◌≤◌, List, length}
use Rattle.octets.specs.Limits.{max_message, max_parts}
use Rattle.mime_tree.specs.PartTree.{Part, tree_of}

-- octets that can be read: they and their parts are few enough
pub record IsReadable (octets : List ℕ) : Type 0 where
  pub small : length octets ≤ max_message
  pub few_parts : length (tree_of octets) ≤ max_parts

-- the parts of a message that can be read
pub record IsTree (parts : List Part) : Type 0 where
  pub octets : List ℕ
  pub readable : IsReadable octets
  pub tree : parts ≡ tree_of octets
