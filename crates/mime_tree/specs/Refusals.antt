-- Why octets can't be read as a tree of parts.
use Rattle.std.specs.Prelude.{ℕ, ◌<◌, ◌≤◌, List, length}
use Rattle.octets.specs.Limits.{max_message, max_parts}
use Rattle.mime_tree.specs.PartTree.{tree_of}
use Rattle.mime_tree.specs.declared.error.MessageError.{MessageError}
use Rattle.mime_tree.specs.declared.error.MessageError.TheVariants.{Memory, MessageTooLarge, TooManyParts}

-- the cause of each refusal; Memory has none in the octets
abbrev pub IsTreeRefusal : List ℕ → MessageError → Type 0
IsTreeRefusal octets Memory = Unit {0}
IsTreeRefusal octets MessageTooLarge = max_message < length octets
IsTreeRefusal octets TooManyParts = (length octets ≤ max_message) × (max_parts < length (tree_of octets))
