-- Why octets can't be read as a message.
use Rattle.std.specs.Prelude.{ℕ, ◌<◌, ◌≤◌, List, length}
use Rattle.octets.specs.Limits.{max_message, max_parts}
use Rattle.mime_tree.specs.declared.error.MessageError.{MessageError}
use Rattle.mime_decode.specs.Mail.{mail_of}
use Rattle.mime_tree.specs.declared.error.MessageError.TheVariants.{Memory, MessageTooLarge, TooManyParts}

-- the cause of each refusal; Memory has none in the octets
abbrev pub IsMessageRefusal : List ℕ → MessageError → Type 0
IsMessageRefusal octets Memory = Unit {0}
IsMessageRefusal octets MessageTooLarge = max_message < length octets
IsMessageRefusal octets TooManyParts = (length octets ≤ max_message) × (max_parts < length (mail_of octets).parts)
