-- How much a delivery files.
use Rattle.std.specs.Prelude.{◌≡◌, ◌≤◌, ℕ, List, ◌++◌, length, map, Option, None, Some, sum_by, bytes_eq}
use Rattle.octets.specs.Once.{each_once}
use Rattle.bytecode_format.specs.Code.{Code}
use Rattle.bytecode_verifier.specs.Counting.{entries_at, octets_at}
use Rattle.mime_decode.specs.Mail.{mail_of}
use Rattle.sieve_engine.specs.Execution.{IsChecked}
use Rattle.part_store.specs.Entries.{Entries, Entry}

-- how many octets the contents of entries have together, each content once
abbrev pub octets_once : List Entry → ℕ
octets_once entries = sum_by length (each_once bytes_eq (map (λ (entry : Entry). entry.octets) entries))

-- entries were appended to those that were there: no more than so many, whose contents have no more octets than so many
pub record AppendsWithin (entries octets : ℕ) (before after : Entries) : Type 0 where
  pub added : List Entry
  pub are : after.entries ≡ before.entries ++ added
  pub few : length added ≤ entries
  pub small : octets_once added ≤ octets

-- how many entries, and octets, a delivery of the message files at most: to a user without a program one, of the message; else as
-- many as the program's limit at the message's octets and parts says
abbrev pub IsLimit : Option (List ℕ) → List ℕ → ℕ → ℕ → Type 0
IsLimit None message entries octets = (entries ≡ 1) × (octets ≡ length message)
IsLimit (Some program) message entries octets =
    (code : Code) × IsChecked program code × (entries ≡ entries_at code (length (mail_of message).parts))
    × (octets ≡ octets_at code (length message) (length (mail_of message).parts))
