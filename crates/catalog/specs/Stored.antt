-- Which of a user's part entries have the content of a part of a message, and which messages have that of a part entry.
use Rattle.std.specs.Prelude.{ℕ, List, map, bytes_eq, Option, option_map, position, filter_map}
use Rattle.sha2.specs.Sha256.{sha256}
use Rattle.mime_decode.specs.Mail.{Mail, Part}
use Rattle.catalog.specs.declared.entry.PartEntry.{PartEntry}
use Rattle.catalog.specs.declared.entry.Place.{Place}

-- the digests of the contents of a message's parts
abbrev pub digests_of : Mail → List (List ℕ)
digests_of mail = map (λ (part : Part). sha256 part.content) mail.parts

-- the first place of a digest among others
abbrev pub place_of : List (List ℕ) → List ℕ → Option ℕ
place_of digests digest = position (λ other. bytes_eq other digest) digests

-- the number of an entry and the first part with its content, if there is one
abbrev pub stored_place : List (List ℕ) → PartEntry → Option Place
stored_place digests entry = option_map (λ part. record { number = entry.number; part = part }) (place_of digests entry.digest)

-- those of all entries, in their order
abbrev pub stored_in : List (List ℕ) → List PartEntry → List Place
stored_in digests entries = filter_map (stored_place digests) entries

-- a message that is an entry: the number of the entry, and the digests of the contents of its parts
pub record Numbered : Type 0 where
  pub number : ℕ
  pub digests : List (List ℕ)

-- the number of a message and its first part with this content, if there is one
abbrev pub message_place : List ℕ → Numbered → Option Place
message_place digest message = option_map (λ part. record { number = message.number; part = part }) (place_of message.digests digest)

-- those of all messages, in their order
abbrev pub messages_with : List ℕ → List Numbered → List Place
messages_with digest messages = filter_map (message_place digest) messages
