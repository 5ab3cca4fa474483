-- Private: what is concluded from what is seen of a file before it is opened.
use Rattle.std.specs.Prelude.{◌≡◌, ◌≢◌, ◌<◌, ◌⊎◌, ◌++◌, ℕ, List, [], ◌∷◌, Option, None, Some, codes, unwrap_or}
use Rattle.std.specs.Fs.{IsDir, IsFile, file_type, metadata_len}
use Rattle.std.specs.declared.fs.attrs.Metadata.{Metadata}
use Rattle.depot_cli.specs.declared.no_depot.NoDepot.{NoDepot}
use Rattle.depot_cli.specs.declared.no_depot.NoDepot.TheVariants.{Directory, Special, SecondName, Empty}

-- What is wrong with a file that has so many names and a log of this size: it is a directory; it is no
-- regular file; it has more names than one, or none; or neither it nor its log has an octet. If nothing
-- is, it is a regular file with one name, and one of the two has octets.
abbrev pub IsSeenAs : Metadata → ℕ → Option ℕ → Option NoDepot → Type 0
IsSeenAs found names log None = IsFile (file_type found) × (names ≡ 1)
    × ((0 < metadata_len found) ⊎ (0 < unwrap_or log 0))
IsSeenAs found names log (Some Directory) = IsDir (file_type found)
IsSeenAs found names log (Some Special) = (IsDir (file_type found) → ⊥) × (IsFile (file_type found) → ⊥)
IsSeenAs found names log (Some SecondName) = IsFile (file_type found) × (names ≢ 1)
IsSeenAs found names log (Some Empty) = IsFile (file_type found) × (names ≡ 1)
    × (metadata_len found ≡ 0) × (unwrap_or log 0 ≡ 0)
IsSeenAs found names log (Some why) = ⊥

-- how a database begins
abbrev pub database_head : List ℕ
database_head = codes "SQLite format 3" ++ 0 ∷ []
