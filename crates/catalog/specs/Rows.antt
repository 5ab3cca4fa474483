-- What is known of an entry.
use Rattle.std.specs.Prelude.{ℕ, List}
use Rattle.catalog.specs.declared.entry.Entry.{Entry}

-- an entry: its number; its folder, its name and its media type; how many octets its content has, and their SHA-256
pub record Row : Type 0 where
  pub number : ℕ
  pub folder : List ℕ
  pub name : List ℕ
  pub media : List ℕ
  pub octets : ℕ
  pub digest : List ℕ

-- an entry of the code as the definitions see it
abbrev pub row_of : Entry → Row
row_of entry =
    record { number = entry.number; folder = entry.folder.now; name = entry.name.now; media = entry.media.now; octets = entry.octets; digest = entry.digest }
