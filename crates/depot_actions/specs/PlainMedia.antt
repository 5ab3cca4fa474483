-- Media types of entries that stand on one line.
use Rattle.std.specs.Prelude.{◌≡◌, ℕ, ◌==◌, Bool, not, true, List}
use Rattle.std.specs.List.{list_all}
use Rattle.part_store.specs.Entries.{Entries}

-- no line break, which is the octet 10, is in the text
abbrev pub is_one_line : List ℕ → Bool
is_one_line text = list_all (λ octet. not (octet == 10)) text

-- no line break is in the media type of an entry
abbrev pub HavePlainMedia : Entries → Type 0
HavePlainMedia entries = list_all (λ entry. is_one_line entry.media) entries.entries ≡ true
