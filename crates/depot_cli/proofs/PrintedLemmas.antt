-- The texts of entries.
use Rattle.std.proofs.Common.{◌≡◌, ◌<◌, ℕ, List, [], ◌∷◌, arith, length, refl}
use Rattle.std.specs.List.{flat_map}
use Rattle.part_store.specs.Entries.{Listing}
use Rattle.printing.specs.Printed.{line}
use Rattle.depot_cli.specs.Printed.{entries_text, entry_text}
use Rattle.depot_cli.specs.declared.entries.Detail.{Detail}

-- where there is an entry, there is a line for each
pub some_entries : (detail : Detail) (entries : List Listing) (i : ℕ) → i < length entries → entries_text detail entries ≡ flat_map (λ e. line (entry_text detail e)) entries
some_entries detail [] i within = absurd (omega arith)
some_entries detail (entry ∷ entries) i within = refl
