use Rattle.std.proofs.Common.{◌≡◌, List, flat_map, map, take}
use Rattle.catalog.specs.Catalog.{Filed, piece_of}
use Rattle.catalog.specs.Keeping.{known_as, known_of}
use Rattle.catalog.proofs.catalog.catalog_text.Given as goal

abbrev pub invariant-loop-entry : goal.invariant-loop-entry
invariant-loop-entry l = (all : List Filed) → map known_as l.kept ≡ map known_of all
    → l.text.items ≡ flat_map (piece_of l.after all) (take l.entry-index all)
