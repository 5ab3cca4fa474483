-- Private: what closing the files of a depot did.
use Rattle.std.specs.Prelude.{◌≡◌, IsTrue, Option, None, Some, Result, Ok, Err, ⊤}
use Rattle.sqlite_disk.specs.declared.Disk.{Ghosts}
use Rattle.sqlite_disk.specs.declared.Files.{Files}
use Rattle.sqlite.specs.declared.FileStore.{FileStore}
use Rattle.sqlite.specs.FileStore as store
use Rattle.sqlite.specs.Files.{file_state, IsClosed}
use Rattle.sqlite.specs.Held.{Held}
use Rattle.sqlite.specs.WalReads.{AreClean}
use Rattle.part_store.specs.Crashes.{KeepsState}
use Rattle.part_store.specs.Entries.{Entries}
use Rattle.part_store.specs.Opening.{KeepsStore}
use Rattle.part_store.specs.Standing.{Stands}

-- what was opened is closed: a depot's files hold what it stood for, or their close failed
abbrev pub IsShut : {D E : Type 0} {g : Ghosts D} → Result (Held (FileStore D g)) E → Option (Result (Files D) (FileStore D g)) → Type 0
IsShut {D} {E} {g} (Ok depot) (Some (Ok files)) =
    ((last : FileStore D g) × (store.files last ≡ (files.log, files.db)) × IsClosed depot last)
    × (AreClean g files.log files.db → IsTrue (file_state depot).is_open
    × ((held : Entries) → Stands (file_state depot).now held → KeepsStore g files held))
IsShut (Ok depot) (Some (Err last)) = IsClosed depot last
    × (IsTrue (file_state depot).is_open → (held : Entries) → Stands (file_state depot).now held → KeepsState last held)
IsShut (Err e) None = ⊤
IsShut opened left = ⊥
