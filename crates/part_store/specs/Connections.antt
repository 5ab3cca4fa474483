-- Private: what the open of a connection answers.
use Rattle.std.specs.Prelude.{Option, Result, Ok, Err}
use Rattle.sqlite.specs.Files.{file_state}
use Rattle.sqlite.specs.Held.{Held}
use Rattle.sqlite.specs.Recovery.{Image}
use Rattle.sqlite.specs.Start.{FindsIn}
use Rattle.sqlite.specs.State.{HasCleanDisk}
use Rattle.sqlite.specs.declared.FileStore.{FileStore}
use Rattle.sqlite.specs.declared.error.Error.{Error}
use Rattle.sqlite.specs.declared.file.Leftover.{Leftover}
use Rattle.sqlite_disk.specs.declared.Disk.{Ghosts}
use Rattle.part_store.specs.Opening.{IsUnopened}

abbrev pub OpensOrTells : {D : Type 0} {g : Ghosts D} → Image → Result (Held (FileStore D g)) Error → Type 0
OpensOrTells image (Ok found) = HasCleanDisk (file_state found) → FindsIn image (file_state found)
OpensOrTells {D} {g} image (Err e) = (left : Option (Leftover D g)) × IsUnopened image left e
