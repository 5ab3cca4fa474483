-- Why a file isn't made a store, in the words of either kind of open.
use Rattle.part_store.specs.declared.error.StoreError.{StoreError}
use Rattle.part_store.specs.declared.error.StoreError.TheVariants.{Memory, Database}
use Rattle.part_store.specs.declared.looking.Unopened.{Unopened}
use Rattle.part_store.specs.declared.looking.Unopened.TheVariants as unopened

-- why the tables of an empty store weren't made
abbrev pub unmade_of : StoreError → Unopened
unmade_of Memory = unopened.Memory
unmade_of _ = unopened.Disk

-- the refusal of who would have made them
abbrev pub refusal_to_open : Unopened → StoreError
refusal_to_open unopened.Memory = Memory
refusal_to_open _ = Database
