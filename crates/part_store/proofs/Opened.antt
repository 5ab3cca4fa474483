-- What is opened stands for what the files held.
use Rattle.std.proofs.Common.{◌≡◌, ◌⊎◌, ◌<◌, ◌++◌, ℕ, zero, suc, Bool, ◌∷◌, Option, None, Some, IfSome, Result, Ok, Err, IfOk, IfErr, IsErrAnd, OnErr, IsTrue, false, inl, inr, List, [], length, take, refl, sym, ap, subst, ◌∙◌, arith, true, codes, slice_index, unwrap_or}
use mathlib.Core.HLevel.{⊥_prop}
use Rattle.std.proofs.Math.Logic.{∥∥₁_elim}
use Rattle.std.proofs.lemmas.Bool.{true≢false}
use Rattle.sqlite_disk.specs.declared.Disk.{Ghosts}
use Rattle.sqlite_disk.specs.declared.Files.{Files}
use Rattle.sqlite.specs.declared.file.Leftover.{Leftover}
use Rattle.sqlite.specs.declared.error.Error.{Error}
use Rattle.sqlite.specs.declared.error.Error.TheVariants.{SqliteFailure}
use Rattle.sqlite.specs.declared.error.ErrorCode.TheVariants.{CannotOpen, OutOfMemory, DatabaseBusy}
use Rattle.sqlite.specs.declared.FileStore.{FileStore}
use Rattle.sqlite.specs.Effect.{Database, IsDatabase}
use Rattle.sqlite.specs.State.{State, HasCleanDisk, IsLive, Opens, Survives}
use Rattle.sqlite.specs.Held.{Held}
use Rattle.sqlite.specs.Files.{file_state, image_of, AreFoundIn, FailsToOpenFiles, HoldsDatabase, IsCleanLeft, IsEmpty, IsNothing, IsOpened, LeavesFiles}
use Rattle.sqlite.specs.Recovery.{Image}
use Rattle.sqlite.specs.Closing.{HoldsAlone, IsCopied}
use Rattle.sqlite.specs.Start.{FindsIn}
use Rattle.sqlite.specs.WalFiles.{outcomes}
use Rattle.sqlite_disk.specs.Events.{Event, replay, settled}
use Rattle.sqlite_disk.specs.History.{MayLeave}
use Rattle.sqlite_wal.specs.Recovery.{Pages}
use Rattle.sqlite_pool.specs.File.{header_in, IsSoundFile}
use Rattle.sqlite_pool.specs.Header.{first_page}
use Rattle.sqlite_pool.specs.Stored.{Adopts, sealed, stored_size, used_size}
use Rattle.sqlite_pool.specs.StoredLaws.{trimmed_some}
use Rattle.sqlite_pool.proofs.ProbeLemmas.{first_byte}
use Rattle.sqlite_wal.proofs.AppendLemmas.{some_value}
use Rattle.sqlite_wal.proofs.CreateLemmas.{begun_is_not_blank}
use Rattle.sqlite_catalog.specs.Listing.{Lists}
use Rattle.sqlite_catalog.proofs.ReadLemmas.{lists_once}
use Rattle.sqlite_schema.specs.declared.schema.Schema.{Schema}
use Rattle.sqlite_trees.specs.Objects.{catalog_tree}
use Rattle.sqlite_trees.specs.Sound.{is_sound_list}
use Rattle.sqlite_trees.specs.Tree.{Trees}
use Rattle.sqlite_trees.specs.Props.{Trees-set}
use Rattle.sqlite_value.specs.Order.{Row}
use Rattle.part_store.specs.Tables.{no_schema, store_schema}
use Rattle.part_store.specs.Entries.{Entries, no_entries}
use Rattle.part_store.specs.Standing.{Stands}
use Rattle.part_store.specs.Opening.{HasOtherTables, Holds, HoldsNoTables, HoldsStore, IsAt, IsBare, IsEmptied, IsFoundIn, IsReady, IsReadyFrom, IsUnopened, IsUnseen, KeepsDatabase, KeepsStore, MakesEmpty, TellsWhy}
use Rattle.part_store.specs.Looking.{are_tables, unopened_of}
use Rattle.part_store.specs.declared.error.StoreError.{StoreError}
use Rattle.part_store.specs.declared.looking.Unopened.{Unopened}
use Rattle.part_store.specs.declared.looking.Unopened.TheVariants as unopened
use Rattle.part_store.specs.declared.looking.Unopened.TheVariants.{Memory, Closed, Damaged, OtherTables, Disk}
use Rattle.part_store.proofs.Looks.{stores_pass}

-- a database is its trees, which list one schema
pub same_database : (a b : Database) → a.trees ≡ b.trees → IsDatabase a → IsDatabase b → a ≡ b
same_database a b same one other =
    let schema = lists_once _ a.schema b.schema one.lists (subst (λ (t : Trees). IsDatabase (record { schema = b.schema; trees = t })) (sym same) other).lists in
    λ i. record { schema = schema i; trees = same i }

-- what an open found is the database that the files held
pub finds_held : (image : Image) (s : State) (d : Database) → Opens s → IsLive s → FindsIn image s → Holds image d → s.now ≡ d
finds_held image s d opens live finds holds =
    let trees : s.committed.trees ≡ d.trees = ∥∥₁_elim holds.trees (Trees-set _ _) (finds.holds d.trees) in
    same_database s.now d (ap (λ (x : Database). x.trees) opens.clean ∙ trees) (live opens.is_open).0 holds.listed

-- and it stands for the same
pub shows_held : (image : Image) (s : State) → Opens s → IsLive s → FindsIn image s → (e : Entries) → HoldsStore image e → IsAt e s
shows_held image s opens live finds e (d, holds, stands) =
    (subst (λ (x : Database). Stands x e) (sym (finds_held image s d opens live finds holds)) stands, sym opens.clean, opens.is_open)

lists_nothing : (objects : List Row) (schema : Schema) → objects ≡ [] → Lists objects schema → schema ≡ no_schema
unfolding is_sound_list
lists_nothing objects schema none lists =
    let empty : Lists [] no_schema = record { listed = record { tables = tt; indexes = tt; views = tt; owned = tt; named = tt; loads = refl }; guarded = tt } in
    lists_once [] schema no_schema (subst (λ rows. Lists rows schema) none lists) empty

-- a page that begins a database has its first octet, and more than one
begins_well : (size : ℕ) (page : List ℕ) → take 16 (take 100 (take size page)) ≡ codes "SQLite format 3" ++ 0 ∷ [] → (1 < length page) × (slice_index page 0 ≡ 83)
begins_well zero page is = let none : 0 ≡ 16 = ap length is in absurd (omega (arith, none))
begins_well (suc zero) [] is = let none : 0 ≡ 16 = ap length is in absurd (omega (arith, none))
begins_well (suc zero) (x ∷ more) is = let one : 1 ≡ 16 = ap length is in absurd (omega (arith, one))
begins_well (suc (suc size)) [] is = let none : 0 ≡ 16 = ap length is in absurd (omega (arith, none))
begins_well (suc (suc size)) (x ∷ []) is = let one : 1 ≡ 16 = ap length is in absurd (omega (arith, one))
begins_well (suc (suc size)) (x ∷ y ∷ more) is = (omega arith, ap (λ (l : List ℕ). slice_index l 0) is)

-- files that a sound file is found in aren't those where none was made
sound_is_something : (size : ℕ) (image : Image) (pages : Pages) → Adopts size image pages → IsSoundFile size pages → IsNothing image → ⊥
sound_is_something size image pages found sound nothing =
    let (page, is) = some_value (found.stored 1) found.whole.first in
    let used : pages 1 ≡ Some (take size page) = ap (λ (p : Pages). p 1) (sym found.shows) ∙ trimmed_some size _ 1 page is in
    let head : take 16 (header_in pages) ≡ take 16 (take 100 (take size page)) = ap (λ (o : Option (List ℕ)). take 16 (take 100 (unwrap_or o []))) used in
    let both = begins_well size page (sym head ∙ sound.header.0.magic) in
    let whole = found.whole.sized 1 page is in
    let never = λ (other : ℕ) (some : 0 < other). let gate = first_byte other some in
    begun_is_not_blank (sealed (first_page other)) page (stored_size size) image found.stored found.found is whole (omega (arith, both.0, whole)) (both.1 ∙ sym gate) (λ none. let never = sym gate ∙ none in omega arith) in
    elim nothing [ inl plain ↦ never (used_size 4096 false) (omega arith) plain | inr summed ↦ never (used_size 4096 true) (omega arith) summed ]

-- what an open finds where no database was made is empty
pub nothing_is_empty : (image : Image) (db : Trees) → IsNothing image → AreFoundIn image db → IsEmpty db
nothing_is_empty image db nothing (inl found) = absurd (∥∥₁_elim found.4 ⊥_prop (λ ours. sound_is_something found.0 image found.1 found.3 ours.file.sound nothing))
nothing_is_empty image db nothing (inr empty) = empty.1

-- an open of files where no database was made found no tables
finds_nothing : (image : Image) (s : State) → Opens s → IsLive s → FindsIn image s → IsNothing image → IsBare s
finds_nothing image s opens live finds nothing =
    let empty = nothing_is_empty image s.committed.trees nothing finds.reads in
    lists_nothing _ s.now.schema (ap (λ (x : Database). x.trees catalog_tree) opens.clean ∙ empty.1) (live opens.is_open).0.lists

-- an open of files without tables found none
pub finds_none : (image : Image) (s : State) → Opens s → IsLive s → FindsIn image s → HoldsNoTables image → IsBare s
finds_none image s opens live finds (inl nothing) = finds_nothing image s opens live finds nothing
finds_none image s opens live finds (inr (d, holds, none)) = ap (λ (x : Database). x.schema) (finds_held image s d opens live finds holds) ∙ none

-- what was opened as it is is the database that the files held
pub finds_same : {D : Type 0} {g : Ghosts D} (image : Image) (d : Database) (found : Held (FileStore D g)) → Holds image d → IsFoundIn image found → HasCleanDisk (file_state found) → (file_state found).now ≡ d
finds_same image d found holds there clean =
    let opened = there.opened clean in
    finds_held image (file_state found) d opened.0 opened.1 (there.finds clean) holds

-- a store in the files has the tables of one
pub others_never : {D : Type 0} {g : Ghosts D} (image : Image) (e : Entries) (found : Held (FileStore D g)) → HoldsStore image e → IsFoundIn image found → HasCleanDisk (file_state found)
    → HasOtherTables (file_state found) → ⊥
others_never image e found holds there clean other =
    let opened = there.opened clean in
    let shown = shows_held image (file_state found) opened.0 opened.1 (there.finds clean) e holds in
    let same : are_tables (file_state found).now.schema.tables ≡ true = ap (λ (x : Schema). are_tables x.tables) shown.0.schema ∙ stores_pass in
    true≢false (sym same ∙ other)

pub has_tables : (s : State) → s.now.schema ≡ store_schema → IsBare s → ⊥
has_tables s is none = let more : 3 ≡ 0 = ap (λ (x : Schema). length x.tables) (sym is ∙ none) in omega (arith, more)

module _ {D : Type 0} {g : Ghosts D} (image : Image) (now : Held (FileStore D g)) (from : IsReadyFrom image now) (clean : HasCleanDisk (file_state now)) where
  early : HasCleanDisk (file_state from.ready.found)
  early = omega (arith, from.ready.survives.clean)

  pub opens_held : (e : Entries) → HoldsStore image e → IsAt e (file_state now)
  opens_held e held =
      let opened = from.ready.opened early in
      let found = shows_held image (file_state from.ready.found) opened.0 opened.1 (from.finds early) e held in
      subst (λ (h : Held (FileStore D g)). IsAt e (file_state h)) (sym (from.ready.same (has_tables (file_state from.ready.found) found.0.schema))) found

  -- a store that was found is the database that the files held
  pub opens_same : (d : Database) → d.schema ≡ store_schema → Holds image d → (file_state now).now ≡ d
  opens_same d has holds =
      let opened = from.ready.opened early in
      let found = finds_held image (file_state from.ready.found) d opened.0 opened.1 (from.finds early) holds in
      subst (λ (h : Held (FileStore D g)). (file_state h).now ≡ d) (sym (from.ready.same (has_tables (file_state from.ready.found) (ap (λ (x : Database). x.schema) found ∙ has)))) found

  pub opens_none : HoldsNoTables image → IsAt no_entries (file_state now)
  opens_none none =
      let opened = from.ready.opened early in
      from.ready.made clean (finds_none image (file_state from.ready.found) opened.0 opened.1 (from.finds early) none)

-- what the database's open tells of files that held the image
pub tells : {D : Type 0} {g : Ghosts D} (image : Image) (P Q : Files D → Type 0) (same : (files : Files D) → P files → Q files → image_of g files ≡ image)
    (only : (files : Files D) → P files → Q files → (other : Image) → outcomes g files.log files.db other → other ≡ image) (left : Option (Leftover D g)) (e : Error)
    → (left ≡ None → (e ≡ SqliteFailure CannotOpen) ⊎ ((e ≡ SqliteFailure OutOfMemory) ⊎ (e ≡ SqliteFailure DatabaseBusy)))
    → IfSome left (λ it. (files : Files D) × P files × Q files × (IsCleanLeft it → FailsToOpenFiles files it e × LeavesFiles files it)) → IsUnopened image left e
tells image P Q same only None e system caused = system refl
tells image P Q same only (Some left) e system caused = (caused.0, same caused.0 caused.1 caused.2, caused.3, only caused.0 caused.1 caused.2)

-- a file that was settled, and to which nothing has happened since, is left by a crash as it was
pub left_alone : (mixes : Bool) (start : List ℕ) (history : List Event) (key : ℕ) → history ≡ settled key ∷ [] → (c : List ℕ)
    → MayLeave mixes (replay start history).seen (replay start history).synced (replay start history).steps c → c ≡ start
left_alone mixes start history key is c may =
    elim (subst (λ h. MayLeave mixes (replay start h).seen (replay start h).synced (replay start h).steps c) is may) [ inl same ↦ same | inr same ↦ same ]

-- Of a store on what the database's open found, made or refused: it is ready, shows what the files
-- held, and is refused where they had no tables.
pub ready_from : {D : Type 0} {g : Ghosts D} {E : Type 0} (image : Image) (found : Held (FileStore D g)) (result : Result (Held (FileStore D g)) E) → IsFoundIn image found
    → IfOk result (λ s. HasCleanDisk (file_state s) → IsBare (file_state found) → IsEmptied (file_state s)) → IfOk result (λ s. (IsBare (file_state found) → ⊥) → s ≡ found)
    → IfOk result (λ s. (file_state s).in_transaction ≡ false) → IfOk result (λ s. Survives (file_state found) (file_state s) (MakesEmpty (file_state found))) → IfOk result (IsReadyFrom image)
ready_from image found (Ok s) finds made same settled survives =
    record { ready = record { found = found; opened = finds.opened; made = made; same = same; settled = settled; survives = survives }; finds = finds.finds }
ready_from image found (Err e) finds made same settled survives = tt

-- of what an open found, as it is: that is what the files held
pub was_opened : {D : Type 0} {g : Ghosts D} {E : Type 0} (image : Image) (result : Result (Held (FileStore D g)) E) → IfOk result (IsFoundIn image)
    → IfOk result (λ s. HasCleanDisk (file_state s) → IsOpened s)
was_opened image (Ok s) finds = finds.opened
was_opened image (Err e) finds = tt

pub shows_found : {D : Type 0} {g : Ghosts D} {E : Type 0} (image : Image) (result : Result (Held (FileStore D g)) E) → IfOk result (IsFoundIn image)
    → IfOk result (λ s. HasCleanDisk (file_state s) → (e : Entries) → HoldsStore image e → IsAt e (file_state s))
shows_found image (Ok s) finds = λ clean. let opened = finds.opened clean in shows_held image (file_state s) opened.0 opened.1 (finds.finds clean)
shows_found image (Err e) finds = tt

-- the database's errors are never told as other tables
not_others : (error : Error) → OtherTables ≡ unopened_of error → ⊥
not_others (SqliteFailure OutOfMemory) is = absurd (cc)
not_others _ is = absurd (cc)

told_as : {D : Type 0} (g : Ghosts D) (image : Image) (left : Leftover D g) (error : Error) (why : Unopened) → IsUnopened image (Some left) error → why ≡ unopened_of error → IsUnseen g image why
told_as g image left error Memory un is = tt
told_as g image left error unopened.Held un is = tt
told_as g image left error Closed un is = tt
told_as g image left error Damaged un is = (left, error, un, is)
told_as g image left error OtherTables un is = absurd (not_others error is)
told_as g image left error Disk un is = (left, error, un, is)

-- what the database's open tells says why, as far as it says why
untold : {D : Type 0} (g : Ghosts D) (image : Image) (left : Option (Leftover D g)) (error : Error) (why : Unopened) → IsUnopened image left error → why ≡ unopened_of error → IsUnseen g image why
untold g image (Some left) error why un is = told_as g image left error why un is
untold g image None error why un is = elim un [
  | inl closed ↦ subst (IsUnseen g image) (sym (is ∙ ap unopened_of closed)) tt
  | inr others ↦ elim others [
    | inl memory ↦ subst (IsUnseen g image) (sym (is ∙ ap unopened_of memory)) tt
    | inr busy ↦ subst (IsUnseen g image) (sym (is ∙ ap unopened_of busy)) tt
  ]
]

pub told_on : {D : Type 0} {g : Ghosts D} (image : Image) (result : Result (Held (FileStore D g)) Unopened) (left : Option (Leftover D g)) (error : Error) → IsUnopened image left error
    → IsErrAnd result (λ why. why ≡ unopened_of error) → TellsWhy image result
told_on image (Ok s) left error un is = tt
told_on {g = g} image (Err why) left error un is = untold g image left error why un is

-- of a store on what the open found, as it is
pub unseen : {D : Type 0} {g : Ghosts D} (image : Image) (found : Held (FileStore D g)) (result : Result (Held (FileStore D g)) Unopened) → IsFoundIn image found
    → (file_state found).in_transaction ≡ false → IfErr result (λ why. why ≡ OtherTables) → OnErr result ((file_state found).in_transaction ≡ false → HasOtherTables (file_state found)) → TellsWhy image result
unseen image found (Ok s) finds fresh others apart = tt
unseen {g = g} image found (Err why) finds fresh others apart = subst (IsUnseen g image) (sym others) (found, finds, apart fresh)

pub same_ok : {A E : Type 0} (result : Result A E) (x : A) (P : A → Type 0) → IfOk result (λ s. s ≡ x) → P x → IfOk result P
same_ok (Ok s) x P same holds = subst P (sym same) holds
same_ok (Err e) x P same holds = tt

-- a store that was made on what the open found has the limit of that, which is none
pub unlimited : {D : Type 0} {g : Ghosts D} {E : Type 0} (found : Held (FileStore D g)) (result : Result (Held (FileStore D g)) E) → (file_state found).step_limit ≡ None
    → IfOk result (λ s. Survives (file_state found) (file_state s) (MakesEmpty (file_state found))) → IfOk result (λ s. (file_state s).step_limit ≡ None)
unlimited found (Ok s) none survives = survives.limit ∙ none
unlimited found (Err e) none survives = tt

pub ready_of : {D : Type 0} {g : Ghosts D} (image : Image) (result : Result (Held (FileStore D g)) StoreError) → IfOk result (IsReadyFrom image) → IfOk result IsReady
ready_of image (Ok s) from = from.ready
ready_of image (Err e) from = tt

-- files to which a store's last commit was copied keep its database
pub keeps_database : {D : Type 0} {g : Ghosts D} (c : Held (FileStore D g)) (files : Files D) → IsCopied c files → IsLive (file_state c) → (IsTrue (file_state c).is_open → (file_state c).now ≡ (file_state c).committed)
    → KeepsDatabase g files (file_state c).now
keeps_database {D} {g} c files copied live settled =
    let same = settled copied.was_open in
    let holds = λ (image : Image) (alone : HoldsAlone image (file_state c).committed.trees). let r : Holds image (file_state c).now =
    record { trees = subst (λ (d : Database). ∥ HoldsDatabase image d.trees ∥₁) (sym same) alone.both; listed = (live copied.was_open).0 } in r in
    record { seen = holds _ copied.seen; left = λ image may. holds image (copied.left image may) }

-- and the store
pub keeps : {D : Type 0} {g : Ghosts D} (c : Held (FileStore D g)) (files : Files D) → KeepsDatabase g files (file_state c).now → (e : Entries) → Stands (file_state c).now e → KeepsStore g files e
keeps c files it e stands = record { seen = ((file_state c).now, it.seen, stands); left = λ image may. ((file_state c).now, it.left image may, stands) }
