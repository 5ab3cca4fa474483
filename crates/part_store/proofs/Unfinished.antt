-- What a database's open leaves that was refused.
use Rattle.std.proofs.Common.{◌≡◌, ◌+◌, ◌*◌, ◌%◌, ◌==◌, ◌<◌, ◌≤◌, ℕ, Bool, true, false, if◌then◌else◌, List, [], Option, take, slice_index, unwrap_or, Some, inl, inr, refl, sym, ap, ap₂, subst, ◌∙◌, IsTrue, arith, get_or-take}
use Rattle.std.proofs.Math.Logic.{∥∥₁_elim, ∥∥₁_map}
use Rattle.std.proofs.lemmas.Bool.{cases_Bool, cases_eq}
use Rattle.sqlite_disk.specs.declared.Disk.{Ghosts}
use Rattle.sqlite_trees.specs.Tree.{Trees}
use Rattle.sqlite_trees.specs.Props.{Trees-set}
use Rattle.sqlite.specs.Effect.{Database, IsDatabase}
use Rattle.sqlite.specs.Files.{AreFoundIn, HoldsDatabase, IsCleanLeft, IsEmpty, IsNothing, NamesSize, SaysSums}
use Rattle.sqlite.specs.FileStore.{recovers}
use Rattle.sqlite.specs.Recovery.{Image}
use Rattle.sqlite.specs.declared.error.Error.{Error}
use Rattle.sqlite.specs.declared.file.Leftover.{Leftover}
use Rattle.sqlite.specs.declared.file.Leftover.TheVariants as left
use Rattle.sqlite.proofs.FileLemmas.{is_something}
use Rattle.sqlite.proofs.ListingLemmas.{empty_is_sound}
use Rattle.sqlite.proofs.Theorems.{opens_again}
use Rattle.sqlite_pool.specs.File.{header_in}
use Rattle.sqlite_pool.specs.Stored.{is_summed, reserved, stored_size, Adopts, StandsAs}
use Rattle.sqlite_pool.specs.StoredLaws.{trimmed_some}
use Rattle.sqlite_pool.proofs.ProbeLemmas.{size_by_file, size_by_log}
use Rattle.sqlite_wal.specs.Format.{be32}
use Rattle.sqlite_wal.specs.Recovery as raw
use Rattle.sqlite_wal.specs.Recovery.{IsIgnored, Pages}
use Rattle.sqlite_wal.proofs.AppendLemmas.{some_value}
use Rattle.sqlite_store.specs.Unopened.{state_of}
use Rattle.part_store.specs.Crashes.{IsRefusedOpen, MayLeaveRefused, HasNoSums}
use Rattle.part_store.specs.Entries.{Entries}
use Rattle.part_store.specs.Opening.{Holds, HoldsNoTables, HoldsState, HoldsStore, IsUnopened}
use Rattle.part_store.specs.Tables.{no_schema}
use Rattle.part_store.proofs.Opened.{nothing_is_empty}

-- what isn't summed is stored as it is used
stored_plain : (n : ℕ) → is_summed n ≡ false → stored_size n ≡ n
stored_plain n is = go (n % 16 == 8) is
  where
    go : (b : Bool) → ((if b then 8 else 0) == 8) ≡ false → n + (if b then 8 else 0) ≡ n
    go true h = absurd (cc)
    go false h = omega arith

-- four octets as a number, by halves
abbrev word : List ℕ → ℕ → ℕ
word bytes at = (slice_index bytes at * 256 + slice_index bytes (at + 1)) * 65536 + (slice_index bytes (at + 2) * 256 + slice_index bytes (at + 3))

be32_as : (bytes : List ℕ) (at : ℕ) → be32 bytes at ≡ word bytes at
unfolding be32
be32_as bytes at = omega arith

-- the open of a database without sums took its page size
module _ (image : Image) (db : Trees) (held : HoldsDatabase image db) (size : ℕ) (plain : is_summed held.0 ≡ false) (named : NamesSize image (stored_size size)) where
  large : 504 ≤ held.0
  large = let few : reserved held.0 ≤ 8 = grind arith in omega (arith, held.1.0)

  same_stored : stored_size held.0 ≡ stored_size size
  same_stored = elim (cases_eq (stored_size held.0) (stored_size size)) [
    | inl same ↦ same
    | inr other ↦
        let read = λ (seen : IsIgnored image.log → ⊥). let r : ⊥ = other (sym (size_by_log held.0 image held.2.pages held.2.found seen) ∙ sym (named.0 seen)) in r in
        absurd (read (λ ignored. other (sym (size_by_file held.0 image held.2.pages held.2.found large held.2.ours.file.sound ignored) ∙ sym (named.1 ignored))))
  ]

  -- the first page as it is stored, of which the header says that it ends in no sum
  no_sums : SaysSums (stored_size size) image → ⊥
  no_sums says =
      let found = held.2.found in
      let (page, is) = some_value (found.stored 1) found.whole.first in
      let whole = found.whole.sized 1 page is in
      let used : held.2.pages 1 ≡ Some (take held.0 page) = ap (λ (p : Pages). p 1) (sym found.shows) ∙ trimmed_some held.0 _ 1 page is in
      let head : header_in held.2.pages ≡ take 100 (take held.0 page) = ap (λ (o : Option (List ℕ)). take 100 (unwrap_or o [])) used in
      let byte : (k : ℕ) → k < 100 → slice_index (header_in held.2.pages) k ≡ slice_index page k =
      (λ k low. ap (λ (b : List ℕ). slice_index b k) head ∙ get_or-take 100 (take held.0 page) k 0 low ∙ get_or-take held.0 page k 0 (omega (arith, low, large))) in
      let none : reserved held.0 ≡ 0 = omega (arith, stored_plain held.0 plain) in
      let header = held.2.ours.file.sound.header.1.fractions in
      let says_sums = says found.stored page (subst (λ n. raw.Recovers n image found.stored) same_stored found.found) is (whole ∙ same_stored) in
      let bytes : be32 page 20 ≡ word page 20 = be32_as page 20 in
      let plainly : word page 20 ≡ reserved held.0 * 0x100_0000 + 0x0040_2020 = sym (ap₂ (λ (a b : ℕ). a * 65536 + b) (ap₂ (λ (a b : ℕ). a * 256 + b) (byte 20 (omega arith)) (byte 21 (omega arith)))
      (ap₂ (λ (a b : ℕ). a * 256 + b) (byte 22 (omega arith)) (byte 23 (omega arith)))) ∙ header in
      omega (arith, says_sums, bytes, plainly, none)

  takes_size : (IsTrue (is_summed size) → SaysSums (stored_size size) image) → held.0 ≡ size
  takes_size sums = elim (cases_Bool (is_summed size)) [
    | inl summed ↦ absurd (no_sums (sums summed))
    | inr other ↦ sym (stored_plain held.0 plain) ∙ same_stored ∙ stored_plain size other
  ]

-- files that stand for the same pages hold the same database
holds_again : (size : ℕ) (old new : Image) (db : Trees) (held : HoldsDatabase old db) → held.0 ≡ size → StandsAs size old new → HoldsDatabase new db
holds_again size old new db held same stands =
    let it = held.2 in (
      held.0,
      held.1,
      record {
        pages = it.pages;
        wanted = it.wanted;
        schema = it.schema;
        found = subst (λ n. Adopts n new it.pages) (sym same) (stands.1 it.pages (subst (λ n. Adopts n old it.pages) same it.found));
        ours = it.ours;
        reads = it.reads;
        sound = it.sound;
      },
    )

-- an empty database is one without tables
pub holds_empty : (image : Image) (db : Trees) → HoldsDatabase image db → IsEmpty db → HoldsNoTables image
holds_empty image db held none =
    inr (record { schema = no_schema; trees = db }, record { trees = ∣ held ∣₁; listed = empty_is_sound db none.1 }, refl)

module _ {D : Type 0} {g : Ghosts D} (image other : Image) where
  keeps_database : (it : Leftover D g) (e : Error) → IsUnopened image (Some it) e → IsCleanLeft it → HasNoSums image → (d : Database) → Holds image d → MayLeaveRefused it other
      → ∥ Holds other d ∥₁
  keeps_database (left.Files now) e un clean plain d holds may = ∣ subst (λ i. Holds i d) (sym (un.3 other ((un.2 clean).1 other may))) holds ∣₁
  keeps_database (left.Unopened now) e un clean plain d holds may = elim (un.2 clean).1 [
    | inl (nothing, way) ↦ ∥∥₁_elim holds.trees squash₁ (λ h. absurd (is_something image d.trees h (subst IsNothing un.1 nothing)))
    | inr (some, named, begins, sums, kept) ↦ elim (kept other may).same [
      | inl was ↦ ∣ subst (λ i. Holds i d) (sym (un.3 other was)) holds ∣₁
      | inr alike ↦
          let now_as = subst (λ i. StandsAs (state_of now).page_size i other) un.1 alike in
          ∣ record { trees = ∥∥₁_map holds.trees (λ h. holds_again (state_of now).page_size image other d.trees h (takes_size image d.trees h _ (plain d.trees h) (subst (λ i. NamesSize i (stored_size (state_of now).page_size)) un.1 named) (λ summed. subst (SaysSums (stored_size (state_of now).page_size)) un.1 (sums summed))) now_as); listed = holds.listed } ∣₁
    ]
  ]
  keeps_database (left.Store now) e un clean plain d holds may =
      let only = λ (found : Trees) (there : recovers now found). let r : found ≡ d.trees =
      ∥∥₁_elim holds.trees (Trees-set _ _) (λ h. ((un.2 clean).1 found there).1 d.trees (subst (λ i. HoldsDatabase i d.trees) (sym un.1) h)) in r in
      ∥∥₁_map (opens_again now may.0 (λ found there. (d.schema, subst (λ t. IsDatabase (record { schema = d.schema; trees = t })) (sym (only found there)) holds.listed)) other may.1)
      (λ found. let r : Holds other d = record { trees = ∣ subst (HoldsDatabase other) (only found.0 found.1) found.2 ∣₁; listed = holds.listed } in r)

  keeps_nothing : (it : Leftover D g) (e : Error) → IsUnopened image (Some it) e → IsCleanLeft it → IsNothing image → MayLeaveRefused it other → ∥ HoldsNoTables other ∥₁
  keeps_nothing (left.Files now) e un clean nothing may = ∣ inl (subst IsNothing (sym (un.3 other ((un.2 clean).1 other may))) nothing) ∣₁
  keeps_nothing (left.Unopened now) e un clean nothing may = elim (un.2 clean).1 [
    | inl (same, way) ↦ elim (way other may) [
      | inl was ↦ ∣ inl (subst IsNothing (sym (un.3 other was)) nothing) ∣₁
      | inr begun ↦ elim begun [ inl still ↦ ∣ inl still ∣₁ | inr empty ↦ ∥∥₁_map empty (λ it. holds_empty other it.0 it.1 it.2) ]
    ]
    | inr (some, named, begins, sums, kept) ↦ absurd (some (subst IsNothing (sym un.1) nothing))
  ]
  keeps_nothing (left.Store now) e un clean nothing may =
      let empty = λ (found : Trees) (there : recovers now found). let r : IsEmpty found =
      nothing_is_empty image found nothing (subst (λ i. AreFoundIn i found) un.1 ((un.2 clean).1 found there).0) in r in
      ∥∥₁_map (opens_again now may.0 (λ found there. (no_schema, empty_is_sound found (empty found there).1)) other may.1)
      (λ found. holds_empty other found.0 found.2 (empty found.0 found.1))

  pub unchanged_by_open : (it : Leftover D g) (e : Error) → IsUnopened image (Some it) e → IsCleanLeft it → HasNoSums image → (held : Entries) → HoldsStore image held → MayLeaveRefused it other
      → ∥ HoldsStore other held ∥₁
  unchanged_by_open it e un clean plain held (d, holds, stands) may = ∥∥₁_map (keeps_database it e un clean plain d holds may) (λ still. let r : HoldsStore other held = (d, still, stands) in r)

  still_none : (it : Leftover D g) (e : Error) → IsUnopened image (Some it) e → IsCleanLeft it → HasNoSums image → HoldsNoTables image → MayLeaveRefused it other → ∥ HoldsNoTables other ∥₁
  still_none it e un clean plain (inl nothing) may = keeps_nothing it e un clean nothing may
  still_none it e un clean plain (inr (d, holds, none)) may =
      ∥∥₁_map (keeps_database it e un clean plain d holds may) (λ still. let r : HoldsNoTables other = inr (d, still, none) in r)

  -- an open that is refused leaves the state that the files stand for
  pub refused_leaves : IsRefusedOpen g image other → (held : Entries) → HoldsState image held → ∥ HoldsState other held ∥₁
  refused_leaves it held (inl holds) =
      ∥∥₁_map (unchanged_by_open it.leftover it.error it.unopened it.clean it.plain held holds it.may) (λ still. let r : HoldsState other held = inl still in r)
  refused_leaves it held (inr (none, is)) =
      ∥∥₁_map (still_none it.leftover it.error it.unopened it.clean it.plain none it.may) (λ still. let r : HoldsState other held = inr (still, is) in r)
