-- Where entries have no room.
use Rattle.std.proofs.Common.{◌≡◌, ◌⊎◌, inl, inr, ℕ, ◌+ℤ◌, ◌+◌, ◌<◌, pos, Bool, true, false, List, [], ◌∷◌, ◌++◌, length, None, refl, sym, ap, subst, ◌∙◌, IsTrue, arith}
use Rattle.std.proofs.lemmas.Bool.{and_parts, eqb-true, false_from_ne_true}
use Rattle.sha2.specs.Sha256.{sha256}
use Rattle.sqlite_value.specs.declared.value.Value.TheVariants.{Blob}
use Rattle.sqlite_value.specs.Order.{Row}
use Rattle.std.specs.List.{AllByRecursion}
use Rattle.sqlite_trees.specs.Tree.{Trees, rowid, IsTable}
use Rattle.sqlite_trees.specs.View.{is_int}
use Rattle.sqlite_sql.specs.Ops.{fits_i64}
use Rattle.sqlite_rules.specs.Edit.{next_rowid, IsOversized}
use Rattle.sqlite_rules.specs.Lists.{Has}
use Rattle.sqlite.specs.State.{State, HasCleanDisk, Survives}
use Rattle.sqlite.specs.declared.error.Error.{Error}
use Rattle.part_store.specs.Tables.{store_schema, contents_table, entries_table, contents_tree, entries_tree, equals}
use Rattle.part_store.specs.Changes.{columns, new_row, IsFound, Reads, Steps, IsTableIn}
use Rattle.part_store.specs.Entries.{Draft, Entries, Entry, entry_of, numbered, with_entries, with_last}
use Rattle.part_store.specs.Filing.{entry_values, HasRoom}
use Rattle.part_store.specs.Additions.{CanFile, Claims, HasDraft, IsNext, RisesWithin, Stocks}
use Rattle.part_store.specs.Refusals.{content_values, refusal_of, OnlyWhenFailed, OnlyWhenFailedOrNoEntryRoom, HasFailed, HasNoUserRoom, HaveNoRoom, RunsOut}
use Rattle.part_store.specs.Causes.{AddFaults, OnlyWhenNoRowsFit, HasNoContent, HasNoRoom, HasSome, IsFree, LacksRoom}
use Rattle.part_store.specs.Standing.{IsEntryRow, Stands, StandsFor}
use Rattle.part_store.specs.Inside.{Stays}
use Rattle.part_store.specs.declared.error.StoreError.TheVariants.{Database}
use Rattle.part_store.proofs.Apart.{same_bytes}
use Rattle.part_store.proofs.Causes.{contents_table_in, stands_writable, writable_then}
use Rattle.part_store.proofs.Entering.{stands_still}
use Rattle.part_store.proofs.Failing.{later_failed}
use Rattle.part_store.proofs.Filed.{entry_keys}
use Rattle.part_store.proofs.FiledAll.{has_right, next_one, Filing, more_rowids, there_already}
use Rattle.part_store.proofs.Finding.{row_test, zip_found}
use Rattle.part_store.proofs.Room.{next_follows}

-- the rowids run out for rows of which fewer were put in
pub spent : (old mid : List Row) (m n : ℕ) → RisesWithin m old mid → m < n → fits_i64 (next_rowid mid) ≡ false → RunsOut old n
spent old mid m n rises lt full =
    let first = next_follows old in
    (first.0, first.1, 1 + rises.0, omega (arith, rises.1, lt), ap fits_i64 (sym (rises.2 ∙ ap (λ z. z +ℤ pos rises.0) first.2 ∙ more_rowids first.0 1 rises.0)) ∙ full)

-- octets that are put under a digest that nothing has
pub content_unplaced : (old mid new : State) (digest octets : List ℕ) (e : Error) → Steps (Reads (λ db. IsFound contents_tree (equals 1 (Blob digest)) (columns (2 ∷ [])) db None)) old mid
    → Survives old mid (λ _. ⊥) → Survives mid new (λ _. ⊥) → HasCleanDisk new
    → (IsTableIn contents_tree mid.now.trees → HasNoContent digest mid.now.trees → AddFaults contents_table (content_values digest octets) mid new e)
    → refusal_of e ≡ Database → IsTrue old.in_transaction → (before : Entries) → Stands old.now before → HasFailed old new ⊎ HasNoRoom contents_table (content_values digest octets) old.now.trees
content_unplaced old mid new digest octets e reads one two clean adds is inside before stands =
    let step = reads stands.schema in
    let same = step.change.0 in
    let table = subst (IsTableIn contents_tree) (sym same) (contents_table_in old before stands) in
    let none = subst (HasNoContent digest) (sym same) step.change.1 in
    elim (adds table none is (writable_then _ old mid reads (stands_writable old before inside stands))) [
      | inl failed ↦ inl (later_failed old mid new one two clean failed)
      | inr lacks ↦ inr (subst (HasNoRoom contents_table (content_values digest octets)) same lacks)
    ]

-- no entry of the user has the next number
next_free : (db : Trees) (before : Entries) (x : Entry) → StandsFor db before → IsNext before x → IsFree x.user x.number db
next_free db before x stands next r h = false_from_ne_true _ (λ mine.
    let y = zip_found (IsEntryRow (db contents_tree)) (db entries_tree) before.entries r stands.entries h in
    let parts = and_parts _ _ (sym (row_test (db contents_tree) r y.0 x.user x.number y.2) ∙ mine) in
    omega (arith, next.above y.0 y.1 (same_bytes y.0.user x.user parts.0), eqb-true y.0.number x.number parts.1))

-- an entry whose octets are under their digest
pub entry_unplaced : (old mid new : State) (x : Entry) (digest : List ℕ) (e : Error) (before : Entries) → Stands old.now before → IsNext before x → Stocks digest x.octets old mid → IsTrue mid.in_transaction
    → Survives old mid (λ _. ⊥) → Survives mid new (λ _. ⊥) → HasCleanDisk new
    → (IsTableIn entries_tree mid.now.trees → IsFree x.user x.number mid.now.trees → HasSome digest mid.now.trees → AddFaults entries_table (entry_values x digest) mid new e)
    → refusal_of e ≡ Database → HasFailed old new ⊎ LacksRoom x digest old.now.trees
entry_unplaced old mid new x digest e before stands next stocks inside one two clean adds is =
    let same = stocks.tables.entries in
    let table : IsTableIn entries_tree mid.now.trees = subst (λ rows. IsTable rows × AllByRecursion (λ r. IsTrue (is_int (rowid r))) rows) (sym same) (stands.tables.entries_rise, entry_keys old.now.trees before stands.tables) in
    let free : IsFree x.user x.number mid.now.trees = λ r h. next_free old.now.trees before x stands.tables next r (subst (λ l. Has l r) same h) in
    elim (adds table free (x.octets, stocks.tables.has) is (record { inside = inside; schema = stocks.schema; listed = stocks.listed })) [
      | inl failed ↦ inl (later_failed old mid new one two clean failed)
      | inr lacks ↦ inr (inr (subst (λ rows. (fits_i64 (next_rowid rows) ≡ false) ⊎ IsOversized store_schema entries_table (new_row rows (entry_values x digest))) same lacks))
    ]

-- the next draft of several
pub filing_refused : (user : List ℕ) (last count number : ℕ) (drafts later whole : List Draft) (d : Draft) (is_there : Bool) (old mid new : State) (e : Error)
    → (is_there ≡ true → (x : Draft) × Has drafts x × (x.octets ≡ d.octets)) → length drafts < count → number ≡ last + 1 + length drafts
    → whole ≡ drafts ++ d ∷ later → count ≡ length whole → Filing user last count drafts old mid → Survives mid new (λ _. ⊥) → HasCleanDisk new
    → (refusal_of e ≡ Database → IsTrue mid.in_transaction → (before : Entries) → Stands mid.now before → IsNext before (entry_of user number d)
    → (is_there ≡ true → HasDraft mid.now.trees d) → HasFailed mid new ⊎ LacksRoom (entry_of user number d) (sha256 d.octets) mid.now.trees)
    → refusal_of e ≡ Database → IsTrue old.in_transaction → (before : Entries) → Stands old.now before → CanFile before user last count → HasFailed old new ⊎ HaveNoRoom user whole old.now.trees
filing_refused user last count number drafts later whole d is_there old mid new e earlier within counted place long so_far survives clean cause is inside before stands can =
    let early : HasCleanDisk mid = omega (arith, clean, survives.clean) in
    let was = so_far.filed early before stands can in
    let there : Has whole d = subst (λ ds. Has ds d) (sym place) (has_right drafts (d ∷ later) d (inl refl)) in
    let lt : length drafts < length whole = omega (arith, within, long) in
    let entry_rises : RisesWithin (length drafts) (old.now.trees entries_tree) (mid.now.trees entries_tree) = (length drafts, omega arith, was.entry_rowids) in
    let next = subst (λ n. IsNext (record before { entries = before.entries ++ numbered user (last + 1) drafts }) (entry_of user n d)) (sym counted) (next_one before user last count drafts d can within) in
    elim (cause is (so_far.still early inside) _ was.stands next (λ known. there_already user last drafts d before old mid was (earlier known))) [
      | inl failed ↦ inl (later_failed old mid new so_far.survives survives clean failed)
      | inr (inl (inl full)) ↦ inr (inl (spent (old.now.trees contents_tree) (mid.now.trees contents_tree) (length drafts) (length whole) was.content_rowids lt full))
      | inr (inl (inr big)) ↦ inr (inr (inr (d, there, inl (next_rowid (mid.now.trees contents_tree), big))))
      | inr (inr (inl full)) ↦ inr (inr (inl (spent (old.now.trees entries_tree) (mid.now.trees entries_tree) (length drafts) (length whole) entry_rises lt full)))
      | inr (inr (inr big)) ↦ inr (inr (inr (d, there, inr (number, (next_rowid (mid.now.trees entries_tree), big)))))
    ]

-- the trees of contents and entries tell what has no room
room_same : (user : List ℕ) (drafts : List Draft) (one two : Trees) → two contents_tree ≡ one contents_tree → two entries_tree ≡ one entries_tree → HaveNoRoom user drafts two → HaveNoRoom user drafts one
room_same user drafts one two contents entries (inl full) = inl (subst (λ rows. RunsOut rows (length drafts)) contents full)
room_same user drafts one two contents entries (inr (inl full)) = inr (inl (subst (λ rows. RunsOut rows (length drafts)) entries full))
room_same user drafts one two contents entries (inr (inr big)) = inr (inr big)

-- the last number of the entries isn't claimed
pub claim_refused : (old new : State) (user : List ℕ) (last : ℕ) (drafts : List Draft) (e : Error)
    → (refusal_of e ≡ Database → (before : Entries) → Stands old.now before → HasFailed old new ⊎ HasNoUserRoom user (with_last user (last + length drafts) before) old.now.trees)
    → ((before : Entries) → Stands old.now before → last ≡ before.lasts user) → OnlyWhenNoRowsFit user drafts old new (refusal_of e)
claim_refused old new user last drafts e cause told is before stands = elim (cause is before stands) [
  | inl failed ↦ inl failed
  | inr none ↦ inr (inl (subst (λ n. HasNoUserRoom user (with_last user (n + length drafts) before) old.now.trees) (told before stands) none))
]

-- it is claimed, and the entries aren't filed
pub files_refused : (old mid new : State) (user : List ℕ) (last count : ℕ) (drafts : List Draft) (e : Error) → Survives old mid (λ _. ⊥) → Survives mid new (λ _. ⊥) → HasCleanDisk new
    → ((before : Entries) → Stands old.now before → Claims user (last + count) before old mid × CanFile (with_last user (last + count) before) user last count)
    → (refusal_of e ≡ Database → (before : Entries) → Stands mid.now before → CanFile before user last count → HasFailed mid new ⊎ HaveNoRoom user drafts mid.now.trees)
    → OnlyWhenNoRowsFit user drafts old new (refusal_of e)
files_refused old mid new user last count drafts e one two clean claims cause is before stands =
    let claimed = claims before stands in
    elim (cause is (with_last user (last + count) before) claimed.0.stands claimed.1) [
      | inl failed ↦ inl (later_failed old mid new one two clean failed)
      | inr none ↦ inr (inr (room_same user drafts old.now.trees mid.now.trees claimed.0.contents claimed.0.entries none))
    ]

-- what was read before leaves the tables as they were
pub entries_after : (old mid new : State) (user : List ℕ) (drafts : List Draft) (e : Error) → Survives old mid (λ _. ⊥) → Survives mid new (λ _. ⊥) → HasCleanDisk new → Stays old mid
    → ((before : Entries) → Stands old.now before → HasRoom before user (length drafts)) → ((before : Entries) → Stands old.now before → OnlyWhenNoRowsFit user drafts mid new (refusal_of e))
    → OnlyWhenFailedOrNoEntryRoom user drafts old new (refusal_of e)
entries_after old mid new user drafts e one two clean stays room cause is before stands =
    let same = (stays stands.schema).1 in
    elim (cause before stands is before (stands_still old mid before stays stands)) [
      | inl failed ↦ inl (later_failed old mid new one two clean failed)
      | inr (inl none) ↦ inr (room before stands, inl (subst (HasNoUserRoom user (with_entries user drafts before)) same none))
      | inr (inr none) ↦ inr (room before stands, inr (subst (HaveNoRoom user drafts) same none))
    ]

pub entries_blamed : (old new : State) (user : List ℕ) (drafts : List Draft) (e : Error) → OnlyWhenFailed old new (refusal_of e) → OnlyWhenFailedOrNoEntryRoom user drafts old new (refusal_of e)
entries_blamed old new user drafts e h is before stands = inl (h is before stands)

-- what the tables stand for after they were read they stood for before
pub stood : (old new : State) (before other : Entries) → Stays old new → Stands old.now before → Stands new.now other → Stands old.now other
stood old new before other stays stands there = record { schema = stands.schema; listed = stands.listed; tables = subst (λ t. StandsFor t other) (stays stands.schema).1 there.tables }
