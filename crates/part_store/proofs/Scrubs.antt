-- A scrub: first the contents are read, then the entries.
use Rattle.std.proofs.Common.{◌≡◌, ◌⊎◌, inl, inr, ℕ, ◌<◌, ◌≤◌, ◌+◌, ◌++◌, ◌∷◌, [], ◌^◌, List, length, get_or, map, take, Vec, string_bytes, ap, subst, sym, ◌∙◌, arith}
use Rattle.std.specs.declared.alloc.Global.{Global}
use Rattle.std.specs.List.{AllByRecursion}
use Rattle.std.proofs.lemmas.List.{length-map, map_more, take_all}
use Rattle.sqlite_value.specs.Order.{Row, column}
use Rattle.sqlite_trees.specs.Tree.{Trees, IsAscending}
use Rattle.sqlite.specs.State.{State, HasCleanDisk, Survives}
use Rattle.sqlite.proofs.StateLemmas.{survives_then}
use Rattle.part_store.specs.Changes.{every, sized, IsListed, Reads, Steps}
use Rattle.part_store.specs.Entries.{Entries}
use Rattle.part_store.specs.Inside.{Stays}
use Rattle.part_store.specs.Readings.{number_of}
use Rattle.part_store.specs.Refusals.{AreNamed, HasFailed, OnlyWhenFailed, OnlyWhenUnnamed}
use Rattle.part_store.specs.Scanning.{AddsDamaged, AreDamagedAmong, AreDamagedDigests, ShowsContent, damaged_in, texts_of}
use Rattle.part_store.specs.Scrubbing.{AreDamagedOf, DamagedLine, IsScrubbed, OnlyWhenUncounted, damaged_line}
use Rattle.part_store.specs.Standing.{Stands}
use Rattle.part_store.specs.Tables.{contents_tree, users_tree}
use Rattle.part_store.specs.UserLines.{AreUsersOf, IsBeforeLine, line_of}
use Rattle.std.specs.List.{sum_by}
use Rattle.part_store.specs.declared.error.StoreError.{StoreError}
use Rattle.part_store.specs.declared.scrubbing.DamagedEntry.{DamagedEntry}
use Rattle.part_store.specs.declared.scrubbing.Scrubbed.{Scrubbed}
use Rattle.part_store.specs.declared.totals.ContentTotal.{ContentTotal}
use Rattle.part_store.specs.declared.user_row.UserRow.{UserRow}
use Rattle.part_store.proofs.Damaged.{are_damaged, contents_show, damaged_counted}
use Rattle.part_store.proofs.Entering.{stands_still}
use Rattle.part_store.proofs.Failing.{later_failed}
use Rattle.part_store.proofs.Referring.{all_among, names_below, names_of, one_more}
use Rattle.part_store.proofs.Scanned.{Scanned, scan_blamed}
use Rattle.part_store.proofs.Sums.{is_total}

-- ---- the entries, user by user

-- the entries of one user more
pub user_more : (db : Trees) (e : Entries) (users : List UserRow) (place : ℕ) (row : UserRow) (old new : List DamagedLine) → place < length users → row ≡ get_or users place row
    → IsAscending IsBeforeLine (map line_of users) → AreDamagedAmong db e (names_of (take place users)) old → AddsDamaged db e (string_bytes row.user) old new
    → AreDamagedAmong db e (names_of (take (place + 1) users)) new
user_more db e users place row old new lt is up was adds =
    let names = names_of (take place users) in
    let more : names_of (take (place + 1) users) ≡ names ++ string_bytes row.user ∷ [] =
    map_more (λ (u : UserRow). string_bytes u.user) users place row lt ∙ ap (λ (r : UserRow). names ++ string_bytes r.user ∷ []) (sym is) in
    let both = one_more db e names (string_bytes row.user) old adds.0 (names_below users place row up lt is) was adds.2 in
    subst (AreDamagedAmong db e (names_of (take (place + 1) users))) (sym adds.1) (subst (λ ns. AreDamagedAmong db e ns (old ++ adds.0)) (sym more) both)

-- those of all users
pub all_found : (old mid new : State) (users : List UserRow) (place : ℕ) (digests : List (Vec ℕ Global)) (lines : List DamagedLine) → Stays old mid → length users ≤ place → HasCleanDisk new
    → Scanned (λ db before. AreDamagedDigests db digests → IsAscending IsBeforeLine (map line_of users) → AreDamagedAmong db before (names_of (take place users)) lines) mid new
    → (before : Entries) → Stands old.now before → AreUsersOf (old.now.trees users_tree) before (map line_of users) → AreDamagedDigests old.now.trees digests → AreDamagedOf old.now.trees before lines
all_found old mid new users place digests lines stays whole clean so_far before stands known are =
    let same = (stays stands.schema).1 in
    let among = so_far.read clean before (stands_still old mid before stays stands) (subst (λ t. AreDamagedDigests t digests) (sym same) are) known.rising in
    let all = subst (λ us. AreDamagedAmong mid.now.trees before (names_of us) lines) (take_all place users whole) among in
    all_among old.now.trees before users lines stands.tables known (subst (λ t. AreDamagedAmong t before (names_of users) lines) same all)

pub naming_blamed : (P : Trees → Entries → Type 0) (old mid now new : State) (e : StoreError) → Survives old mid (λ _. ⊥) → Stays old mid → Scanned P mid now → Survives now new (λ _. ⊥) → HasCleanDisk new
    → OnlyWhenFailed now new e → OnlyWhenUnnamed old new e
naming_blamed P old mid now new e first stays so_far last clean cause is before stands named =
    let both = survives_then mid now new (λ _. ⊥) (λ _. ⊥) (λ _. ⊥) (λ _ _ h. h) (λ _ _ h. h) so_far.survives last in
    later_failed old mid new first both clean (scan_blamed P mid now new e so_far last clean (λ _. cause) is before (stands_still old mid before stays stands))

-- ---- both

pub stays_read : (Finding : Trees → Type 0) (old new : State) → Steps (Reads Finding) old new → Stays old new
stays_read Finding old new reads has = ((reads has).schema, (reads has).change.0)

module _ (old one two : State) (rows : List Row) (reads : Steps (Reads (IsListed contents_tree every sized rows)) old one) (before : Entries) (stands : Stands old.now before) where
  stays_one : Stays old one
  stays_one = stays_read (IsListed contents_tree every sized rows) old one reads

  same_one : one.now.trees ≡ old.now.trees
  same_one = (stays_one stands.schema).1

  pub stands_one : Stands one.now before
  stands_one = stands_still old one before stays_one stands

  listed : IsListed contents_tree every sized rows old.now.trees
  listed = (reads stands.schema).change.1

  shows : AllByRecursion (ShowsContent old.now.trees) rows
  shows = contents_show old.now.trees before stands.tables rows listed

  pub shows_one : AllByRecursion (ShowsContent one.now.trees) rows
  shows_one = subst (λ t. AllByRecursion (ShowsContent t) rows) (sym same_one) shows

  module _ (stays : Stays one two) where
    pub same_two : two.now.trees ≡ old.now.trees
    same_two = (stays stands_one.schema).1 ∙ same_one

    pub stands_two : Stands two.now before
    stands_two = stands_still one two before stays stands_one

    pub scrubbed : (total : ContentTotal) (digests : List (Vec ℕ Global)) (damaged : ℕ) (entries : List DamagedEntry) → total.contents ≡ length rows → total.octets ≡ sum_by (λ r. number_of (column r 1)) rows
        → texts_of digests ≡ damaged_in one.now.trees rows → damaged ≡ length digests
        → (AreDamagedDigests two.now.trees digests → AreDamagedOf two.now.trees before (map damaged_line entries))
        → (x : Scrubbed) → x.contents ≡ total → x.damaged ≡ damaged → x.entries.items ≡ entries → IsScrubbed old.now.trees before x
    scrubbed total digests damaged entries number octets noted count told x is_total_of is_damaged are_entries =
        let texts : texts_of digests ≡ damaged_in old.now.trees rows = noted ∙ ap (λ t. damaged_in t rows) same_one in
        let are = are_damaged old.now.trees before stands.tables rows listed digests texts in
        let lines = subst (λ t. AreDamagedOf t before (map damaged_line entries)) same_two (told (subst (λ t. AreDamagedDigests t digests) (sym same_two) are)) in
        record {
          contents = is_total old one rows x.contents reads (ap (λ (t : ContentTotal). t.contents) is_total_of ∙ number) (ap (λ (t : ContentTotal). t.octets) is_total_of ∙ octets) before stands;
          damaged = is_damaged ∙ count ∙ sym (length-map digests (λ (v : Vec ℕ Global). v.items)) ∙ ap length texts ∙ damaged_counted old.now.trees before stands.tables rows listed;
          entries = subst (λ es. AreDamagedOf old.now.trees before (map damaged_line es)) (sym are_entries) lines;
        }

-- ---- why it is refused

pub reading_blamed : (old one new : State) (rows : List Row) (e : StoreError) → Steps (Reads (IsListed contents_tree every sized rows)) old one → Survives old one (λ _. ⊥) → Survives one new (λ _. ⊥) → HasCleanDisk new
    → (AllByRecursion (ShowsContent one.now.trees) rows → OnlyWhenFailed one new e) → OnlyWhenUncounted old new e
reading_blamed old one new rows e reads first second clean cause named is before stands =
    inl (later_failed old one new first second clean (cause (shows_one old one new rows reads before stands) is before (stands_one old one new rows reads before stands)))

pub entries_blamed : (old one two new : State) (rows : List Row) (e : StoreError) → Steps (Reads (IsListed contents_tree every sized rows)) old one → Stays one two
    → Survives old one (λ _. ⊥) → Survives one two (λ _. ⊥) → Survives two new (λ _. ⊥) → HasCleanDisk new → OnlyWhenUnnamed two new e → OnlyWhenUncounted old new e
entries_blamed old one two new rows e reads stays first second third clean cause named is before stands =
    let both = survives_then old one two (λ _. ⊥) (λ _. ⊥) (λ _. ⊥) (λ _ _ h. h) (λ _ _ h. h) first second in
    inl (later_failed old two new both third clean (cause is before (stands_two old one two rows reads before stands stays)
    (subst (λ t. AreNamed t) (sym (same_two old one two rows reads before stands stays)) named)))
