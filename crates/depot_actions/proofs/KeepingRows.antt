-- What making a catalog comes to: what is kept of each entry in turn, and nothing changes.
use Rattle.std.proofs.Common.{◌≡◌, ◌≢◌, ◌⊎◌, ◌<◌, ◌≤◌, ◌+◌, ◌∙◌, ℕ, zero, suc, inl, inr, Bool, List, [], ◌∷◌, ◌++◌, IfErr, IfOk, IfSome, IsErrAnd, IsTrue, MatchResult, OnOk, Option, Result, Ok, Err, Some, None, Vec, ap, arith, filter, get_or, length, map, refl, subst, sym, take, bytes_eq}
use Rattle.std.proofs.lemmas.List.{map-append, take_all}
use Rattle.std.proofs.lemmas.Option.{none-some, same_Some, slice_get-map}
use Rattle.std.proofs.lemmas.Result.{IfErr-weaker, IfOk-weaker}
use Rattle.std.proofs.lemmas.Slice.Eq.{bytes_eq-Decides}
use Rattle.std.specs.List.{AllZip, slice_get}
use Rattle.std.specs.Option.{option_map}
use Rattle.std.specs.declared.alloc.Global.{Global}
use Rattle.mime_decode.specs.Mail.{IsReadable}
use Rattle.mime_decode.specs.Refusals.{IsMessageRefusal}
use Rattle.mime_decode.proofs.MailLemmas.{is_mail}
use Rattle.mime_tree.specs.declared.error.MessageError.{MessageError}
use Rattle.mime_tree.specs.declared.error.MessageError.TheVariants as message
use Rattle.sqlite_trees.specs.declared.store.Store.{Ghosts}
use Rattle.sqlite_trees.specs.Tree.{IsAscending, Trees}
use Rattle.sqlite_rules.specs.Lists.{Has}
use Rattle.sqlite_rules.proofs.ListLemmas.{all_has, has_filtered, has_got}
use Rattle.sqlite.specs.Effect.{Database as Held_in}
use Rattle.sqlite.specs.Held.{Held, state}
use Rattle.sqlite.specs.State.{HasCleanDisk, State, Survives}
use Rattle.part_store.specs.Calls.{Always, CommitsNothing, IfDone, IfRefused, RefusedWhere}
use Rattle.part_store.specs.Entries.{Entries, Entry, entries_of}
use Rattle.part_store.specs.Refusals.{HasFailed}
use Rattle.part_store.specs.Sharing.{AreSharing, IsSharingRow, Label, label_of, labelled}
use Rattle.part_store.specs.Standing.{HasNone, IsEntryAt, IsNumbered, LeavesUnchanged, Stands}
use Rattle.part_store.specs.Tables.{store_schema}
use Rattle.part_store.specs.Verifying.{IsAltered, OnlyWhenFailedOrAltered}
use Rattle.part_store.specs.declared.entry.SharingRow.{SharingRow}
use Rattle.part_store.specs.declared.error.StoreError.{StoreError}
use Rattle.part_store.specs.declared.error.StoreError.TheVariants as store
use Rattle.catalog.specs.Catalog.{Filed, catalog}
use Rattle.catalog.specs.Keeping.{Known, filed_as, known_as, known_of}
use Rattle.catalog.specs.declared.entry.Listed.{Listed}
use Rattle.catalog.specs.declared.keeping.Kept.{Kept}
use Rattle.catalog.proofs.CatalogLemmas.{of_option, one_taken}
use Rattle.refusals.specs.declared.refusal.Refusal.{Refusal}
use Rattle.refusals.specs.declared.refusal.Refusal.TheVariants.{Memory, Database}
use Rattle.depot_actions.specs.Applying.{Applies}
use Rattle.depot_actions.specs.Cataloguing.{IsUnkept, SharesKept, filed_under, of_listed, unread_as}
use Rattle.depot_actions.specs.Causes.{HasCause, IsIllegible, IsStoreFault}
use Rattle.depot_actions.specs.DepotState.{Catalog, Command, Text, filed_of, is_message}
use Rattle.depot_actions.specs.Users.{is_user_name}
use Rattle.depot_actions.proofs.Commands.{left_alone, stands_still}
use Rattle.depot_actions.proofs.Delivering.{unchanged_twice}
use Rattle.depot_actions.proofs.Surveying.{survived_then}

-- ---- the user's entry of a row

one_number : (es : List Entry) → IsAscending (λ (x y : Entry). x.user ≡ y.user → x.number < y.number) es → (x y : Entry) → Has es x → Has es y → x.user ≡ y.user → x.number ≡ y.number → x ≡ y
one_number [] up x y h k users numbers = absurd h
one_number (z ∷ es) up x y (inl h) (inl k) users numbers = h ∙ sym k
one_number (z ∷ es) up x y (inl h) (inr k) users numbers =
    let less = all_has (λ (w : Entry). z.user ≡ w.user → z.number < w.number) es y up.0 k (sym (ap (λ (w : Entry). w.user) h) ∙ users) in
    absurd (omega (arith, less, ap (λ (w : Entry). w.number) h, numbers))
one_number (z ∷ es) up x y (inr h) (inl k) users numbers =
    let less = all_has (λ (w : Entry). z.user ≡ w.user → z.number < w.number) es x up.0 h (sym (ap (λ (w : Entry). w.user) k) ∙ sym users) in
    absurd (omega (arith, less, ap (λ (w : Entry). w.number) k, numbers))
one_number (z ∷ es) up x y (inr h) (inr k) users numbers = one_number es up.1 x y h k users numbers

one_entry : (before : Entries) → IsNumbered before → (user : List ℕ) (number : ℕ) (x y : Entry) → IsEntryAt before user number x → IsEntryAt before user number y → x ≡ y
one_entry before numbers user number x y one other = one_number before.entries numbers.rising x y one.0 other.0 (one.1 ∙ sym other.1) (one.2 ∙ sym other.2)

-- the entry that a row lists
record IsRowOf (user : List ℕ) (before : Entries) (place : ℕ) (row : SharingRow) (x : Entry) : Type 0 where
  found : slice_get (entries_of user before) place ≡ Some x
  is : IsSharingRow (entries_of user before) row x
  there : IsEntryAt before user row.number x

row_at : (all : List Entry) (rows : List SharingRow) (xs : List Entry) (place : ℕ) (row : SharingRow) → AllZip (IsSharingRow all) rows xs → place < length rows → row ≡ get_or rows place row
    → (x : Entry) × (slice_get xs place ≡ Some x) × IsSharingRow all row x
row_at all [] xs place row are lt is = absurd (omega (arith, lt))
row_at all (r ∷ rows) [] place row are lt is = absurd are
row_at all (r ∷ rows) (y ∷ xs) zero row are lt is = (y, refl, subst (λ w. IsSharingRow all w y) (sym is) are.0)
row_at all (r ∷ rows) (y ∷ xs) (suc place) row are lt is = row_at all rows xs place row are.1 (omega (arith, lt)) is

as_many : (all : List Entry) (rows : List SharingRow) (xs : List Entry) → AllZip (IsSharingRow all) rows xs → length rows ≡ length xs
as_many all [] [] are = refl
as_many all [] (y ∷ xs) are = absurd are
as_many all (r ∷ rows) [] are = absurd are
as_many all (r ∷ rows) (y ∷ xs) are = omega (arith, as_many all rows xs are.1)

entry_of_row : (user : List ℕ) (rows : List SharingRow) (before : Entries) (place : ℕ) (row : SharingRow) → AreSharing rows (entries_of user before) → place < length rows → row ≡ get_or rows place row
    → (x : Entry) × IsRowOf user before place row x
entry_of_row user rows before place row are within at =
    let xs = entries_of user before in
    let (x, found, is) = row_at xs rows xs place row are within at in
    let has = has_filtered (λ (e : Entry). bytes_eq e.user user) before.entries x (has_got xs place x found) in
    (x, record { found = found; is = is; there = (has.0, (bytes_eq-Decides x.user user).0 has.1, sym (ap (λ (l : Label). l.number) is.label)) })

-- ---- what is kept of each

-- so far this is kept of the entries of these rows, and nothing has changed
pub record KeepingEach (user : List ℕ) (rows : List SharingRow) (place : ℕ) (kept : List Kept) (old now : State) : Type 0 where
  pub survives : Survives old now (λ _. ⊥)
  pub unchanged : HasCleanDisk now → LeavesUnchanged old now
  pub told : HasCleanDisk now → (before : Entries) → (IsTrue old.is_open → Stands old.now before) → AreSharing rows (entries_of user before) → map known_as kept ≡ map known_of (map filed_of (take place (entries_of user before)))

-- what is kept of the entry of a row
abbrev pub IsKeptOf : List ℕ → SharingRow → Entries → Kept → Type 0
IsKeptOf user row before kept = (x : Entry) × IsEntryAt before user row.number x × (labelled row ≡ label_of x → known_as kept ≡ known_of (filed_of x))

one_more : (xs : List Entry) (place : ℕ) (x : Entry) (kept more : List Kept) (one : Kept) → slice_get xs place ≡ Some x → more ≡ kept ++ one ∷ [] → known_as one ≡ known_of (filed_of x)
    → map known_as kept ≡ map known_of (map filed_of (take place xs)) → map known_as more ≡ map known_of (map filed_of (take (place + 1) xs))
one_more xs place x kept more one found all is so_far =
    ap (map known_as) all ∙ map-append known_as kept (one ∷ []) ∙ ap (λ ks. ks ++ known_as one ∷ []) so_far
    ∙ ap (λ k. map known_of (map filed_of (take place xs)) ++ k ∷ []) is
    ∙ sym (
    ap (λ l. map known_of (map filed_of l)) (one_taken xs place x found)
    ∙ ap (map known_of) (map-append filed_of (take place xs) (x ∷ []))
    ∙ map-append known_of (map filed_of (take place xs)) (filed_of x ∷ [])
    )

got_taken : {A : Type 0} (xs : List A) (n i : ℕ) (y : A) → slice_get (take n xs) i ≡ Some y → slice_get xs i ≡ Some y
got_taken [] zero i y is = is
got_taken [] (suc n) i y is = is
got_taken (x ∷ xs) zero i y is = absurd (none-some y is)
got_taken (x ∷ xs) (suc n) zero y is = is
got_taken (x ∷ xs) (suc n) (suc i) y is = got_taken xs n i y is

-- what is kept at the place that a row names
shares_kept : (xs : List Entry) (place first : ℕ) (kept : List Kept) (x : Entry) → map known_as kept ≡ map known_of (map filed_of (take place xs))
    → (one : Entry) × (slice_get xs first ≡ Some one) × (one.octets ≡ x.octets) → SharesKept kept first x
shares_kept xs place first kept x so_far shared = λ earlier at.
    let (one, there, same) = shared in
    let got : Some (known_as earlier) ≡ option_map known_of (option_map filed_of (slice_get (take place xs) first)) =
    sym (ap (option_map known_as) at) ∙ sym (slice_get-map known_as kept first) ∙ ap (λ l. slice_get l first) so_far ∙ slice_get-map known_of (map filed_of (take place xs)) first
    ∙ ap (option_map known_of) (slice_get-map filed_of (take place xs) first) in
    let (filed, is_filed, known) = of_option known_of (option_map filed_of (slice_get (take place xs) first)) (known_as earlier) got in
    let (y, is_y, filed_y) = of_option filed_of (slice_get (take place xs) first) filed (sym is_filed) in
    let one_y : y ≡ one = same_Some y one (sym (got_taken xs place first y is_y) ∙ there) in
    (y, known ∙ ap known_of filed_y, ap (λ (e : Entry). e.octets) one_y ∙ same)

pub one_kept : (user : List ℕ) (rows : List SharingRow) (place : ℕ) (row : SharingRow) (kept more : List Kept) (one : Kept) (old mid new : State) → place < length rows → row ≡ get_or rows place row → more ≡ kept ++ one ∷ []
    → KeepingEach user rows place kept old mid → Survives mid new (λ _. ⊥) → (HasCleanDisk new → LeavesUnchanged mid new)
    → (HasCleanDisk new → (before : Entries) (x : Entry) → (IsTrue mid.is_open → Stands mid.now before) → IsEntryAt before user row.number x → labelled row ≡ label_of x → SharesKept kept row.first x → known_as one ≡ known_of (filed_of x))
    → KeepingEach user rows (place + 1) more old new
one_kept user rows place row kept more one old mid new within at all so_far survives unchanged told =
    let early = λ (clean : HasCleanDisk new). let e : HasCleanDisk mid = omega (arith, survives.clean) in e in
    record {
      survives = survived_then old mid new so_far.survives survives;
      unchanged = λ clean. unchanged_twice old mid new so_far.survives.counts survives.counts (so_far.unchanged (early clean)) (unchanged clean);
      told = λ clean before standing are.
          let xs = entries_of user before in
          let spares = so_far.unchanged (early clean) in
          let (x, of_row) = entry_of_row user rows before place row are within at in
          let known = so_far.told (early clean) before standing are in
          one_more xs place x kept more one of_row.found all
          (told clean before x (λ open_then. stands_still old mid before spares (standing (spares.stays_closed open_then)) open_then) of_row.there of_row.is.label
          (shares_kept xs place row.first kept x known of_row.is.shared))
          known;
    }

pub all_kept : (user : List ℕ) (rows : List SharingRow) (place : ℕ) (kept : List Kept) (old now : State) → length rows ≤ place → KeepingEach user rows place kept old now → HasCleanDisk now → (before : Entries)
    → (IsTrue old.is_open → Stands old.now before) → AreSharing rows (entries_of user before) → map known_as kept ≡ map known_of (map filed_of (entries_of user before))
all_kept user rows place kept old now whole keeping clean before standing are =
    let xs = entries_of user before in
    keeping.told clean before standing are ∙ ap (λ l. map known_of (map filed_of l)) (take_all place xs (omega (arith, as_many xs rows xs are, whole)))

-- what is kept of an entry whose content was read
pub read_kept : (user : List ℕ) (row : SharingRow) (old : State) (kept : List Kept) (r : Result Kept Refusal) → OnOk r (IsTrue old.is_open) → IfOk r (λ one. (before : Entries) → Stands old.now before → IsKeptOf user row before one)
    → IfOk r (λ one. (before : Entries) (x : Entry) → (IsTrue old.is_open → Stands old.now before) → IsEntryAt before user row.number x → labelled row ≡ label_of x → SharesKept kept row.first x → known_as one ≡ known_of (filed_of x))
read_kept user row old kept (Ok one) was_open told = λ before x standing at label shares.
    let stands = standing was_open in
    let (y, at_y, is) = told before stands in
    let same = one_entry before stands.tables.numbers user row.number y x at_y at in
    is (label ∙ sym (ap label_of same)) ∙ ap (λ (e : Entry). known_of (filed_of e)) same
read_kept user row old kept (Err e) was_open told = tt

-- what is kept of an entry of which an earlier one has the content
pub shared_known : (row : SharingRow) (kept : List Kept) (earlier : Kept) (l : Listed) (found : Option Kept) → slice_get kept row.first ≡ Some earlier → ((octets : List ℕ) → filed_as l octets ≡ filed_under (labelled row) octets)
    → IfSome found (λ it. (filed : Filed) → known_as earlier ≡ known_of filed → known_as it ≡ known_of (filed_as l filed.octets))
    → IfSome found (λ one. (x : Entry) → labelled row ≡ label_of x → SharesKept kept row.first x → known_as one ≡ known_of (filed_of x))
shared_known row kept earlier l None at lists again = tt
shared_known row kept earlier l (Some it) at lists again = λ x label shares.
    let (y, known, same) = shares earlier at in
    again (filed_of y) known ∙ ap known_of (lists y.octets ∙ ap (λ n. filed_under n y.octets) label ∙ ap (filed_under (label_of x)) same)

-- memory that is refused is no fault of the store
pub no_fault : (Other : Entries → Trees → Type 0) (old new : State) (e : Refusal) → e ≡ Memory → IsStoreFault Other old new e
no_fault Other old new e memory = λ is before stands. absurd cc

-- ---- why a content isn't read

-- what isn't kept of the entry of a row is illegible
pub unkept_row : (user : List ℕ) (rows : List SharingRow) (place : ℕ) (row : SharingRow) (before : Entries) (db : Trees) → place < length rows → row ≡ get_or rows place row → IsNumbered before → IsUnkept user row before db → AreSharing rows (entries_of user before)
    → IsIllegible user before db
unkept_row user rows place row before db within at numbers (inl (inl altered)) are = inl (row.number, altered)
unkept_row user rows place row before db within at numbers (inl (inr none)) are =
    let (x, of_row) = entry_of_row user rows before place row are within at in
    absurd (none x of_row.there)
unkept_row user rows place row before db within at numbers (inr (y, at_y, message, unreadable)) are =
    let (x, of_row) = entry_of_row user rows before place row are within at in
    let same = one_entry before numbers user row.number x y of_row.there at_y in
    let kinds = ap (λ (l : Label). l.kind) of_row.is.label ∙ ap (λ (e : Entry). e.kind) same in
    inr (y, (at_y.0, at_y.1, refl), (subst (λ k. IsTrue (is_message k)) kinds message, unreadable))

not_readable : (octets : List ℕ) (e : MessageError) → e ≢ message.Memory → IsMessageRefusal octets e → IsReadable octets → ⊥
not_readable octets message.Memory other refusal readable = other refl
not_readable octets message.MessageTooLarge other refusal readable = omega (arith, refusal, readable.small)
not_readable octets message.TooManyParts other refusal readable = omega (arith, refusal.1, (is_mail octets readable).few_parts)

unread_database : (e : MessageError) → unread_as e ≡ Database → e ≢ message.Memory
unread_database message.Memory is = absurd cc
unread_database message.MessageTooLarge is = λ same. cc
unread_database message.TooManyParts is = λ same. cc

pub unread_which : (e : MessageError) → (unread_as e ≡ Memory) ⊎ (unread_as e ≡ Database)
unread_which message.Memory = inl refl
unread_which message.MessageTooLarge = inr refl
unread_which message.TooManyParts = inr refl

-- ---- results whose errors are told as refusals

module _ {T E : Type 0} (tell : E → Refusal) where
  abbrev pub IsTold : Result T E → Result T Refusal → Type 0
  IsTold r told = MatchResult r (λ x. told ≡ Ok x) (λ e. IsErrAnd told (λ d. d ≡ tell e))

  pub told_ok : (P : T → Type 0) (r : Result T E) (told : Result T Refusal) → IsTold r told → IfOk r P → IfOk told P
  told_ok P (Ok x) told cases h = subst (λ t. IfOk t P) (sym cases) h
  told_ok P (Err e) (Ok x) cases h = absurd cases
  told_ok P (Err e) (Err d) cases h = tt

  pub told_err : (Q : Refusal → Type 0) (r : Result T E) (told : Result T Refusal) → IsTold r told → IfErr r (λ e. Q (tell e)) → IfErr told Q
  told_err Q (Ok x) told cases h = subst (λ t. IfErr t Q) (sym cases) tt
  told_err Q (Err e) (Ok x) cases h = absurd cases
  told_err Q (Err e) (Err d) cases h = subst Q (sym cases) h

both_err : {T E : Type 0} (P Q R : E → Type 0) (r : Result T E) → IfErr r P → IfErr r Q → ((e : E) → P e → Q e → R e) → IfErr r R
both_err P Q R (Ok x) p q f = tt
both_err P Q R (Err e) p q f = f e p q

-- the content of an entry that was listed
abbrev IsLost : List ℕ → ℕ → Entries → Trees → Type 0
IsLost user number before db = IsAltered db user number ⊎ HasNone before user number

listed_fault : (user : List ℕ) (number : ℕ) (old new : State) (e : StoreError) → OnlyWhenFailedOrAltered user number old new e → (e ≡ store.NoSuchEntry → (before : Entries) → Stands old.now before → HasNone before user number)
    → IsStoreFault (IsLost user number) old new (of_listed e)
listed_fault user number old new store.Memory failed absent = λ is. absurd cc
listed_fault user number old new store.NoSuchEntry failed absent = λ is before stands. inr (inr (absent refl before stands))
listed_fault user number old new store.NumberFull failed absent = λ is. absurd cc
listed_fault user number old new store.Collision failed absent = λ is. absurd cc
listed_fault user number old new store.Database failed absent = λ is before stands. elim (failed refl stands.schema) [ inl fault ↦ inl fault | inr altered ↦ inr (inl altered) ]

pub content_fault : {T : Type 0} (user : List ℕ) (number : ℕ) (old new : State) (r : Result T StoreError) (told : Result T Refusal) → IsTold of_listed r told → IfErr r (OnlyWhenFailedOrAltered user number old new)
    → IfErr r (λ e. e ≡ store.NoSuchEntry → (before : Entries) → Stands old.now before → HasNone before user number) → IfErr told (IsStoreFault (IsLost user number) old new)
content_fault user number old new r told cases failed absent =
    told_err of_listed (IsStoreFault (IsLost user number) old new) r told cases (both_err _ _ _ r failed absent (listed_fault user number old new))

-- what is kept of an entry with this content
abbrev HasContentAt : State → List ℕ → ℕ → List ℕ → Type 0
HasContentAt old user number octets = (before : Entries) → Stands old.now before → (x : Entry) × IsEntryAt before user number x × (octets ≡ x.octets)

unread_fault : (user : List ℕ) (row : SharingRow) (old new : State) (octets : List ℕ) (m : Bool) (e : MessageError) → HasContentAt old user row.number octets → m ≡ is_message row.kind
    → (e ≡ message.Memory) ⊎ (IsTrue m × IsMessageRefusal octets e) → IsStoreFault (IsUnkept user row) old new (unread_as e)
unread_fault user row old new octets m e content same h = λ is before stands. elim h [
  | inl memory ↦ absurd (unread_database e is memory)
  | inr (message, refusal) ↦
      let (x, at, are) = content before stands in
      inr (inr (x, at, subst IsTrue same message, λ readable. not_readable octets e (unread_database e is) refusal (subst IsReadable (sym are) readable)))
]

pub keep_fault : (user : List ℕ) (row : SharingRow) (old new : State) (octets : List ℕ) (m : Bool) (r : Result Kept MessageError) (told : Result Kept Refusal) → IsTold unread_as r told → HasContentAt old user row.number octets
    → m ≡ is_message row.kind → IfErr r (λ e. (e ≡ message.Memory) ⊎ (IsTrue m × IsMessageRefusal octets e)) → IfErr told (IsStoreFault (IsUnkept user row) old new)
keep_fault user row old new octets m r told cases content same refused =
    told_err unread_as (IsStoreFault (IsUnkept user row) old new) r told cases (IfErr-weaker r _ _ (λ e h. unread_fault user row old new octets m e content same h) refused)

pub keep_refused : (r : Result Kept MessageError) (told : Result Kept Refusal) → IsTold unread_as r told → IfErr told (λ e. (e ≡ Memory) ⊎ (e ≡ Database))
keep_refused (Ok x) told cases = told_err unread_as (λ e. (e ≡ Memory) ⊎ (e ≡ Database)) (Ok x) told cases tt
keep_refused (Err e) told cases = told_err unread_as (λ e. (e ≡ Memory) ⊎ (e ≡ Database)) (Err e) told cases (unread_which e)

pub filed_row : (row : SharingRow) (folder name media octets : List ℕ) (m : Bool) → folder ≡ row.folder.items → name ≡ row.name.items → media ≡ row.media.items → m ≡ is_message row.kind
    → (let r : Filed = record { number = row.number; folder = folder; name = name; media = media; is_message = m; octets = octets } in r) ≡ filed_under (labelled row) octets
filed_row row folder name media octets m one two three four =
    λ i. record { number = row.number; folder = one i; name = two i; media = three i; is_message = four i; octets = octets }

pub kept_of_row : (user : List ℕ) (row : SharingRow) (old : State) (l : Listed) (octets : List ℕ) (r : Result Kept MessageError) (told : Result Kept Refusal) → IsTold unread_as r told
    → ((bytes : List ℕ) → filed_as l bytes ≡ filed_under (labelled row) bytes) → HasContentAt old user row.number octets
    → IfOk r (λ kept. known_as kept ≡ known_of (filed_as l octets))
    → IfOk told (λ kept. (before : Entries) → Stands old.now before → IsKeptOf user row before kept)
kept_of_row user row old l octets r told cases lists content kept =
    told_ok unread_as (λ k. (before : Entries) → Stands old.now before → IsKeptOf user row before k) r told cases (IfOk-weaker r _ _ (λ k is before stands.
    let (x, at, are) = content before stands in
    (x, at, λ label. is ∙ ap known_of (lists octets ∙ ap (λ n. filed_under n octets) label ∙ ap (filed_under (label_of x)) are))) kept)

-- ---- the whole

-- an open store shows what is committed, if it did before and nothing has changed
pub settled_after : (old mid new : State) (before : Entries) → Stands old.now before → LeavesUnchanged old mid → LeavesUnchanged mid new → (IsTrue mid.is_open → mid.committed ≡ mid.now) → IsTrue new.is_open → new.committed ≡ new.now
settled_after old mid new before stands first later settled is_open =
    let still = later.stays_closed is_open in
    let one = first.same stands.schema still in
    let two = later.same (ap (λ (d : Held_in). d.schema) one.0 ∙ stands.schema) is_open in
    two.1 ∙ settled still ∙ sym two.0

-- what a catalog replies, and that it is settled then
abbrev pub HasCatalog : List ℕ → ℕ → Vec ℕ Global → State → State → Type 0
HasCatalog user number text old new = IsTrue old.is_open
    × ((before : Entries) → Stands old.now before → (text.items ≡ catalog number (map filed_of (entries_of user before))) × (IsTrue new.is_open → new.committed ≡ new.now))

catalog_cause : (user : List ℕ) (number : ℕ) (s : State) (e : Refusal) → IsTrue (is_user_name user) → (e ≡ Memory) ⊎ (e ≡ Database) → HasCause e (Catalog user number) s
catalog_cause user number s e named (inl is) = subst (λ d. HasCause d (Catalog user number) s) (sym is) tt
catalog_cause user number s e named (inr is) = subst (λ d. HasCause d (Catalog user number) s) (sym is) (named, tt)

pub catalogued : {S : Type 0} (g : Ghosts S) (old new : Held S) (r : Result (Vec ℕ Global) Refusal) (user : List ℕ) (number : ℕ) → IsTrue (is_user_name user) → IfDone g old new r (HasCatalog user number)
    → Always g old new LeavesUnchanged → IfErr r (λ e. (e ≡ Memory) ⊎ (e ≡ Database)) → IfRefused g old new r (IsStoreFault (IsIllegible user)) → CommitsNothing g old new
    → Applies g old new r (Catalog user number) (λ text. Text text.items)
catalogued g old new r user number named answer unchanged refused cause survives = record {
  done = λ clean. IfOk-weaker r _ _ (λ text told. (
    told.0,
    λ before stands. (
      before,
      record { named = named; step = (ap Text (told.1 before stands).0, refl) },
      left_alone (state g old) (state g new) before told.0 (told.1 before stands).1 (unchanged clean) stands,
    ),
  )) (answer clean);
  unchanged = unchanged;
  which = IfErr-weaker r _ _ (λ e h. inr (named, elim h [ inl is ↦ inl is | inr is ↦ inr (inr (is, tt)) ])) refused;
  refused = λ clean. IfErr-weaker r _ _ (λ e h. catalog_cause user number (state g old) e named h) refused;
  cause = cause;
  survives = survives;
}
