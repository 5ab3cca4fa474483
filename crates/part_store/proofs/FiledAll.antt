-- Entries that are filed one after another.
use Rattle.std.proofs.Common.{◌≡◌, ◌⊎◌, inl, inr, Bool, true, ℕ, ◌+◌, ◌<◌, List, [], ◌∷◌, ◌++◌, length, map, take, drop, get_or, IsTrue, refl, sym, ap, subst, ◌∙◌, append_assoc, arith, add-zero, length-append, ℤ, ◌+ℤ◌, pos, zero, suc}
use Rattle.std.proofs.lemmas.List.{drop_more, take-append-drop, map-append, map_more}
use Rattle.sha2.specs.Sha256.{sha256}
use Rattle.std.proofs.lemmas.Int.{ints}
use Rattle.sqlite_value.specs.Order.{Row}
use Rattle.sqlite_rules.specs.Edit.{next_rowid}
use Rattle.sqlite_rules.specs.Lists.{Has}
use Rattle.sqlite.specs.State.{State, HasCleanDisk, KeepsCommit, Survives}
use Rattle.sqlite.proofs.StateLemmas.{survives_then}
use Rattle.part_store.specs.Tables.{store_schema, contents_tree, entries_tree}
use Rattle.part_store.specs.Entries.{Draft, Entry, Entries, entry_of, numbered}
use Rattle.part_store.specs.Additions.{CanFile, Files, FilesAll, HasDraft, IsNext, RisesBy}
use Rattle.part_store.specs.Filing.{Collides, IsOther}
use Rattle.part_store.specs.Sharing.{octets_at}
use Rattle.part_store.specs.Standing.{HasContent, Stands, draft_of}
use Rattle.part_store.specs.declared.entry.Kind.TheVariants.{Message}
use Rattle.part_store.specs.declared.entry.NewEntry.{NewEntry}

-- ---- lists

has_either : {X : Type 0} (xs ys : List X) (x : X) → Has (xs ++ ys) x → Has xs x ⊎ Has ys x
has_either [] ys x h = inr h
has_either (y ∷ xs) ys x (inl same) = inl (inl same)
has_either (y ∷ xs) ys x (inr later) = elim (has_either xs ys x later) [ inl first ↦ inl (inr first) | inr second ↦ inr second ]

pub has_left : {X : Type 0} (xs ys : List X) (x : X) → Has xs x → Has (xs ++ ys) x
has_left [] ys x h = absurd h
has_left (y ∷ xs) ys x (inl same) = inl same
has_left (y ∷ xs) ys x (inr later) = inr (has_left xs ys x later)

pub has_right : {X : Type 0} (xs ys : List X) (x : X) → Has ys x → Has (xs ++ ys) x
has_right [] ys x h = h
has_right (y ∷ xs) ys x h = inr (has_right xs ys x h)

-- ---- numbers

numbered_push : (user : List ℕ) (number : ℕ) (drafts : List Draft) (d : Draft) → numbered user number (drafts ++ d ∷ []) ≡ numbered user number drafts ++ entry_of user (number + length drafts) d ∷ []
numbered_push user number [] d = ap (λ n. entry_of user n d ∷ []) (sym (add-zero number))
numbered_push user number (x ∷ drafts) d =
    let same : number + 1 + length drafts ≡ number + length (x ∷ drafts) = omega arith in
    ap (λ xs. entry_of user number x ∷ xs) (numbered_push user (number + 1) drafts d ∙ ap (λ n. numbered user (number + 1) drafts ++ entry_of user n d ∷ []) same)

numbered_below : (user : List ℕ) (number : ℕ) (drafts : List Draft) (y : Entry) → Has (numbered user number drafts) y → y.number < number + length drafts
numbered_below user number [] y h = absurd h
numbered_below user number (d ∷ drafts) y (inl same) = let n = ap (λ (x : Entry). x.number) same in omega (arith, n)
numbered_below user number (d ∷ drafts) y (inr later) = omega (arith, numbered_below user (number + 1) drafts y later)

-- ---- one after another

-- so far these drafts were filed
pub record Filing (user : List ℕ) (last count : ℕ) (drafts : List Draft) (old now : State) : Type 0 where
  pub survives : Survives old now (λ _. ⊥)
  pub filed : HasCleanDisk now → (before : Entries) → Stands old.now before → CanFile before user last count → FilesAll user last drafts before old now
  pub inside : HasCleanDisk now → 0 < length drafts → IsTrue now.in_transaction
  pub still : HasCleanDisk now → IsTrue old.in_transaction → IsTrue now.in_transaction
  pub schema : HasCleanDisk now → old.now.schema ≡ store_schema → now.now.schema ≡ store_schema
  pub kept : HasCleanDisk now → old.now.schema ≡ store_schema → KeepsCommit old now

pub next_one : (before : Entries) (user : List ℕ) (last count : ℕ) (drafts : List Draft) (d : Draft) → CanFile before user last count → length drafts < count
    → IsNext (record before { entries = before.entries ++ numbered user (last + 1) drafts }) (entry_of user (last + 1 + length drafts) d)
next_one before user last count drafts d can more = record {
  first = omega arith;
  within = omega (arith, can.claimed, more);
  above = λ y there own. elim (has_either before.entries (numbered user (last + 1) drafts) y there) [
    | inl old ↦ omega (arith, can.free y old own)
    | inr new ↦ numbered_below user (last + 1) drafts y new
  ];
}

-- so many rowids, and then so many
pub more_rowids : (z : ℤ) (m n : ℕ) → (z +ℤ pos m) +ℤ pos n ≡ z +ℤ pos (m + n)
more_rowids z m n = omega (arith, ints)

rises_then : (m n : ℕ) (old mid new : List Row) → RisesBy m old mid → RisesBy n mid new → RisesBy (m + n) old new
rises_then m n old mid new first second = second ∙ ap (λ z. z +ℤ pos n) first ∙ more_rowids (next_rowid old) m n

filed_more : (old mid new : State) (before : Entries) (user : List ℕ) (last : ℕ) (drafts : List Draft) (d : Draft) → FilesAll user last drafts before old mid
    → Files (entry_of user (last + 1 + length drafts) d) (sha256 d.octets) (record before { entries = before.entries ++ numbered user (last + 1) drafts }) mid new
    → FilesAll user last (drafts ++ d ∷ []) before old new
filed_more old mid new before user last drafts d so_far one =
    let x = entry_of user (last + 1 + length drafts) d in
    let all : (before.entries ++ numbered user (last + 1) drafts) ++ x ∷ [] ≡ before.entries ++ numbered user (last + 1) (drafts ++ d ∷ []) =
    append_assoc before.entries (numbered user (last + 1) drafts) (x ∷ []) ∙ ap (λ xs. before.entries ++ xs) (sym (numbered_push user (last + 1) drafts d)) in
    record {
      stands = subst (λ entries. Stands new.now (record before { entries = entries })) all one.stands;
      committed = one.committed ∙ so_far.committed;
      has = λ y h. elim (has_either drafts (d ∷ []) y h) [
        | inl earlier ↦ one.kept (sha256 y.octets) y.octets (so_far.has y earlier)
        | inr (inl same) ↦ subst (λ (z : Draft). HasContent (new.now.trees contents_tree) (sha256 z.octets) z.octets) (sym same) one.has
        | inr (inr none) ↦ absurd none
      ];
      kept = λ g o h. one.kept g o (so_far.kept g o h);
      from = λ g o h. elim (one.from g o h) [
        | inl earlier ↦ elim (so_far.from g o earlier) [
          | inl was ↦ inl was
          | inr (y, there, digest, octets) ↦ inr (y, has_left drafts (d ∷ []) y there, digest, octets)
        ]
        | inr (digest, octets) ↦ inr (d, has_right drafts (d ∷ []) d (inl refl), digest, octets)
      ];
      content_rowids = (
        so_far.content_rowids.0 + one.content_rowids.0,
        omega (arith, so_far.content_rowids.1, one.content_rowids.1, length-append drafts (d ∷ [])),
        rises_then so_far.content_rowids.0 one.content_rowids.0 (old.now.trees contents_tree) (mid.now.trees contents_tree) (new.now.trees contents_tree) so_far.content_rowids.2 one.content_rowids.2,
      );
      entry_rowids = subst (λ n. RisesBy n (old.now.trees entries_tree) (new.now.trees entries_tree)) (sym (length-append drafts (d ∷ [])))
          (rises_then (length drafts) 1 (old.now.trees entries_tree) (mid.now.trees entries_tree) (new.now.trees entries_tree) so_far.entry_rowids one.entry_rowids);
    }

-- what an earlier draft has in common with the next one is under its digest
pub there_already : (user : List ℕ) (last : ℕ) (drafts : List Draft) (d : Draft) (before : Entries) (old mid : State) → FilesAll user last drafts before old mid
    → ((x : Draft) × Has drafts x × (x.octets ≡ d.octets)) → HasDraft mid.now.trees d
there_already user last drafts d before old mid was x = subst (λ o. HasContent (mid.now.trees contents_tree) (sha256 o) o) x.2 (was.has x.0 x.1)

pub one_more : (user : List ℕ) (last count number : ℕ) (drafts more : List Draft) (d : Draft) (is_there : Bool) (old mid new : State) → (is_there ≡ true → (x : Draft) × Has drafts x × (x.octets ≡ d.octets)) → length drafts < count → number ≡ last + 1 + length drafts → more ≡ drafts ++ d ∷ [] → Filing user last count drafts old mid
    → Survives mid new (λ _. ⊥)
    → (HasCleanDisk new → (before : Entries) → Stands mid.now before → IsNext before (entry_of user number d) → (is_there ≡ true → HasDraft mid.now.trees d) → Files (entry_of user number d) (sha256 d.octets) before mid new)
    → (HasCleanDisk new → IsTrue new.in_transaction) → (HasCleanDisk new → mid.now.schema ≡ store_schema → new.now.schema ≡ store_schema)
    → (HasCleanDisk new → mid.now.schema ≡ store_schema → KeepsCommit mid new) → Filing user last count more old new
one_more user last count number drafts more d is_there old mid new earlier within is all so_far survives files inside schema kept =
    let early = λ (clean : HasCleanDisk new). let e : HasCleanDisk mid = omega (arith, survives.clean) in e in
    let far = survives_then old mid new (λ _. ⊥) (λ _. ⊥) (λ _. ⊥) (λ _ _ h. h) (λ _ _ h. h) so_far.survives survives in
    subst (λ ds. Filing user last count ds old new) (sym all) (record {
      survives = far;
      filed = λ clean before stands can.
          let was = so_far.filed (early clean) before stands can in
          let there = λ (is : is_there ≡ true). there_already user last drafts d before old mid was (earlier is) in
          let one = subst (λ n. IsNext (record before { entries = before.entries ++ numbered user (last + 1) drafts }) (entry_of user n d)
          → (is_there ≡ true → HasDraft mid.now.trees d) → Files (entry_of user n d) (sha256 d.octets) (record before { entries = before.entries ++ numbered user (last + 1) drafts }) mid new) is (files clean _ was.stands) in
          filed_more old mid new before user last drafts d was (one (next_one before user last count drafts d can within) there);
      inside = λ clean _. inside clean;
      still = λ clean _. inside clean;
      schema = λ clean has. schema clean (so_far.schema (early clean) has);
      kept = λ clean has.
          let first = so_far.kept (early clean) has in
          let second = kept clean (so_far.schema (early clean) has) in
          record { was_open = λ h. first.was_open (second.was_open h); committed = λ h. second.committed h ∙ first.committed (second.was_open h) };
    })

-- other octets are under the digest of the next one
pub collides : (user : List ℕ) (last count : ℕ) (drafts later whole : List Draft) (d : Draft) (old mid : State) → HasCleanDisk mid → whole ≡ drafts ++ d ∷ later → Filing user last count drafts old mid
    → ((before : Entries) → Stands mid.now before → IsOther mid.now.trees (sha256 d.octets) d.octets) → (before : Entries) → Stands old.now before → CanFile before user last count → Collides old.now.trees whole
collides user last count drafts later whole d old mid clean is so_far other before stands can =
    let was = so_far.filed clean before stands can in
    let o = other _ was.stands in
    record {
      earlier = drafts;
      draft = d;
      later = later;
      place = is;
      other = elim (was.from (sha256 d.octets) o.0 o.1) [
        | inl there ↦ inl (o.0, there, o.2)
        | inr (x, there, digest, octets) ↦ inr (x, there, sym digest, λ same. o.2 (octets ∙ same))
      ];
    }

-- ---- the entries of a list

-- what a list of entries has at a place past its end
abbrev pub no_entry : NewEntry
no_entry = record { folder = record { ref_ptr = (0, 0); now = [] }; kind = Message; name = record { ref_ptr = (0, 0); now = [] }; media = record { ref_ptr = (0, 0); now = [] }; octets = record { ref_ptr = (0, 0); now = [] } }

-- the entry at a place
abbrev pub entry_at : List NewEntry → ℕ → NewEntry
entry_at entries place = get_or entries place no_entry

pub drafts_more : (entries : List NewEntry) (place : ℕ) → place < length entries
    → map draft_of (take (place + 1) entries) ≡ map draft_of (take place entries) ++ draft_of (entry_at entries place) ∷ []
drafts_more entries place lt = map_more draft_of entries place no_entry lt

pub drafts_split : (entries : List NewEntry) (place : ℕ) → place < length entries
    → map draft_of entries ≡ map draft_of (take place entries) ++ draft_of (entry_at entries place) ∷ map draft_of (drop (place + 1) entries)
drafts_split entries place lt =
    ap (map draft_of) (sym (take-append-drop place entries) ∙ ap (λ rest. take place entries ++ rest) (drop_more entries place no_entry lt))
    ∙ map-append draft_of (take place entries) (entry_at entries place ∷ drop (place + 1) entries)

-- the octets of the draft at a place are those of the entry there
pub octets_here : (entries : List NewEntry) (place : ℕ) → octets_at (map draft_of entries) place ≡ (draft_of (entry_at entries place)).octets
octets_here [] place = refl
octets_here (e ∷ entries) zero = refl
octets_here (e ∷ entries) (suc place) = octets_here entries place

taken_has : (entries : List NewEntry) (place first : ℕ) → first < place → first < length entries → Has (map draft_of (take place entries)) (draft_of (entry_at entries first))
taken_has [] place first lt long = absurd (omega (arith, long))
taken_has (e ∷ entries) zero first lt long = absurd (omega (arith, lt))
taken_has (e ∷ entries) (suc place) zero lt long = inl refl
taken_has (e ∷ entries) (suc place) (suc first) lt long = inr (taken_has entries place first (omega (arith, lt)) (omega (arith, long)))

-- octets that an earlier entry has are those of a draft before this place
pub earlier_draft : (entries : List NewEntry) (place : ℕ) → place < length entries
    → ((first : ℕ) × (first < place) × (octets_at (map draft_of entries) first ≡ (draft_of (entry_at entries place)).octets))
    → (x : Draft) × Has (map draft_of (take place entries)) x × (x.octets ≡ (draft_of (entry_at entries place)).octets)
earlier_draft entries place lt (first, before, same) =
    (draft_of (entry_at entries first), taken_has entries place first before (omega (arith, lt, before)), sym (octets_here entries first) ∙ same)
