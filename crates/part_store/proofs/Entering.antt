-- Drafts become a user's entries: their numbers are claimed, and then they are filed.
use Rattle.std.proofs.Common.{◌≡◌, inl, inr, ℕ, ◌+◌, ◌≤◌, List, ◌∷◌, ◌++◌, length, refl, sym, ap, subst, ◌∙◌, arith}
use Rattle.sha2.specs.Sha256.{sha256}
use Rattle.sqlite_rules.specs.Lists.{Has}
use Rattle.sqlite_rules.proofs.ListLemmas.{all_has}
use Rattle.sqlite.specs.Effect.{Database}
use Rattle.sqlite.specs.State.{State, KeepsCommit}
use Rattle.part_store.specs.Tables.{contents_tree}
use Rattle.part_store.specs.Entries.{Draft, Entry, Entries, numbered, with_entries, with_last}
use Rattle.part_store.specs.Additions.{CanFile, Claims, Enters, FilesAll, HasDraft}
use Rattle.part_store.specs.Filing.{Collides}
use Rattle.part_store.specs.Standing.{HasContent, Stands, StandsFor}
use Rattle.part_store.specs.Inside.{Stays}
use Rattle.part_store.proofs.Digests.{draft_verified}
use Rattle.part_store.proofs.FiledAll.{has_left, has_right}
use Rattle.part_store.proofs.Programs.{bytes_same}
use Rattle.part_store.proofs.Stored.{still_listed}

-- the numbers after the last one are free once they are claimed
pub can_file : (d : Database) (before : Entries) (user : List ℕ) (last count : ℕ) → Stands d before → last ≡ before.lasts user → CanFile (with_last user (last + count) before) user last count
can_file d before user last count stands is = record {
  claimed = rw (bytes_same user) (omega arith);
  free = λ y there own.
      let within = all_has (λ (x : Entry). (1 ≤ x.number) × (x.number ≤ before.lasts x.user)) before.entries y stands.tables.numbers.given there in
      omega (arith, within.1, ap before.lasts own, is);
}

-- none of the drafts that were filed collides
no_other : (old new : State) (e : Entries) (drafts : List Draft) → Stands new.now e → ((d : Draft) → Has drafts d → HasDraft new.now.trees d)
    → ((g o : List ℕ) → HasContent (old.now.trees contents_tree) g o → HasContent (new.now.trees contents_tree) g o) → Collides old.now.trees drafts → ⊥
no_other old new e drafts stands has kept h =
    let mine = has h.draft (subst (λ ds. Has ds h.draft) (sym h.place) (has_right h.earlier (h.draft ∷ h.later) h.draft (inl refl))) in
    elim h.other [
      | inl (o, there, apart) ↦ apart (stands.tables.single (sha256 h.draft.octets) o h.draft.octets (kept (sha256 h.draft.octets) o there) mine)
      | inr (x, there, same, apart) ↦
          let other = has x (subst (λ ds. Has ds x) (sym h.place) (has_left h.earlier (h.draft ∷ h.later) x there)) in
          apart (stands.tables.single (sha256 h.draft.octets) x.octets h.draft.octets (subst (λ g. HasContent (new.now.trees contents_tree) g x.octets) same other) mine)
    ]

pub entered : (old mid new : State) (user : List ℕ) (last count : ℕ) (drafts : List Draft) (before : Entries) → count ≡ length drafts → last ≡ before.lasts user → Claims user (last + count) before old mid
    → FilesAll user last drafts (with_last user (last + count) before) mid new → Enters user drafts before old new
entered old mid new user last count drafts before long is claims files =
    let from = λ (g o : List ℕ) (h : HasContent (old.now.trees contents_tree) g o). files.kept g o (subst (λ rows. HasContent rows g o) (sym claims.contents) h) in
    let same : record (with_last user (last + count) before) { entries = before.entries ++ numbered user (last + 1) drafts } ≡ with_entries user drafts before = rw (long, is) refl in
    record {
      was_open = claims.was_open;
      stands = subst (Stands new.now) same files.stands;
      committed = files.committed ∙ claims.committed;
      apart = no_other old new _ drafts files.stands files.has from;
      verified = λ g o h. elim (files.from g o h) [
        | inl was ↦ inl (subst (λ rows. HasContent rows g o) claims.contents was)
        | inr of ↦ inr (draft_verified drafts g o of)
      ];
    }

pub collides_before : (old mid : State) (drafts : List Draft) → mid.now.trees contents_tree ≡ old.now.trees contents_tree → Collides mid.now.trees drafts → Collides old.now.trees drafts
collides_before old mid drafts same h = record {
  earlier = h.earlier;
  draft = h.draft;
  later = h.later;
  place = h.place;
  other = elim h.other [
    | inl (o, there, apart) ↦ inl (o, subst (λ rows. HasContent rows (sha256 h.draft.octets) o) same there, apart)
    | inr among ↦ inr among
  ];
}

-- what was read leaves the tables as they were
pub stands_still : (old new : State) (before : Entries) → Stays old new → Stands old.now before → Stands new.now before
stands_still old new before stays stands =
    let same = stays stands.schema in
    record { schema = same.0; listed = still_listed old.now new.now same.0 same.1 stands; tables = subst (λ t. StandsFor t before) (sym same.1) stands.tables }

pub kept_then : (old mid new : State) → KeepsCommit old mid → KeepsCommit mid new → KeepsCommit old new
kept_then old mid new first second = record { was_open = λ h. first.was_open (second.was_open h); committed = λ h. second.committed h ∙ first.committed (second.was_open h) }

pub collides_after : (old new : State) (drafts : List Draft) → new.now.trees ≡ old.now.trees → Collides old.now.trees drafts → Collides new.now.trees drafts
collides_after old new drafts same h = subst (λ t. Collides t drafts) (sym same) h
