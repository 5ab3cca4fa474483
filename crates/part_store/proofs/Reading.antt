-- The octets of an entry are those under its digest.
use Rattle.std.proofs.Common.{◌≡◌, ◌≢◌, inl, inr, ℕ, true, List, subst, sym, ap, ◌∙◌}
use Rattle.sha2.specs.Sha256.{sha256}
use Rattle.sqlite_trees.specs.Tree.{Trees}
use Rattle.sqlite_trees.specs.declared.store.Store as store
use Rattle.sqlite.specs.Held.{Held, state}
use Rattle.sqlite.specs.State.{State, Survives}
use Rattle.part_store.specs.Tables.{contents_tree}
use Rattle.part_store.specs.Entries.{Entry, Entries}
use Rattle.part_store.specs.Standing.{HasContent, HaveDigests, Stands, IsEntryAt}
use Rattle.part_store.specs.Readings.{NamesDigest}
use Rattle.part_store.specs.Refusals.{OnlyWhenFailed}
use Rattle.part_store.specs.declared.error.StoreError.{StoreError}
use Rattle.part_store.specs.Verifying.{IsAltered, IsVerified, Keeps, Lacks, Names, OnlyWhenFailedOrAltered}
use Rattle.part_store.specs.Inside.{Stays}
use Rattle.part_store.proofs.Entering.{stands_still}
use Rattle.part_store.proofs.Failing.{first_failed}
use Rattle.part_store.proofs.Finding.{entry_there, same_blob}
use Rattle.part_store.proofs.Verified.{never_altered}

pub bytes_read : (old mid : State) (user : List ℕ) (number : ℕ) (digest octets : List ℕ)
    → ((before : Entries) → Stands old.now before → NamesDigest old.now.trees user number digest) → Stays old mid
    → ((before : Entries) → Stands mid.now before → HasContent (mid.now.trees contents_tree) digest octets)
    → (before : Entries) → Stands old.now before → (x : Entry) × IsEntryAt before user number x × (octets ≡ x.octets)
bytes_read old mid user number digest octets told stays content before stands =
    let x = entry_there old.now.trees before user number digest stands.tables (told before stands) in
    let held = content before (stands_still old mid before stays stands) in
    let same = (stays stands.schema).1 in
    (x.0, x.1, stands.tables.single digest octets x.0.octets (subst (λ (t : Trees). HasContent (t contents_tree) digest octets) same held) x.2)

-- octets that have the digest under which they were found
pub verified_bytes : (old mid : Trees) (user : List ℕ) (number : ℕ) (digest octets : List ℕ) → mid ≡ old → Names old user number digest → Keeps mid digest octets → sha256 octets ≡ digest
    → IsVerified old user number octets
verified_bytes old mid user number digest octets same named kept hashes = record {
  named = subst (Names old user number) (sym hashes) named;
  kept = subst (λ d. Keeps old d octets) (sym hashes) (subst (λ t. Keeps t digest octets) same kept);
}

-- a digest that an entry names, under which there are no octets that have it
pub named_lacks : (old mid : Trees) (user : List ℕ) (number : ℕ) (digest : List ℕ) → mid ≡ old → Names old user number digest → Lacks mid digest → IsAltered old user number
named_lacks old mid user number digest same named lacks =
    (named.0, named.1, named.2, named.3, λ d is. subst (Lacks old) (same_blob digest d (sym named.4 ∙ is)) (subst (λ t. Lacks t digest) same lacks))

-- octets under a digest that they don't have
pub other_digest : (db : Trees) (digest octets : List ℕ) → Keeps db digest octets → sha256 octets ≢ digest → Lacks db digest
other_digest db digest octets kept other = inr (kept.0, kept.1, kept.2, λ o is h. absurd (other (ap sha256 (same_blob octets o (sym kept.3 ∙ is)) ∙ h)))

-- a transaction that is dropped after such a refusal
pub dropped_altered : {S : Type 0} (g : store.Ghosts S) (conn : Held S) (mid new : State) (user : List ℕ) (number : ℕ) (e : StoreError) → Survives mid new (λ _. ⊥)
    → OnlyWhenFailedOrAltered user number (state g (record conn { in_transaction = true })) mid e → OnlyWhenFailedOrAltered user number (state g conn) new e
dropped_altered g conn mid new user number e two cause is has = elim (cause is has) [ inl failed ↦ inl (first_failed (state g conn) mid new two failed) | inr altered ↦ inr altered ]

-- where each content has its digest, no octets were altered
pub only_when_failed : (old new : State) (user : List ℕ) (number : ℕ) (e : StoreError) → OnlyWhenFailedOrAltered user number old new e → HaveDigests old.now.trees → OnlyWhenFailed old new e
only_when_failed old new user number e cause have is before stands = elim (cause is stands.schema) [
  | inl failed ↦ failed
  | inr altered ↦ absurd (never_altered old.now.trees before user number stands.tables have altered)
]
