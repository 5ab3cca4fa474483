-- What contents that have their digests say of an entry.
use Rattle.std.proofs.Common.{◌≡◌, ◌≢◌, ◌&&◌, inl, inr, ℕ, true, List, [], refl, sym, ap, ap₂, subst, ◌∙◌}
use Rattle.std.proofs.lemmas.Bool.{true≢false}
use Rattle.sha2.specs.Sha256.{sha256}
use Rattle.sqlite_value.specs.Order.{Row, column}
use Rattle.sqlite_value.specs.declared.value.Value.TheVariants.{Blob}
use Rattle.sqlite_trees.specs.Tree.{Trees}
use Rattle.sqlite_rules.specs.Lists.{Has}
use Rattle.sqlite_rules.proofs.ListLemmas.{all_has}
use Rattle.part_store.specs.Tables.{contents_tree, entries_tree, equals}
use Rattle.part_store.specs.Entries.{Entries, no_entries}
use Rattle.part_store.specs.Standing.{HaveDigests, HasContent, IsContentRow, IsEntryRow, StandsFor, content_row}
use Rattle.part_store.specs.Verifying.{IsAltered, IsVerified, Lacks}
use Rattle.part_store.proofs.Apart.{bytes_same, same_bytes}
use Rattle.part_store.proofs.Finding.{content_test, same_blob, zip_found}
use Rattle.part_store.proofs.Removing.{same_row}

-- the empty state has no content
pub none_verified : (db : Trees) → StandsFor db no_entries → HaveDigests db
none_verified db stands d o h =
    let r = stands.named d o h in
    absurd (zip_found (IsEntryRow (db contents_tree)) (db entries_tree) [] r.0 stands.entries r.1).1

-- a row under a digest has the content that is under it
under_digest : (db : Trees) (e : Entries) (digest : List ℕ) (r : Row) → StandsFor db e → Has (db contents_tree) r → equals 1 (Blob digest) r ≡ true
    → (octets : List ℕ) × HasContent (db contents_tree) digest octets × (column r 2 ≡ Blob octets)
under_digest db e digest r stands there is =
    let c = all_has IsContentRow (db contents_tree) r stands.contents there in
    let same = same_bytes c.1 digest (sym (content_test r c.0 c.1 c.2 digest c.3) ∙ is) in
    (c.2, (c.0, subst (Has (db contents_tree)) (c.3 ∙ ap (λ d. content_row c.0 d c.2) same) there), ap (λ (x : Row). column x 2) c.3)

-- a digest that lacks its octets has no content that has it
lacking : (db : Trees) (e : Entries) (digest octets : List ℕ) → StandsFor db e → HasContent (db contents_tree) digest octets → Lacks db digest → sha256 octets ≢ digest
lacking db e digest octets stands h (inl none) is =
    absurd (true≢false (sym (content_test (content_row h.0 digest octets) h.0 digest octets digest refl ∙ bytes_same digest) ∙ none (content_row h.0 digest octets) h.1))
lacking db e digest octets stands h (inr (r, there, under, apart)) is =
    let c = under_digest db e digest r stands there under in
    apart c.0 c.2 (ap sha256 (stands.single digest c.0 octets c.1 h) ∙ is)

pub never_altered : (db : Trees) (e : Entries) (user : List ℕ) (number : ℕ) → StandsFor db e → HaveDigests db → IsAltered db user number → ⊥
never_altered db e user number stands have (r, there, mine, numbered, lacks) =
    let x = zip_found (IsEntryRow (db contents_tree)) (db entries_tree) e.entries r stands.entries there in
    let row = x.2 in
    let named : column r 7 ≡ Blob row.1 = ap (λ (x : Row). column x 7) row.2 in
    lacking db e row.1 x.0.octets stands row.3 (lacks row.1 named) (have row.1 x.0.octets row.3)

-- the octets of an entry aren't both verified and altered
pub never_answered : (db : Trees) (e : Entries) (user : List ℕ) (number : ℕ) (octets : List ℕ) → StandsFor db e → IsVerified db user number octets → IsAltered db user number → ⊥
never_answered db e user number octets stands it (r, there, mine, numbered, lacks) =
    let n = it.named in
    let same = same_row (db contents_tree) (db entries_tree) e.entries user number stands.entries stands.numbers.rising n.0 r n.1 there (ap₂ (λ a b. a && b) n.2 n.3) (ap₂ (λ a b. a && b) mine numbered) in
    let named : column r 7 ≡ Blob (sha256 octets) = ap (λ (x : Row). column x 7) (sym same) ∙ n.4 in
    let c = under_digest db e (sha256 octets) it.kept.0 stands it.kept.1 it.kept.2 in
    lacking db e (sha256 octets) c.0 stands c.1 (lacks (sha256 octets) named) (ap sha256 (sym (same_blob octets c.0 (sym it.kept.3 ∙ c.2))))
