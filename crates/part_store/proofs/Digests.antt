-- What changes leave of contents that have their digests.
use Rattle.std.proofs.Common.{◌≡◌, inl, inr, List, ℕ, sym, ap, subst, ◌∙◌}
use Rattle.sha2.specs.Sha256.{sha256}
use Rattle.sqlite_trees.specs.Tree.{Trees}
use Rattle.part_store.specs.Tables.{contents_tree}
use Rattle.part_store.specs.Additions.{IsOfDraft}
use Rattle.part_store.specs.Entries.{Draft}
use Rattle.part_store.specs.Standing.{AddsVerified, HaveDigests, HasContent}

pub same_verified : (old new : Trees) → new contents_tree ≡ old contents_tree → AddsVerified old new
same_verified old new same d o h = inl (subst (λ rows. HasContent rows d o) same h)

pub then_verified : (old mid new : Trees) → AddsVerified old mid → AddsVerified mid new → AddsVerified old new
then_verified old mid new first second d o h = elim (second d o h) [ inl earlier ↦ first d o earlier | inr has ↦ inr has ]

-- the octets of a draft are filed under their digest
pub draft_verified : (drafts : List Draft) (d o : List ℕ) → IsOfDraft drafts d o → sha256 o ≡ d
draft_verified drafts d o (x, there, digest, octets) = ap sha256 octets ∙ sym digest

pub digests_stay : (old new : Trees) → AddsVerified old new → HaveDigests old → HaveDigests new
digests_stay old new adds have d o h = elim (adds d o h) [ inl was ↦ have d o was | inr has ↦ has ]
