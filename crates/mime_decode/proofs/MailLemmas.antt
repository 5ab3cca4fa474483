-- What holds of the mail that octets are.
use Rattle.std.proofs.Common.{◌≡◌, ℕ, zero, suc, ◌+◌, ◌<◌, ◌≤◌, List, [], ◌∷◌, length, map, refl, sym, ◌∙◌, ap, subst, arith}
use Rattle.std.specs.Prelude.{slice_get, Option, Some, None}
use Rattle.std.specs.List.{HoldsAt}
use Rattle.std.specs.Option.{option_map}
use Rattle.std.proofs.lemmas.List.{length-map}
use Rattle.std.proofs.lemmas.List.Sums.{sum_by-cons}
use Rattle.std.proofs.lemmas.Option.{slice_get-map}
use Rattle.header_fields.specs.Extent.{fields_extent}
use Rattle.mime_tree.specs.PartTree as tree
use Rattle.mime_tree.specs.Order as order
use Rattle.mime_tree.proofs.Places.{tree_extent, tree_nests, tree_within}
use Rattle.mime_decode.specs.Mail.{Part, Mail, IsMail, IsReadable, IsWithin, below_of, mail_of, part_of, parts_extent, size_of}
use Rattle.mime_tree.specs.Refusals.{IsTreeRefusal}
use Rattle.mime_tree.specs.declared.error.MessageError.{MessageError}
use Rattle.mime_tree.specs.declared.error.MessageError.TheVariants.{Memory, MessageTooLarge, TooManyParts}
use Rattle.mime_decode.specs.Refusals.{IsMessageRefusal}
use Rattle.mime_decode.proofs.Contents.{content_fits}

pub size_is : (octets : List ℕ) → size_of (mail_of octets) ≡ length octets
unfolding mail_of
size_is octets = refl

pub parts_are : (octets : List ℕ) → (mail_of octets).parts ≡ map part_of (tree.tree_of octets)
unfolding mail_of
parts_are octets = refl

pub parts_number : (octets : List ℕ) → length (mail_of octets).parts ≡ length (tree.tree_of octets)
parts_number octets = ap length (parts_are octets) ∙ length-map (tree.tree_of octets) part_of

tree_some : (octets : List ℕ) → 0 < length (tree.tree_of octets)
unfolding tree.parts_of
tree_some octets = omega arith

-- a part of a mail is one of the tree
record FromTree (parts : List tree.Part) (place : ℕ) (part : Part) : Type 0 where
  part_in : tree.Part
  here : slice_get parts place ≡ Some part_in
  same : part_of part_in ≡ part

of_option : (parts : List tree.Part) (place : ℕ) (part : Part) (found : Option tree.Part) → slice_get parts place ≡ found → option_map part_of found ≡ Some part → FromTree parts place part
of_option parts place part None e h = absurd (cc)
of_option parts place part (Some p) e h = record { part_in = p; here = e; same = cc }

from_tree : (parts : List tree.Part) (place : ℕ) (part : Part) → slice_get (map part_of parts) place ≡ Some part → FromTree parts place part
from_tree parts place part e = of_option parts place part (slice_get parts place) refl (sym (slice_get-map part_of parts place) ∙ e)

-- parts of a mail nest as those of the tree do
nests_as : (parts : List tree.Part) (place : ℕ) (part : tree.Part) → order.Nests order.below_of parts place part → order.Nests below_of (map part_of parts) place (part_of part)
nests_as parts place part nests =
    let number = length-map parts part_of in
    record {
      within = omega (arith, nests.within, number);
      inner = λ other inside after before here.
          let from = from_tree parts other inside here in
          let stays = nests.inner other from.part_in after before from.here in
          let below : from.part_in.below ≡ inside.below = ap (λ (p : Part). p.below) from.same in
          omega (arith, stays, below);
    }

mail_nests : (octets : List ℕ) (place : ℕ) (part : Part) → slice_get (mail_of octets).parts place ≡ Some part → order.Nests below_of (mail_of octets).parts place part
unfolding mail_of
mail_nests octets place part e =
    let from = from_tree (tree.tree_of octets) place part e in
    subst (order.Nests below_of (map part_of (tree.tree_of octets)) place) from.same (nests_as (tree.tree_of octets) place from.part_in (tree_nests octets place from.part_in from.here))

within_as : (octets : List ℕ) (part : tree.Part) → order.IsInMessage octets part → IsWithin (mail_of octets) (part_of part)
unfolding mail_of
within_as octets part inside =
    record {
      content = content_fits part.encoding (tree.body_of part);
      body = omega (arith, inside.within, inside.body);
    }

mail_within : (octets : List ℕ) (place : ℕ) (part : Part) → slice_get (mail_of octets).parts place ≡ Some part → IsWithin (mail_of octets) part
mail_within octets place part e =
    let from = from_tree (tree.tree_of octets) place part (ap (λ parts. slice_get parts place) (sym (parts_are octets)) ∙ e) in
    subst (IsWithin (mail_of octets)) from.same (within_as octets from.part_in (tree_within octets place from.part_in from.here))

extent_as : (parts : List tree.Part) → parts_extent (map part_of parts) ≡ order.parts_extent parts
extent_as [] = refl
extent_as (part ∷ parts) =
    sum_by-cons (λ (p : Part). fields_extent p.fields) (part_of part) (map part_of parts)
    ∙ ap (λ n. fields_extent part.header.fields + n) (extent_as parts)
    ∙ sym (sum_by-cons (λ (p : tree.Part). fields_extent p.header.fields) part parts)

mail_extent : (octets : List ℕ) → parts_extent (mail_of octets).parts ≤ size_of (mail_of octets)
unfolding mail_of
mail_extent octets = omega (arith, extent_as (tree.tree_of octets), tree_extent octets)

pub is_mail : (octets : List ℕ) → IsReadable octets → IsMail (mail_of octets)
is_mail octets readable =
    let size = size_is octets in
    let number = parts_number octets in
    record {
      small = omega (arith, size, readable.small);
      has_root = omega (arith, number, tree_some octets);
      few_parts = omega (arith, number, readable.few_parts);
      nests = mail_nests octets;
      within = mail_within octets;
      fields = mail_extent octets;
    }

-- ---- what a message that was read holds: its octets, and their tree

pub record Holds (octets : List ℕ) (parts : List tree.Part) (mail : Mail) : Type 0 where
  pub readable : IsReadable octets
  pub tree_is : parts ≡ tree.tree_of octets
  pub mail_is : mail_of octets ≡ mail

pub octets_are : (octets : List ℕ) → (mail_of octets).octets ≡ octets
unfolding mail_of
octets_are octets = refl

pub holds_octets : {octets : List ℕ} {parts : List tree.Part} {mail : Mail} → Holds octets parts mail → octets ≡ mail.octets
holds_octets {octets} h = sym (octets_are octets) ∙ ap (λ (m : Mail). m.octets) h.mail_is

pub holds_parts : {octets : List ℕ} {parts : List tree.Part} {mail : Mail} → Holds octets parts mail → mail.parts ≡ map part_of parts
holds_parts {octets} h = ap (λ (m : Mail). m.parts) (sym h.mail_is) ∙ parts_are octets ∙ ap (map part_of) (sym h.tree_is)

pub holds_number : {octets : List ℕ} {parts : List tree.Part} {mail : Mail} → Holds octets parts mail → length parts ≡ length mail.parts
holds_number {octets} {parts} h = sym (ap length (holds_parts h) ∙ length-map parts part_of)

pub holds_mail : {octets : List ℕ} {parts : List tree.Part} {mail : Mail} → Holds octets parts mail → IsMail mail
holds_mail {octets} h = subst IsMail h.mail_is (is_mail octets h.readable)

pub at_mapped : (P : Part → Type 0) (parts : List tree.Part) (place : ℕ) → place < length parts → HoldsAt (λ part. P (part_of part)) parts place → HoldsAt P (map part_of parts) place
at_mapped P [] place lt h = absurd (omega (arith, lt))
at_mapped P (part ∷ parts) zero lt h = λ d. h part
at_mapped P (part ∷ parts) (suc place) lt h = at_mapped P parts place (omega (arith, lt)) h

-- the parts of a mail are those of its tree
pub tree_number : (mail : Mail) → mail ≡ mail_of mail.octets → length (tree.tree_of mail.octets) ≡ length mail.parts
tree_number mail is = sym (parts_number mail.octets) ∙ ap (λ (m : Mail). length m.parts) (sym is)

pub at_part : (mail : Mail) → mail ≡ mail_of mail.octets → (P : Part → Type 0) (place : ℕ) → place < length mail.parts → HoldsAt (λ (p : tree.Part). P (part_of p)) (tree.tree_of mail.octets) place → HoldsAt P mail.parts place
at_part mail is P place lt h =
    subst (λ parts. HoldsAt P parts place) (sym (ap (λ (m : Mail). m.parts) is ∙ parts_are mail.octets))
    (at_mapped P (tree.tree_of mail.octets) place (omega (arith, lt, tree_number mail is)) h)

-- what holds of a part of the tree holds of that of the mail
pub holds_at : {octets : List ℕ} {parts : List tree.Part} {mail : Mail} (P : Part → Type 0) (place : ℕ) → Holds octets parts mail → place < length mail.parts → HoldsAt (λ part. P (part_of part)) parts place → HoldsAt P mail.parts place
holds_at {octets} {parts} {mail} P place h lt at =
    subst (λ all. HoldsAt P all place) (sym (holds_parts h)) (at_mapped P parts place (omega (arith, lt, holds_number h)) at)

pub refused_by_tree : (octets : List ℕ) (e : MessageError) → IsTreeRefusal octets e → IsMessageRefusal octets e
refused_by_tree octets Memory h = tt
refused_by_tree octets MessageTooLarge h = h
refused_by_tree octets TooManyParts h = let number = parts_number octets in (h.0, omega (arith, number, h.1))
