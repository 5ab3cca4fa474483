-- The media types of parts.
use Rattle.std.proofs.Common.{◌≡◌, ◌∙◌, ◌<◌, ℕ, List, ap, arith, length, map, subst, sym, inl, inr}
use Rattle.std.specs.Prelude.{slice_get}
use Rattle.std.specs.List.{HoldsAt}
use Rattle.std.proofs.lemmas.List.{length-map}
use Rattle.std.proofs.lemmas.Option.{slice_get_cases}
use Rattle.mime_tree.specs.PartTree as tree
use Rattle.mime_decode.specs.Mail.{Mail, Part, mail_of, part_of}
use Rattle.mime_decode.proofs.MailLemmas.{at_mapped, parts_are}
use Rattle.mime_params.specs.MediaValue.{media_text}
use Rattle.mime_params.specs.declared.media.MediaType.{MediaType}
use Rattle.sieve_trace.specs.Printed.{media_of}

-- the parts of a mail are as many as those of its tree
pub as_many : {mail : Mail} (octets : List ℕ) → mail ≡ mail_of octets → length mail.parts ≡ length (tree.tree_of octets)
as_many octets is = ap (λ (m : Mail). length m.parts) is ∙ ap length (parts_are octets) ∙ length-map (tree.tree_of octets) part_of

-- the media type of a part of the tree is printed as that of the mail's part
pub media_told : (mail : Mail) (octets : List ℕ) (place : ℕ) (media : MediaType) → mail ≡ mail_of octets → place < length mail.parts
    → HoldsAt (λ part. media ≡ tree.without_params part.media) (tree.tree_of octets) place → media_text media ≡ media_of (slice_get mail.parts place)
media_told mail octets place media is lt h =
    let parts : mail.parts ≡ map part_of (tree.tree_of octets) = ap (λ (m : Mail). m.parts) is ∙ parts_are octets in
    let at = subst (λ all. HoldsAt (λ (p : Part). media ≡ tree.without_params p.media) all place) (sym parts) (at_mapped (λ (p : Part). media ≡ tree.without_params p.media) (tree.tree_of octets) place (omega (arith, lt, as_many octets is)) h) in
    elim (slice_get_cases mail.parts place).1 [
      | inl found ↦ ap media_text (at found.0) ∙ ap (λ (p : Part). media_text p.media) found.3 ∙ ap media_of (sym found.2)
      | inr past ↦ absurd (let le = past.0 in omega (arith, lt, le))
    ]
