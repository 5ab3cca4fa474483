-- The parts of a tree as those of its mail, and the lines of parts so far.
use Rattle.std.proofs.Common.{◌≡◌, ◌∙◌, append_assoc, drop, ◌<◌, ◌++◌, ℕ, zero, suc, List, [], ◌∷◌, ap, arith, length, map, subst, sym, Result, Ok, Err, OnOk}
use Rattle.std.specs.List.{HoldsAt}
use Rattle.std.proofs.lemmas.List.{length-map}
use Rattle.mime_tree.specs.PartTree as tree
use Rattle.mime_decode.specs.Mail.{Mail, Part, mail_of, part_of}
use Rattle.mime_decode.proofs.MailLemmas.{at_mapped, parts_are}
use Rattle.mime_params.specs.declared.media.MediaType.{MediaType}
use Rattle.depot_jobs.specs.Printed.{part_text, parts_text_from}
use Rattle.printing.specs.Printed.{line}

-- the parts of a mail are those of its tree
pub parts_of_tree : {mail : Mail} (octets : List ℕ) → mail ≡ mail_of octets → mail.parts ≡ map part_of (tree.tree_of octets)
parts_of_tree octets is = ap (λ (m : Mail). m.parts) is ∙ parts_are octets

pub as_many : {mail : Mail} (octets : List ℕ) → mail ≡ mail_of octets → length mail.parts ≡ length (tree.tree_of octets)
as_many octets is = ap length (parts_of_tree octets is) ∙ length-map (tree.tree_of octets) part_of

-- what holds of a part of the tree holds of that of the mail
pub holds_at : {mail : Mail} (octets : List ℕ) (P : Part → Type 0) (place : ℕ) → mail ≡ mail_of octets → place < length mail.parts
    → HoldsAt (λ part. P (part_of part)) (tree.tree_of octets) place → HoldsAt P mail.parts place
holds_at {mail} octets P place is lt at =
    let parts = parts_of_tree octets is in
    subst (λ all. HoldsAt P all place) (sym parts) (at_mapped P (tree.tree_of octets) place (omega (arith, lt, as_many octets is)) at)

-- a line was added of what is known of a part: it is the part's line
pub line_added : {T E : Type 0} (r : Result T E) (old new : List ℕ) (parts : List Part) (place depth : ℕ) (media : MediaType) (content : List ℕ)
    → OnOk r (new ≡ old ++ line (part_text place depth media content))
    → HoldsAt (λ p. depth ≡ p.depth) parts place → HoldsAt (λ p. media ≡ tree.without_params p.media) parts place → HoldsAt (λ p. content ≡ p.content) parts place
    → OnOk r (HoldsAt (λ p. new ≡ old ++ line (part_text place p.depth p.media p.content)) parts place)
line_added (Ok x) old new parts place depth media content h is_depth is_media is_content = λ p.
    rw (sym (is_depth p), sym (is_content p)) (subst (λ m. new ≡ old ++ line (part_text place depth m content)) (is_media p) h)
line_added (Err e) old new parts place depth media content h is_depth is_media is_content = tt

-- the line of the next part was added: with the lines of those after it the text is the same whole
pub next_line : (text new whole : List ℕ) (place i : ℕ) (parts : List Part) → i < length parts
    → HoldsAt (λ p. new ≡ text ++ line (part_text place p.depth p.media p.content)) parts i
    → text ++ parts_text_from place (drop i parts) ≡ whole → new ++ parts_text_from (suc place) (drop (suc i) parts) ≡ whole
next_line text new whole place i [] lt added is = absurd (omega (arith, lt))
next_line text new whole place zero (part ∷ parts) lt added is =
    let rest = parts_text_from (suc place) parts in
    ap (λ t. t ++ rest) (added part) ∙ append_assoc text (line (part_text place part.depth part.media part.content)) rest ∙ is
next_line text new whole place (suc i) (part ∷ parts) lt added is = next_line text new whole place i parts (omega (arith, lt)) added is
