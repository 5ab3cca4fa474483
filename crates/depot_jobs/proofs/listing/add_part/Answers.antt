use Rattle.std.proofs.Common.{◌≡◌, ◌∙◌, List, arith, length, ap, subst}
use Rattle.std.specs.List.{HoldsAt}
use Rattle.mime_tree.specs.PartTree as tree
use Rattle.mime_decode.specs.Mail.{Part, part_of}
use Rattle.depot_jobs.proofs.ListingLemmas.{as_many, holds_at, line_added}
use Rattle.depot_jobs.proofs.listing.add_part.Goals as goal

pub depth-requires : goal.depth-requires
depth-requires c =
    let number = as_many c.args.message.now.octets c.tree-tree.ensures.mail in
    let known = ap length c.tree-tree.ensures.tree in
    omega (arith, number, known, c.requires)

pub media_without_params-requires : goal.media_without_params-requires
media_without_params-requires c =
    let number = as_many c.args.message.now.octets c.tree-tree.ensures.mail in
    let known = ap length c.tree-tree.ensures.tree in
    omega (arith, number, known, c.requires)

pub returns : goal.returns
returns c =
    let octets = c.args.message.now.octets in
    let place = c.args.part in
    let parts = c.args.message.now.parts in
    let at = λ (P : Part → Type 0) (h : HoldsAt (λ part. P (part_of part)) c.tree-tree.result.now place).
    holds_at octets P place c.tree-tree.ensures.mail c.requires (subst (λ (all : List tree.Part). HoldsAt (λ part. P (part_of part)) all place) c.tree-tree.ensures.tree h) in
    line_added c.add_line.result c.args.text.now.items c.add_line.new.text.items parts place c.depth.result c.media_without_params.result.now c.as_slice.result.now
    c.add_line.ensures
    (at (λ (p : Part). c.depth.result ≡ p.depth) c.depth.ensures)
    (at (λ (p : Part). c.media_without_params.result.now ≡ tree.without_params p.media) c.media_without_params.ensures)
    (λ p. c.as_slice.ensures.value ∙ c.in_ok-content.ensures.content p)
