-- How many octets the contents of all parts have together.
use Rattle.std.proofs.Common.{ℕ, ◌*◌, ◌≤◌, List, [], ◌∷◌, map, arith, length}
use Rattle.std.proofs.lemmas.List.{length-drop}
use Rattle.std.proofs.lemmas.List.Sums.{sum_by-cons}
use Rattle.octets.specs.Limits.{max_depth}
use Rattle.mime_tree.specs.PartTree as tree
use Rattle.mime_tree.specs.Together as trees
use Rattle.mime_tree.proofs.Together.{tree_together}
use Rattle.mime_decode.specs.Mail.{Part, mail_of, part_of}
use Rattle.mime_decode.specs.Together.{contents_together}
use Rattle.mime_decode.proofs.Contents.{content_fits}

-- a part's content is no longer than its octets
contents_below : (parts : List tree.Part) → contents_together (map part_of parts) ≤ trees.octets_together parts
contents_below [] = omega arith
contents_below (part ∷ parts) =
    omega (
      arith,
      sum_by-cons (λ (p : Part). length p.content) (part_of part) (map part_of parts),
      sum_by-cons (λ (p : tree.Part). length p.raw) part parts,
      content_fits part.encoding (tree.body_of part),
      length-drop part.header.body_start part.raw,
      contents_below parts,
    )

pub mail_together : (octets : List ℕ) → contents_together (mail_of octets).parts ≤ max_depth * length octets
unfolding mail_of
mail_together octets = omega (arith, contents_below (tree.tree_of octets), tree_together octets)
