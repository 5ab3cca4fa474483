-- How far the parts of a message go: up to the next line that ends a part of any multipart around them.
use Rattle.std.specs.Prelude.{◌≡◌, ℕ, zero, suc, ◌-◌, ◌==◌, ◌&&◌, Bool, false, List, [], ◌∷◌, ◌++◌, length, drop, flat_map, Option, None, Some, codes, if◌then◌else◌}
use Rattle.std.specs.List.{list_any}
use Rattle.octets.specs.Limits.{max_depth}
use Rattle.octets.specs.Blank.{without_trailing_blanks}
use Rattle.text_lines.specs.Lines.{TextLine, line_octets, lines_of}
use Rattle.mime_params.specs.MediaValue.{value_named}
use Rattle.mime_params.specs.declared.media.MediaType.{MediaType}
use Rattle.octets.specs.Ascii.{is_word}
use Rattle.mime_tree.specs.PartTree.{Part, Stretch, is_plain, ends_child, default_below, children_of, part_at, text_plain}

-- a part, and the boundaries of the multiparts that it is in, the innermost first
pub record Enclosed : Type 0 where
  pub part : Part
  pub boundaries : List (List ℕ)

-- the boundary between the children of a part, if it can have several
abbrev pub boundary_between : Option (List ℕ) → List (List ℕ)
boundary_between None = []
boundary_between (Some value) =
    let boundary = without_trailing_blanks value in
    if length boundary == 0 then [] else boundary ∷ []

abbrev pub boundary_of : Part → List (List ℕ)
boundary_of part =
    if is_plain part.encoding && is_word part.media.main (codes "multipart") then boundary_between (value_named (codes "boundary") part.media.params) else []

-- the parts of a stretch in preorder, as in the tree, each with the boundaries around it
unfoldable pub enclosed_of : ℕ → MediaType → List (List ℕ) → Stretch → List Enclosed
enclosed_of zero default around stretch = record { part = part_at max_depth default stretch; boundaries = around } ∷ []
enclosed_of (suc levels) default around stretch =
    let part = part_at (max_depth - suc levels) default stretch in
    let inside = flat_map (enclosed_of levels (default_below part.media) (boundary_of part ++ around)) (children_of part) in
    record { part = record part { below = length inside }; boundaries = around } ∷ inside

-- the parts of a message
abbrev pub enclosed_in : List ℕ → List Enclosed
enclosed_in octets = enclosed_of (max_depth - 1) text_plain [] (record { place = 0; octets = octets })

-- the line is a delimiter or closing line of any of these boundaries
abbrev pub ends_any : List (List ℕ) → List ℕ → Bool
ends_any boundaries line = list_any (λ boundary. ends_child boundary line) boundaries

abbrev pub first_ends_any : List (List ℕ) → List TextLine → Bool
first_ends_any boundaries [] = false
first_ends_any boundaries (line ∷ lines) = ends_any boundaries line.content

-- the octets of the lines up to the first of these, whose break before it isn't theirs; without one those of all lines
abbrev pub octets_before : List (List ℕ) → List TextLine → List ℕ
octets_before boundaries [] = []
octets_before boundaries (line ∷ lines) =
    if ends_any boundaries line.content then []
    else if first_ends_any boundaries lines then line.content
    else line_octets line ++ octets_before boundaries lines

-- the part goes up to the first line after its beginning that ends a part of any multipart around it
abbrev pub IsEnded : List ℕ → Enclosed → Type 0
IsEnded octets enclosed = enclosed.part.raw ≡ octets_before enclosed.boundaries (lines_of (drop enclosed.part.place octets))
