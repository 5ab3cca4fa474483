-- The trees of small messages, by computation.
use Rattle.std.proofs.Common.{◌≡◌, ℕ, List, [], ◌∷◌, ◌++◌, refl, codes, map}
use Rattle.mime_params.specs.MediaValue.{media_type_of, param_at}
use Rattle.mime_tree.specs.PartTree.{Part, text_plain, message_rfc822, tree_of, parts_of, body_of}

-- what is checked of a part: its depth, how many parts are below it, and its body
record Seen : Type 0 where
  depth : ℕ
  below : ℕ
  body : List ℕ

abbrev seen : Part → Seen
seen part = record { depth = part.depth; below = part.below; body = body_of part }

abbrev part : ℕ → ℕ → List ℕ → Seen
part depth below body = record { depth = depth; below = below; body = body }

abbrev lf : List ℕ
lf = 10 ∷ []

abbrev cr : List ℕ
cr = 13 ∷ []

-- lines, each with its break
abbrev lines : List (List ℕ) → List ℕ
lines [] = []
lines (line ∷ others) = line ++ lf ++ lines others

-- a multipart with this boundary, and its body
abbrev mixed : List ℕ → List ℕ → List ℕ
mixed boundary body = codes "Content-Type: multipart/mixed; boundary=" ++ boundary ++ lf ++ lf ++ body

no_octets : map seen (tree_of []) ≡ part 1 0 [] ∷ []
unfolding parts_of media_type_of param_at
no_octets = refl

one_leaf : map seen (tree_of (lf ++ codes "abc")) ≡ part 1 0 (codes "abc") ∷ []
unfolding parts_of media_type_of param_at
one_leaf = refl

-- an outer delimiter ends an inner multipart
abbrev nested_body : List ℕ
nested_body = lines (codes "--o" ∷ []) ++ mixed (codes "i") (lines (codes "--i" ∷ [] ∷ codes "A" ∷ codes "--o" ∷ [] ∷ codes "B" ∷ [])) ++ codes "--o--"

nested : map seen (tree_of (mixed (codes "o") nested_body))
    ≡ part 1 3 nested_body ∷ part 2 1 (codes "--i" ++ lf ++ lf ++ codes "A") ∷ part 3 0 (codes "A") ∷ part 2 0 (codes "B") ∷ []
unfolding parts_of media_type_of param_at
nested = refl

-- children without lines
abbrev empty_children : List ℕ
empty_children = lines (codes "--b" ∷ codes "--b" ∷ codes "--b--" ∷ [])

empty : map seen (tree_of (mixed (codes "b") empty_children)) ≡ part 1 2 empty_children ∷ part 2 0 [] ∷ part 2 0 [] ∷ []
unfolding parts_of media_type_of param_at
empty = refl

-- no line is the first delimiter
no_delimiter : map seen (tree_of (mixed (codes "b") (codes "--bc" ++ lf ++ codes "--b--"))) ≡ part 1 0 (codes "--bc" ++ lf ++ codes "--b--") ∷ []
unfolding parts_of media_type_of param_at
no_delimiter = refl

-- a closing line before the first delimiter, blanks behind delimiters, and what follows the closing line
abbrev around : List ℕ
around = lines (codes "--b--" ∷ codes "--b " ∷ [] ∷ codes "x" ∷ codes "--b--  " ∷ codes "--b" ∷ codes "y" ∷ [])

ignored_around : map seen (tree_of (mixed (codes "b") around)) ≡ part 1 1 around ∷ part 2 0 (codes "x") ∷ []
unfolding parts_of media_type_of param_at
ignored_around = refl

-- without a closing line the last child keeps the last break
abbrev unclosed : List ℕ
unclosed = lines (codes "--b" ∷ [] ∷ codes "x" ∷ codes "--b" ∷ [] ∷ codes "y" ∷ [])

last_break_kept : map seen (tree_of (mixed (codes "b") unclosed)) ≡ part 1 2 unclosed ∷ part 2 0 (codes "x") ∷ part 2 0 (codes "y" ++ lf) ∷ []
unfolding parts_of media_type_of param_at
last_break_kept = refl

-- the boundary without trailing blanks; an empty one
quoted : map seen (tree_of (mixed (codes "\"b \"") (lines (codes "--b" ∷ codes "--b--" ∷ [])))) ≡ part 1 1 (lines (codes "--b" ∷ codes "--b--" ∷ [])) ∷ part 2 0 [] ∷ []
unfolding parts_of media_type_of param_at
quoted = refl

blank_boundary : map seen (tree_of (mixed (codes "\"  \"") (lines (codes "--" ∷ codes "----" ∷ [])))) ≡ part 1 0 (lines (codes "--" ∷ codes "----" ∷ [])) ∷ []
unfolding parts_of media_type_of param_at
blank_boundary = refl

-- a boundary that ends in CR: of CRLF the CR belongs to the break
abbrev with_cr : List ℕ
with_cr = codes "--x" ++ cr ++ lf ++ codes "--x" ++ cr ++ cr ++ lf ++ codes "y"

cr_of_break : map seen (tree_of (mixed (codes "\"x" ++ cr ++ codes "\"") with_cr)) ≡ part 1 1 with_cr ∷ part 2 0 [] ∷ []
unfolding parts_of media_type_of param_at
cr_of_break = refl

-- the outer boundary's closing line is the inner one's delimiter
abbrev closing_inside : List ℕ
closing_inside = lines (codes "--b" ∷ []) ++ mixed (codes "b--") (lines (codes "--b--" ∷ codes "x" ∷ codes "--b----" ∷ []))

outer_closes : map seen (tree_of (mixed (codes "b") closing_inside)) ≡ part 1 1 closing_inside ∷ part 2 0 [] ∷ []
unfolding parts_of media_type_of param_at
outer_closes = refl

-- the inner multipart has the outer one's boundary
abbrev same_inside : List ℕ
same_inside = lines (codes "--b" ∷ []) ++ mixed (codes "b") (lines (codes "--b" ∷ [] ∷ codes "x" ∷ []) ++ codes "--b--")

outer_wins : map seen (tree_of (mixed (codes "b") same_inside)) ≡ part 1 2 same_inside ∷ part 2 0 [] ∷ part 2 0 (codes "x") ∷ []
unfolding parts_of media_type_of param_at
outer_wins = refl

-- the empty line after a child's header is the child's last, and goes with the delimiter
header_alone : map seen (tree_of (mixed (codes "o") (lines (codes "--o" ∷ codes "X: 1" ∷ [] ∷ []) ++ codes "--o--")))
    ≡ part 1 1 (lines (codes "--o" ∷ codes "X: 1" ∷ [] ∷ []) ++ codes "--o--") ∷ part 2 0 [] ∷ []
unfolding parts_of media_type_of param_at
header_alone = refl

-- messages in messages, and where no empty line comes
abbrev message : List ℕ
message = codes "Content-Type: message/rfc822" ++ lf ++ lf

chain : map seen (tree_of (message ++ message)) ≡ part 1 2 message ∷ part 2 1 [] ∷ part 3 0 [] ∷ []
unfolding parts_of media_type_of param_at
chain = refl

no_body : map seen (tree_of (codes "Content-Type: message/rfc822" ++ lf)) ≡ part 1 1 [] ∷ part 2 0 [] ∷ []
unfolding parts_of media_type_of param_at
no_body = refl

-- the deepest part is a leaf
deepest : map seen (parts_of 1 text_plain (record { place = 0; octets = message ++ message ++ message })) ≡ part 31 1 (message ++ message) ∷ part 32 0 message ∷ []
unfolding parts_of media_type_of param_at
deepest = refl

-- a message that is encoded isn't opened
encoded : map seen (tree_of (codes "Content-Transfer-Encoding: base64" ++ lf ++ message ++ message)) ≡ part 1 0 message ∷ []
unfolding parts_of media_type_of param_at
encoded = refl

-- the default in a digest is a message; that in this message is text/plain, and so is what can't be read
abbrev digest : List ℕ
digest = codes "Content-Type: multipart/digest; boundary=b" ++ lf ++ lf ++ lines (codes "--b" ∷ [] ∷ codes "X: 1" ∷ codes "--b" ∷ codes "Content-Type: no" ∷ codes "--b--" ∷ [])

in_digest : map (λ p. p.media) (tree_of digest)
    ≡ record { main = codes "multipart"; sub = codes "digest"; params = record { name = codes "boundary"; value = codes "b" } ∷ [] }
    ∷ message_rfc822 ∷ text_plain ∷ text_plain ∷ []
unfolding parts_of media_type_of param_at
in_digest = refl
