-- The lines of small texts, by computation.
use Rattle.std.proofs.Common.{◌≡◌, ℕ, List, [], ◌∷◌, ◌++◌, refl, codes}
use Rattle.text_lines.specs.Lines.{TextLine, lines_of}

abbrev line : List ℕ → List ℕ → TextLine
line content break = record { content = content; break = break }

abbrev lf : List ℕ
lf = 10 ∷ []

abbrev crlf : List ℕ
crlf = 13 ∷ 10 ∷ []

no_line : lines_of [] ≡ []
no_line = refl

both_breaks : lines_of (codes "a" ++ crlf ++ codes "b" ++ lf) ≡ line (codes "a") crlf ∷ line (codes "b") lf ∷ []
both_breaks = refl

no_last_break : lines_of (lf ++ codes "a") ≡ line [] lf ∷ line (codes "a") [] ∷ []
no_last_break = refl

lone_cr : lines_of (13 ∷ 13 ∷ 10 ∷ 10 ∷ 13 ∷ []) ≡ line (13 ∷ []) crlf ∷ line [] lf ∷ line (13 ∷ []) [] ∷ []
lone_cr = refl
