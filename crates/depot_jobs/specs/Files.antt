-- Files that are made.
use Rattle.std.specs.Prelude.{◌≡◌, ℕ, List, [], ◌∷◌}
use Rattle.std.specs.Path.{path_with_file_name}

-- what symbolic links lead to from a name, the last of them first; each stands for a name in the folder
-- of the link, or for a path from the top
abbrev pub after_links : List ℕ → List (List ℕ) → List ℕ
after_links name [] = name
after_links name (link ∷ links) = path_with_file_name (after_links name links) link

-- the path is the name, or what some links lead to from it
abbrev pub IsReached : List ℕ → List ℕ → Type 0
IsReached name path = (links : List (List ℕ)) × (path ≡ after_links name links)
