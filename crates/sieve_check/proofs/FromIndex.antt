-- Lists from an index on.
use Rattle.std.proofs.Common.{◌≡◌, ℕ, ◌+◌, ◌<◌, List, ◌∷◌, map, drop, length, get_or, sym, ap, ◌∙◌, add-one}
use Rattle.std.proofs.Math.Seq.{drop-cons}
use Rattle.sieve_parser.specs.Tree.{MoreTests}
use Rattle.sieve_parser.specs.View.{invocation_tree, more_tests_of}
use Rattle.sieve_parser.specs.declared.tree.Invocation.{Invocation}

-- the trees of a list of tests after its first
abbrev pub others_of : List Invocation → MoreTests
others_of list = more_tests_of (map invocation_tree list)

pub split_at : {A : Type 0} (xs : List A) (i : ℕ) (x : A) → i < length xs → x ≡ get_or xs i x → drop i xs ≡ x ∷ drop (i + 1) xs
split_at xs i x lt is = drop-cons xs i x lt ∙ ap (λ n. get_or xs i x ∷ drop n xs) (sym (add-one i)) ∙ ap (λ y. y ∷ drop (i + 1) xs) (sym is)
