-- Strings that were cut by hand.
use Rattle.std.proofs.Common.{◌≡◌, [], ◌∷◌, refl}
use Rattle.std.specs.Prelude.{codes}
use Rattle.sieve_references.specs.References.{stretch, variable, capture, beyond, foreign, segments, names_in}

empty : segments [] ≡ []
empty = refl

-- of two references that begin, the one that ends counts
begun_twice : segments (codes "${BAD${Company}") ≡ stretch (codes "${BAD") ∷ variable (codes "Company") ∷ []
begun_twice = refl

nothing_between : segments (codes "&%${}!") ≡ stretch (codes "&%${}!") ∷ []
nothing_between = refl

nested : segments (codes "${a${b}}") ≡ stretch (codes "${a") ∷ variable (codes "b") ∷ stretch (codes "}") ∷ []
nested = refl

unclosed : segments (codes "x${a") ≡ stretch (codes "x${a") ∷ []
unclosed = refl

at_the_end : segments (codes "x${") ≡ stretch (codes "x${") ∷ []
at_the_end = refl

side_by_side : segments (codes "${1}${_a9}") ≡ capture 1 ∷ variable (codes "_a9") ∷ []
side_by_side = refl

leading_zeros : segments (codes "${007}") ≡ capture 7 ∷ []
leading_zeros = refl

above_nine : segments (codes "${0010}") ≡ beyond ∷ []
above_nine = refl

namespaces : segments (codes "${a.1.b}${a.1}${a.1.10}") ≡ foreign ∷ foreign ∷ foreign ∷ []
namespaces = refl

no_namespaces : segments (codes "${1.a}${a.1b}${a..b}${a.}${.a}") ≡ stretch (codes "${1.a}${a.1b}${a..b}${a.}${.a}") ∷ []
no_namespaces = refl

dollars : segments (codes "$${a}") ≡ stretch (codes "$") ∷ variable (codes "a") ∷ []
dollars = refl

not_names : segments (codes "${1a}${a-b}${ a}") ≡ stretch (codes "${1a}${a-b}${ a}") ∷ []
not_names = refl

lower_case : names_in (codes "${Ab} ${aB}") ≡ codes "ab" ∷ codes "ab" ∷ []
lower_case = refl
