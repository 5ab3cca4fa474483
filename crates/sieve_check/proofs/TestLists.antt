-- Tests of a list, one after another.
use Rattle.std.proofs.Common.{◌≡◌, List, [], ◌∷◌, ◌++◌, refl, ap}
use Rattle.sieve_check.specs.Typed.{TestForm, TestForms, no_test, test}
use Rattle.sieve_check.specs.TypedView.{tests_of}

-- tests before others
abbrev pub tests_onto : List TestForm → TestForms → TestForms
tests_onto [] fs = fs
tests_onto (t ∷ ts) fs = test t (tests_onto ts fs)

pub onto-append : (ts : List TestForm) (t : TestForm) (fs : TestForms) → tests_onto (ts ++ t ∷ []) fs ≡ tests_onto ts (test t fs)
onto-append [] t fs = refl
onto-append (x ∷ ts) t fs = ap (test x) (onto-append ts t fs)

pub onto_nothing : (ts : List TestForm) → tests_onto ts no_test ≡ tests_of ts
onto_nothing [] = refl
onto_nothing (t ∷ ts) = ap (test t) (onto_nothing ts)
