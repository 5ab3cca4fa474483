-- What is taken of an input in turns.
use Rattle.std.proofs.Common.{◌++◌, ◌∙◌, append-nil, ap, length-append, refl, subst, sym, ℕ, List, [], ◌∷◌, length}
use Rattle.std.specs.List.{concat}
use Rattle.std.proofs.KnownBytes.{Consumes-kept, Consumes-nil, Consumes-trans}
use Rattle.std.proofs.lemmas.List.Folds.{concat-append}
use Rattle.sqlite_trees.specs.declared.store.Store.{Ghosts}
use Rattle.sqlite.specs.Held.{Held}
use Rattle.devices.specs.Device.{counted}
use Rattle.devices.specs.Supply.{HasGiven, Supply}
use Rattle.depot_batch.specs.Batch.{AreTaken}
use Rattle.depot_batch.specs.Effects.{DepotAndOutput}
use Rattle.depot_batch.specs.Lines.{HasShown}
use Rattle.depot_batch.specs.declared.format.Format.{Format}
use Rattle.depot_batch.specs.Turns.{Alone, Takes, Together, Turn, Withdrawn, answered_in, lines_answered}
use Rattle.depot_batch.proofs.Batches.{counted_both}

given_none : (s : Supply) → HasGiven [] s s
given_none s = record { left = Consumes-nil s.left; given = refl; faults = refl }

given_both : (s0 s1 s2 : Supply) (xs ys : List ℕ) → HasGiven xs s0 s1 → HasGiven ys s1 s2 → HasGiven (xs ++ ys) s0 s2
given_both s0 s1 s2 xs ys first later = record {
  left = Consumes-trans s0.left s1.left s2.left xs ys first.left later.left;
  given = later.given ∙ ap (counted (length ys)) first.given ∙ counted_both (length xs) (length ys) s0.given ∙ ap (λ n. counted n s0.given) (sym (length-append xs ys));
  faults = later.faults ∙ first.faults;
}

-- what is only shown isn't given
given_nothing : (octets : List ℕ) (s0 s1 : Supply) → HasShown octets s0 s1 → HasGiven [] s0 s1
given_nothing octets s0 s1 shown = record {
  left = Consumes-kept s0.left s0.left s1.left [] (Consumes-nil s0.left) shown.left;
  given = shown.given;
  faults = shown.faults;
}

given_in : (turn : Turn) (s0 s1 : Supply) → Takes turn s0 s1 → HasGiven (concat (answered_in turn)) s0 s1
given_in (Alone line outcome) s0 s1 takes = subst (λ octets. HasGiven octets s0 s1) (sym (append-nil line)) takes.1
given_in (Together lines) s0 s1 takes = takes.1
given_in (Withdrawn lines) s0 s1 takes = given_nothing (concat lines) s0 s1 takes.1

pub all_taken : {S : Type 0} (g : Ghosts S) (name : List ℕ) (format : Format) (turns : List Turn) (input rest : Supply) (old new : DepotAndOutput (Held S)) → AreTaken g name format turns input rest old new
    → HasGiven (concat (lines_answered turns)) input rest
all_taken g name format [] input rest old new are = subst (λ (s : Supply). HasGiven [] input s) (sym are.0) (given_none input)
all_taken g name format (turn ∷ turns) input rest old new are =
    subst (λ octets. HasGiven octets input rest) (sym (concat-append (answered_in turn) (lines_answered turns)))
    (given_both input are.0 rest (concat (answered_in turn)) (concat (lines_answered turns)) (given_in turn input are.0 are.2)
    (all_taken g name format turns are.0 rest are.1 new are.5))
