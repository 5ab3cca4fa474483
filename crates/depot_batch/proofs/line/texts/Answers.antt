use Rattle.std.proofs.Common.{◌<◌, [], length, map, refl, subst, ℕ, List, Vec, Global}
use Rattle.std.specs.List.{All}
use Rattle.std.specs.Str.{IsUtf8}
use Rattle.std.proofs.Math.ListN.{get_or}
use Rattle.std.proofs.lemmas.List.{get_or-map, length-map}
use Rattle.std.proofs.lemmas.List.Elements.{All-get_or}
use Rattle.depot_batch.proofs.line.texts.Goals as goal

-- a word that is no text
no_text : (words : List (Vec ℕ Global)) (place : ℕ) (d : Vec ℕ Global) → place < length words → (IsUtf8 (get_or words place d).items → ⊥) → All IsUtf8 (map (λ w. w.items) words) → ⊥
no_text words place d within other all =
    let fits : place < length (map (λ (w : Vec ℕ Global). w.items) words) = rw (length-map words (λ (w : Vec ℕ Global). w.items)) within in
    other (subst IsUtf8 (get_or-map (λ (w : Vec ℕ Global). w.items) words place d [] within) (All-get_or IsUtf8 (map (λ w. w.items) words) place [] fits all))

pub returns-in-Err-clause-unasked : goal.returns-in-Err-clause-unasked
returns-in-Err-clause-unasked c =
    let other : IsUtf8 c.word-item.result.items → ⊥ = rw c.deref.ensures.value at c.in-Err.ensures.cases.0 in
    (refl, no_text c.args.words.now c.loop-word.word-index c.word-item.result c.loop-word-test.true (subst (λ (w : Vec ℕ Global). IsUtf8 w.items → ⊥) c.word-item.is other))
