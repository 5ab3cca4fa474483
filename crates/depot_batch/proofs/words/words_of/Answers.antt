use Rattle.std.proofs.Common.{◌≡◌, ◌+◌, ◌++◌, [], ◌∷◌, subst, sym, map, refl}
use Rattle.std.proofs.lemmas.List.{map-append}
use Rattle.depot_batch.specs.Words.{words_of}
use Rattle.depot_batch.proofs.WordLemmas.{after_words, words_begin, words_from, words_end, words_go_on, words_stop}
use Rattle.depot_batch.proofs.words.words_of.Goals as goal

pub texts-init : goal.texts-init
texts-init c =
    rw c.deref-text-items.ensures.value (words_begin (map (λ w. w.items) c.new-words.result.items) c.in_ok-texts.texts.items c.args.line.now (rw c.new-words.ensures.items refl) c.in_ok-texts.ensures)

pub returns-in-None : goal.returns-in-None
returns-in-None c =
    words_stop (map (λ w. w.items) c.texts.words.items) c.deref-text-items.result.now c.texts.text-index _ c.texts-test.true (rw c.in-None.is at c.in_ok-word.ensures) (words_of c.args.line.now) c.texts.invariant

pub texts-preserved : goal.texts-preserved
texts-preserved c =
    let word : map (λ w. w.items) c.push.new.self.items ≡ map (λ w. w.items) c.texts.words.items ++ c.in-Some.word.items ∷ [] = rw c.in_ok-push-in-Some.ensures.items (map-append (λ w. w.items) c.texts.words.items (c.in-Some.word ∷ [])) in
    subst (λ ws. words_of c.args.line.now ≡ after_words ws (words_from c.deref-text-items.result.now (c.texts.text-index + 1))) (sym word)
    (words_go_on (map (λ w. w.items) c.texts.words.items) c.deref-text-items.result.now c.texts.text-index _ c.in-Some.word.items c.texts-test.true (rw c.in-Some.is at c.in_ok-word.ensures) (words_of c.args.line.now) c.texts.invariant)

pub returns : goal.returns
returns c = words_end (map (λ w. w.items) c.texts.words.items) c.deref-text-items.result.now c.texts.text-index c.texts-test.false (words_of c.args.line.now) c.texts.invariant
