-- Texts that were pushed on a stack are taken from it again.
use Rattle.std.proofs.Common.{◌≡◌, ℕ, ◌+◌, suc, List, [], ◌∷◌, ◌++◌, Option, Some, length, append-nil, append_assoc, refl, sym, ap, subst, ◌∙◌, arith}
use Rattle.bytecode_verifier.specs.Taken.{OnTop, with_last, texts_on_top}

-- texts on a stack, the last one on top
abbrev pub onto : {Entry Text : Type 0} → (Text → Entry) → List Text → List Entry → List Entry
onto entry_of [] stack = stack
onto entry_of (text ∷ texts) stack = onto entry_of texts (entry_of text ∷ stack)

on_top_of : {Entry Text : Type 0} (text_of : Entry → Option Text) (entry_of : Text → Entry) → ((text : Text) → text_of (entry_of text) ≡ Some text) → (texts : List Text) (k : ℕ) (stack : List Entry) (top : OnTop Entry Text) → texts_on_top text_of k stack ≡ Some top
    → texts_on_top text_of (length texts + k) (onto entry_of texts stack) ≡ Some (let t : OnTop Entry Text = record { texts = top.texts ++ texts; below = top.below } in t)
on_top_of {Entry} {Text} text_of entry_of told [] k stack top e =
    let same : k ≡ 0 + k = omega arith in
    subst (λ n. texts_on_top text_of n stack ≡ Some (let t : OnTop Entry Text = record { texts = top.texts ++ []; below = top.below } in t)) same
    (e ∙ ap (λ texts. Some (let t : OnTop Entry Text = record { texts = texts; below = top.below } in t)) (sym (append-nil top.texts)))
on_top_of {Entry} {Text} text_of entry_of told (text ∷ texts) k stack top e =
    let one : texts_on_top text_of (suc k) (entry_of text ∷ stack) ≡ Some (with_last text top) = rw (told text, e) refl in
    let same : length texts + suc k ≡ suc (length texts) + k = omega arith in
    subst (λ n. texts_on_top text_of n (onto entry_of texts (entry_of text ∷ stack)) ≡ Some (let t : OnTop Entry Text = record { texts = top.texts ++ (text ∷ texts); below = top.below } in t)) same
    (on_top_of text_of entry_of told texts (suc k) (entry_of text ∷ stack) (with_last text top) one ∙ ap (λ all. Some (let t : OnTop Entry Text = record { texts = all; below = top.below } in t)) (append_assoc top.texts (text ∷ []) texts))

-- as many texts as were pushed can be taken
pub on_top_again : {Entry Text : Type 0} (text_of : Entry → Option Text) (entry_of : Text → Entry) → ((text : Text) → text_of (entry_of text) ≡ Some text) → (n : ℕ) (texts : List Text) (stack : List Entry) → length texts ≡ n
    → texts_on_top text_of n (onto entry_of texts stack) ≡ Some (let t : OnTop Entry Text = record { texts = texts; below = stack } in t)
on_top_again {Entry} {Text} text_of entry_of told n texts stack number =
    let same : length texts + 0 ≡ n = omega (arith, number) in
    subst (λ m. texts_on_top text_of m (onto entry_of texts stack) ≡ Some (let t : OnTop Entry Text = record { texts = texts; below = stack } in t)) same
    (on_top_of text_of entry_of told texts 0 stack (record { texts = []; below = stack }) refl)
