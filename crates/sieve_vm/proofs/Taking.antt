-- The texts on top of a stack that the entries of a shape describe.
use Rattle.std.proofs.Common.{◌≡◌, ℕ, zero, suc, ◌+◌, ◌≤◌, List, [], ◌∷◌, ◌++◌, Option, Some, None, All, sum, sum_by, length, length-append, map, reverse, take, drop, refl, sym, ap, subst, ◌∙◌, arith}
use Rattle.std.proofs.lemmas.List.Sums.{sum_by-cons, sum_by_push}
use Rattle.std.proofs.lemmas.List.Elements.{All-nil, All-push}
use Rattle.std.proofs.lemmas.List.{reverse-append}
use Rattle.std.specs.Option.{option_and_then, option_map}
use Rattle.octets.specs.Limits.{max_string}
use Rattle.bytecode_verifier.specs.declared.shape.Entry.TheVariants.{Truth, Text}
use Rattle.bytecode_verifier.specs.Taken as taken
use Rattle.bytecode_verifier.specs.Taken.{with_last, with_params_and_keys, lists_below}
use Rattle.bytecode_verifier.specs.Shape.{Entries, Texts, Lists as ListBounds, bound_in, with_entry, with_joined, take_texts}
use Rattle.bytecode_verifier.specs.Budget.{one_more_each}
use Rattle.bytecode_verifier.specs.Pass.{AreShort}
use Rattle.mail_matching.specs.Costs.{extent_of}
use Rattle.sieve_vm.specs.State.{Value, truth, text}
use Rattle.sieve_vm.specs.Stack.{OnTop, text_in, texts_on_top, Lists, lists_on_top}

-- the entries of the shape describe the stack
abbrev pub Describes : Entries → List Value → Type 0
Describes [] [] = Unit {0}
Describes (Truth ∷ es) (truth b ∷ vs) = Describes es vs
Describes (Text bound ∷ es) (text t ∷ vs) = (length t ≤ bound) × Describes es vs
Describes _ _ = ⊥

abbrev pub IsShort : List ℕ → Type 0
IsShort t = length t ≤ max_string

-- the octets of an entry that is a text
abbrev pub octets_in : Value → List ℕ
octets_in (truth b) = []
octets_in (text t) = t

-- one more for each
pub one_more_each_is : {A : Type 0} (f : A → ℕ) (xs : List A) → sum_by (λ x. f x + 1) xs ≡ sum_by f xs + length xs
one_more_each_is f [] = refl
one_more_each_is f (x ∷ xs) =
    let ones : sum_by (λ y. f y + 1) (x ∷ xs) ≡ (f x + 1) + sum_by (λ y. f y + 1) xs = sum_by-cons (λ y. f y + 1) x xs in
    let all : sum_by f (x ∷ xs) ≡ f x + sum_by f xs = sum_by-cons f x xs in
    omega (arith, ones, all, one_more_each_is f xs)

-- so many texts are on top of the stack, no longer than their bounds
pub record AreOnTop (n : ℕ) (bounds : Texts) (stack : List Value) : Type 0 where
  pub top : OnTop
  pub is : texts_on_top n stack ≡ Some top
  pub below : Describes bounds.below top.below
  pub extent : extent_of top.texts ≤ one_more_each bounds.texts
  pub number : length top.texts ≡ length bounds.texts

pub on_top : (n : ℕ) (entries : Entries) (bounds : Texts) (stack : List Value) → take_texts n entries ≡ Some bounds → Describes entries stack → AreOnTop n bounds stack
on_top zero entries bounds stack e d =
    let same : (let t : Texts = record { texts = []; below = entries } in t) ≡ bounds = cc in
    subst (λ b. AreOnTop 0 b stack) same (record { top = record { texts = []; below = stack }; is = refl; below = d; extent = omega arith; number = refl })
on_top (suc n) [] bounds stack e d = absurd cc
on_top (suc n) (Truth ∷ entries) bounds stack e d = absurd cc
on_top (suc n) (Text bound ∷ entries) bounds [] e d = absurd d
on_top (suc n) (Text bound ∷ entries) bounds (truth b ∷ vs) e d = absurd d
on_top (suc n) (Text bound ∷ entries) bounds (text t ∷ vs) e d = go (take_texts n entries) refl e (λ others h. on_top n entries others vs h d.1)
  where
    go : (o : Option Texts) → take_texts n entries ≡ o → option_map (with_last bound) o ≡ Some bounds → ((others : Texts) → take_texts n entries ≡ Some others → AreOnTop n others vs) → AreOnTop (suc n) bounds (text t ∷ vs)
    go None h f ih = absurd cc
    go (Some others) h f ih =
        let before = ih others h in
        let same : with_last bound others ≡ bounds = cc in
        let short = d.0 in
        let bounded : one_more_each (others.texts ++ bound ∷ []) ≡ one_more_each others.texts + (bound + 1) = sum_by_push (λ b. b + 1) others.texts bound in
        let extended : extent_of (before.top.texts ++ t ∷ []) ≡ extent_of before.top.texts + (length t + 1) = sum_by_push (λ x. length x + 1) before.top.texts t in
        let less = before.extent in
        let counted = before.number in
        subst (λ b. AreOnTop (suc n) b (text t ∷ vs)) same
        (record {
          top = with_last t before.top;
          is = ap (option_map (with_last t)) before.is;
          below = before.below;
          extent = omega arith;
          number = omega (arith, length-append before.top.texts (t ∷ []), length-append others.texts (bound ∷ []));
        })

-- names, parameters above them, and keys above these
pub record ListsAreOnTop (names params keys : ℕ) (bounds : ListBounds) (stack : List Value) : Type 0 where
  pub top : Lists
  pub is : lists_on_top names params keys stack ≡ Some top
  pub below : Describes bounds.below top.below
  pub names_extent : extent_of top.names ≤ one_more_each bounds.names
  pub names_number : length top.names ≡ length bounds.names
  pub params_number : length top.params ≡ length bounds.params
  pub keys_extent : extent_of top.keys ≤ one_more_each bounds.keys

pub lists_are_on_top : (names params keys : ℕ) (entries : Entries) (bounds : ListBounds) (stack : List Value) → taken.lists_on_top bound_in names params keys entries ≡ Some bounds → Describes entries stack → ListsAreOnTop names params keys bounds stack
lists_are_on_top names params keys entries bounds stack e d = go (take_texts keys entries) refl e
  where
    all : (above between under : Texts) → (k : AreOnTop keys above stack) → (p : AreOnTop params between k.top.below) → AreOnTop names under p.top.below → with_params_and_keys between.texts above.texts under ≡ bounds → ListsAreOnTop names params keys bounds stack
    all above between under k p n same =
        subst (λ b. ListsAreOnTop names params keys b stack) same
        (record {
          top = with_params_and_keys p.top.texts k.top.texts n.top;
          is = ap (option_and_then (lists_below text_in names params)) k.is
              ∙ ap (option_and_then (λ (top : OnTop). option_map (with_params_and_keys top.texts k.top.texts) (texts_on_top names top.below))) p.is
              ∙ ap (option_map (with_params_and_keys p.top.texts k.top.texts)) n.is;
          below = n.below;
          names_extent = n.extent;
          names_number = n.number;
          params_number = p.number;
          keys_extent = k.extent;
        })

    then_names : (above between : Texts) → (k : AreOnTop keys above stack) → AreOnTop params between k.top.below → (o : Option Texts) → take_texts names between.below ≡ o → option_map (with_params_and_keys between.texts above.texts) o ≡ Some bounds → ListsAreOnTop names params keys bounds stack
    then_names above between k p None h f = absurd cc
    then_names above between k p (Some under) h f = all above between under k p (on_top names between.below under p.top.below h p.below) cc

    then_params : (above : Texts) → AreOnTop keys above stack → (o : Option Texts) → take_texts params above.below ≡ o
        → option_and_then (λ (between : Texts). option_map (with_params_and_keys between.texts above.texts) (take_texts names between.below)) o ≡ Some bounds → ListsAreOnTop names params keys bounds stack
    then_params above k None h f = absurd cc
    then_params above k (Some between) h f = then_names above between k (on_top params above.below between k.top.below h k.below) (take_texts names between.below) refl f

    go : (o : Option Texts) → take_texts keys entries ≡ o → option_and_then (lists_below bound_in names params) o ≡ Some bounds → ListsAreOnTop names params keys bounds stack
    go None h f = absurd cc
    go (Some above) h f = then_params above (on_top keys entries above stack h d) (take_texts params above.below) refl f

-- ---- texts that are no longer than strings

abbrev pub AreShortTexts : List Value → Type 0
AreShortTexts [] = Unit {0}
AreShortTexts (truth b ∷ vs) = AreShortTexts vs
AreShortTexts (text t ∷ vs) = IsShort t × AreShortTexts vs

pub short_texts : (entries : Entries) (stack : List Value) → Describes entries stack → AreShort entries → AreShortTexts stack
short_texts [] [] d short = tt
short_texts [] (v ∷ vs) d short = absurd d
short_texts (Truth ∷ es) [] d short = absurd d
short_texts (Text bound ∷ es) [] d short = absurd d
short_texts (Truth ∷ es) (truth b ∷ vs) d short = short_texts es vs d short
short_texts (Truth ∷ es) (text t ∷ vs) d short = absurd d
short_texts (Text bound ∷ es) (truth b ∷ vs) d short = absurd d
short_texts (Text bound ∷ es) (text t ∷ vs) d short = let le = d.0 in let most = short.0 in (omega arith, short_texts es vs d.1 short.1)

-- what is taken of a stack
pub record IsTop (n : ℕ) (stack : List Value) (top : OnTop) : Type 0 where
  pub texts : top.texts ≡ reverse (map octets_in (take n stack))
  pub below : top.below ≡ drop n stack
  pub within : n ≤ length stack
  pub number : length top.texts ≡ n
  pub short : AreShortTexts stack → All IsShort top.texts × AreShortTexts top.below

pub is_top : (n : ℕ) (stack : List Value) (top : OnTop) → texts_on_top n stack ≡ Some top → IsTop n stack top
is_top zero stack top e =
    let same : (let t : OnTop = record { texts = []; below = stack } in t) ≡ top = cc in
    subst (IsTop 0 stack) same (record { texts = refl; below = refl; within = omega arith; number = refl; short = λ h. (All-nil IsShort, h) })
is_top (suc n) [] top e = absurd cc
is_top (suc n) (truth b ∷ vs) top e = absurd cc
is_top (suc n) (text t ∷ vs) top e = go (texts_on_top n vs) refl e (λ others h. is_top n vs others h)
  where
    go : (o : Option OnTop) → texts_on_top n vs ≡ o → option_map (with_last t) o ≡ Some top → ((others : OnTop) → texts_on_top n vs ≡ Some others → IsTop n vs others) → IsTop (suc n) (text t ∷ vs) top
    go None h f ih = absurd cc
    go (Some others) h f ih =
        let before = ih others h in
        let same : with_last t others ≡ top = cc in
        let within = before.within in
        let counted = before.number in
        subst (IsTop (suc n) (text t ∷ vs)) same
        (record {
          texts = ap (λ ts. ts ++ t ∷ []) before.texts ∙ sym (reverse-append (t ∷ []) (map octets_in (take n vs)));
          below = before.below;
          within = omega arith;
          number = omega (arith, length-append others.texts (t ∷ []));
          short = λ s. let b = before.short s.1 in (All-push IsShort others.texts t b.0 s.0, b.1);
        })

-- ---- what an accepted program's stack has on top

pub parts_there : (n : ℕ) (entries after : Entries) (stack : List Value) → option_and_then with_joined (take_texts n entries) ≡ Some after → Describes entries stack → (top : OnTop) × (texts_on_top n stack ≡ Some top)
parts_there n entries after stack e d = go (take_texts n entries) refl e
  where
    go : (o : Option Texts) → take_texts n entries ≡ o → option_and_then with_joined o ≡ Some after → (top : OnTop) × (texts_on_top n stack ≡ Some top)
    go None h f = absurd cc
    go (Some bounds) h f = let are = on_top n entries bounds stack h d in (are.top, are.is)

-- texts on top have no more octets than their bounds say
pub octets_within : (n : ℕ) (bounds : Texts) (stack : List Value) (are : AreOnTop n bounds stack) → sum_by length are.top.texts ≤ sum bounds.texts
octets_within n bounds stack are =
    let texts : extent_of are.top.texts ≡ sum_by length are.top.texts + length are.top.texts = one_more_each_is length are.top.texts in
    let most : one_more_each bounds.texts ≡ sum bounds.texts + length bounds.texts = one_more_each_is (λ b. b) bounds.texts in
    omega (arith, texts, most, are.extent, are.number)

pub lists_there : (names params keys : ℕ) (entries after : Entries) (stack : List Value) → option_and_then (λ (lists : ListBounds). with_entry Truth lists.below) (taken.lists_on_top bound_in names params keys entries) ≡ Some after → Describes entries stack
    → (top : Lists) × (lists_on_top names params keys stack ≡ Some top)
lists_there names params keys entries after stack e d = go (taken.lists_on_top bound_in names params keys entries) refl e
  where
    go : (o : Option ListBounds) → taken.lists_on_top bound_in names params keys entries ≡ o → option_and_then (λ (lists : ListBounds). with_entry Truth lists.below) o ≡ Some after → (top : Lists) × (lists_on_top names params keys stack ≡ Some top)
    go None h f = absurd cc
    go (Some bounds) h f = let are = lists_are_on_top names params keys entries bounds stack h d in (are.top, are.is)

pub folder_there : (entries after : Entries) (stack : List Value) → option_map (λ (folder : Texts). folder.below) (take_texts 1 entries) ≡ Some after → Describes entries stack → (t : List ℕ) × ((rest : List Value) × (stack ≡ text t ∷ rest))
folder_there [] after stack e d = absurd cc
folder_there (Truth ∷ es) after stack e d = absurd cc
folder_there (Text bound ∷ es) after [] e d = absurd d
folder_there (Text bound ∷ es) after (truth b ∷ vs) e d = absurd d
folder_there (Text bound ∷ es) after (text t ∷ vs) e d = (t, (vs, refl))
