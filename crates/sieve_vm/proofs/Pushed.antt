-- The texts that the machine lends of its stack, whose top entry is the last one.
use Rattle.std.proofs.Common.{◌≡◌, ℕ, zero, suc, ◌+◌, ◌-◌, ◌≤◌, Bool, List, [], ◌∷◌, ◌++◌, Option, Some, None, length, map, reverse, take, drop, slice_range, take_all, length-take-le, refl, sym, ap, subst, ◌∙◌, arith}
use Rattle.std.proofs.lemmas.List.{reverse-append, reverse-reverse, map-append, length-map, length-drop, length-reverse, take-append-drop, take_at, drop_at, take_rest, take-take, drop-take}
use Rattle.std.specs.Option.{option_and_then, option_map}
use Rattle.octets.specs.Limits.{max_stack}
use Rattle.mail_matching.specs.Texts.{AreTexts}
use Rattle.sieve_vm.specs.declared.entry.Entry.{Entry}
use Rattle.sieve_vm.specs.declared.entry.Entry.TheVariants.{Truth, Text}
use Rattle.bytecode_verifier.specs.Taken.{with_params_and_keys, lists_below}
use Rattle.sieve_vm.specs.State.{Value, truth}
use Rattle.sieve_vm.specs.Stack.{OnTop, text_in, texts_on_top, Lists, lists_on_top}
use Rattle.sieve_vm.specs.Standing.{value_of, octets_of, with_top}
use Rattle.sieve_vm.proofs.Taking.{octets_in, AreShortTexts, is_top}

-- texts that are taken are texts of a test
pub texts_are : (n : ℕ) (stack : List Value) (top : OnTop) → length stack ≤ max_stack → AreShortTexts stack → texts_on_top n stack ≡ Some top → AreTexts top.texts
texts_are n stack top few short e =
    let is = is_top n stack top e in
    let within = is.within in
    let number = is.number in
    record { few = omega arith; short = (is.short short).0 }

-- the three are texts of a test
pub record AreTestTexts (top : Lists) : Type 0 where
  pub names : AreTexts top.names
  pub params : AreTexts top.params
  pub keys : AreTexts top.keys

pub lists_are : (names params keys : ℕ) (stack : List Value) (top : Lists) → length stack ≤ max_stack → AreShortTexts stack → lists_on_top names params keys stack ≡ Some top → AreTestTexts top
lists_are names params keys stack top few short e = go (texts_on_top keys stack) refl e
  where
    -- what is left is no more, and as short
    left : (n : ℕ) (vs : List Value) (t : OnTop) → length vs ≤ max_stack → AreShortTexts vs → texts_on_top n vs ≡ Some t → AreTexts t.texts × (length t.below ≤ max_stack) × AreShortTexts t.below
    left n vs t less brief h =
        let is = is_top n vs t h in
        let rest : length t.below ≡ length vs - n = ap length is.below ∙ length-drop n vs in
        (texts_are n vs t less brief h, omega (arith, rest, less), (is.short brief).1)

    then_names : (above between : OnTop) → AreTexts above.texts → AreTexts between.texts → length between.below ≤ max_stack → AreShortTexts between.below
        → (o : Option OnTop) → texts_on_top names between.below ≡ o → option_map (with_params_and_keys between.texts above.texts) o ≡ Some top → AreTestTexts top
    then_names above between k p less brief None h f = absurd cc
    then_names above between k p less brief (Some under) h f =
        let same : with_params_and_keys between.texts above.texts under ≡ top = cc in
        subst AreTestTexts same (record { names = (left names between.below under less brief h).0; params = p; keys = k })

    then_params : (above : OnTop) → AreTexts above.texts → length above.below ≤ max_stack → AreShortTexts above.below
        → (o : Option OnTop) → texts_on_top params above.below ≡ o → option_and_then (λ (between : OnTop). option_map (with_params_and_keys between.texts above.texts) (texts_on_top names between.below)) o ≡ Some top → AreTestTexts top
    then_params above k less brief None h f = absurd cc
    then_params above k less brief (Some between) h f =
        let l = left params above.below between less brief h in
        then_names above between k l.0 l.1 l.2 (texts_on_top names between.below) refl f

    go : (o : Option OnTop) → texts_on_top keys stack ≡ o → option_and_then (lists_below text_in names params) o ≡ Some top → AreTestTexts top
    go None h f = absurd cc
    go (Some above) h f =
        let l = left keys stack above few short h in
        then_params above l.0 l.1 l.2 (texts_on_top params above.below) refl f

range_of : {A : Type 0} (xs : List A) (from to : ℕ) → from ≤ to → drop from (take to xs) ≡ take (to - from) (drop from xs)
range_of xs from to le =
    let whole : to ≡ from + (to - from) = omega arith in
    ap (λ n. drop from (take n xs)) whole ∙ drop-take from (to - from) xs

pub same_octets : (e : Entry) → octets_in (value_of e) ≡ octets_of e
same_octets (Truth b) = refl
same_octets (Text t) = refl

octets_of_values : (es : List Entry) → map octets_in (map value_of es) ≡ map octets_of es
octets_of_values [] = refl
octets_of_values (e ∷ es) = ap (λ o. o ∷ map octets_in (map value_of es)) (same_octets e) ∙ ap (λ os. octets_of e ∷ os) (octets_of_values es)

reversed : (es : List Entry) → map octets_of (reverse es) ≡ reverse (map octets_of es)
reversed [] = refl
reversed (e ∷ es) =
    ap (map octets_of) (reverse-append (e ∷ []) es) ∙ map-append octets_of (reverse es) (e ∷ []) ∙ ap (λ os. os ++ octets_of e ∷ []) (reversed es) ∙ sym (reverse-append (octets_of e ∷ []) (map octets_of es))

-- the last entries are the texts that are taken, and the others are what is left, below a truth value that stands apart
pub record IsLent (n : ℕ) (apart : Option Bool) (items : List Entry) (top : OnTop) : Type 0 where
  pub within : n ≤ length items
  pub texts : top.texts ≡ map octets_of (drop (length items - n) items)
  pub below : top.below ≡ with_top apart (map value_of (reverse (take (length items - n) items)))

lent_entries : (n : ℕ) (items : List Entry) (stack : List Value) (top : OnTop) → map value_of (reverse items) ≡ stack → texts_on_top n stack ≡ Some top → IsLent n None items top
lent_entries n items stack top stands e =
    let is = is_top n stack top e in
    let k : ℕ = length items - n in
    let front : List Entry = take k items in
    let back : List Entry = drop k items in
    let few : length stack ≡ length items = ap length (sym stands) ∙ length-map (reverse items) value_of ∙ length-reverse items in
    let within : n ≤ length items = let w = is.within in omega arith in
    let split : stack ≡ map value_of (reverse back) ++ map value_of (reverse front) =
    sym stands ∙ ap (λ es. map value_of (reverse es)) (sym (take-append-drop k items)) ∙ ap (map value_of) (reverse-append front back) ∙ map-append value_of (reverse back) (reverse front) in
    let number : length (map value_of (reverse back)) ≡ n = omega (arith, length-map (reverse back) value_of, length-reverse back, length-drop k items) in
    record {
      within = within;
      texts = is.texts ∙ ap (λ vs. reverse (map octets_in (take n vs))) split ∙ ap (λ vs. reverse (map octets_in vs)) (take_at (map value_of (reverse back)) (map value_of (reverse front)) n number)
          ∙ ap reverse (octets_of_values (reverse back) ∙ reversed back) ∙ reverse-reverse (map octets_of back);
      below = is.below ∙ ap (drop n) split ∙ drop_at (map value_of (reverse back)) (map value_of (reverse front)) n number;
    }

-- below a truth value no text is taken
pub lent : (n : ℕ) (apart : Option Bool) (items : List Entry) (stack : List Value) (top : OnTop) → with_top apart (map value_of (reverse items)) ≡ stack → texts_on_top n stack ≡ Some top → IsLent n apart items top
lent n None items stack top stands e = lent_entries n items stack top stands e
lent zero (Some b) items stack top stands e =
    let below : List Value = map value_of (reverse items) in
    let same : (let t : OnTop = record { texts = []; below = stack } in t) ≡ top = cc in
    let none = lent_entries zero items below (record { texts = []; below = below }) refl refl in
    subst (IsLent zero (Some b) items) same (record { within = none.within; texts = none.texts; below = sym stands ∙ ap (λ vs. truth b ∷ vs) none.below })
lent (suc n) (Some b) items stack top stands e = absurd (let none : None ≡ Some top = ap (texts_on_top (suc n)) stands ∙ e in cc)

-- the same of the entries before a place
record LentBefore (n end : ℕ) (items : List Entry) (top : OnTop) : Type 0 where
  within : n ≤ end
  texts : top.texts ≡ map octets_of (take (end - (end - n)) (drop (end - n) items))
  below : top.below ≡ map value_of (reverse (take (end - n) items))

lent_before : (n end : ℕ) (items : List Entry) (stack : List Value) (top : OnTop) → end ≤ length items → map value_of (reverse (take end items)) ≡ stack → texts_on_top n stack ≡ Some top → LentBefore n end items top
lent_before n end items stack top there stands e =
    let is = lent_entries n (take end items) stack top stands e in
    let number : length (take end items) ≡ end = length-take-le end items there in
    let within : n ≤ end = let w = is.within in omega arith in
    record {
      within = within;
      texts = is.texts ∙ ap (λ l. map octets_of (drop (l - n) (take end items))) number ∙ ap (map octets_of) (range_of items (end - n) end (omega arith));
      below = is.below ∙ ap (λ l. map value_of (reverse (take (l - n) (take end items)))) number ∙ ap (λ es. map value_of (reverse es)) (take-take (end - n) end items (omega arith));
    }

-- three lists of the last entries, and the others, below a truth value that stands apart
pub record AreLent (names params keys : ℕ) (apart : Option Bool) (items : List Entry) (top : Lists) : Type 0 where
  pub within : keys + params + names ≤ length items
  pub keys_are : top.keys ≡ map octets_of (slice_range items (length items - keys) (length items))
  pub params_are : top.params ≡ map octets_of (slice_range items (length items - keys - params) (length items - keys))
  pub names_are : top.names ≡ map octets_of (slice_range items (length items - keys - params - names) (length items - keys - params))
  pub below : top.below ≡ with_top apart (map value_of (reverse (take (length items - keys - params - names) items)))

lists_lent_entries : (names params keys : ℕ) (items : List Entry) (stack : List Value) (top : Lists) → map value_of (reverse items) ≡ stack → lists_on_top names params keys stack ≡ Some top → AreLent names params keys None items top
lists_lent_entries names params keys items stack top stands e = go (texts_on_top keys stack) refl e
  where
    n : ℕ
    n = length items

    then_names : (above between : OnTop) → LentBefore keys n items above → LentBefore params (n - keys) items between → (o : Option OnTop) → texts_on_top names between.below ≡ o
        → option_map (with_params_and_keys between.texts above.texts) o ≡ Some top → AreLent names params keys None items top
    then_names above between k p None h f = absurd cc
    then_names above between k p (Some under) h f =
        let same : with_params_and_keys between.texts above.texts under ≡ top = cc in
        let kw = k.within in
        let pw = p.within in
        let l = lent_before names (n - keys - params) items between.below under (omega arith) (sym p.below) h in
        let lw = l.within in
        subst (AreLent names params keys None items) same (record { within = omega arith; keys_are = k.texts; params_are = p.texts; names_are = l.texts; below = l.below })

    then_params : (above : OnTop) → LentBefore keys n items above → (o : Option OnTop) → texts_on_top params above.below ≡ o
        → option_and_then (λ (between : OnTop). option_map (with_params_and_keys between.texts above.texts) (texts_on_top names between.below)) o ≡ Some top → AreLent names params keys None items top
    then_params above k None h f = absurd cc
    then_params above k (Some between) h f = then_names above between k (lent_before params (n - keys) items above.below between (omega arith) (sym k.below) h) (texts_on_top names between.below) refl f

    go : (o : Option OnTop) → texts_on_top keys stack ≡ o → option_and_then (lists_below text_in names params) o ≡ Some top → AreLent names params keys None items top
    go None h f = absurd cc
    go (Some above) h f =
        let all : map value_of (reverse (take n items)) ≡ stack = ap (λ es. map value_of (reverse es)) (take_all n items (omega arith)) ∙ stands in
        then_params above (lent_before keys n items stack above (omega arith) all h) (texts_on_top params above.below) refl f

-- below a truth value none is taken
pub lists_lent : (names params keys : ℕ) (apart : Option Bool) (items : List Entry) (stack : List Value) (top : Lists) → with_top apart (map value_of (reverse items)) ≡ stack → lists_on_top names params keys stack ≡ Some top → AreLent names params keys apart items top
lists_lent names params keys None items stack top stands e = lists_lent_entries names params keys items stack top stands e
lists_lent names params (suc keys) (Some b) items stack top stands e = absurd (let none : None ≡ Some top = ap (lists_on_top names params (suc keys)) stands ∙ e in cc)
lists_lent names (suc params) zero (Some b) items stack top stands e = absurd (let none : None ≡ Some top = ap (lists_on_top names (suc params) zero) stands ∙ e in cc)
lists_lent (suc names) zero zero (Some b) items stack top stands e = absurd (let none : None ≡ Some top = ap (lists_on_top (suc names) zero zero) stands ∙ e in cc)
lists_lent zero zero zero (Some b) items stack top stands e =
    let below : List Value = map value_of (reverse items) in
    let same : (let l : Lists = record { names = []; params = []; keys = []; below = stack } in l) ≡ top = cc in
    let none = lists_lent_entries zero zero zero items below (record { names = []; params = []; keys = []; below = below }) refl refl in
    subst (AreLent zero zero zero (Some b) items) same
    (record { within = none.within; keys_are = none.keys_are; params_are = none.params_are; names_are = none.names_are; below = sym stands ∙ ap (λ vs. truth b ∷ vs) none.below })

-- ---- as the code slices the stack

-- the entries from a place on
pub last_texts : (n len : ℕ) (items slice : List Entry) (texts : List (List ℕ)) → slice ≡ items → len ≡ length items → texts ≡ map octets_of (drop (length items - n) items) → map octets_of (take (length slice - (len - n)) (drop (len - n) slice)) ≡ texts
last_texts n len items slice texts same counted are =
    ap (map octets_of) (take_rest slice (len - n)) ∙ ap (λ l. map octets_of (drop (l - n) slice)) counted ∙ ap (λ es. map octets_of (drop (length items - n) es)) same ∙ sym are
