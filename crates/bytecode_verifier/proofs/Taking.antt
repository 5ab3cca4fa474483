-- Texts taken from the top of the entries.
use Rattle.std.proofs.Common.{◌≡◌, ℕ, zero, suc, ◌+◌, ◌-◌, ◌*◌, ◌<◌, ◌≤◌, Bool, true, false, if◌then◌else◌, min, sum, List, [], ◌∷◌, ◌++◌, Option, Some, None, length, length-append, refl, sym, ap, subst, ◌∙◌, arith}
use Rattle.std.proofs.lemmas.List.Sums.{sum_by-cons, sum_by_push}
use Rattle.std.specs.Bool.{then_some}
use Rattle.std.specs.Option.{option_and_then, option_map, option_map_or}
use Rattle.bytecode_format.specs.declared.operation.TestOperation.{TestOperation}
use Rattle.bytecode_format.specs.declared.question.Counts.{Counts}
use Rattle.bytecode_verifier.specs.declared.cap.Cap.{Cap}
use Rattle.bytecode_verifier.specs.declared.shape.Totals.{Totals}
use Rattle.bytecode_verifier.specs.declared.shape.Entry.TheVariants.{Truth, Text}
use Rattle.bytecode_verifier.specs.Taken.{with_last, with_params_and_keys, lists_below}
use Rattle.bytecode_verifier.specs.Shape.{Entries, Texts, Lists, bound_in, with_entry, with_joined, take_texts, take_counted}
use Rattle.bytecode_verifier.specs.Budget.{one_more_each, one_charge, cap_of_octets, cap_of_test}
use Rattle.bytecode_verifier.specs.Pass.{AreShort, AreTotals, Passes, Takes, TakesLists}

-- the sum of the bounds with a sum before it, their number with one before it, and the entries below
pub record Total : Type 0 where
  pub total : ℕ
  pub number : ℕ
  pub rest : Entries

abbrev pub totalled : ℕ → ℕ → Texts → Total
totalled total number texts = record { total = total + one_more_each texts.texts; number = number + length texts.texts; rest = texts.below }

-- what taking so many further texts comes to
abbrev pub wanted : ℕ → ℕ → ℕ → Entries → Option Total
wanted total taken left entries = option_map (totalled total taken) (take_texts left entries)

same_total : (t : Total) (a b : ℕ) (rest : Entries) → t.total ≡ a → t.number ≡ b → t.rest ≡ rest → Some t ≡ Some (let u : Total = record { total = a; number = b; rest = rest } in u)
same_total t a b rest p q r = rw (← p, ← q, ← r) refl

-- one more text is taken
pub wanted_more : (total taken left bound : ℕ) (entries : Entries) → wanted total taken (suc left) (Text bound ∷ entries) ≡ wanted (total + bound + 1) (taken + 1) left entries
wanted_more total taken left bound entries = go (take_texts left entries)
  where
    go : (o : Option Texts) → option_map (totalled total taken) (option_map (with_last bound) o) ≡ option_map (totalled (total + bound + 1) (taken + 1)) o
    go None = refl
    go (Some texts) =
        let sums : one_more_each (texts.texts ++ bound ∷ []) ≡ one_more_each texts.texts + (bound + 1) = sum_by_push (λ b. b + 1) texts.texts bound in
        let number = length-append texts.texts (bound ∷ []) in
        same_total (totalled total taken (with_last bound texts)) _ _ _ (omega (arith, sums)) (omega (arith, number)) refl

-- one text is taken from the top
pub wanted_next : (total taken number bound : ℕ) (entries now old : Entries) → taken < number → entries ≡ Text bound ∷ now → wanted total taken (number - taken) entries ≡ wanted 0 0 number old
    → wanted (total + (bound + 1)) (taken + 1) (number - (taken + 1)) now ≡ wanted 0 0 number old
wanted_next total taken number bound entries now old lt top before =
    let left : number - taken ≡ suc (number - (taken + 1)) = omega arith in
    let sums : total + (bound + 1) ≡ total + bound + 1 = omega arith in
    ap (λ t. wanted t (taken + 1) (number - (taken + 1)) now) sums ∙ sym (wanted_more total taken (number - (taken + 1)) bound now)
    ∙ ap (λ n. wanted total taken n (Text bound ∷ now)) (sym left) ∙ ap (wanted total taken (number - taken)) (sym top) ∙ before

-- the bounds alone, and one for each
one_more_sum : (bounds : List ℕ) → one_more_each bounds ≡ sum bounds + length bounds
one_more_sum [] = refl
one_more_sum (x ∷ xs) =
    let ones : one_more_each (x ∷ xs) ≡ (x + 1) + one_more_each xs = sum_by-cons (λ b. b + 1) x xs in
    let all : sum (x ∷ xs) ≡ x + sum xs = sum_by-cons (λ b. b) x xs in
    omega (arith, ones, all, one_more_sum xs)

-- texts that were taken have one more each
pub number_within : (number total : ℕ) (now : Entries) (taken : Option Texts) → Takes number (Some total) now taken → number ≤ total
number_within number total now None h = absurd h
number_within number total now (Some texts) h = omega (arith, h.0, h.1, one_more_sum texts.texts)

-- the text that texts are joined to
pub joined : (number total octets bound : ℕ) (fine : Bool) (now after : Entries) (taken : Option Texts) → Takes number (Some total) now taken → octets ≡ total - number → bound ≡ min octets 16384 → (if fine then Some after else None) ≡ with_entry (Text bound) now
    → Passes (then_some fine (record { fixed = 1 + octets; scaled = 0 })) after (option_map_or cap_of_octets taken one_charge) (option_and_then with_joined taken)
joined number total octets bound fine now after None h sum-is bound-is room = absurd h
joined number total octets bound fine now after (Some texts) h sum-is bound-is room =
    let all : octets ≡ sum texts.texts = omega (arith, sum-is, h.0, h.1, one_more_sum texts.texts) in
    go fine all (room ∙ rw (bound-is, all, h.2) refl)
  where
    go : (fine : Bool) → octets ≡ sum texts.texts → (if fine then Some after else None) ≡ with_joined texts → Passes (then_some fine (record { fixed = 1 + octets; scaled = 0 })) after (cap_of_octets texts) (with_joined texts)
    go true all room = (rw all refl, sym room)
    go false all room = sym room

-- the truth value of a test that took its lists
pub tested : (test : TestOperation) (counts : Counts) (totals : Totals) (cap : Cap) (fine : Bool) (now after : Entries) (taken : Option Lists) → TakesLists counts (Some totals) now taken → ((lists : Lists) → AreTotals counts totals lists → cap ≡ cap_of_test test lists) → (if fine then Some after else None) ≡ with_entry Truth now
    → Passes (then_some fine cap) after (option_map_or (cap_of_test test) taken one_charge) (option_and_then (λ (lists : Lists). with_entry Truth lists.below) taken)
tested test counts totals cap fine now after None h capped room = absurd h
tested test counts totals cap fine now after (Some lists) h capped room = go fine (room ∙ ap (with_entry Truth) h.1)
  where
    go : (fine : Bool) → (if fine then Some after else None) ≡ with_entry Truth lists.below → Passes (then_some fine cap) after (cap_of_test test lists) (with_entry Truth lists.below)
    go true room = (capped lists h.0, sym room)
    go false room = sym room

-- texts that were taken from short entries
pub record Taken (number : ℕ) (entries : Entries) (texts : Texts) : Type 0 where
  pub number_is : length texts.texts ≡ number
  pub left : number + length texts.below ≡ length entries
  pub short : AreShort texts.below
  pub total : one_more_each texts.texts ≤ number * 16385

pub taken : (number : ℕ) (entries : Entries) (texts : Texts) → AreShort entries → take_texts number entries ≡ Some texts → Taken number entries texts
taken zero entries texts short e =
    let same : (let t : Texts = record { texts = []; below = entries } in t) ≡ texts = cc in
    subst (Taken 0 entries) same (record { number_is = refl; left = omega arith; short = short; total = omega arith })
taken (suc n) [] texts short e = absurd cc
taken (suc n) (Truth ∷ entries) texts short e = absurd cc
taken (suc n) (Text bound ∷ entries) texts short e = go (take_texts n entries) refl e (λ below h. taken n entries below short.1 h)
  where
    go : (o : Option Texts) → take_texts n entries ≡ o → option_map (with_last bound) o ≡ Some texts → ((below : Texts) → take_texts n entries ≡ Some below → Taken n entries below) → Taken (suc n) (Text bound ∷ entries) texts
    go None h f ih = absurd cc
    go (Some below) h f ih =
        let before = ih below h in
        let same : with_last bound below ≡ texts = cc in
        let sums : one_more_each (below.texts ++ bound ∷ []) ≡ one_more_each below.texts + (bound + 1) = sum_by_push (λ b. b + 1) below.texts bound in
        subst (Taken (suc n) (Text bound ∷ entries)) same
        (record {
          number_is = omega (arith, length-append below.texts (bound ∷ []), before.number_is);
          left = omega (arith, before.left);
          short = before.short;
          total = omega (arith, sums, before.total, short.0);
        })

-- three lists that were taken from short entries
pub record TakenLists (counts : Counts) (entries : Entries) (lists : Lists) : Type 0 where
  pub names_are : length lists.names ≡ counts.names
  pub params_are : length lists.params ≡ counts.params
  pub keys_are : length lists.keys ≡ counts.keys
  pub left : counts.keys + counts.params + counts.names + length lists.below ≡ length entries
  pub short : AreShort lists.below
  pub names_total : one_more_each lists.names ≤ counts.names * 16385
  pub keys_total : one_more_each lists.keys ≤ counts.keys * 16385

pub taken_lists : (counts : Counts) (entries : Entries) (lists : Lists) → AreShort entries → take_counted counts entries ≡ Some lists → TakenLists counts entries lists
taken_lists counts entries lists short e = go (take_texts counts.keys entries) refl e
  where
    all : (above between below : Texts) → Taken counts.keys entries above → Taken counts.params above.below between → Taken counts.names between.below below → with_params_and_keys between.texts above.texts below ≡ lists
        → TakenLists counts entries lists
    all above between below k p n same =
        subst (TakenLists counts entries) same
        (record {
          names_are = n.number_is;
          params_are = p.number_is;
          keys_are = k.number_is;
          left = omega (arith, n.left, p.left, k.left);
          short = n.short;
          names_total = n.total;
          keys_total = k.total;
        })

    then_names : (above between : Texts) → Taken counts.keys entries above → Taken counts.params above.below between → (o : Option Texts) → take_texts counts.names between.below ≡ o
        → option_map (with_params_and_keys between.texts above.texts) o ≡ Some lists → TakenLists counts entries lists
    then_names above between k p None h f = absurd cc
    then_names above between k p (Some below) h f = all above between below k p (taken counts.names between.below below p.short h) cc

    then_params : (above : Texts) → Taken counts.keys entries above → (o : Option Texts) → take_texts counts.params above.below ≡ o
        → option_and_then (λ (between : Texts). option_map (with_params_and_keys between.texts above.texts) (take_texts counts.names between.below)) o ≡ Some lists → TakenLists counts entries lists
    then_params above k None h f = absurd cc
    then_params above k (Some between) h f = then_names above between k (taken counts.params above.below between k.short h) (take_texts counts.names between.below) refl f

    go : (o : Option Texts) → take_texts counts.keys entries ≡ o → option_and_then (lists_below bound_in counts.names counts.params) o ≡ Some lists → TakenLists counts entries lists
    go None h f = absurd cc
    go (Some above) h f = then_params above (taken counts.keys entries above short h) (take_texts counts.params above.below) refl f
