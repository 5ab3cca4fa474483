-- What the open loops are at the brackets of one of them, and between.
use Rattle.std.proofs.Common.{◌≡◌, ℕ, zero, suc, ◌<◌, ◌≤◌, Bool, true, false, cond, not, ◌&&◌, ◌||◌, ◌==◌, nat_lt, List, [], ◌∷◌, ◌++◌, Some, length, reverse, filter, refl, sym, ap, subst, ◌∙◌, inl, inr, arith, length-append}
use Rattle.std.proofs.lemmas.Bool.{cases_lt, cases_eq, lt-ltb, le-ltb, eq-eqb, ne_eqb}
use Rattle.std.proofs.lemmas.Option.{slice_get_past}
use Rattle.std.proofs.lemmas.List.{reverse-reverse}
use Rattle.std.proofs.lemmas.List.Folds.{list_any-append}
use Rattle.std.specs.List.{cons_option, list_any, list_all}
use Rattle.bytecode_format.specs.declared.instruction.Instruction.{Instruction}
use Rattle.bytecode_format.specs.Code.{Code}
use Rattle.bytecode_verifier.specs.Loops.{Loop, loops, is_open, open_loops, same_loops}
use Rattle.bytecode_verifier.specs.Rules.{has_loop}
use Rattle.bytecode_verifier.specs.Nests.{first_of, next_at, open_at, leads}
use Rattle.bytecode_verifier.proofs.Tests.{or_false, or_true}
use Rattle.bytecode_verifier.proofs.Open.{From, loop_at, loop_to, loop_at_next, inside, nexts, open_inside, Step, pushed, popped, stayed, step_at, opened_below, loops_are, open_loops_are, reverse_more}

-- a loop that is open at a place, inside of the outer ones
pub record Stands (xs : List Instruction) (place : ℕ) (outer : List Loop) (loop : Loop) : Type 0 where
  pub opened : loop_at xs loop.each ≡ Some loop
  -- at its Each, and at its body's first place
  pub before : inside xs loop.each ≡ outer
  pub first : inside xs (suc loop.each) ≡ loop ∷ outer
  pub after : loop.each < place
  pub until : place ≤ loop.next

rest_of : List Loop → List Loop
rest_of [] = []
rest_of (l ∷ ls) = ls

head_or : Loop → List Loop → Loop
head_or d [] = d
head_or d (l ∷ ls) = l

pub same_loop : (l k : Loop) (ls ks : List Loop) → l ∷ ls ≡ k ∷ ks → l ≡ k
unfolding head_or
same_loop l k ls ks e = ap (head_or l) e

same_rest : (l k : Loop) (ls ks : List Loop) → l ∷ ls ≡ k ∷ ks → ls ≡ ks
unfolding rest_of
same_rest l k ls ks e = ap rest_of e

-- an open loop ends where all do
bound_of : (bound : ℕ) (inner : List Loop) (loop : Loop) (outer : List Loop) → From bound (nexts (inner ++ loop ∷ outer)) → bound ≤ loop.next
bound_of bound [] loop outer h = h.0
bound_of bound (l ∷ inner) loop outer h = bound_of bound inner loop outer h.1

further : (xs : List Instruction) (place : ℕ) (outer : List Loop) (loop : Loop) → suc place ≤ loop.next → Stands xs place outer loop → Stands xs (suc place) outer loop
further xs place outer loop le s = record { opened = s.opened; before = s.before; first = s.first; after = omega (arith, s.after); until = le }

newest : (xs : List Instruction) (place : ℕ) (outer : List Loop) (loop : Loop) → loop.each ≡ place → place < loop.next → loop_at xs place ≡ Some loop → inside xs place ≡ outer → inside xs (suc place) ≡ loop ∷ outer → Stands xs (suc place) outer loop
newest xs place outer loop each lt opened before now = record {
  opened = ap (loop_at xs) each ∙ opened;
  before = ap (inside xs) each ∙ before;
  first = ap (λ n. inside xs (suc n)) each ∙ now;
  after = omega arith;
  until = omega arith;
}

pub stands : (xs : List Instruction) (place : ℕ) (inner : List Loop) (loop : Loop) (outer : List Loop) → inside xs place ≡ inner ++ loop ∷ outer → Stands xs place outer loop
stands xs zero [] loop outer e = absurd cc
stands xs zero (l ∷ inner) loop outer e = absurd cc
stands xs (suc place) inner loop outer e = go (step_at xs place) inner e (λ deeper f. stands xs place deeper loop outer f)
  where
    go : Step xs place → (inner : List Loop) → inside xs (suc place) ≡ inner ++ loop ∷ outer → ((deeper : List Loop) → inside xs place ≡ deeper ++ loop ∷ outer → Stands xs place outer loop) → Stands xs (suc place) outer loop
    go (pushed new opened each lt bound) [] e ih =
        let now : inside xs (suc place) ≡ new ∷ inside xs place = rw opened refl in
        let same : new ≡ loop = same_loop new loop (inside xs place) outer (sym now ∙ e) in
        let rest : inside xs place ≡ outer = same_rest new loop (inside xs place) outer (sym now ∙ e) in
        newest xs place outer loop (ap (λ (l : Loop). l.each) (sym same) ∙ each) (subst (λ (l : Loop). place < l.next) same lt) (opened ∙ ap Some same) rest e
    go (pushed new opened each lt bound) (l ∷ inner) e ih =
        let now : inside xs (suc place) ≡ new ∷ inside xs place = rw opened refl in
        let rest : inside xs place ≡ inner ++ loop ∷ outer = same_rest new l (inside xs place) (inner ++ loop ∷ outer) (sym now ∙ e) in
        further xs place outer loop (bound_of (suc place) inner loop outer (subst (λ ls. From (suc place) (nexts ls)) rest bound)) (ih inner rest)
    go (popped old opened next is bound) inner e ih =
        further xs place outer loop (bound_of (suc place) inner loop outer (subst (λ ls. From (suc place) (nexts ls)) e bound)) (ih (old ∷ inner) (is ∙ ap (λ ls. old ∷ ls) e))
    go (stayed opened same bound) inner e ih =
        let now : inside xs place ≡ inner ++ loop ∷ outer = sym same ∙ e in
        further xs place outer loop (bound_of (suc place) inner loop outer (subst (λ ls. From (suc place) (nexts ls)) now bound)) (ih inner now)

-- a loop that is open stays so up to its Next
pub stays_open : (xs : List Instruction) (place : ℕ) (loop : Loop) (outer : List Loop) → place < loop.next → (inner : List Loop) → inside xs place ≡ inner ++ loop ∷ outer → (deeper : List Loop) × (inside xs (suc place) ≡ deeper ++ loop ∷ outer)
stays_open xs place loop outer lt = go (step_at xs place)
  where
    go : Step xs place → (inner : List Loop) → inside xs place ≡ inner ++ loop ∷ outer → (deeper : List Loop) × (inside xs (suc place) ≡ deeper ++ loop ∷ outer)
    go (pushed new opened each later bound) inner e = (new ∷ inner, rw (opened, e) refl)
    go (popped old opened next is bound) [] e =
        absurd (let same : old ≡ loop = same_loop old loop (inside xs (suc place)) outer (sym is ∙ e) in let ends : loop.next ≡ place = ap (λ (l : Loop). l.next) (sym same) ∙ next in omega arith)
    go (popped old opened next is bound) (l ∷ inner) e = (inner, same_rest old l (inside xs (suc place)) (inner ++ loop ∷ outer) (sym is ∙ e))
    go (stayed opened same bound) inner e = (inner, same ∙ e)

pub body_open : (xs : List Instruction) (loop : Loop) (outer : List Loop) → inside xs (suc loop.each) ≡ loop ∷ outer → (other : ℕ) → loop.each < other → other ≤ loop.next → (deeper : List Loop) × (inside xs other ≡ deeper ++ loop ∷ outer)
body_open xs loop outer first zero after until = absurd (omega arith)
body_open xs loop outer first (suc other) after until =
    elim (cases_eq other loop.each) [
      | inl same ↦ ([], ap (λ n. inside xs (suc n)) same ∙ first)
      | inr differ ↦
          let before = body_open xs loop outer first other (omega arith) (omega arith) in
          stays_open xs other loop outer (omega arith) before.0 before.1
    ]

-- at its Next it is the innermost, and it is closed after it
pub closes_there : (xs : List Instruction) (loop : Loop) (outer inner : List Loop) → inside xs loop.next ≡ inner ++ loop ∷ outer → (inside xs loop.next ≡ loop ∷ outer) × (inside xs (suc loop.next) ≡ outer)
closes_there xs loop outer inner e = go (step_at xs loop.next) inner e
  where
    go : Step xs loop.next → (inner : List Loop) → inside xs loop.next ≡ inner ++ loop ∷ outer → (inside xs loop.next ≡ loop ∷ outer) × (inside xs (suc loop.next) ≡ outer)
    go (pushed new opened each later bound) inner e = absurd (let le = bound_of (suc loop.next) inner loop outer (subst (λ ls. From (suc loop.next) (nexts ls)) e bound) in omega arith)
    go (popped old opened next is bound) [] e = (e, same_rest old loop (inside xs (suc loop.next)) outer (sym is ∙ e))
    go (popped old opened next is bound) (l ∷ inner) e =
        let rest : inside xs (suc loop.next) ≡ inner ++ loop ∷ outer = same_rest old l (inside xs (suc loop.next)) (inner ++ loop ∷ outer) (sym is ∙ e) in
        absurd (let le = bound_of (suc loop.next) inner loop outer (subst (λ ls. From (suc loop.next) (nexts ls)) rest bound) in omega arith)
    go (stayed opened same bound) inner e = absurd (let le = bound_of (suc loop.next) inner loop outer (subst (λ ls. From (suc loop.next) (nexts ls)) e bound) in omega arith)

-- what is open at the Next of a loop that is the innermost somewhere
pub at_its_next : (xs : List Instruction) (place : ℕ) (inner : List Loop) (loop : Loop) (outer : List Loop) → inside xs place ≡ inner ++ loop ∷ outer → (inside xs loop.next ≡ loop ∷ outer) × (inside xs (suc loop.next) ≡ outer)
at_its_next xs place inner loop outer e =
    let s = stands xs place inner loop outer e in
    let there = body_open xs loop outer s.first loop.next (omega (arith, s.after, s.until)) (omega arith) in
    closes_there xs loop outer there.0 there.1

-- where the innermost loops end at the same place the same loops are open
pub same_inside : (xs : List Instruction) (p q : ℕ) → first_of (open_at xs p) ≡ first_of (open_at xs q) → inside xs p ≡ inside xs q
same_inside xs p q e = go (inside xs p) refl (inside xs q) refl (ap first_of (sym (open_inside xs p)) ∙ e ∙ ap first_of (open_inside xs q))
  where
    ends : (place : ℕ) (l : Loop) (ls : List Loop) → inside xs place ≡ l ∷ ls → l.next ≡ 0 → ⊥
    ends place l ls is none = let s = stands xs place [] l ls is in omega (arith, s.after, s.until, none)

    go : (ls : List Loop) → inside xs p ≡ ls → (ks : List Loop) → inside xs q ≡ ks → first_of (nexts (inside xs p)) ≡ first_of (nexts (inside xs q)) → inside xs p ≡ inside xs q
    go [] a [] b f = a ∙ sym b
    go [] a (k ∷ ks) b f = absurd (ends q k ks b (sym (ap (λ ls. first_of (nexts ls)) b) ∙ sym f ∙ ap (λ ls. first_of (nexts ls)) a))
    go (l ∷ ls) a [] b f = absurd (ends p l ls a (sym (ap (λ ls. first_of (nexts ls)) a) ∙ f ∙ ap (λ ls. first_of (nexts ls)) b))
    go (l ∷ ls) a (k ∷ ks) b f =
        let same : l.next ≡ k.next = sym (ap (λ ls. first_of (nexts ls)) a) ∙ f ∙ ap (λ ls. first_of (nexts ls)) b in
        a ∙ sym (at_its_next xs p [] l ls a).0 ∙ ap (inside xs) same ∙ (at_its_next xs q [] k ks b).0 ∙ sym b

-- tests that pass alike give the same list
same_passes : (p q : Loop → Bool) (ls : List Loop) → list_all (λ l. cond (p l) (q l) (not (q l))) ls ≡ true → filter p ls ≡ filter q ls
same_passes p q [] h = refl
same_passes p q (l ∷ ls) h = go (p l) (q l) refl refl h (λ rest. same_passes p q ls rest)
  where
    go : (a b : Bool) → p l ≡ a → q l ≡ b → list_all (λ l. cond (p l) (q l) (not (q l))) (l ∷ ls) ≡ true → (list_all (λ l. cond (p l) (q l) (not (q l))) ls ≡ true → filter p ls ≡ filter q ls) → filter p (l ∷ ls) ≡ filter q (l ∷ ls)
    go true true e f h ih = rw (e, f) (ap (λ r. l ∷ r) (ih (rw (e, f) at h)))
    go false false e f h ih = rw (e, f) (ih (rw (e, f) at h))
    go true false e f h ih = absurd (let wrong : false ≡ true = rw (e, f) at h in cc)
    go false true e f h ih = absurd (let wrong : false ≡ true = rw (e, f) at h in cc)

first_passes : (q : Loop → Bool) (l : Loop) (ls rest : List Loop) → filter q ls ≡ l ∷ rest → q l ≡ true
first_passes q l [] rest e = absurd cc
first_passes q l (k ∷ ls) rest e = go (q k) refl e (λ f. first_passes q l ls rest f)
  where
    go : (b : Bool) → q k ≡ b → filter q (k ∷ ls) ≡ l ∷ rest → (filter q ls ≡ l ∷ rest → q l ≡ true) → q l ≡ true
    go true f e ih = ap q (sym (same_loop k l (filter q ls) rest (rw f at e))) ∙ f
    go false f e ih = ih (rw f at e)

-- and where the lists are the same the tests pass alike
alike : (p q : Loop → Bool) (ls : List Loop) → filter p ls ≡ filter q ls → list_all (λ l. cond (p l) (q l) (not (q l))) ls ≡ true
alike p q [] h = refl
alike p q (l ∷ ls) h = go (p l) (q l) refl refl h (λ rest. alike p q ls rest)
  where
    go : (a b : Bool) → p l ≡ a → q l ≡ b → filter p (l ∷ ls) ≡ filter q (l ∷ ls) → (filter p ls ≡ filter q ls → list_all (λ l. cond (p l) (q l) (not (q l))) ls ≡ true) → list_all (λ l. cond (p l) (q l) (not (q l))) (l ∷ ls) ≡ true
    go true true e f h ih = rw (e, f) (ih (same_rest l l (filter p ls) (filter q ls) (rw (e, f) at h)))
    go false false e f h ih = rw (e, f) (ih (rw (e, f) at h))
    go true false e f h ih = absurd (let passes : q l ≡ true = first_passes q l ls (filter p ls) (sym (rw (e, f) at h)) in let wrong : false ≡ true = sym f ∙ passes in cc)
    go false true e f h ih = absurd (let passes : p l ≡ true = first_passes p l ls (filter q ls) (rw (e, f) at h) in let wrong : false ≡ true = sym e ∙ passes in cc)

-- where the same loops are open the lists are equal
pub open_equal : (code : Code) (p q : ℕ) → same_loops code p q ≡ true → open_loops code p ≡ open_loops code q
open_equal code p q h = same_passes (is_open p) (is_open q) (loops code) h

inside_equal : (code : Code) (p q : ℕ) → same_loops code p q ≡ true → inside code.instructions p ≡ inside code.instructions q
inside_equal code p q h =
    sym (reverse-reverse (inside code.instructions p)) ∙ ap reverse (sym (open_loops_are code p) ∙ open_equal code p q h ∙ open_loops_are code q) ∙ reverse-reverse (inside code.instructions q)

-- which loops are open is known by the innermost
pub same_loops_is : (code : Code) (p q : ℕ) → same_loops code p q ≡ (first_of (open_at code.instructions p) == first_of (open_at code.instructions q))
same_loops_is code p q = go (same_loops code p q) refl
  where
    go : (b : Bool) → same_loops code p q ≡ b → same_loops code p q ≡ (first_of (open_at code.instructions p) == first_of (open_at code.instructions q))
    go true h =
        h ∙ sym (eq-eqb (first_of (open_at code.instructions p)) (first_of (open_at code.instructions q)) (ap first_of (open_inside code.instructions p ∙ ap nexts (inside_equal code p q h) ∙ sym (open_inside code.instructions q))))
    go false h =
        h ∙ sym (ne_eqb (first_of (open_at code.instructions p)) (first_of (open_at code.instructions q)) (λ e.
        let same : inside code.instructions p ≡ inside code.instructions q = same_inside code.instructions p q e in
        let lists : open_loops code p ≡ open_loops code q = open_loops_are code p ∙ ap reverse same ∙ sym (open_loops_are code q) in
        let wrong : false ≡ true = sym h ∙ alike (is_open p) (is_open q) (loops code) lists in
        absurd cc))

-- how many loops are open
pub length_reverse : (ls : List Loop) → length (reverse ls) ≡ length ls
length_reverse [] = refl
length_reverse (l ∷ ls) = ap length (reverse_more l ls) ∙ length-append (reverse ls) (l ∷ []) ∙ omega (arith, length_reverse ls)

length_nexts : (ls : List Loop) → length (nexts ls) ≡ length ls
length_nexts [] = refl
length_nexts (l ∷ ls) = ap suc (length_nexts ls)

pub depth_is : (code : Code) (place : ℕ) → length (open_loops code place) ≡ length (open_at code.instructions place)
depth_is code place =
    ap length (open_loops_are code place) ∙ length_reverse (inside code.instructions place) ∙ sym (length_nexts (inside code.instructions place)) ∙ ap length (sym (open_inside code.instructions place))

-- a loop of the program is known by what its Each opens
abbrev is_loop : ℕ → ℕ → Loop → Bool
is_loop each next loop = (loop.each == each) && (loop.next == next)

any_below : (xs : List Instruction) (each next place : ℕ) → list_any (is_loop each next) (opened_below xs place) ≡ (nat_lt each place && leads (next_at xs each) next)
any_below xs each next zero = rw (le-ltb each 0 (omega arith)) refl
any_below xs each next (suc place) =
    ap (λ o. list_any (is_loop each next) (cons_option o (opened_below xs place))) (loop_at_next xs place)
    ∙ elim (cases_eq place each) [
      | inl same ↦ here same (next_at xs place) refl (any_below xs each next place)
      | inr differ ↦ there differ (next_at xs place) (any_below xs each next place)
    ]
  where
    below : nat_lt each (suc place) ≡ nat_lt each place → list_any (is_loop each next) (opened_below xs place) ≡ (nat_lt each place && leads (next_at xs each) next)
        → list_any (is_loop each next) (opened_below xs place) ≡ (nat_lt each (suc place) && leads (next_at xs each) next)
    below same ih = ih ∙ ap (λ b. b && leads (next_at xs each) next) (sym same)

    not_below : place ≡ each → list_any (is_loop each next) (opened_below xs place) ≡ (nat_lt each place && leads (next_at xs each) next) → list_any (is_loop each next) (opened_below xs place) ≡ false
    not_below same ih = ih ∙ ap (λ b. b && leads (next_at xs each) next) (le-ltb each place (omega arith))

    or_none : (b c : Bool) → c ≡ false → (b || c) ≡ b
    or_none true c h = refl
    or_none false c h = h

    here : place ≡ each → (n : ℕ) → next_at xs place ≡ n → list_any (is_loop each next) (opened_below xs place) ≡ (nat_lt each place && leads (next_at xs each) next)
        → list_any (is_loop each next) (cons_option (loop_to place n) (opened_below xs place)) ≡ (nat_lt each (suc place) && leads (next_at xs each) next)
    here same zero e ih =
        let found : next_at xs each ≡ 0 = ap (next_at xs) (sym same) ∙ e in
        not_below same ih ∙ sym (rw (lt-ltb each (suc place) (omega arith), found) refl)
    here same (suc n) e ih =
        let found : next_at xs each ≡ suc n = ap (next_at xs) (sym same) ∙ e in
        let some : (suc n == 0) ≡ false = ne_eqb (suc n) 0 (λ f. omega arith) in
        or_none _ _ (not_below same ih) ∙ rw (eq-eqb place each same, lt-ltb each (suc place) (omega arith), found, some) refl

    there : (place ≡ each → ⊥) → (n : ℕ) → list_any (is_loop each next) (opened_below xs place) ≡ (nat_lt each place && leads (next_at xs each) next)
        → list_any (is_loop each next) (cons_option (loop_to place n) (opened_below xs place)) ≡ (nat_lt each (suc place) && leads (next_at xs each) next)
    there differ n ih = over n
      where
        later : nat_lt each (suc place) ≡ nat_lt each place
        later = elim (cases_lt each place) [
          | inl lt ↦ lt-ltb each (suc place) (omega arith) ∙ sym (lt-ltb each place lt)
          | inr le ↦ le-ltb each (suc place) (let no : place ≡ each → ⊥ = differ in omega arith) ∙ sym (le-ltb each place le)
        ]

        over : (n : ℕ) → list_any (is_loop each next) (cons_option (loop_to place n) (opened_below xs place)) ≡ (nat_lt each (suc place) && leads (next_at xs each) next)
        over zero = below later ih
        over (suc n) = rw (ne_eqb place each differ) (below later ih)

any_reverse : (p : Loop → Bool) (ls : List Loop) → list_any p (reverse ls) ≡ list_any p ls
any_reverse p [] = refl
any_reverse p (l ∷ ls) = ap (list_any p) (reverse_more l ls) ∙ list_any-append p (reverse ls) (l ∷ []) ∙ go (p l) refl (any_reverse p ls)
  where
    go : (b : Bool) → p l ≡ b → list_any p (reverse ls) ≡ list_any p ls → (list_any p (reverse ls) || list_any p (l ∷ [])) ≡ list_any p (l ∷ ls)
    go true e ih = rw e (or_true (list_any p (reverse ls)))
    go false e ih = rw (e, ih) (or_false (list_any p ls))

pub has_loop_is : (code : Code) (each next : ℕ) → has_loop code each next ≡ leads (next_at code.instructions each) next
has_loop_is code each next =
    ap (list_any (is_loop each next)) (loops_are code) ∙ any_reverse (is_loop each next) (opened_below code.instructions (length code.instructions)) ∙ any_below code.instructions each next (length code.instructions)
    ∙ elim (cases_lt each (length code.instructions)) [
      | inl lt ↦ rw (lt-ltb each (length code.instructions) lt) refl
      | inr le ↦ rw (le-ltb each (length code.instructions) le, slice_get_past code.instructions each le) refl
    ]
