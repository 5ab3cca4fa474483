-- The loops that are open at a place, from place to place.
use Rattle.std.proofs.Common.{◌≡◌, ℕ, zero, suc, ◌+◌, ◌<◌, ◌≤◌, Bool, true, false, cond, ◌==◌, nat_le, List, [], ◌∷◌, ◌++◌, Option, Some, None, if◌then◌else◌, length, map, reverse, filter, filter_map, drop, get_or, slice_get, refl, sym, ap, subst, ◌∙◌, inl, inr, arith, le-leb, leb-false, leb-true, append_assoc, append-nil, add-one, drop_of_length-le}
use Rattle.std.proofs.lemmas.Bool.{cases_lt, cases_eq, lt-ltb, le-ltb, eq-eqb, ne_eqb}
use Rattle.std.proofs.lemmas.Option.{slice_get_past, slice_get-get_or}
use Rattle.std.proofs.lemmas.List.Elements.{filter-append}
use Rattle.std.proofs.lemmas.List.{reverse-append}
use Rattle.std.specs.List.{cons_option, enumerate_from}
use Rattle.std.specs.Option.{option_and_then, option_map}
use Rattle.bytecode_format.specs.declared.instruction.Instruction.{Instruction}
use Rattle.bytecode_format.specs.Operations.{operation_of}
use Rattle.bytecode_format.specs.Code.{Code}
use Rattle.bytecode_verifier.specs.Loops.{Loop, opens, loop_from, loops, next_of, is_open, open_loops}
use Rattle.bytecode_verifier.specs.Nests.{first_of, without_first, waiting_over, waiting_from, next_over, next_at, open_over, open_at}
use Rattle.bytecode_verifier.proofs.Closing.{Kind, is_each, is_next, is_neither, kind, nth, drop_here, next_of_each}

-- no number is below a bound
abbrev pub From : ℕ → List ℕ → Type 0
From bound [] = Unit {0}
From bound (n ∷ ns) = (bound ≤ n) × From bound ns

from_less : (low high : ℕ) (ns : List ℕ) → low ≤ high → From high ns → From low ns
from_less low high [] le h = tt
from_less low high (n ∷ ns) le h = (omega (arith, h.0), from_less low high ns le h.1)

pub from_rest : (bound : ℕ) (ns : List ℕ) → From bound ns → From bound (without_first ns)
from_rest bound [] h = tt
from_rest bound (n ∷ ns) h = h.1

from_part : (bound : ℕ) (ms ns : List ℕ) → From bound (ms ++ ns) → From bound ms
from_part bound [] ns h = tt
from_part bound (m ∷ ms) ns h = (h.0, from_part bound ms ns h.1)

-- those that wait stand at the place or after it
pub waiting_later : (place : ℕ) (ys : List Instruction) → From place (waiting_from place ys)
waiting_later place [] = tt
waiting_later place (i ∷ ys) = go (kind (operation_of i.op)) (waiting_later (suc place) ys)
  where
    go : Kind (operation_of i.op) → From (suc place) (waiting_from (suc place) ys) → From place (waiting_over (operation_of i.op) place (waiting_from (suc place) ys))
    go (is_each o) h = rw o (from_less place (suc place) _ (omega arith) (from_rest (suc place) _ h))
    go (is_next o) h = rw o (omega arith, from_less place (suc place) _ (omega arith) h)
    go (is_neither no_open no_close same none) h = rw (same place (waiting_from (suc place) ys)) (from_less place (suc place) _ (omega arith) h)

-- the loop that the instruction at a place opens
abbrev pub loop_at : List Instruction → ℕ → Option Loop
loop_at xs place = option_and_then (loop_from xs place) (slice_get xs place)

-- the same by its Next, 0 where there is none
abbrev pub loop_to : ℕ → ℕ → Option Loop
loop_to place zero = None
loop_to place (suc next) = Some (record { each = place; next = suc next })

loop_first : (place : ℕ) (later : List ℕ) → From (suc place) later → option_map (λ next. let l : Loop = record { each = place; next = next } in l) (nth later 0) ≡ loop_to place (first_of later)
loop_first place [] h = refl
loop_first place (zero ∷ later) h = absurd (let le = h.0 in omega arith)
loop_first place (suc n ∷ later) h = refl

pub loop_at_next : (xs : List Instruction) (place : ℕ) → loop_at xs place ≡ loop_to place (next_at xs place)
loop_at_next xs place = go (slice_get xs place) refl
  where
    here : (i : Instruction) → slice_get xs place ≡ Some i → Kind (operation_of i.op) → loop_from xs place i ≡ loop_to place (next_over (operation_of i.op) (waiting_from (suc place) (drop (suc place) xs)))
    here i at (is_each o) = rw (next_of_each xs place i at o, o) (loop_first place (waiting_from (suc place) (drop (suc place) xs)) (waiting_later (suc place) (drop (suc place) xs)))
    here i at (is_next o) = rw o refl
    here i at (is_neither no_open no_close same none) = rw (no_open, none (waiting_from (suc place) (drop (suc place) xs))) refl

    go : (o : Option Instruction) → slice_get xs place ≡ o → loop_at xs place ≡ loop_to place (next_at xs place)
    go None e = rw e refl
    go (Some i) e = rw e (here i e (kind (operation_of i.op)))

-- the open loops after a place, the innermost first
abbrev pub inside_over : ℕ → Option Loop → List Loop → List Loop
inside_over place (Some loop) before = loop ∷ before
inside_over place None [] = []
inside_over place None (l ∷ before) = if l.next == place then before else l ∷ before

-- the open loops before a place, the innermost first
abbrev pub inside : List Instruction → ℕ → List Loop
inside xs zero = []
inside xs (suc place) = inside_over place (loop_at xs place) (inside xs place)

abbrev pub nexts : List Loop → List ℕ
nexts ls = map (λ (l : Loop). l.next) ls

-- each is known by its Next
pub open_inside : (xs : List Instruction) (place : ℕ) → open_at xs place ≡ nexts (inside xs place)
open_inside xs zero = refl
open_inside xs (suc place) = rw (loop_at_next xs place, open_inside xs place) (go (next_at xs place) (inside xs place))
  where
    kept : (b : Bool) (l : Loop) (ls : List Loop) → cond b (nexts ls) (nexts (l ∷ ls)) ≡ nexts (cond b ls (l ∷ ls))
    kept true l ls = refl
    kept false l ls = refl

    go : (next : ℕ) (ls : List Loop) → open_over place next (nexts ls) ≡ nexts (inside_over place (loop_to place next) ls)
    go zero [] = refl
    go zero (l ∷ ls) = kept (l.next == place) l ls
    go (suc next) ls = refl

-- what a place does to the open loops
pub data Step (xs : List Instruction) (place : ℕ) : Type 0 where
  pushed : (loop : Loop) → loop_at xs place ≡ Some loop → loop.each ≡ place → place < loop.next → From (suc place) (nexts (inside xs place)) → Step xs place
  popped : (loop : Loop) → loop_at xs place ≡ None → loop.next ≡ place → inside xs place ≡ loop ∷ inside xs (suc place) → From (suc place) (nexts (inside xs (suc place))) → Step xs place
  stayed : loop_at xs place ≡ None → inside xs (suc place) ≡ inside xs place → From (suc place) (nexts (inside xs place)) → Step xs place

-- those that wait at a place are first the Next of the open loops
abbrev pub Waits : List Instruction → ℕ → Type 0
Waits xs place = (rest : List ℕ) × (waiting_from place (drop place xs) ≡ nexts (inside xs place) ++ rest)

none_inside : (ls : List Loop) (rest : List ℕ) → [] ≡ nexts ls ++ rest → ls ≡ []
none_inside [] rest e = refl
none_inside (l ∷ ls) rest e = absurd cc

same_first : (a b : ℕ) (ns ms : List ℕ) → a ∷ ns ≡ b ∷ ms → (a ≡ b) × (ns ≡ ms)
same_first a b ns ms e = (ap first_of e, ap without_first e)

blank : Instruction
blank = record { op = 0; a = 0; b = 0; c = 0 }

pub past_from : (xs : List Instruction) (place : ℕ) → slice_get xs place ≡ None → length xs ≤ place
past_from xs place e =
    elim (cases_lt place (length xs)) [
      | inl lt ↦ absurd (let some : None ≡ Some (get_or xs place blank) = sym e ∙ slice_get-get_or xs place blank lt in cc)
      | inr le ↦ le
    ]

-- what the instruction at a place does to the open loops
pub record Goes (xs : List Instruction) (place : ℕ) : Type 0 where
  pub waits : Waits xs (suc place)
  pub step : Step xs place

module _ (xs : List Instruction) (place : ℕ) where
  -- where no loop is opened and none ends here, the same are open
  stays : (ls : List Loop) → From (suc place) (nexts ls) → inside_over place None ls ≡ ls
  stays [] h = refl
  stays (l ∷ ls) h = rw (ne_eqb l.next place (λ e. let le = h.0 in omega arith)) refl

  -- an instruction that is no bracket
  goes_same : loop_at xs place ≡ None → (rest : List ℕ) → waiting_from (suc place) (drop (suc place) xs) ≡ nexts (inside xs place) ++ rest → Goes xs place
  goes_same opened rest e =
      let bound : From (suc place) (nexts (inside xs place)) = from_part (suc place) (nexts (inside xs place)) rest (subst (From (suc place)) e (waiting_later (suc place) (drop (suc place) xs))) in
      let same : inside xs (suc place) ≡ inside xs place = rw opened (stays (inside xs place) bound) in
      record { waits = (rest, e ∙ ap (λ ls. nexts ls ++ rest) (sym same)); step = stayed opened same bound }

  -- an Each
  goes_each : (w : List ℕ) → waiting_from (suc place) (drop (suc place) xs) ≡ w → From (suc place) w → next_at xs place ≡ first_of w → (rest : List ℕ) → without_first w ≡ nexts (inside xs place) ++ rest → Goes xs place
  goes_each [] is bound next rest e =
      let none : inside xs place ≡ [] = none_inside (inside xs place) rest e in
      let opened : loop_at xs place ≡ None = loop_at_next xs place ∙ ap (loop_to place) next in
      let same : inside xs (suc place) ≡ inside xs place = rw (opened, none) refl in
      record { waits = ([], is ∙ rw (same, none) refl); step = stayed opened same (rw none tt) }
  goes_each (zero ∷ w) is bound next rest e = absurd (let le = bound.0 in omega arith)
  goes_each (suc n ∷ w) is bound next rest e =
      let opened : loop_at xs place ≡ Some (record { each = place; next = suc n }) = loop_at_next xs place ∙ ap (loop_to place) next in
      let more : inside xs (suc place) ≡ (let l : Loop = record { each = place; next = suc n } in l) ∷ inside xs place = rw opened refl in
      record {
        waits = (rest, is ∙ ap (λ ns. suc n ∷ ns) e ∙ ap (λ ls. nexts ls ++ rest) (sym more));
        step = pushed (record { each = place; next = suc n }) opened refl (let le = bound.0 in omega arith) (from_part (suc place) (nexts (inside xs place)) rest (subst (From (suc place)) e bound.1));
      }

  -- a Next
  goes_next : loop_at xs place ≡ None → (ls : List Loop) → inside xs place ≡ ls → (rest : List ℕ) → place ∷ waiting_from (suc place) (drop (suc place) xs) ≡ nexts ls ++ rest → Goes xs place
  goes_next opened [] is rest e =
      let same : inside xs (suc place) ≡ inside xs place = rw (opened, is) refl in
      record { waits = (waiting_from (suc place) (drop (suc place) xs), rw (same, is) refl); step = stayed opened same (rw is tt) }
  goes_next opened (l ∷ ls) is rest e =
      let both : (place ≡ l.next) × (waiting_from (suc place) (drop (suc place) xs) ≡ nexts ls ++ rest) = same_first _ _ _ _ e in
      let over : inside xs (suc place) ≡ ls = rw (opened, is, eq-eqb l.next place (sym both.0)) refl in
      record {
        waits = (rest, rw over both.1);
        step = popped l opened (sym both.0) (rw over is)
            (rw over (from_part (suc place) (nexts ls) rest (subst (From (suc place)) both.1 (waiting_later (suc place) (drop (suc place) xs)))));
      }

  goes_past : slice_get xs place ≡ None → waiting_from (suc place) (drop (suc place) xs) ≡ [] → waiting_from place (drop place xs) ≡ [] → Waits xs place → Goes xs place
  goes_past here after now before =
      let none : inside xs place ≡ [] = none_inside (inside xs place) before.0 (sym now ∙ before.1) in
      goes_same (rw here refl) [] (rw none after)

  goes_here : (i : Instruction) → slice_get xs place ≡ Some i → Kind (operation_of i.op) → (rest : List ℕ) → waiting_over (operation_of i.op) place (waiting_from (suc place) (drop (suc place) xs)) ≡ nexts (inside xs place) ++ rest → Goes xs place
  goes_here i here (is_each o) rest e =
      goes_each (waiting_from (suc place) (drop (suc place) xs)) refl (waiting_later (suc place) (drop (suc place) xs)) (rw (here, o) refl) rest (rw o at e)
  goes_here i here (is_next o) rest e = goes_next (rw (here, o) refl) (inside xs place) refl rest (rw o at e)
  goes_here i here (is_neither no_open no_close same none) rest e =
      goes_same (rw (here, no_open) refl) rest (sym (same place (waiting_from (suc place) (drop (suc place) xs))) ∙ e)

  goes : Waits xs place → Goes xs place
  goes before = go (slice_get xs place) refl
    where
      go : (o : Option Instruction) → slice_get xs place ≡ o → Goes xs place
      go None here =
          let past : length xs ≤ place = past_from xs place here in
          goes_past here (ap (waiting_from (suc place)) (let beyond : length xs ≤ suc place = omega arith in drop_of_length-le xs beyond)) (ap (waiting_from place) (drop_of_length-le xs past)) before
      go (Some i) here = goes_here i here (kind (operation_of i.op)) before.0 (ap (waiting_from place) (sym (drop_here xs place i here)) ∙ before.1)

-- the Next of the open loops are the first that wait, everywhere
pub waits : (xs : List Instruction) (place : ℕ) → Waits xs place
waits xs zero = (waiting_from 0 (drop 0 xs), refl)
waits xs (suc place) = (goes xs place (waits xs place)).waits

pub step_at : (xs : List Instruction) (place : ℕ) → Step xs place
step_at xs place = (goes xs place (waits xs place)).step

pub lt-not-le : (a b : ℕ) → a < b → nat_le b a ≡ false
lt-not-le a b lt = go (nat_le b a) refl
  where
    go : (t : Bool) → nat_le b a ≡ t → t ≡ false
    go true e = absurd (let le = leb-true b a e in omega arith)
    go false e = refl

-- the loops that are opened below a place, the last one first
abbrev pub opened_below : List Instruction → ℕ → List Loop
opened_below xs zero = []
opened_below xs (suc place) = cons_option (loop_at xs place) (opened_below xs place)

abbrev ends_from : ℕ → Loop → Bool
ends_from place loop = nat_le place loop.next

all_end : (place : ℕ) (ls : List Loop) → From place (nexts ls) → filter (ends_from place) ls ≡ ls
all_end place [] h = refl
all_end place (l ∷ ls) h = rw (le-leb place l.next h.0) (ap (λ r. l ∷ r) (all_end place ls h.1))

-- what ends later ends after an earlier place too
filter_twice : (place : ℕ) (ls : List Loop) → filter (ends_from (suc place)) (filter (ends_from place) ls) ≡ filter (ends_from (suc place)) ls
filter_twice place [] = refl
filter_twice place (l ∷ ls) = go (nat_le place l.next) refl (filter_twice place ls)
  where
    kept : (b : Bool) → nat_le (suc place) l.next ≡ b → filter (ends_from (suc place)) (filter (ends_from place) ls) ≡ filter (ends_from (suc place)) ls
        → filter (ends_from (suc place)) (l ∷ filter (ends_from place) ls) ≡ filter (ends_from (suc place)) (l ∷ ls)
    kept true f rest = rw f (ap (λ r. l ∷ r) rest)
    kept false f rest = rw f rest

    go : (b : Bool) → nat_le place l.next ≡ b → filter (ends_from (suc place)) (filter (ends_from place) ls) ≡ filter (ends_from (suc place)) ls
        → filter (ends_from (suc place)) (filter (ends_from place) (l ∷ ls)) ≡ filter (ends_from (suc place)) (l ∷ ls)
    go true e rest = rw e (kept (nat_le (suc place) l.next) refl rest)
    go false e rest =
        let less = leb-false place l.next e in
        let late : nat_le (suc place) l.next ≡ false = lt-not-le l.next (suc place) (omega (arith, less)) in
        rw (e, late) rest

-- the open loops are those of the loops that were opened before that end here or later
pub inside_is : (xs : List Instruction) (place : ℕ) → filter (ends_from place) (opened_below xs place) ≡ inside xs place
inside_is xs zero = refl
inside_is xs (suc place) = go (sym (filter_twice place (opened_below xs place)) ∙ ap (filter (ends_from (suc place))) (inside_is xs place)) (step_at xs place)
  where
    go : filter (ends_from (suc place)) (opened_below xs place) ≡ filter (ends_from (suc place)) (inside xs place) → Step xs place → filter (ends_from (suc place)) (opened_below xs (suc place)) ≡ inside xs (suc place)
    go before (pushed loop opened each later bound) =
        let ends : nat_le (suc place) loop.next ≡ true = le-leb (suc place) loop.next (omega arith) in
        ap (λ o. filter (ends_from (suc place)) (cons_option o (opened_below xs place))) opened
        ∙ ap (λ b. cond b (loop ∷ filter (ends_from (suc place)) (opened_below xs place)) (filter (ends_from (suc place)) (opened_below xs place))) ends
        ∙ ap (λ ls. loop ∷ ls) (before ∙ all_end (suc place) (inside xs place) bound) ∙ ap (λ o. inside_over place o (inside xs place)) (sym opened)
    go before (popped loop opened next is bound) =
        let closed : nat_le (suc place) loop.next ≡ false = lt-not-le loop.next (suc place) (omega arith) in
        ap (λ o. filter (ends_from (suc place)) (cons_option o (opened_below xs place))) opened ∙ before ∙ ap (filter (ends_from (suc place))) is
        ∙ ap (λ b. cond b (loop ∷ filter (ends_from (suc place)) (inside xs (suc place))) (filter (ends_from (suc place)) (inside xs (suc place)))) closed
        ∙ all_end (suc place) (inside xs (suc place)) bound
    go before (stayed opened same bound) =
        ap (λ o. filter (ends_from (suc place)) (cons_option o (opened_below xs place))) opened ∙ before ∙ all_end (suc place) (inside xs place) bound ∙ sym same

-- the loops that are opened from a place on, in order
abbrev pub opened_from : List Instruction → ℕ → List Instruction → List Loop
opened_from xs place ys = filter_map (λ at. loop_from xs at.0 at.1) (enumerate_from place ys)

pub reverse_more : (l : Loop) (ls : List Loop) → reverse (l ∷ ls) ≡ reverse ls ++ l ∷ []
reverse_more l ls = reverse-append (l ∷ []) ls

opened_all : (xs : List Instruction) (place : ℕ) → place ≤ length xs → opened_from xs 0 xs ≡ reverse (opened_below xs place) ++ opened_from xs place (drop place xs)
opened_all xs zero le = refl
opened_all xs (suc place) le = go (slice_get xs place) refl (opened_all xs place (omega arith))
  where
    one : (o : Option Loop) (ls : List Loop) (rest : List Loop) → reverse ls ++ cons_option o rest ≡ reverse (cons_option o ls) ++ rest
    one None ls rest = refl
    one (Some l) ls rest = sym (ap (λ r. r ++ rest) (reverse_more l ls) ∙ append_assoc (reverse ls) (l ∷ []) rest)

    go : (o : Option Instruction) → slice_get xs place ≡ o → opened_from xs 0 xs ≡ reverse (opened_below xs place) ++ opened_from xs place (drop place xs) → opened_from xs 0 xs ≡ reverse (opened_below xs (suc place)) ++ opened_from xs (suc place) (drop (suc place) xs)
    go None e before = absurd (let past = past_from xs place e in omega arith)
    go (Some i) e before =
        let opened : loop_at xs place ≡ loop_from xs place i = rw e refl in
        before ∙ ap (λ ys. reverse (opened_below xs place) ++ opened_from xs place ys) (drop_here xs place i e)
        ∙ ap (λ n. reverse (opened_below xs place) ++ cons_option (loop_from xs place i) (opened_from xs n (drop (suc place) xs))) (add-one place)
        ∙ one (loop_from xs place i) (opened_below xs place) (opened_from xs (suc place) (drop (suc place) xs))
        ∙ ap (λ o. reverse (cons_option o (opened_below xs place)) ++ opened_from xs (suc place) (drop (suc place) xs)) (sym opened)

-- of those that are opened from a place on none is open there
none_open : (xs : List Instruction) (place from : ℕ) (ys : List Instruction) → place ≤ from → filter (is_open place) (opened_from xs from ys) ≡ []
none_open xs place from [] le = refl
none_open xs place from (i ∷ ys) le = go (opens (operation_of i.op)) refl (next_of xs from) (none_open xs place (from + 1) ys (omega arith))
  where
    rest : List Loop
    rest = opened_from xs (from + 1) ys

    one : (o : Option ℕ) → filter (is_open place) (opened_from xs (from + 1) ys) ≡ []
        → filter (is_open place) (cons_option (option_map (λ next. let l : Loop = record { each = from; next = next } in l) o) (opened_from xs (from + 1) ys)) ≡ []
    one None none = none
    one (Some n) none = rw (le-ltb from place le) none

    go : (b : Bool) → opens (operation_of i.op) ≡ b → (o : Option ℕ) → filter (is_open place) (opened_from xs (from + 1) ys) ≡ [] → filter (is_open place) (cons_option (loop_from xs from i) (opened_from xs (from + 1) ys)) ≡ []
    go true e o none = rw e (one (next_of xs from) none)
    go false e o none = rw e none

-- those that are opened below a place are open there where they end there or later
open_ends : (xs : List Instruction) (place bound : ℕ) → place ≤ bound → filter (is_open bound) (opened_below xs place) ≡ filter (ends_from bound) (opened_below xs place)
open_ends xs zero bound le = refl
open_ends xs (suc place) bound le = go (step_at xs place) (open_ends xs place bound (omega arith))
  where
    kept : (loop : Loop) → loop.each < bound → (ls : List Loop) → filter (is_open bound) ls ≡ filter (ends_from bound) ls → filter (is_open bound) (loop ∷ ls) ≡ filter (ends_from bound) (loop ∷ ls)
    kept loop lt ls same = rw (lt-ltb loop.each bound lt, same) refl

    none : loop_at xs place ≡ None → filter (is_open bound) (opened_below xs place) ≡ filter (ends_from bound) (opened_below xs place)
        → filter (is_open bound) (cons_option (loop_at xs place) (opened_below xs place)) ≡ filter (ends_from bound) (cons_option (loop_at xs place) (opened_below xs place))
    none opened same = rw opened same

    go : Step xs place → filter (is_open bound) (opened_below xs place) ≡ filter (ends_from bound) (opened_below xs place)
        → filter (is_open bound) (cons_option (loop_at xs place) (opened_below xs place)) ≡ filter (ends_from bound) (cons_option (loop_at xs place) (opened_below xs place))
    go (pushed loop opened each after bounds) same = rw opened (kept loop (omega arith) (opened_below xs place) same)
    go (popped loop opened next is bounds) same = none opened same
    go (stayed opened is bounds) same = none opened same

filter_reverse : (p : Loop → Bool) (ls : List Loop) → filter p (reverse ls) ≡ reverse (filter p ls)
filter_reverse p [] = refl
filter_reverse p (l ∷ ls) = ap (filter p) (reverse_more l ls) ∙ filter-append p (reverse ls) (l ∷ []) ∙ ap (λ r. r ++ filter p (l ∷ [])) (filter_reverse p ls) ∙ go (p l) refl
  where
    go : (b : Bool) → p l ≡ b → reverse (filter p ls) ++ filter p (l ∷ []) ≡ reverse (filter p (l ∷ ls))
    go true e = rw e (sym (reverse_more l (filter p ls)))
    go false e = rw e (append-nil (reverse (filter p ls)))

-- after the last place all that were opened are closed
opened_end : (xs : List Instruction) (place : ℕ) → length xs ≤ place → opened_below xs place ≡ opened_below xs (length xs)
opened_end xs zero le = let none : zero ≡ length xs = omega arith in ap (opened_below xs) none
opened_end xs (suc place) le =
    elim (cases_eq (suc place) (length xs)) [
      | inl same ↦ ap (opened_below xs) same
      | inr differ ↦
          let past : slice_get xs place ≡ None = slice_get_past xs place (omega arith) in
          ap (λ o. cons_option (option_and_then (loop_from xs place) o) (opened_below xs place)) past ∙ opened_end xs place (omega arith)
    ]

pub loops_are : (code : Code) → loops code ≡ reverse (opened_below code.instructions (length code.instructions))
loops_are code =
    opened_all code.instructions (length code.instructions) (omega arith)
    ∙ ap (λ ys. reverse (opened_below code.instructions (length code.instructions)) ++ opened_from code.instructions (length code.instructions) ys) (drop_of_length-le code.instructions (let le : length code.instructions ≤ length code.instructions = omega arith in le))
    ∙ append-nil _

-- the open loops of a program
pub open_loops_are : (code : Code) (place : ℕ) → open_loops code place ≡ reverse (inside code.instructions place)
open_loops_are code place =
    elim (cases_lt place (suc (length code.instructions))) [
      | inl lt ↦
          let xs : List Instruction = code.instructions in
          ap (filter (is_open place)) (opened_all xs place (omega arith))
          ∙ filter-append (is_open place) (reverse (opened_below xs place)) (opened_from xs place (drop place xs))
          ∙ ap (λ r. filter (is_open place) (reverse (opened_below xs place)) ++ r) (none_open xs place place (drop place xs) (omega arith))
          ∙ append-nil _
          ∙ filter_reverse (is_open place) (opened_below xs place)
          ∙ ap reverse (open_ends xs place place (omega arith) ∙ inside_is xs place)
      | inr le ↦
          let xs : List Instruction = code.instructions in
          let same : opened_below xs (length xs) ≡ opened_below xs place = sym (opened_end xs place (omega arith)) in
          ap (filter (is_open place)) (loops_are code ∙ ap reverse same)
          ∙ filter_reverse (is_open place) (opened_below xs place)
          ∙ ap reverse (open_ends xs place place (omega arith) ∙ inside_is xs place)
    ]
