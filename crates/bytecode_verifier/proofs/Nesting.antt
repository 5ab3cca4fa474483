-- The open loops of an accepted program, from place to place: what the proofs of runs need.
use Rattle.std.proofs.Common.{◌≡◌, ℕ, zero, suc, ◌+◌, ◌<◌, ◌≤◌, Bool, true, false, not, ◌&&◌, ◌==◌, nat_le, List, [], ◌∷◌, ◌++◌, Option, Some, None, length, reverse, drop, slice_get, refl, sym, ap, ◌∙◌, arith, leb-false, append_assoc, drop_of_length-le}
use Rattle.std.proofs.lemmas.Bool.{eq-eqb, eqb-true}
use Rattle.std.proofs.lemmas.List.{reverse-append, reverse-reverse}
use Rattle.octets.specs.Limits.{max_loops}
use Rattle.bytecode_format.specs.declared.instruction.Instruction.{Instruction}
use Rattle.bytecode_format.specs.declared.operation.Operation.TheVariants.{Each, Next}
use Rattle.bytecode_format.specs.Operations.{operation_of}
use Rattle.bytecode_format.specs.Code.{Code}
use Rattle.bytecode_verifier.specs.Places.{holds_at}
use Rattle.bytecode_verifier.specs.Loops.{Loop, opens, closes, open_loops, same_loops}
use Rattle.bytecode_verifier.specs.Rules.{has_loop, is_halt}
use Rattle.bytecode_verifier.specs.Acceptance.{IsAccepted}
use Rattle.bytecode_verifier.specs.Nests.{first_of, waiting_from, next_at, leads}
use Rattle.bytecode_verifier.proofs.Closing.{Kind, is_each, is_next, is_neither, kind, drop_here}
use Rattle.bytecode_verifier.proofs.Open.{From, waiting_later, from_rest, loop_at, loop_to, loop_at_next, inside, nexts, waits, Step, pushed, popped, stayed, step_at, past_from, reverse_more, open_loops_are}
use Rattle.bytecode_verifier.proofs.Around.{Stands, stands, same_loop, open_equal, has_loop_is, body_open, at_its_next, length_reverse}
use Rattle.bytecode_verifier.proofs.Consequences.{or_parts, not_false, not_last}

-- How the open loops of a program whose brackets are right go on from place to place; outermost first.
pub record Nesting (code : Code) : Type 0 where
  -- no loop is open at the start
  pub start : open_loops code 0 ≡ []
  -- at most three are open
  pub few : (place : ℕ) → length (open_loops code place) ≤ max_loops
  -- after an instruction that is no bracket the same are open
  pub same : (place : ℕ) (i : Instruction) → slice_get code.instructions place ≡ Some i → opens (operation_of i.op) ≡ false → closes (operation_of i.op) ≡ false → open_loops code (suc place) ≡ open_loops code place
  -- an Each opens its loop, up to the Next that it names
  pub opened : (place : ℕ) (i : Instruction) → slice_get code.instructions place ≡ Some i → operation_of i.op ≡ Some Each
      → open_loops code (suc place) ≡ open_loops code place ++ record { each = place; next = i.c } ∷ []
  -- at an Each, before it, there is room for its own
  pub room : (place : ℕ) (i : Instruction) → slice_get code.instructions place ≡ Some i → operation_of i.op ≡ Some Each → length (open_loops code place) < max_loops
  -- a Next stands in the loop of the Each that it names, innermost, and closes it
  pub closed : (place : ℕ) (i : Instruction) → slice_get code.instructions place ≡ Some i → operation_of i.op ≡ Some Next
      → open_loops code place ≡ open_loops code (suc place) ++ record { each = i.c; next = place } ∷ []
  -- where the same loops are open the lists are equal
  pub equal : (p q : ℕ) → same_loops code p q ≡ true → open_loops code p ≡ open_loops code q
  -- of the loops open at a place, those before one are what is open at its Each and after its Next, and at its body's first place it is innermost
  pub around : (place : ℕ) (outer : List Loop) (loop : Loop) (inner : List Loop) → open_loops code place ≡ outer ++ loop ∷ inner
      → (open_loops code loop.each ≡ outer) × (open_loops code (suc loop.next) ≡ outer) × (open_loops code (suc loop.each) ≡ outer ++ loop ∷ [])
  -- an open loop stands around the place, and in the program
  pub within : (place : ℕ) (outer : List Loop) (loop : Loop) (inner : List Loop) → open_loops code place ≡ outer ++ loop ∷ inner
      → (loop.each < place) × (place ≤ loop.next) × (suc loop.next < length code.instructions)
  -- its brackets name each other
  pub partners : (place : ℕ) (outer : List Loop) (loop : Loop) (inner : List Loop) → open_loops code place ≡ outer ++ loop ∷ inner
      → (holds_at code loop.each (λ i. opens (operation_of i.op) && (i.c == loop.next)) ≡ true) × (holds_at code loop.next (λ i. closes (operation_of i.op) && (i.c == loop.each)) ≡ true)
  -- at every place of its body it is open, with those around it before it
  pub body : (place : ℕ) (outer : List Loop) (loop : Loop) (inner : List Loop) → open_loops code place ≡ outer ++ loop ∷ inner
      → (other : ℕ) → loop.each < other → other ≤ loop.next → (deeper : List Loop) × (open_loops code other ≡ outer ++ loop ∷ deeper)

-- the instruction that opens a loop
opens_at : (xs : List Instruction) (place : ℕ) (loop : Loop) → loop_at xs place ≡ Some loop → (i : Instruction) × (slice_get xs place ≡ Some i) × (operation_of i.op ≡ Some Each)
opens_at xs place loop e = go (slice_get xs place) refl
  where
    here : (i : Instruction) → slice_get xs place ≡ Some i → Kind (operation_of i.op) → (i : Instruction) × (slice_get xs place ≡ Some i) × (operation_of i.op ≡ Some Each)
    here i at (is_each o) = (i, at, o)
    here i at (is_next o) = absurd (let none : None ≡ Some loop = rw (at, o) at e in cc)
    here i at (is_neither no_open no_close same none) = absurd (let none : None ≡ Some loop = rw (at, no_open) at e in cc)

    go : (o : Option Instruction) → slice_get xs place ≡ o → (i : Instruction) × (slice_get xs place ≡ Some i) × (operation_of i.op ≡ Some Each)
    go None f = absurd (let none : None ≡ Some loop = rw f at e in cc)
    go (Some i) f = here i f (kind (operation_of i.op))

-- the instruction where the innermost loop ends
closes_at : (xs : List Instruction) (place : ℕ) (loop : Loop) (outer : List Loop) → inside xs place ≡ loop ∷ outer → loop.next ≡ place → (i : Instruction) × (slice_get xs place ≡ Some i) × (operation_of i.op ≡ Some Next)
closes_at xs place loop outer e next = go (slice_get xs place) refl
  where
    first : (w : List ℕ) → waiting_from place (drop place xs) ≡ w → first_of w ≡ place × ((w ≡ []) → ⊥)
    first w is =
        let known = waits xs place in
        let all : w ≡ loop.next ∷ (nexts outer ++ known.0) = sym is ∙ known.1 ∙ ap (λ ls. nexts ls ++ known.0) e in
        (ap first_of all ∙ next, λ none. let wrong : [] ≡ loop.next ∷ (nexts outer ++ known.0) = sym none ∙ all in absurd cc)

    late : (w : List ℕ) → From (suc place) w → first_of w ≡ place → ((w ≡ []) → ⊥) → ⊥
    late [] bound is some = some refl
    late (n ∷ w) bound is some = omega (arith, bound.0, is)

    never : (i : Instruction) → slice_get xs place ≡ Some i → (w : List ℕ) → From (suc place) w → waiting_from place (i ∷ drop (suc place) xs) ≡ w → ⊥
    never i at w bound is = let f = first w (ap (waiting_from place) (drop_here xs place i at) ∙ is) in late w bound f.0 f.1

    here : (i : Instruction) → slice_get xs place ≡ Some i → Kind (operation_of i.op) → (i : Instruction) × (slice_get xs place ≡ Some i) × (operation_of i.op ≡ Some Next)
    here i at (is_next o) = (i, at, o)
    here i at (is_each o) = absurd (never i at _ (from_rest (suc place) _ (waiting_later (suc place) (drop (suc place) xs))) (rw o refl))
    here i at (is_neither no_open no_close same none) = absurd (never i at _ (waiting_later (suc place) (drop (suc place) xs)) (same place (waiting_from (suc place) (drop (suc place) xs))))

    go : (o : Option Instruction) → slice_get xs place ≡ o → (i : Instruction) × (slice_get xs place ≡ Some i) × (operation_of i.op ≡ Some Next)
    go None f = absurd ((first [] (ap (waiting_from place) (drop_of_length-le xs (past_from xs place f)))).1 refl)
    go (Some i) f = here i f (kind (operation_of i.op))

same_instruction : (i j : Instruction) → Some i ≡ Some j → i ≡ j
same_instruction i j e = cc

-- a loop that is opened leads to its Next
led : (found next : ℕ) → leads found next ≡ true → (place : ℕ) → loop_to place found ≡ Some (let l : Loop = record { each = place; next = next } in l)
led zero next h place = absurd (let wrong : false ≡ true = h in cc)
led (suc n) next h place = let same : suc n ≡ next = eqb-true (suc n) next (second (suc n == 0) (suc n == next) h) in ap (λ m. Some (let l : Loop = record { each = place; next = m } in l)) same
  where
    second : (a b : Bool) → (not a && b) ≡ true → b ≡ true
    second true b h = absurd cc
    second false b h = h

next_known : (loop : Loop) (each next : ℕ) → Some loop ≡ Some (let l : Loop = record { each = each; next = next } in l) → next ≡ loop.next
next_known loop each next e = let same : loop ≡ (let l : Loop = record { each = each; next = next } in l) = cc in sym (ap (λ (l : Loop). l.next) same)

-- the lists from the outermost and from the innermost
turned : (outer inner : List Loop) (loop : Loop) → reverse (outer ++ loop ∷ inner) ≡ reverse inner ++ loop ∷ reverse outer
turned outer inner loop = reverse-append outer (loop ∷ inner) ∙ ap (λ r. r ++ reverse outer) (reverse_more loop inner) ∙ append_assoc (reverse inner) (loop ∷ []) (reverse outer)

module _ (code : Code) (is : IsAccepted code) where
  from_inside : (place : ℕ) (ls : List Loop) → inside code.instructions place ≡ ls → open_loops code place ≡ reverse ls
  from_inside place ls e = open_loops_are code place ∙ ap reverse e

  to_inside : (place : ℕ) (outer inner : List Loop) (loop : Loop) → open_loops code place ≡ outer ++ loop ∷ inner → inside code.instructions place ≡ reverse inner ++ loop ∷ reverse outer
  to_inside place outer inner loop e =
      sym (reverse-reverse (inside code.instructions place)) ∙ ap reverse (sym (open_loops_are code place) ∙ e) ∙ turned outer inner loop

  length_open : (place : ℕ) → length (open_loops code place) ≡ length (inside code.instructions place)
  length_open place = ap length (open_loops_are code place) ∙ length_reverse (inside code.instructions place)

  module _ (place : ℕ) (i : Instruction) (here : slice_get code.instructions place ≡ Some i) where
    each_parts : operation_of i.op ≡ Some Each → (has_loop code place i.c ≡ true) × (nat_le max_loops (length (open_loops code place)) ≡ false)
    each_parts each =
        let parts = or_parts (not (has_loop code place i.c)) (nat_le max_loops (length (open_loops code place))) (rw (here, each) at (is.loop place)) in
        (not_false _ parts.0, parts.1)

    next_part : operation_of i.op ≡ Some Next → has_loop code i.c place ≡ true
    next_part next = not_false _ (rw (here, next) at (is.loop place))

    each_opens : operation_of i.op ≡ Some Each → loop_at code.instructions place ≡ Some (let l : Loop = record { each = place; next = i.c } in l)
    each_opens each = loop_at_next code.instructions place ∙ led (next_at code.instructions place) i.c (sym (has_loop_is code place i.c) ∙ (each_parts each).0) place

    inside_each : operation_of i.op ≡ Some Each → inside code.instructions (suc place) ≡ (let l : Loop = record { each = place; next = i.c } in l) ∷ inside code.instructions place
    inside_each each = rw (each_opens each) refl

    inside_next : operation_of i.op ≡ Some Next → inside code.instructions place ≡ (let l : Loop = record { each = i.c; next = place } in l) ∷ inside code.instructions (suc place)
    inside_next next =
        let loop : Loop = record { each = i.c; next = place } in
        let opened : loop_at code.instructions i.c ≡ Some loop = loop_at_next code.instructions i.c ∙ led (next_at code.instructions i.c) place (sym (has_loop_is code i.c place) ∙ next_part next) i.c in
        let first : inside code.instructions (suc i.c) ≡ loop ∷ inside code.instructions i.c = rw opened refl in
        let ends = at_its_next code.instructions (suc i.c) [] loop (inside code.instructions i.c) first in
        ends.0 ∙ ap (λ ls. loop ∷ ls) (sym ends.1)

    inside_same : opens (operation_of i.op) ≡ false → closes (operation_of i.op) ≡ false → inside code.instructions (suc place) ≡ inside code.instructions place
    inside_same no_open no_close = go (step_at code.instructions place)
      where
        go : Step code.instructions place → inside code.instructions (suc place) ≡ inside code.instructions place
        go (pushed new opened each lt bound) = absurd (let none : None ≡ Some new = rw (here, no_open) at opened in cc)
        go (popped old opened next from bound) =
            let there = closes_at code.instructions place old (inside code.instructions (suc place)) from next in
            let same : i ≡ there.0 = same_instruction i there.0 (sym here ∙ there.1) in
            absurd (let wrong : false ≡ true = sym no_close ∙ ap (λ (j : Instruction). closes (operation_of j.op)) same ∙ ap closes there.2 in cc)
        go (stayed opened same bound) = same

    room_here : operation_of i.op ≡ Some Each → length (open_loops code place) < max_loops
    room_here each = leb-false max_loops (length (open_loops code place)) (each_parts each).1

  few_inside : (place : ℕ) → length (inside code.instructions place) ≤ max_loops
  few_inside zero = omega arith
  few_inside (suc place) = go (step_at code.instructions place) (few_inside place)
    where
      go : Step code.instructions place → length (inside code.instructions place) ≤ max_loops → length (inside code.instructions (suc place)) ≤ max_loops
      go (pushed new opened each lt bound) before =
          let there = opens_at code.instructions place new opened in
          let room : length (open_loops code place) < max_loops = room_here place there.0 there.1 there.2 in
          let more : inside code.instructions (suc place) ≡ new ∷ inside code.instructions place = rw opened refl in
          omega (arith, room, length_open place, ap length more)
      go (popped old opened next from bound) before = omega (arith, before, ap length from)
      go (stayed opened same bound) before = omega (arith, before, ap length same)

  module _ (place : ℕ) (outer : List Loop) (loop : Loop) (inner : List Loop) (e : open_loops code place ≡ outer ++ loop ∷ inner) where
    stands_here : Stands code.instructions place (reverse outer) loop
    stands_here = stands code.instructions place (reverse inner) loop (reverse outer) (to_inside place outer inner loop e)

    ends_here : (inside code.instructions loop.next ≡ loop ∷ reverse outer) × (inside code.instructions (suc loop.next) ≡ reverse outer)
    ends_here = at_its_next code.instructions place (reverse inner) loop (reverse outer) (to_inside place outer inner loop e)

    around_here : (open_loops code loop.each ≡ outer) × (open_loops code (suc loop.next) ≡ outer) × (open_loops code (suc loop.each) ≡ outer ++ loop ∷ [])
    around_here = (
      from_inside loop.each (reverse outer) stands_here.before ∙ reverse-reverse outer,
      from_inside (suc loop.next) (reverse outer) ends_here.1 ∙ reverse-reverse outer,
      from_inside (suc loop.each) (loop ∷ reverse outer) stands_here.first ∙ reverse_more loop (reverse outer) ∙ ap (λ ls. ls ++ loop ∷ []) (reverse-reverse outer),
    )

    its_next : (i : Instruction) × (slice_get code.instructions loop.next ≡ Some i) × (operation_of i.op ≡ Some Next)
    its_next = closes_at code.instructions loop.next loop (reverse outer) ends_here.0 refl

    within_here : (loop.each < place) × (place ≤ loop.next) × (suc loop.next < length code.instructions)
    within_here =
        let goes : is_halt (operation_of its_next.0.op) ≡ false = ap is_halt its_next.2 in
        let before : loop.next + 1 < length code.instructions = not_last code is loop.next its_next.0 its_next.1 goes in
        (stands_here.after, stands_here.until, omega arith)

    partners_here : (holds_at code loop.each (λ i. opens (operation_of i.op) && (i.c == loop.next)) ≡ true) × (holds_at code loop.next (λ i. closes (operation_of i.op) && (i.c == loop.each)) ≡ true)
    partners_here =
        let first = opens_at code.instructions loop.each loop stands_here.opened in
        let opened : Some loop ≡ Some (let l : Loop = record { each = loop.each; next = first.0.c } in l) = sym stands_here.opened ∙ each_opens loop.each first.0 first.1 first.2 in
        let names_next : first.0.c ≡ loop.next = next_known loop loop.each first.0.c opened in
        let closed = inside_next loop.next its_next.0 its_next.1 its_next.2 in
        let names_each : its_next.0.c ≡ loop.each = ap (λ (l : Loop). l.each) (same_loop _ loop _ (reverse outer) (sym closed ∙ ends_here.0)) in
        (rw (first.1, first.2) (eq-eqb first.0.c loop.next names_next), rw (its_next.1, its_next.2) (eq-eqb its_next.0.c loop.each names_each))

    body_here : (other : ℕ) → loop.each < other → other ≤ loop.next → (deeper : List Loop) × (open_loops code other ≡ outer ++ loop ∷ deeper)
    body_here other after until =
        let there = body_open code.instructions loop (reverse outer) stands_here.first other after until in (
          reverse there.0,
          from_inside other (there.0 ++ loop ∷ reverse outer) there.1 ∙ turned there.0 (reverse outer) loop ∙ ap (λ ls. ls ++ loop ∷ reverse there.0) (reverse-reverse outer),
        )

pub nesting : (code : Code) → IsAccepted code → Nesting code
nesting code is = record {
  start = open_loops_are code 0;
  few = λ place. omega (arith, few_inside code is place, length_open code is place);
  same = λ place i here no_open no_close. open_loops_are code (suc place) ∙ ap reverse (inside_same code is place i here no_open no_close) ∙ sym (open_loops_are code place);
  opened = λ place i here each.
      open_loops_are code (suc place) ∙ ap reverse (inside_each code is place i here each) ∙ reverse_more _ (inside code.instructions place)
      ∙ ap (λ ls. ls ++ (let l : Loop = record { each = place; next = i.c } in l) ∷ []) (sym (open_loops_are code place));
  room = λ place i here each. room_here code is place i here each;
  closed = λ place i here next.
      open_loops_are code place ∙ ap reverse (inside_next code is place i here next) ∙ reverse_more _ (inside code.instructions (suc place))
      ∙ ap (λ ls. ls ++ (let l : Loop = record { each = i.c; next = place } in l) ∷ []) (sym (open_loops_are code (suc place)));
  equal = open_equal code;
  around = λ place outer loop inner e. around_here code is place outer loop inner e;
  within = λ place outer loop inner e. within_here code is place outer loop inner e;
  partners = λ place outer loop inner e. partners_here code is place outer loop inner e;
  body = λ place outer loop inner e. body_here code is place outer loop inner e;
}
