-- Plain programs charge their whole budget on a chain of parts.
use Rattle.std.proofs.Common.{◌≡◌, ◌==◌, ℕ, zero, suc, ◌+◌, ◌-◌, ◌<◌, ◌≤◌, Bool, true, false, ◌&&◌, nat_lt, cond, List, [], ◌∷◌, ◌++◌, Option, Some, None, All, min, sum, sum_by, take, length, length-append, slice_get, slice_set, refl, sym, ap, subst, ◌∙◌, arith}
use Rattle.std.specs.List.{concat}
use Rattle.std.specs.Option.{option_and_then, option_map, option_map_or}
use Rattle.std.proofs.lemmas.List.{length-take}
use Rattle.std.proofs.lemmas.List.Sums.{sum_by-cons}
use Rattle.std.proofs.lemmas.List.Concat.{concat_is, length-flat_map}
use Rattle.octets.specs.Limits.{max_stack, max_string, max_value}
use Rattle.bytecode_format.specs.declared.action.Action.TheVariants as action
use Rattle.bytecode_format.specs.declared.instruction.Instruction.{Instruction}
use Rattle.bytecode_format.specs.declared.operation.Operation.{Operation}
use Rattle.bytecode_format.specs.declared.operation.Operation.TheVariants.{Halt, Literal, Variable, Capture, Join, Set, Not, Jump, JumpIfTrue, JumpIfFalse, Keep, Discard, File, Store, Each, Next, Break, Take, Test}
use Rattle.bytecode_format.specs.Operations.{operation_of}
use Rattle.bytecode_format.specs.Code.{Code}
use Rattle.bytecode_format.specs.declared.modifiers.Modifiers.{Modifiers}
use Rattle.bytecode_format.specs.Modifiers.{modified, modifiers_numbered}
use Rattle.bytecode_verifier.specs.declared.shape.Entry.TheVariants.{Truth, Text}
use Rattle.bytecode_verifier.specs.Rows.{is_well_formed}
use Rattle.bytecode_verifier.specs.Rules.{row_in}
use Rattle.bytecode_verifier.specs.Shape.{Entries, Texts, is_empty, with_entry, with_string as shape_string, with_joined, take_texts, shape_at}
use Rattle.bytecode_verifier.specs.Loops.{Loop, open_loops}
use Rattle.bytecode_verifier.specs.Budget.{cap_of, cap_at, cap_of_octets, one_charge}
use Rattle.bytecode_verifier.specs.Acceptance.{IsAccepted}
use Rattle.bytecode_verifier.proofs.Consequences.{left_by, shape_next}
use Rattle.bytecode_verifier.proofs.Nesting.{Nesting, nesting}
use Rattle.mime_decode.specs.Mail.{Mail, Part, IsMail}
use Rattle.mime_decode.specs.Visited.{visited}
use Rattle.sieve_vm.specs.Plain.{IsChain, IsPlain, is_plain}
use Rattle.sieve_vm.specs.State.{Value, truth, text, Frame, State, current_part, Turn, goes, ends, traps, start}
use Rattle.sieve_vm.specs.Stack.{OnTop, length_on_top}
use Rattle.sieve_vm.specs.Charge.{octets_on_top, charge_of}
use Rattle.sieve_vm.specs.Machine as machine
use Rattle.sieve_vm.specs.Machine.{Effect, on, jumps, halts, fails, push, with_text, with_texts, join, file, store, store_part, with_part, are_partners, open_loop, next_part, effect, turn, turn_of, turn_at, step, referred_in}
use Rattle.sieve_vm.specs.Runs.{Run, RunEnds}
use Rattle.sieve_vm.specs.Potential.{potential_from, cap_value, limit_of}
use Rattle.sieve_vm.proofs.Falls.{depth_at, cap_there, end_of, potential-start}
use Rattle.sieve_vm.proofs.Opened.{loop_of, IsPart, AreOpen, open-length, last_of_both, AreVisited, are_visited, first_inside, IsUnderWay, visited-inside, inside}
use Rattle.sieve_vm.proofs.Reached.{IsReached, IsSound, with_entry-some, empty-some, All-head}
use Rattle.sieve_vm.proofs.SoundSteps.{step_is_sound, start_is_reached}
use Rattle.sieve_vm.proofs.AfterBrackets.{shape_after_each, shape_after_next}
use Rattle.sieve_vm.proofs.Bounds.{ends_within}
use Rattle.sieve_vm.proofs.Kept.{kept-on, kept-last, kept-enter, kept-pass, kept-again, kept-leave}
use Rattle.sieve_vm.proofs.Filled.{Fills, fills_top}
use Rattle.sieve_vm.proofs.LastHalt.{last_halt}
use Rattle.sieve_vm.proofs.Chains.{all_below}

-- a stack fills what the shape says of a place
abbrev FillsAt : Code → ℕ → List Value → Type 0
FillsAt code place stack = (es : Entries) → shape_at code place ≡ Some es → Fills es stack

-- a state that a run may reach, whose stack fills its shape, and from which all that is left of the budget may still be charged
pub record IsFull (code : Code) (mail : Mail) (s : State) : Type 0 where
  pub reached : IsReached code mail s
  pub fills : Fills reached.entries s.stack
  pub whole : limit_of code mail ≤ potential_from code mail s.place s.frames + s.charge

module _ (code : Code) (mail : Mail) (is : IsAccepted code) (known : IsMail mail) (two : code.version ≡ 2) (plain : IsPlain code) (chain : IsChain mail) where
  -- an effect that is charged so much, after which the same holds
  abbrev Stays : State → ℕ → Effect → Type 0
  Stays s cost (on to) =
      FillsAt code (suc s.place) to.stack × (potential_from code mail s.place s.frames ≤ potential_from code mail (suc s.place) to.frames + cost) × (to.charge ≡ s.charge) × (to.place ≡ s.place)
  Stays s cost (jumps target to) = FillsAt code target to.stack × (potential_from code mail s.place s.frames ≤ potential_from code mail target to.frames + cost) × (to.charge ≡ s.charge)
  Stays s cost (halts to) = (potential_from code mail s.place s.frames ≤ cost) × (to.charge ≡ s.charge)
  Stays s cost fails = Unit {0}

  -- a turn after which it holds
  abbrev StaysFull : Turn → Type 0
  StaysFull (goes to) = IsReached code mail to → IsFull code mail to
  StaysFull (ends end) = limit_of code mail ≤ end.charge
  StaysFull traps = Unit {0}

  stays_turn : (s : State) (cost : ℕ) (e : Effect) → IsFull code mail s → Stays s cost e → StaysFull (turn cost e)
  stays_turn s cost (on to) full stays =
      let next : suc to.place ≡ suc s.place = ap suc stays.3 in
      let whole = full.whole in
      let falls : potential_from code mail s.place s.frames ≤ potential_from code mail (suc to.place) to.frames + cost = subst (λ p. potential_from code mail s.place s.frames ≤ potential_from code mail p to.frames + cost) (sym next) stays.1 in
      λ reached. record {
        reached = reached;
        fills = subst (λ p. FillsAt code p to.stack) (sym next) stays.0 reached.entries reached.shape;
        whole = omega (arith, whole, falls, stays.2);
      }
  stays_turn s cost (jumps target to) full stays =
      let whole = full.whole in
      λ reached. record { reached = reached; fills = stays.0 reached.entries reached.shape; whole = omega (arith, whole, stays.1, stays.2) }
  stays_turn s cost (halts to) full stays = let whole = full.whole in omega (arith, whole, stays.0, stays.1)
  stays_turn s cost fails full stays = tt

  nested_here : Nesting code
  nested_here = nesting code is

  module _ (s : State) (full : IsFull code mail s) (i : Instruction) (here : slice_get code.instructions s.place ≡ Some i) where
    abbrev entries : Entries
    entries = full.reached.entries

    at : shape_at code s.place ≡ Some entries
    at = full.reached.shape

    depth : depth_at code mail s.place ≡ length s.frames
    depth = open-length mail s.frames (open_loops code s.place) full.reached.opened

    before_the_end : s.place < end_of code mail s.frames
    before_the_end = inside code mail s.frames s.place nested_here full.reached.opened full.reached.within

    module _ (o : Operation) (named : operation_of i.op ≡ Some o) where
      cap_is : cap_there code mail s.place ≡ cap_value mail (cap_of (Some o) i entries)
      cap_is = let cap : cap_at code s.place ≡ cap_of (Some o) i entries = rw (here, at, named) refl in ap (cap_value mail) cap

      next_entries : (es : Entries) × (left_by code (Some o) i entries ≡ Some es) × (shape_at code (suc s.place) ≡ Some es)
      next_entries = let n = shape_next code is s.place i entries here at in (n.0, ap (λ x. left_by code x i entries) (sym named) ∙ n.1, n.2)

      fills_after : (stack : List Value) (es : Entries) → left_by code (Some o) i entries ≡ Some es → Fills es stack → FillsAt code (suc s.place) stack
      fills_after stack es left fills other e =
          let same : es ≡ other = (let f : Some es ≡ Some other = sym left ∙ next_entries.1 ∙ sym next_entries.2 ∙ e in cc) in
          subst (λ x. Fills x stack) same fills

      -- on in the same loops
      stays_on : (to : State) (es : Entries) (cost : ℕ) → left_by code (Some o) i entries ≡ Some es → Fills es to.stack → to.frames ≡ s.frames → to.charge ≡ s.charge → to.place ≡ s.place
          → cap_value mail (cap_of (Some o) i entries) ≤ cost → Stays s cost (on to)
      stays_on to es cost left fills frames charge place most = (
        fills_after to.stack es left fills,
        subst (λ fs. potential_from code mail s.place s.frames ≤ potential_from code mail (suc s.place) fs + cost) (sym frames) (omega (arith, kept-on code mail two s.frames s.place depth before_the_end, cap_is, most)),
        charge,
        place,
      )

      stays_if : (b : Bool) (cost : ℕ) (e : Effect) → Stays s cost e → Stays s cost (cond b e fails)
      stays_if true cost e stays = stays
      stays_if false cost e stays = tt

      -- a text is pushed
      stays_pushed : (t : List ℕ) (bound : ℕ) (to : State) (es below : Entries) (cost : ℕ) → left_by code (Some o) i entries ≡ Some es → with_entry (Text bound) below ≡ Some es → bound ≤ length t → Fills below to.stack
          → to.frames ≡ s.frames → to.charge ≡ s.charge → to.place ≡ s.place → cap_value mail (cap_of (Some o) i entries) ≤ cost → Stays s cost (push (text t) to)
      stays_pushed t bound to es below cost left with_one long fills frames charge place most =
          stays_if (nat_lt (length to.stack) max_stack) cost (on (record to { stack = text t ∷ to.stack }))
          (stays_on (record to { stack = text t ∷ to.stack }) es cost left (subst (λ x. Fills x (text t ∷ to.stack)) (with_entry-some (Text bound) below es with_one).1 (long, fills)) frames charge place most)

      -- a text is taken
      stays_taking : (does : List ℕ → State → Effect) (es : Entries) → option_map (λ (v : Texts). v.below) (take_texts 1 entries) ≡ Some es
          → cap_value mail (cap_of (Some o) i entries) ≡ cap_value mail (option_map_or cap_of_octets (take_texts 1 entries) one_charge)
          → ((t : List ℕ) (vs : List Value) → Fills es vs → cap_value mail (cap_of (Some o) i entries) ≤ 1 + length t → Stays s (1 + length t) (does t (record s { stack = vs })))
          → Stays s (1 + length_on_top s.stack) (with_text does s s.stack)
      stays_taking does es taken priced each = go entries s.stack full.fills taken priced
        where
          go : (before : Entries) (stack : List Value) → Fills before stack → option_map (λ (v : Texts). v.below) (take_texts 1 before) ≡ Some es
              → cap_value mail (cap_of (Some o) i entries) ≡ cap_value mail (option_map_or cap_of_octets (take_texts 1 before) one_charge) → Stays s (1 + length_on_top stack) (with_text does s stack)
          go [] stack d f price = absurd cc
          go (Truth ∷ before) stack d f price = absurd cc
          go (Text bound ∷ before) [] d f price = absurd d
          go (Text bound ∷ before) (truth b ∷ vs) d f price = absurd d
          go (Text bound ∷ before) (text t ∷ vs) d f price =
              let same : before ≡ es = cc in
              let one : sum (bound ∷ []) ≡ bound + sum [] = sum_by-cons (λ x. x) bound [] in
              each t vs (subst (λ x. Fills x vs) same d.1) (omega (arith, price, one, d.0))

    stays_literal : operation_of i.op ≡ Some Literal → Stays s (charge_of (referred_in code) mail Literal i s) (effect (referred_in code) mail Literal i s)
    stays_literal e = let n = next_entries Literal e in go n.0 n.1 (slice_get code.strings i.c) refl n.1
      where
        go : (es : Entries) → left_by code (Some Literal) i entries ≡ Some es → (string : Option (List ℕ)) → slice_get code.strings i.c ≡ string → shape_string string entries ≡ Some es → Stays s 1 (machine.with_string s string)
        go es left None h f = tt
        go es left (Some octets) h f = stays_pushed Literal e octets (length octets) s es entries 1 left f (omega arith) full.fills refl refl refl (omega arith)

    stays_join : operation_of i.op ≡ Some Join → Stays s (charge_of (referred_in code) mail Join i s) (effect (referred_in code) mail Join i s)
    stays_join e = let n = next_entries Join e in go n.0 n.1 (take_texts i.b entries) refl n.1
      where
        go : (es : Entries) → left_by code (Some Join) i entries ≡ Some es → (bounds : Option Texts) → take_texts i.b entries ≡ bounds → option_and_then with_joined bounds ≡ Some es
            → Stays s (charge_of (referred_in code) mail Join i s) (effect (referred_in code) mail Join i s)
        go es left None h f = absurd cc
        go es left (Some bounds) h f =
            let top = fills_top i.b entries bounds s.stack h full.fills in
            let long = top.long in
            let joined : List ℕ = take max_string (concat top.top.texts) in
            let all : length (concat top.top.texts) ≡ sum_by length top.top.texts = ap length (concat_is top.top.texts) ∙ length-flat_map (λ t. t) top.top.texts in
            let price : cap_value mail (cap_of (Some Join) i entries) ≡ cap_value mail (cap_of_octets bounds) = ap (λ (x : Option Texts). cap_value mail (option_map_or cap_of_octets x one_charge)) h in
            subst (λ (x : Option OnTop). Stays s (1 + option_map_or octets_on_top x 0) (with_texts join s x)) (sym top.is)
            (stays_pushed Join e joined (min (sum bounds.texts) max_string) (record s { stack = top.top.below }) es bounds.below (1 + sum_by length top.top.texts) left f
            (omega (arith, length-take max_string (concat top.top.texts), all, long)) top.below refl refl refl (omega (arith, price, long)))

    stays_set : operation_of i.op ≡ Some Set → Stays s (charge_of (referred_in code) mail Set i s) (effect (referred_in code) mail Set i s)
    stays_set e =
        let n = next_entries Set e in
        stays_taking Set e (machine.set_variable i) n.0 n.1 refl (λ t vs fills most. go n.0 n.1 t vs fills most (modifiers_numbered i.a))
      where
        go : (es : Entries) → left_by code (Some Set) i entries ≡ Some es → (t : List ℕ) (vs : List Value) → Fills es vs → cap_value mail (cap_of (Some Set) i entries) ≤ 1 + length t
            → (modifiers : Option Modifiers) → Stays s (1 + length t) (machine.set_modified i.c modifiers t (record s { stack = vs }))
        go es left t vs fills most None = tt
        go es left t vs fills most (Some modifiers) =
            let to : State = record s { stack = vs; variables = slice_set s.variables i.c (take max_value (modified modifiers t)) } in
            stays_if Set e (nat_lt i.c (length s.variables)) (1 + length t) (on to) (stays_on Set e to es (1 + length t) left fills refl refl refl most)

    stays_file : operation_of i.op ≡ Some File → Stays s (charge_of (referred_in code) mail File i s) (effect (referred_in code) mail File i s)
    stays_file e =
        let n = next_entries File e in
        stays_taking File e file n.0 n.1 refl
        (λ t vs fills most. stays_on File e (record s { stack = vs; actions = s.actions ++ action.File t ∷ []; implicit_keep = false }) n.0 (1 + length t) n.1 fills refl refl refl most)

    stays_store : operation_of i.op ≡ Some Store → Stays s (charge_of (referred_in code) mail Store i s) (effect (referred_in code) mail Store i s)
    stays_store e = go s.frames
      where
        stores : (number : ℕ) → Stays s (1 + length_on_top s.stack) (with_text (store number) s s.stack)
        stores number =
            let n = next_entries Store e in
            stays_taking Store e (store number) n.0 n.1 refl
            (λ t vs fills most. stays_on Store e (record s { stack = vs; actions = s.actions ++ action.Store t number ∷ [] }) n.0 (1 + length t) n.1 fills refl refl refl most)

        found : (number : ℕ) (part : Option Part) → Stays s (1 + length_on_top s.stack) (option_map_or (λ (p : Part). store_part number p s) part fails)
        found number None = tt
        found number (Some p) = stores number

        go : (frames : List Frame) → Stays s (1 + length_on_top s.stack) (with_part store_part mail s frames)
        go [] = tt
        go (frame ∷ frames) = found frame.part (slice_get mail.parts frame.part)

    -- ---- brackets

    no_stack_at : (o : Operation) → operation_of i.op ≡ Some o → ((es : Entries) → left_by code (Some o) i es ≡ cond (is_empty es) (Some []) None) → Fills [] s.stack
    no_stack_at o e takes =
        let n = next_entries o e in
        subst (λ (x : Entries). Fills x s.stack) (empty-some entries n.0 (sym (takes entries) ∙ n.1)) full.fills

    fills_empty : (place : ℕ) → shape_at code place ≡ Some [] → Fills [] s.stack → FillsAt code place s.stack
    fills_empty place shape none es e =
        let same : [] ≡ es = (let f : Some [] ≡ Some es = sym shape ∙ e in cc) in
        subst (λ (x : Entries). Fills x s.stack) same none

    stays_each : operation_of i.op ≡ Some Each → Stays s (charge_of (referred_in code) mail Each i s) (effect (referred_in code) mail Each i s)
    stays_each e =
        stays_if Each e (are_partners code s.place i.c && nat_lt (length s.frames) 3) 1 (open_loop i.c (visited (current_part s.frames) mail) s)
        (go (visited (current_part s.frames) mail) refl (are_visited mail known (current_part s.frames)))
      where
        loop : Loop
        loop = record { each = s.place; next = i.c }

        outer : List Loop
        outer = open_loops code s.place

        opened : open_loops code (suc s.place) ≡ outer ++ loop ∷ []
        opened = nested_here.opened s.place i here e

        within : (s.place < suc s.place) × (suc s.place ≤ i.c) × (suc i.c < length code.instructions)
        within = nested_here.within (suc s.place) outer loop [] opened

        none : Fills [] s.stack
        none = no_stack_at Each e (λ es. refl)

        ends_before : (fs : List Frame) → AreOpen mail fs outer → suc i.c ≤ end_of code mail fs
        ends_before [] are = omega (arith, within.2)
        ends_before (f ∷ fs) are =
            let after = (nested_here.around (suc s.place) outer loop [] opened).1 ∙ are.1 in
            omega (arith, (nested_here.within (suc i.c) are.0 (loop_of f) [] after).1)

        deeper : (p : ℕ) → s.place < p → p ≤ i.c → suc (length s.frames) ≤ depth_at code mail p
        deeper p after before =
            let b = nested_here.body (suc s.place) outer loop [] opened p after before in
            omega (arith, ap length b.1, length-append outer (loop ∷ b.0), depth)

        cap : cap_there code mail s.place ≡ 1
        cap = cap_is Each e ∙ omega arith

        go : (parts : List ℕ) → visited (current_part s.frames) mail ≡ parts → AreVisited mail parts → Stays s 1 (open_loop i.c parts s)
        go [] all are = (
          fills_empty (suc i.c) (shape_after_next code is i.c _ (nested_here.partners (suc s.place) outer loop [] opened).1) none,
          omega (arith, kept-pass code mail two s.frames s.place i.c depth (omega (arith, within.1)) (ends_before s.frames full.reached.opened) deeper all, cap),
          refl,
        )
        go (part ∷ rest) all are =
            let below = all_below mail known chain s.frames part rest (first_inside s.frames) (All-head (IsPart mail) part rest are.each) (sym (visited-inside mail s.frames) ∙ all) in (
              fills_empty (suc s.place) (shape_after_each code is s.place _ (nested_here.partners (suc s.place) outer loop [] opened).0) none,
              omega (arith, kept-enter code mail two s.frames s.place i.c part rest depth (omega (arith, within.1)) (ends_before s.frames full.reached.opened) deeper all below, cap),
              refl,
              refl,
            )

    stays_next : operation_of i.op ≡ Some Next → Stays s (charge_of (referred_in code) mail Next i s) (effect (referred_in code) mail Next i s)
    stays_next e = go s.frames refl full.reached.opened
      where
        loop : Loop
        loop = record { each = i.c; next = s.place }

        outer : List Loop
        outer = open_loops code (suc s.place)

        closed : open_loops code s.place ≡ outer ++ loop ∷ []
        closed = nested_here.closed s.place i here e

        none : Fills [] s.stack
        none = no_stack_at Next e (λ es. refl)

        cap : cap_there code mail s.place ≡ 1
        cap = cap_is Next e ∙ omega arith

        turns : (f : Frame) (fs : List Frame) → s.frames ≡ f ∷ fs → f.each ≡ i.c → f.next ≡ s.place → AreOpen mail fs outer → IsUnderWay mail f fs → (rest : List ℕ) → f.rest ≡ rest → All (IsPart mail) rest
            → Stays s 1 (next_part f fs rest s)
        turns f fs same each_is next_is are way rest rest_is all = pick rest rest_is all
          where
            deep : depth_at code mail f.next ≡ suc (length fs)
            deep = ap (depth_at code mail) next_is ∙ depth ∙ ap length same

            deeper : (q : ℕ) → f.each < q → q ≤ f.next → suc (length fs) ≤ depth_at code mail q
            deeper q behind before =
                let b = nested_here.body s.place outer loop [] closed q (omega (arith, each_is, behind)) (omega (arith, next_is, before)) in
                omega (arith, ap length b.1, length-append outer (loop ∷ b.0), open-length mail fs outer are)

            -- as it is at the frame
            from_here : (left : ℕ) → potential_from code mail f.next (f ∷ fs) ≤ left + cap_there code mail f.next → potential_from code mail s.place s.frames ≤ left + 1
            from_here left le =
                let there : potential_from code mail s.place (f ∷ fs) ≤ left + cap_there code mail s.place = subst (λ p. potential_from code mail p (f ∷ fs) ≤ left + cap_there code mail p) next_is le in
                subst (λ gs. potential_from code mail s.place gs ≤ left + 1) (sym same) (omega (arith, there, cap))

            pick : (parts : List ℕ) → f.rest ≡ parts → All (IsPart mail) parts → Stays s 1 (next_part f fs parts s)
            pick [] is_rest each = (
              fills_empty (suc s.place) (shape_after_next code is s.place _ (nested_here.partners s.place outer loop [] closed).1) none,
              subst (λ p. potential_from code mail s.place s.frames ≤ potential_from code mail (suc p) fs + 1) next_is (from_here (potential_from code mail (suc f.next) fs) (kept-leave code mail two f fs deep deeper is_rest)),
              refl,
              refl,
            )
            pick (p ∷ others) is_rest each =
                let below = all_below mail known chain fs p others (suc f.part) (All-head (IsPart mail) p others each) (sym way.left ∙ is_rest) in (
                  fills_empty (suc f.each) (subst (λ n. shape_at code (suc n) ≡ Some []) (sym each_is) (shape_after_each code is i.c _ (nested_here.partners s.place outer loop [] closed).0)) none,
                  from_here (potential_from code mail (suc f.each) (record f { part = p; rest = others } ∷ fs)) (kept-again code mail two f fs p others deep deeper is_rest below),
                  refl,
                )

        go : (fs : List Frame) → s.frames ≡ fs → AreOpen mail fs (open_loops code s.place) → Stays s 1 (machine.next (referred_in code) i.c s fs)
        go [] same are = tt
        go (f ∷ fs) same are =
            let both = last_of_both outer are.0 loop (loop_of f) (sym closed ∙ are.1) in
            let each_is : f.each ≡ i.c = ap (λ (l : Loop). l.each) (sym both.1) in
            let next_is : f.next ≡ s.place = ap (λ (l : Loop). l.next) (sym both.1) in
            stays_if Next e (are_partners code i.c s.place && (f.each == i.c) && (f.next == s.place)) 1 (next_part f fs f.rest s)
            (turns f fs same each_is next_is (subst (AreOpen mail fs) (sym both.0) are.2) are.5 f.rest refl are.4)

    stays_halt : operation_of i.op ≡ Some Halt → Stays s (charge_of (referred_in code) mail Halt i s) (effect (referred_in code) mail Halt i s)
    stays_halt e = (go s.frames refl full.reached.opened, refl)
      where
        n : ℕ
        n = length code.instructions

        some : s.place < n
        some = full.reached.within

        end : (j : Instruction) × (slice_get code.instructions (n - 1) ≡ Some j) × (operation_of j.op ≡ Some Halt)
        end = last_halt code is (n - 1) (omega (arith, some))

        last : suc s.place ≡ n
        last = let same = plain.one_end s.place (n - 1) i end.0 here end.1 e end.2 in omega (arith, same, some)

        go : (fs : List Frame) → s.frames ≡ fs → AreOpen mail fs (open_loops code s.place) → potential_from code mail s.place s.frames ≤ 1
        go [] same are =
            subst (λ gs. potential_from code mail s.place gs ≤ 1) (sym same)
            (omega (arith, kept-last code mail two s.place (depth ∙ ap length same) last, cap_is Halt e))
        go (f ∷ fs) same are = absurd (let w = nested_here.within s.place are.0 (loop_of f) [] are.1 in omega (arith, w.1, w.2, last))

    -- an operation that isn't plain
    other : (o : Operation) → operation_of i.op ≡ Some o → is_plain o ≡ false → (e : Effect) (cost : ℕ) → Stays s cost e
    other o named not_plain e cost = absurd (let wrong : false ≡ true = sym not_plain ∙ plain.operations s.place i o here named in cc)

    stays : (o : Operation) → operation_of i.op ≡ Some o → Stays s (charge_of (referred_in code) mail o i s) (effect (referred_in code) mail o i s)
    stays Halt e = stays_halt e
    stays Literal e = stays_literal e
    stays Variable e = other Variable e refl (effect (referred_in code) mail Variable i s) (charge_of (referred_in code) mail Variable i s)
    stays Capture e = other Capture e refl (effect (referred_in code) mail Capture i s) (charge_of (referred_in code) mail Capture i s)
    stays Join e = stays_join e
    stays Set e = stays_set e
    stays (Test test) e = other (Test test) e refl (effect (referred_in code) mail (Test test) i s) (charge_of (referred_in code) mail (Test test) i s)
    stays Not e = other Not e refl (effect (referred_in code) mail Not i s) (charge_of (referred_in code) mail Not i s)
    stays Jump e = other Jump e refl (effect (referred_in code) mail Jump i s) (charge_of (referred_in code) mail Jump i s)
    stays JumpIfTrue e = other JumpIfTrue e refl (effect (referred_in code) mail JumpIfTrue i s) (charge_of (referred_in code) mail JumpIfTrue i s)
    stays JumpIfFalse e = other JumpIfFalse e refl (effect (referred_in code) mail JumpIfFalse i s) (charge_of (referred_in code) mail JumpIfFalse i s)
    stays Keep e = stays_on Keep e (record s { actions = s.actions ++ action.Keep ∷ []; implicit_keep = false }) entries 1 refl full.fills refl refl refl (omega arith)
    stays Discard e = stays_on Discard e (record s { implicit_keep = false }) entries 1 refl full.fills refl refl refl (omega arith)
    stays File e = stays_file e
    stays Store e = stays_store e
    stays Each e = stays_each e
    stays Next e = stays_next e
    stays Break e = other Break e refl (effect (referred_in code) mail Break i s) (charge_of (referred_in code) mail Break i s)
    stays Take e = other Take e refl (effect (referred_in code) mail Take i s) (charge_of (referred_in code) mail Take i s)

    stays_of : (o : Option Operation) → operation_of i.op ≡ o → StaysFull (turn_of code mail o i s)
    stays_of None e = tt
    stays_of (Some o) e = go (is_well_formed (row_in code i) i)
      where
        go : (b : Bool) → StaysFull (cond b (turn (charge_of (referred_in code) mail o i s) (effect (referred_in code) mail o i s)) traps)
        go true = stays_turn s (charge_of (referred_in code) mail o i s) (effect (referred_in code) mail o i s) full (stays o e)
        go false = tt

  full_step : (s : State) → IsFull code mail s → StaysFull (step code mail s)
  full_step s full = go (slice_get code.instructions s.place) refl
    where
      go : (found : Option Instruction) → slice_get code.instructions s.place ≡ found → StaysFull (turn_at code mail s found)
      go None e = tt
      go (Some i) e = stays_of s full i e (operation_of i.op) refl

  full_run : (n : ℕ) (from to : State) → IsFull code mail from → Run code mail n from to → IsFull code mail to
  full_run zero from to full run = subst (IsFull code mail) run full
  full_run (suc n) from to full run =
      let reached : IsReached code mail run.0 = (subst (IsSound code mail from) run.1 (step_is_sound code mail is known from full.reached)).0 in
      full_run n run.0 to (subst StaysFull run.1 (full_step from full) reached) run.2

  full_start : IsFull code mail (start code)
  full_start =
      let from_start : potential_from code mail 0 [] ≡ limit_of code mail = potential-start code mail nested_here in
      let reached : IsReached code mail (start code) = start_is_reached code mail is known in
      let none : [] ≡ reached.entries = (let e : Some [] ≡ Some reached.entries = reached.shape in cc) in
      record { reached = reached; fills = subst (λ (es : Entries). Fills es []) none tt; whole = omega (arith, from_start) }

  pub charges_all : (end : State) → RunEnds code mail end → end.charge ≡ limit_of code mail
  charges_all end over =
      let last = full_run over.steps (start code) over.last full_start over.run in
      let least : limit_of code mail ≤ end.charge = subst StaysFull over.halts (full_step over.last last) in
      omega (arith, least, ends_within code mail is known end over)
