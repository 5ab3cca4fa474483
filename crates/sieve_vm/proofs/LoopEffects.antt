-- The operations of loops lead on.
use Rattle.std.proofs.Common.{◌≡◌, ℕ, suc, ◌+◌, ◌-◌, ◌<◌, ◌≤◌, Bool, true, ◌&&◌, ◌==◌, nat_lt, cond, List, [], ◌∷◌, ◌++◌, length-append, Some, None, All, length, slice_get, refl, sym, ap, subst, ◌∙◌, arith}
use Rattle.std.proofs.lemmas.Bool.{lt-ltb}
use Rattle.bytecode_format.specs.declared.instruction.Instruction.{Instruction}
use Rattle.bytecode_format.specs.declared.operation.Operation.{Operation}
use Rattle.bytecode_format.specs.declared.operation.Operation.TheVariants.{Each, Next, Break}
use Rattle.bytecode_format.specs.Operations.{operation_of}
use Rattle.bytecode_format.specs.Code.{Code}
use Rattle.bytecode_verifier.specs.Shape.{Entries, is_empty, shape_at}
use Rattle.bytecode_verifier.specs.Loops.{Loop, open_loops}
use Rattle.bytecode_verifier.specs.Acceptance.{IsAccepted}
use Rattle.bytecode_verifier.proofs.Tests.{same_place}
use Rattle.bytecode_verifier.proofs.Consequences.{left_by, break_known}
use Rattle.bytecode_verifier.proofs.Nesting.{Nesting}
use Rattle.mime_decode.specs.Mail.{Mail, IsMail}
use Rattle.sieve_vm.specs.State.{Frame, State, current_part}
use Rattle.sieve_vm.specs.Machine.{fails, are_partners, open_loop, next_part, next, close, effect, referred_in}
use Rattle.sieve_vm.specs.Potential.{left_from}
use Rattle.mime_decode.specs.Visited.{visited}
use Rattle.bytecode_verifier.proofs.Nesting.{nesting}
use Rattle.sieve_vm.proofs.Falls.{depth_at, end_of, potential-forward, potential-enter, potential-again, potential-leave, potential-break}
use Rattle.sieve_vm.proofs.Opened.{loop_of, IsPart, AreOpen, open-length, last_of_both, is_among, some_left, close-is, AreVisited, are_visited, first_inside, IsUnderWay, visited-inside, under_way, below-left, inside}
use Rattle.sieve_vm.proofs.Taking.{Describes}
use Rattle.sieve_vm.proofs.Reached.{HoldsTexts, IsReached, Falls, LeadsTo, Leads, empty-some, no_stack, All-head, All-tail}
use Rattle.sieve_vm.proofs.AfterBrackets.{shape_after_each, shape_after_next}
use Rattle.sieve_vm.proofs.Leading.{after_of}

module _ (code : Code) (mail : Mail) (is : IsAccepted code) (known : IsMail mail) where
  abbrev nested : Nesting code
  nested = nesting code is

  module _ (s : State) (i : Instruction) (here : slice_get code.instructions s.place ≡ Some i) (from : IsReached code mail s) where
    abbrev entries : Entries
    entries = from.entries

    abbrev d : Describes entries s.stack
    d = from.describes

    abbrev held : HoldsTexts code.variables s.variables s.captures
    held = from.texts

    depth : depth_at code mail s.place ≡ length s.frames
    depth = open-length mail s.frames (open_loops code s.place) from.opened

    before_end : s.place < end_of code mail s.frames
    before_end = inside code mail s.frames s.place nested from.opened from.within

    -- one that leaves no entries found none
    no_entries : (o : Operation) → operation_of i.op ≡ Some o → ((es : Entries) → left_by code (Some o) i es ≡ cond (is_empty es) (Some []) None) → s.stack ≡ []
    no_entries o e takes =
        let a = after_of code mail is known s i here from (Some o) e in
        no_stack s.stack (subst (λ (x : Entries). Describes x s.stack) (empty-some entries a.0 (sym (takes entries) ∙ a.1)) d)

    -- to a place after a bracket
    leads_to_bracket : (target : ℕ) (to : State) → target < length code.instructions → shape_at code target ≡ Some [] → to.stack ≡ [] → to.charge ≡ s.charge → AreOpen mail to.frames (open_loops code target) → to.variables ≡ s.variables → to.captures ≡ s.captures → to.actions ≡ s.actions
        → Falls code mail s target to.frames → LeadsTo code mail s target to
    leads_to_bracket target to within shape none charge opened variables captures actions falls =
        record {
          charge_is = charge;
          reached = λ c. record {
            within = within;
            entries = [];
            shape = shape;
            describes = rw none tt;
            opened = opened;
            texts = rw (variables, captures) held;
            stores = rw actions from.stores;
          };
          falls = falls;
        }

    pub leads_each : operation_of i.op ≡ Some Each → Leads code mail s (effect (referred_in code) mail Each i s)
    leads_each e =
        subst (λ (b : Bool). Leads code mail s (cond b (open_loop i.c (visited (current_part s.frames) mail) s) fails)) (sym fits)
        (go (visited (current_part s.frames) mail) refl (are_visited mail known (current_part s.frames)))
      where
        loop : Loop
        loop = record { each = s.place; next = i.c }

        outer : List Loop
        outer = open_loops code s.place

        opened : open_loops code (suc s.place) ≡ outer ++ loop ∷ []
        opened = nested.opened s.place i here e

        within : (s.place < suc s.place) × (suc s.place ≤ i.c) × (suc i.c < length code.instructions)
        within = nested.within (suc s.place) outer loop [] opened

        fits : (are_partners code s.place i.c && nat_lt (length s.frames) 3) ≡ true
        fits =
            let partners = nested.partners (suc s.place) outer loop [] opened in
            let room : nat_lt (length s.frames) 3 ≡ true = lt-ltb _ _ (omega (arith, nested.room s.place i here e, depth)) in
            rw (partners.0, partners.1, room) refl

        none : s.stack ≡ []
        none = no_entries Each e (λ es. refl)

        -- the loop ends within the body that it stands in
        ends : (fs : List Frame) → AreOpen mail fs outer → suc i.c ≤ end_of code mail fs
        ends [] are = omega (arith, within.2)
        ends (f ∷ fs) are =
            let after = (nested.around (suc s.place) outer loop [] opened).1 ∙ are.1 in
            omega (arith, (nested.within (suc i.c) are.0 (loop_of f) [] after).1)

        deeper : (p : ℕ) → s.place < p → p ≤ i.c → suc (length s.frames) ≤ depth_at code mail p
        deeper p after before =
            let b = nested.body (suc s.place) outer loop [] opened p after before in
            omega (arith, ap length b.1, length-append outer (loop ∷ b.0), depth)

        -- the loop at its first part
        at_first : ℕ → List ℕ → Frame
        at_first part rest = record { each = s.place; next = i.c; part = part; rest = rest }

        go : (parts : List ℕ) → visited (current_part s.frames) mail ≡ parts → AreVisited mail parts → Leads code mail s (open_loop i.c parts s)
        go [] all are =
            leads_to_bracket (suc i.c) s within.2 (shape_after_next code is i.c _ (nested.partners (suc s.place) outer loop [] opened).1) none refl
            (subst (AreOpen mail s.frames) (sym (nested.around (suc s.place) outer loop [] opened).1) from.opened) refl refl refl
            (λ price. potential-forward code mail price s.frames s.place (suc i.c) depth before_end (omega (arith, within.1)))
        go (part ∷ rest) all are =
            let way : IsUnderWay mail (at_first part rest) s.frames =
            under_way mail s.place i.c s.frames (first_inside s.frames) part rest known (omega arith) (sym (visited-inside mail s.frames) ∙ all) in (
              refl,
              leads_to_bracket (suc s.place) (record s { frames = at_first part rest ∷ s.frames }) (omega (arith, within.1, within.2))
                  (shape_after_each code is s.place _ (nested.partners (suc s.place) outer loop [] opened).0) none refl
                  (outer, opened, from.opened, All-head (IsPart mail) part rest are.each, All-tail (IsPart mail) part rest are.each, way) refl refl refl
                  (λ price. potential-enter code mail price s.frames s.place i.c part rest depth (omega (arith, within.1)) (ends s.frames from.opened) deeper all are.few (below-left mail (at_first part rest) s.frames way)),
            )

    pub leads_next : operation_of i.op ≡ Some Next → Leads code mail s (effect (referred_in code) mail Next i s)
    leads_next e = go s.frames refl from.opened
      where
        loop : Loop
        loop = record { each = i.c; next = s.place }

        outer : List Loop
        outer = open_loops code (suc s.place)

        closed : open_loops code s.place ≡ outer ++ loop ∷ []
        closed = nested.closed s.place i here e

        none : s.stack ≡ []
        none = no_entries Next e (λ es. refl)

        partners : are_partners code i.c s.place ≡ true
        partners = let p = nested.partners s.place outer loop [] closed in rw (p.0, p.1) refl

        within : (i.c < s.place) × (s.place ≤ s.place) × (suc s.place < length code.instructions)
        within = nested.within s.place outer loop [] closed

        shape_each : shape_at code (suc i.c) ≡ Some []
        shape_each = shape_after_each code is i.c _ (nested.partners s.place outer loop [] closed).0

        shape_next_is : shape_at code (suc s.place) ≡ Some []
        shape_next_is = shape_after_next code is s.place _ (nested.partners s.place outer loop [] closed).1

        -- the frame is that of the two brackets
        turn_of_frame : (f : Frame) (fs : List Frame) → s.frames ≡ f ∷ fs → f.each ≡ i.c → f.next ≡ s.place → AreOpen mail fs outer → IsUnderWay mail f fs → (rest : List ℕ) → f.rest ≡ rest → All (IsPart mail) rest
            → depth_at code mail s.place ≡ suc (length fs) → Leads code mail s (next_part f fs rest s)
        turn_of_frame f fs same each_is next_is are way [] rest_is rest deep = (
          refl,
          leads_to_bracket (suc s.place) (record s { frames = fs }) within.2 shape_next_is none refl are refl refl refl
              (λ price. subst (λ gs. left_from code mail price (suc s.place) fs + price s.place ≤ left_from code mail price s.place gs) (sym same)
              (subst (λ p. left_from code mail price (suc p) fs + price s.place ≤ left_from code mail price s.place (f ∷ fs)) next_is
              (potential-leave code mail price f fs s.place deep (omega (arith, next_is))))),
        )
        turn_of_frame f fs same each_is next_is are way (p ∷ rest) rest_is all deep =
            let after = way.after in
            let on : IsUnderWay mail (record f { part = p; rest = rest }) fs = under_way mail f.each f.next fs (suc f.part) p rest known (omega arith) (sym way.left ∙ rest_is) in
            let deeper : (q : ℕ) → f.each < q → q ≤ f.next → suc (length fs) ≤ depth_at code mail q =
            λ q behind before.
            let b = nested.body s.place outer loop [] closed q (omega (arith, each_is)) (omega (arith, next_is)) in
            omega (arith, ap length b.1, length-append outer (loop ∷ b.0), open-length mail fs outer are) in
            let here_again : open_loops code (suc f.each) ≡ outer ++ loop ∷ [] = ap (λ n. open_loops code (suc n)) each_is ∙ (nested.around s.place outer loop [] closed).2 in
            let same_loop : loop ≡ loop_of f = ap (λ n. let l : Loop = record { each = n; next = s.place } in l) (sym each_is) ∙ ap (λ n. let l : Loop = record { each = f.each; next = n } in l) (sym next_is) in
            leads_to_bracket (suc f.each) (record s { frames = record f { part = p; rest = rest } ∷ fs }) (omega (arith, each_is, within.0, from.within))
            (subst (λ n. shape_at code (suc n) ≡ Some []) (sym each_is) shape_each) none refl
            (outer, here_again ∙ ap (λ l. outer ++ l ∷ []) same_loop, are, All-head (IsPart mail) p rest all, All-tail (IsPart mail) p rest all, on) refl refl refl
            (λ price. subst (λ gs. left_from code mail price (suc f.each) (record f { part = p; rest = rest } ∷ fs) + price s.place ≤ left_from code mail price s.place gs) (sym same)
            (subst (λ n. left_from code mail price (suc f.each) (record f { part = p; rest = rest } ∷ fs) + price n ≤ left_from code mail price n (f ∷ fs)) next_is
            (potential-again code mail price f fs p rest (ap (depth_at code mail) next_is ∙ deep) deeper rest_is (below-left mail (record f { part = p; rest = rest }) fs on))))

        go : (fs : List Frame) → s.frames ≡ fs → AreOpen mail fs (open_loops code s.place) → Leads code mail s (next (referred_in code) i.c s fs)
        go [] same are = absurd (omega (arith, ap length (sym closed ∙ are), length-append outer (loop ∷ [])))
        go (f ∷ fs) same are =
            let both = last_of_both outer are.0 loop (loop_of f) (sym closed ∙ are.1) in
            let each_is : f.each ≡ i.c = ap (λ (l : Loop). l.each) (sym both.1) in
            let next_is : f.next ≡ s.place = ap (λ (l : Loop). l.next) (sym both.1) in
            let sound : (are_partners code i.c s.place && (f.each == i.c) && (f.next == s.place)) ≡ true = rw (partners, each_is, next_is, same_place i.c, same_place s.place) refl in
            subst (λ (b : Bool). Leads code mail s (cond b (next_part f fs f.rest s) fails)) (sym sound)
            (turn_of_frame f fs same each_is next_is (subst (AreOpen mail fs) (sym both.0) are.2) are.5 f.rest refl are.4 (depth ∙ ap length same))

    pub leads_break : operation_of i.op ≡ Some Break → Leads code mail s (effect (referred_in code) mail Break i s)
    leads_break e =
        let a = break_known code is s.place i here e in
        let number : i.a ≡ suc (i.a - 1) = omega (arith, a.0) in
        let left = some_left (i.a - 1) s.frames (omega (arith, a.0, a.1, depth)) in
        let among = is_among mail (i.a - 1) s.frames (open_loops code s.place) left.0 left.1 from.opened left.2 in
        let within = nested.within s.place among.outer (loop_of left.0) among.inner among.split in
        let partners = nested.partners s.place among.outer (loop_of left.0) among.inner among.split in
        subst (Leads code mail s) (sym (ap (λ n. close n s s.frames) number ∙ close-is (i.a - 1) s s.frames left.0 left.1 left.2))
        (leads_to_bracket (suc left.0.next) (record s { frames = left.1 }) within.2 (shape_after_next code is left.0.next _ partners.1) (no_entries Break e (λ es. refl)) refl
        (subst (AreOpen mail left.1) (sym (nested.around s.place among.outer (loop_of left.0) among.inner among.split).1) among.around) refl refl refl
        (λ price. potential-break code mail price (i.a - 1) s.frames left.0 left.1 s.place depth before_end left.2))
