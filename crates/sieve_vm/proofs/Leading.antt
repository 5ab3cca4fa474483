-- How an instruction leads on in the same loops: to the next place, with an entry pushed or none, and to the target of a jump.
use Rattle.std.proofs.Common.{◌≡◌, ℕ, suc, ◌<◌, Bool, true, false, not, ◌&&◌, nat_lt, cond, List, [], ◌∷◌, Option, Some, None, All, length, slice_get, get_or, refl, sym, ap, subst, ◌∙◌, arith}
use Rattle.std.proofs.lemmas.Bool.{lt-ltb}
use Rattle.std.proofs.lemmas.Option.{slice_get-get_or}
use Rattle.bytecode_format.specs.declared.instruction.Instruction.{Instruction}
use Rattle.bytecode_format.specs.declared.operation.Operation.{Operation}
use Rattle.bytecode_format.specs.Operations.{operation_of}
use Rattle.bytecode_format.specs.Code.{Code}
use Rattle.bytecode_verifier.specs.declared.shape.Entry.{Entry}
use Rattle.bytecode_verifier.specs.declared.shape.Entry.TheVariants.{Truth}
use Rattle.bytecode_verifier.specs.Rows.{is_jump}
use Rattle.bytecode_verifier.specs.Shape.{Entries, with_entry, shape_at}
use Rattle.bytecode_verifier.specs.Loops.{opens, closes, open_loops}
use Rattle.bytecode_verifier.specs.Rules.{row_in, is_halt}
use Rattle.bytecode_verifier.specs.Acceptance.{IsAccepted}
use Rattle.bytecode_verifier.proofs.Consequences.{left_by, not_last, jump_forward, jump_within, jump_same_loops, jump_target, shape_known, shape_next, target_empty}
use Rattle.bytecode_verifier.proofs.Nesting.{Nesting}
use Rattle.mime_decode.specs.Mail.{Mail, IsMail}
use Rattle.sieve_vm.specs.State.{Value, truth, State}
use Rattle.sieve_vm.specs.Stores.{NamesPart}
use Rattle.sieve_vm.specs.Machine.{on, jumps, fails, push, tested, is_sound_jump, referred_in}
use Rattle.mail_matching.specs.Questions.{Asked, answered}
use Rattle.bytecode_verifier.proofs.Nesting.{nesting}
use Rattle.sieve_vm.proofs.Falls.{depth_at, end_of, potential-forward}
use Rattle.sieve_vm.proofs.Opened.{AreOpen, open-length, inside}
use Rattle.sieve_vm.proofs.Taking.{Describes}
use Rattle.sieve_vm.proofs.Reached.{HoldsTexts, captured_by, IsReached, Falls, Leads, length-described, with_entry-some}

-- an operation that goes on in the same loops
abbrev pub is_plain : Option Operation → Bool
is_plain o = not (is_halt o) && not (opens o) && not (closes o)

plain_parts : (a b c : Bool) → (not a && not b && not c) ≡ true → (a ≡ false) × (b ≡ false) × (c ≡ false)
plain_parts false false false e = (refl, refl, refl)
plain_parts true b c e = absurd cc
plain_parts false true c e = absurd cc
plain_parts false false true e = absurd cc

module _ (code : Code) (mail : Mail) (is : IsAccepted code) (known : IsMail mail) where
  abbrev pub nested : Nesting code
  nested = nesting code is

  module _ (s : State) (i : Instruction) (here : slice_get code.instructions s.place ≡ Some i) (from : IsReached code mail s) where
    abbrev entries : Entries
    entries = from.entries

    abbrev at : shape_at code s.place ≡ Some entries
    at = from.shape

    abbrev d : Describes entries s.stack
    d = from.describes

    depth : depth_at code mail s.place ≡ length s.frames
    depth = open-length mail s.frames (open_loops code s.place) from.opened

    before_end : s.place < end_of code mail s.frames
    before_end = inside code mail s.frames s.place nested from.opened from.within

    -- on to the next place in order
    pub leads_on : (to : State) (after : Entries) → is_plain (operation_of i.op) ≡ true → left_by code (operation_of i.op) i entries ≡ Some after → Describes after to.stack
        → to.place ≡ s.place → to.charge ≡ s.charge → to.frames ≡ s.frames → HoldsTexts code.variables to.variables to.captures → All (NamesPart mail) to.actions → Leads code mail s (on to)
    leads_on to after plain shape describes place charge frames texts stores =
        let n = shape_next code is s.place i entries here at in
        let same : n.0 ≡ after = (let e : Some n.0 ≡ Some after = sym n.1 ∙ shape in cc) in
        let p : (is_halt (operation_of i.op) ≡ false) × (opens (operation_of i.op) ≡ false) × (closes (operation_of i.op) ≡ false) = plain_parts _ _ _ plain in (
          place,
          record {
            charge_is = charge;
            reached = λ c. record {
              within = omega (arith, not_last code is s.place i here p.0);
              entries = after;
              shape = n.2 ∙ ap (λ (x : Entries). Some x) same;
              describes = describes;
              opened = subst (λ fs. AreOpen mail fs (open_loops code (suc s.place))) (sym frames) (subst (AreOpen mail s.frames) (sym (nested.same s.place i here p.1 p.2)) from.opened);
              texts = texts;
              stores = stores;
            };
            falls = subst (Falls code mail s (suc s.place)) (sym frames) (λ price. potential-forward code mail price s.frames s.place (suc s.place) depth before_end (omega arith));
          },
        )

    -- to the target of a jump
    pub leads_target : (to : State) → is_jump (row_in code i) ≡ true → to.stack ≡ [] → to.charge ≡ s.charge → to.frames ≡ s.frames → HoldsTexts code.variables to.variables to.captures → All (NamesPart mail) to.actions → Leads code mail s (jumps i.c to)
    leads_target to jump none charge frames texts stores =
        let within = jump_within code is s.place i here jump in
        let there = shape_known code is i.c in
        let it : slice_get code.instructions i.c ≡ Some (get_or code.instructions i.c i) = slice_get-get_or code.instructions i.c i within in
        let empty = target_empty code is i.c (get_or code.instructions i.c i) there.0 it there.1 (jump_target code is s.place i here jump) in
        record {
          charge_is = charge;
          reached = λ c. record {
            within = within;
            entries = [];
            shape = there.1 ∙ ap (λ (x : Entries). Some x) empty;
            describes = rw none tt;
            opened = subst (λ fs. AreOpen mail fs (open_loops code i.c)) (sym frames) (subst (AreOpen mail s.frames) (nested.equal s.place i.c (jump_same_loops code is s.place i here jump)) from.opened);
            texts = texts;
            stores = stores;
          };
          falls = subst (Falls code mail s i.c) (sym frames) (λ price. potential-forward code mail price s.frames s.place i.c depth before_end (jump_forward code is s.place i here jump));
        }

    pub sound_jump : is_jump (row_in code i) ≡ true → is_sound_jump (referred_in code) s i ≡ true
    sound_jump jump = rw (lt-ltb _ _ (jump_forward code is s.place i here jump), jump_same_loops code is s.place i here jump) refl

    pub after_of : (o : Option Operation) → operation_of i.op ≡ o → (after : Entries) × (left_by code o i entries ≡ Some after)
    after_of o e = let n = shape_next code is s.place i entries here at in (n.0, ap (λ x. left_by code x i entries) (sym e) ∙ n.1)

    -- the shape goes on to these entries
    abbrev LeavesBy : Operation → Entries → Type 0
    LeavesBy o after = left_by code (Some o) i entries ≡ Some after

    pub left : (o : Operation) (after : Entries) → operation_of i.op ≡ Some o → LeavesBy o after → left_by code (operation_of i.op) i entries ≡ Some after
    left o after e leaves = ap (λ x. left_by code x i entries) e ∙ leaves

    -- an entry pushed on what an instruction has left of the stack
    pub pushes : (o : Operation) (t : State) (v : Value) (entry : Entry) (below after : Entries) → operation_of i.op ≡ Some o → is_plain (Some o) ≡ true → LeavesBy o after → with_entry entry below ≡ Some after
        → t.place ≡ s.place → t.charge ≡ s.charge → t.frames ≡ s.frames → HoldsTexts code.variables t.variables t.captures → All (NamesPart mail) t.actions → Describes below t.stack → Describes (entry ∷ below) (v ∷ t.stack) → Leads code mail s (push v t)
    pushes o t v entry below after e goes_on leaves room place charge outside texts stores there described =
        let w = with_entry-some entry below after room in
        let fits : nat_lt (length t.stack) 1024 ≡ true = lt-ltb _ _ (omega (arith, w.0, length-described below t.stack there)) in
        subst (λ (b : Bool). Leads code mail s (cond b (on (record t { stack = v ∷ t.stack })) fails)) (sym fits)
        (leads_on (record t { stack = v ∷ t.stack }) after (ap is_plain e ∙ goes_on) (left o after e leaves) (subst (λ (x : Entries). Describes x (v ∷ t.stack)) w.1 described) place charge outside texts stores)

    -- a test's captures change neither the place nor the stack
    pub leads_tested : (operation : Operation) (t : State) (below after : Entries) (what : Asked) (keys : List (List ℕ)) → operation_of i.op ≡ Some operation → is_plain (Some operation) ≡ true → LeavesBy operation after → with_entry Truth below ≡ Some after
        → t.place ≡ s.place → t.charge ≡ s.charge → t.frames ≡ s.frames → HoldsTexts code.variables t.variables t.captures → All (NamesPart mail) t.actions → Describes below t.stack → Leads code mail s (tested t (answered what keys t.captures))
    leads_tested operation t below after what keys e goes_on leaves room place charge outside texts stores there = go (answered what keys t.captures) refl
      where
        go : (o : Option (List (List ℕ))) → answered what keys t.captures ≡ o → Leads code mail s (tested t o)
        go None found = pushes operation t (truth false) Truth below after e goes_on leaves room place charge outside texts stores there there
        go (Some captures) found =
            pushes operation (record t { captures = captures }) (truth true) Truth below after e goes_on leaves room place charge outside (captured_by code.variables t.variables t.captures captures what keys texts found) stores there there

    -- an instruction that leaves the stack alone
    pub leads_still : (o : Operation) (to : State) → operation_of i.op ≡ Some o → is_plain (Some o) ≡ true → ((x : Entries) → left_by code (Some o) i x ≡ Some x) → to.place ≡ s.place → to.stack ≡ s.stack → to.frames ≡ s.frames → to.charge ≡ s.charge → HoldsTexts code.variables to.variables to.captures → All (NamesPart mail) to.actions → Leads code mail s (on to)
    leads_still o to e goes_on stays place stack outside charge texts stores =
        leads_on to entries (ap is_plain e ∙ goes_on) (left o entries e (stays entries)) (rw stack d) place charge outside texts stores
