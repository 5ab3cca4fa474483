-- What tests and the operations on the current part do to the machine.
use Rattle.std.proofs.Common.{◌≡◌, ℕ, ◌+◌, ◌<◌, Bool, true, cond, List, [], ◌∷◌, ◌++◌, Option, Some, IfSome, IsSome, is_some, min, length, take, slice_get, slice_set, refl, sym, ap, subst, ◌∙◌, arith}
use Rattle.std.proofs.lemmas.Bool.{lt-ltb}
use Rattle.bytecode_format.specs.declared.action.Action.TheVariants as action
use Rattle.bytecode_format.specs.declared.instruction.Instruction.{Instruction}
use Rattle.bytecode_format.specs.declared.operation.Operation.{Operation}
use Rattle.bytecode_format.specs.declared.operation.Operation.TheVariants.{Store, Take, Test}
use Rattle.bytecode_format.specs.declared.operation.TestOperation.{TestOperation}
use Rattle.bytecode_format.specs.declared.question.Question.{Question}
use Rattle.bytecode_format.specs.Questions.{counts_in, question_in}
use Rattle.bytecode_format.specs.Operations.{operation_of}
use Rattle.bytecode_format.specs.Code.{Code}
use Rattle.std.specs.Option.{option_and_then, option_map_or, unwrap_or}
use Rattle.bytecode_verifier.specs.Loops.{open_loops}
use Rattle.bytecode_verifier.specs.Rows.{row_of}
use Rattle.bytecode_verifier.specs.Acceptance.{IsAccepted}
use Rattle.bytecode_verifier.proofs.Consequences.{question_known, take_variable_known}
use Rattle.bytecode_format.specs.Spelling.{IsProgram}
use Rattle.mail_matching.specs.Questions.{answer}
use Rattle.mail_matching.specs.Texts.{AreTexts}
use Rattle.mime_decode.specs.Mail.{Mail, Part, IsMail}
use Rattle.sieve_vm.specs.declared.machine.Machine.{Machine}
use Rattle.sieve_vm.specs.declared.machine.Position.{Position}
use Rattle.sieve_vm.specs.declared.machine.Done.{Done}
use Rattle.sieve_vm.specs.State.{Value, truth, text, State, current_part}
use Rattle.sieve_vm.specs.Stack.{Lists, lists_counted, texts_in, length_on_top}
use Rattle.sieve_vm.specs.Visits.{part_in}
use Rattle.sieve_vm.specs.Charge.{cost_of_asking, octets_taken, charge_of}
use Rattle.sieve_vm.specs.Machine.{Effect, on, fails, ask, with_lists, with_meant, tested, with_part, set_content, with_text, store, store_part, effect, referred_in}
use Rattle.sieve_vm.specs.Standing.{charged_for, Represents, IsIn, HasDone}
use Rattle.sieve_vm.proofs.Taking.{lists_there, folder_there}
use Rattle.sieve_vm.proofs.Pushed.{lists_are}
use Rattle.sieve_vm.proofs.Reached.{IsReached, Leads, HasPart}
use Rattle.sieve_vm.proofs.PartEffects.{has_part, has_current}
use Rattle.sieve_vm.proofs.Opened.{open-current}
use Rattle.sieve_vm.proofs.Bounds.{reached}
use Rattle.sieve_vm.proofs.Charges.{test_charge}
use Rattle.sieve_vm.proofs.Steps.{after, fine}
use Rattle.sieve_vm.proofs.StackSteps.{few, short, HasFolder, had_tested}

module _ (code : Code) (mail : Mail) (is : IsAccepted code) (known : IsMail mail) (pos : Position) (m : Machine) (s : State) (at : IsIn code mail s pos m) where
  abbrev there : IsReached code mail s
  there = reached code mail is known at.steps s at.run

  module _ (i : Instruction) (here : slice_get code.instructions pos.place ≡ Some i) where
    here_is : slice_get code.instructions s.place ≡ Some i
    here_is = ap (slice_get code.instructions) (sym at.stands.place) ∙ here

    -- it is one of the message
    pub current_there : IfSome (current_part m.loops.frames) (λ part. part < length mail.parts)
    current_there = rw at.stands.holds.frames (open-current mail s.frames (open_loops code s.place) there.opened)

    pub current_in_loops : IfSome (current_part m.loops.frames) (λ part. part < length m.loops.mail.parts)
    current_in_loops = rw at.stands.holds.mail_is current_there

    module _ (o : Operation) (e : operation_of i.op ≡ Some o) (needs : (row_of o).needs_part ≡ true) where
      part_here : HasPart mail s
      part_here = has_part code mail is known s i here_is there o e needs

      part_is : part_in m.loops ≡ Some part_here.part
      part_is =
          ap (λ (l : Mail). option_and_then (slice_get l.parts) (current_part m.loops.frames)) at.stands.holds.mail_is
          ∙ ap (λ fs. option_and_then (slice_get mail.parts) (current_part fs)) (at.stands.holds.frames ∙ part_here.is) ∙ part_here.there

      current_is : current_part s.frames ≡ Some part_here.frame.part
      current_is = ap current_part part_here.is

      pub part_some : IsSome (part_in m.loops)
      part_some = rw part_is refl

      pub current_some : IsSome (current_part m.loops.frames)
      current_some = rw (at.stands.holds.frames, part_here.is) refl

      -- what an operation does with the part
      does_is : (does : ℕ → Part → State → Effect) → with_part does mail s s.frames ≡ does part_here.frame.part part_here.part s
      does_is does = ap (with_part does mail s) part_here.is ∙ ap (λ (x : Option Part). option_map_or (λ part. does part_here.frame.part part s) x fails) part_here.there

    -- the lists of a test are on top
    lists_top : (test : TestOperation) → operation_of i.op ≡ Some (Test test) → (top : Lists) × (lists_counted (counts_in test i) s.stack ≡ Some top)
    lists_top test e =
        let a = after code mail is known pos m s at i here (Test test) e in
        let counts = counts_in test i in
        lists_there counts.names counts.params counts.keys there.entries a.0 s.stack a.1 there.describes

    pub lists_some : (test : TestOperation) → operation_of i.op ≡ Some (Test test) → IsProgram code
        → (t : State) × ((top : Lists) × (Represents mail t m × (lists_counted (counts_in test i) t.stack ≡ Some top) × AreTexts top.names × AreTexts top.params × AreTexts top.keys))
    lists_some test e fits =
        let l = lists_top test e in
        let counts = counts_in test i in
        let are = lists_are counts.names counts.params counts.keys s.stack l.0 (few code mail is known pos m s at i here fits) (short code mail is known pos m s at i here fits) l.1 in
        (s, (l.0, (at.stands.holds, l.1, are.names, are.params, are.keys)))

    pub question_some : (test : TestOperation) → operation_of i.op ≡ Some (Test test) → IsSome (question_in code.numbers test i)
    question_some test e = rw (question_known code is s.place i here_is test e).1 refl

    -- what a question comes to with these lists
    abbrev answer_with : Question → Lists → State → Option (List (List ℕ))
    answer_with question top t = answer mail (current_part t.frames) question (texts_in top) t.captures

    pub had_test : (test : TestOperation) → operation_of i.op ≡ Some (Test test) → (done : Done) (m' : Machine)
        → ((t : State) (top : Lists) (question : Question) → Represents mail t m → lists_counted (counts_in test i) t.stack ≡ Some top → question_in code.numbers test i ≡ Some question
        → (done ≡ charged_for (cost_of_asking mail (current_part t.frames) question top))
        × Represents mail (record t { stack = truth (is_some (answer_with question top t)) ∷ top.below; captures = unwrap_or (answer_with question top t) t.captures }) m')
        → HasDone mail (effect (referred_in code) mail (Test test) i s) (charge_of (referred_in code) mail (Test test) i s) done m'
    had_test test e done m' tests =
        let l = lists_top test e in
        let q = question_known code is s.place i here_is test e in
        let now = tests s l.0 q.0 at.stands.holds l.1 q.1 in
        let does : Question → Effect = λ question. with_lists (ask mail question) s (lists_counted (counts_in test i) s.stack) in
        let left : State = record s { stack = l.0.below } in
        let found : Option (List (List ℕ)) = answer_with q.0 l.0 s in
        let same : effect (referred_in code) mail (Test test) i s ≡ tested left found =
        ap (λ (outside : Bool). cond outside fails (with_meant does (question_in code.numbers test i))) (has_current code mail is known s i here_is there test e) ∙ ap (with_meant does) q.1 ∙ ap (with_lists (ask mail q.0) s) l.1 in
        let price = test_charge code mail test i s q.0 l.0 q.1 l.1 in
        let fits : Leads code mail s (tested left found) = subst (Leads code mail s) same (fine code mail is known pos m s at i here (Test test) e) in
        rw (same, price) (had_tested code mail is known pos m s at i here left found (cost_of_asking mail (current_part s.frames) q.0 l.0) done m' fits now.0 now.1)

    store_top : operation_of i.op ≡ Some Store → (folder : List ℕ) × ((rest : List Value) × (s.stack ≡ text folder ∷ rest))
    store_top e = let a = after code mail is known pos m s at i here Store e in folder_there there.entries a.0 s.stack a.1 there.describes

    pub store_some : operation_of i.op ≡ Some Store → HasFolder code mail is known pos m s at i here
    store_some e = let f = store_top e in (mail, (s, (f.0, (f.1.0, (at.stands.holds, f.1.1)))))

    pub had_store : operation_of i.op ≡ Some Store → (octets : ℕ) (m' : Machine)
        → ((t : State) (folder : List ℕ) (rest : List Value) (part : ℕ) → Represents mail t m → t.stack ≡ text folder ∷ rest → current_part t.frames ≡ Some part
        → (octets ≡ length folder) × Represents mail (record t { stack = rest; actions = t.actions ++ action.Store folder part ∷ [] }) m')
        → HasDone mail (effect (referred_in code) mail Store i s) (charge_of (referred_in code) mail Store i s) (charged_for octets) m'
    had_store e octets m' stores =
        let f = store_top e in
        let p = part_here Store e refl in
        let now = stores s f.0 f.1.0 p.frame.part at.stands.holds f.1.1 (current_is Store e refl) in
        let same : effect (referred_in code) mail Store i s ≡ on (record s { stack = f.1.0; actions = s.actions ++ action.Store f.0 p.frame.part ∷ [] }) = does_is Store e refl store_part ∙ ap (with_text (store p.frame.part) s) f.1.1 in
        let price : charge_of (referred_in code) mail Store i s ≡ 1 + length f.0 = ap (λ (v : List Value). 1 + length_on_top v) f.1.1 in
        rw (same, price, now.0) (now.1, refl)

    taken_within : operation_of i.op ≡ Some Take → i.c < length s.variables
    taken_within e = omega (arith, take_variable_known code is s.place i here_is e, there.texts.number)

    pub take_some : operation_of i.op ≡ Some Take → (w : Mail) × ((t : State) × (Represents w t m × (i.c < length t.variables)))
    take_some e = (mail, (s, (at.stands.holds, taken_within e)))

    pub had_take : operation_of i.op ≡ Some Take → (octets : ℕ) (m' : Machine)
        → ((t : State) (part : Part) → Represents mail t m → part_in m.loops ≡ Some part
        → (octets ≡ min i.b (length part.content)) × Represents mail (record t { variables = slice_set t.variables i.c (take i.b part.content) }) m')
        → HasDone mail (effect (referred_in code) mail Take i s) (charge_of (referred_in code) mail Take i s) (charged_for octets) m'
    had_take e octets m' takes =
        let p = part_here Take e refl in
        let now = takes s p.part at.stands.holds (part_is Take e refl) in
        let next : State = record s { variables = slice_set s.variables i.c (take i.b p.part.content) } in
        let same : effect (referred_in code) mail Take i s ≡ on next = does_is Take e refl (set_content i) ∙ ap (λ (b : Bool). cond b (on next) fails) (lt-ltb _ _ (taken_within e)) in
        let price : charge_of (referred_in code) mail Take i s ≡ 1 + min i.b (length p.part.content) =
        ap (λ x. 1 + octets_taken i.b mail x) (current_is Take e refl) ∙ ap (λ (x : Option Part). 1 + option_map_or (λ (part : Part). min i.b (length part.content)) x 0) p.there in
        rw (same, price, now.0) (now.1, refl)
