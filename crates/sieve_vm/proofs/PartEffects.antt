-- Tests and the operations on the current part lead on.
use Rattle.std.proofs.Common.{◌≡◌, ℕ, ◌<◌, ◌≤◌, Bool, true, false, ◌&&◌, ◌==◌, nat_lt, cond, List, [], ◌∷◌, ◌++◌, Option, Some, None, take, length, slice_get, slice_set, refl, sym, ap, subst, ◌∙◌, arith}
use Rattle.std.proofs.lemmas.Bool.{lt-ltb}
use Rattle.std.proofs.lemmas.Option.{slice_get_within}
use Rattle.std.proofs.lemmas.List.{length-take}
use Rattle.std.proofs.lemmas.List.Elements.{All-push}
use Rattle.bytecode_format.specs.declared.instruction.Instruction.{Instruction}
use Rattle.bytecode_format.specs.declared.operation.Operation.{Operation}
use Rattle.bytecode_format.specs.declared.operation.Operation.TheVariants.{Store, Take, Test}
use Rattle.bytecode_format.specs.declared.operation.TestOperation.{TestOperation}
use Rattle.bytecode_format.specs.declared.question.Question.{Question}
use Rattle.bytecode_format.specs.Questions.{counts_in, question_in}
use Rattle.bytecode_format.specs.Operations.{operation_of}
use Rattle.bytecode_format.specs.Code.{Code}
use Rattle.bytecode_verifier.specs.declared.shape.Entry.TheVariants.{Truth, Text}
use Rattle.std.specs.Option.{option_and_then, option_map, option_map_or}
use Rattle.bytecode_verifier.specs.Rows.{row_of, row_in_version, needs_part}
use Rattle.bytecode_verifier.specs.Shape.{Entries, Texts, Lists as ListBounds, with_entry, take_texts, take_counted}
use Rattle.bytecode_verifier.specs.Loops.{open_loops}
use Rattle.bytecode_verifier.specs.Rules.{row_in}
use Rattle.bytecode_verifier.specs.Acceptance.{IsAccepted}
use Rattle.bytecode_verifier.proofs.Consequences.{left_by, question_known, take_variable_known, take_known}
use Rattle.bytecode_format.specs.declared.action.Action.TheVariants as action
use Rattle.mime_decode.specs.Mail.{Mail, Part, IsMail}
use Rattle.sieve_vm.specs.State.{Value, truth, text, Frame, State, current_part}
use Rattle.sieve_vm.specs.Stack.{Lists, lists_counted, texts_in}
use Rattle.sieve_vm.specs.Stores.{NamesPart}
use Rattle.sieve_vm.specs.Machine as machine
use Rattle.sieve_vm.specs.Machine.{Effect, on, fails, ask, is_about_part, is_outside, with_text, with_lists, with_meant, with_part, store_part, effect, referred_in}
use Rattle.mail_matching.specs.Questions.{asked}
use Rattle.octets.specs.Limits.{max_value}
use Rattle.sieve_vm.proofs.Opened.{AreOpen}
use Rattle.sieve_vm.proofs.Taking.{Describes, lists_are_on_top}
use Rattle.sieve_vm.proofs.Reached.{HoldsTexts, set_one, IsReached, Leads, row_there, part_there, HasPart, second_false}
use Rattle.sieve_vm.proofs.Leading.{is_plain, leads_on, after_of, left, leads_tested}

module _ (code : Code) (mail : Mail) (is : IsAccepted code) (known : IsMail mail) where
  module _ (s : State) (i : Instruction) (here : slice_get code.instructions s.place ≡ Some i) (from : IsReached code mail s) where
    abbrev entries : Entries
    entries = from.entries

    abbrev d : Describes entries s.stack
    d = from.describes

    abbrev held : HoldsTexts code.variables s.variables s.captures
    held = from.texts

    -- the shape goes on to these entries
    abbrev LeavesBy : Operation → Entries → Type 0
    LeavesBy o after = left_by code (Some o) i entries ≡ Some after

    pub has_part : (o : Operation) → operation_of i.op ≡ Some o → (row_of o).needs_part ≡ true → HasPart mail s
    has_part o e needs = go s.frames refl from.opened
      where
        some : (length (open_loops code s.place) == 0) ≡ false
        some =
            let broken : (needs_part (row_in code i) && (length (open_loops code s.place) == 0)) ≡ false = rw here at (is.no_part s.place) in
            second_false _ _ (ap (λ x. needs_part (option_and_then (row_in_version code.version) x)) e ∙ ap needs_part (row_there code is s.place i here o e) ∙ needs) broken

        go : (fs : List Frame) → s.frames ≡ fs → AreOpen mail fs (open_loops code s.place) → HasPart mail s
        go [] same opened = absurd (let none : (length (open_loops code s.place) == 0) ≡ true = rw opened refl in let both : true ≡ false = sym none ∙ some in cc)
        go (f ∷ fs) same opened = let p = part_there mail.parts f.part opened.3 in record { frame = f; frames = fs; part = p.0; is = same; there = p.1 }

    in_part : (does : ℕ → Part → State → Effect) (p : HasPart mail s) → Leads code mail s (does p.frame.part p.part s) → Leads code mail s (with_part does mail s s.frames)
    in_part does p leads =
        subst (λ fs. Leads code mail s (with_part does mail s fs)) (sym p.is)
        (subst (λ (o : Option Part). Leads code mail s (option_map_or (λ part. does p.frame.part part s) o fails)) (sym p.there) leads)

    -- a test about the current part stands in a loop
    pub has_current : (test : TestOperation) → operation_of i.op ≡ Some (Test test) → (is_about_part test && is_outside s.frames) ≡ false
    has_current test e = go (is_about_part test) refl
      where
        go : (about : Bool) → is_about_part test ≡ about → (about && is_outside s.frames) ≡ false
        go false is_about = refl
        go true is_about = let p = has_part (Test test) e is_about in ap is_outside p.is

    pub leads_test : (test : TestOperation) → operation_of i.op ≡ Some (Test test) → Leads code mail s (effect (referred_in code) mail (Test test) i s)
    leads_test test e =
        let a = after_of code mail is known s i here from (Some (Test test)) e in
        let q = question_known code is s.place i here test e in
        let does : Question → Effect = λ question. with_lists (ask mail question) s (lists_counted (counts_in test i) s.stack) in
        subst (λ (outside : Bool). Leads code mail s (cond outside fails (with_meant does (question_in code.numbers test i)))) (sym (has_current test e))
        (subst (λ (o : Option Question). Leads code mail s (with_meant does o)) (sym q.1)
        (go q.0 a.0 a.1 (take_counted (counts_in test i) entries) refl a.1))
      where
        go : (question : Question) (after : Entries) → LeavesBy (Test test) after → (o : Option ListBounds) → take_counted (counts_in test i) entries ≡ o → option_and_then (λ (lists : ListBounds). with_entry Truth lists.below) o ≡ Some after
            → Leads code mail s (with_lists (ask mail question) s (lists_counted (counts_in test i) s.stack))
        go question after leaves None h f = absurd cc
        go question after leaves (Some bounds) h f =
            let counts = counts_in test i in
            let lists = lists_are_on_top counts.names counts.params counts.keys entries bounds s.stack h d in
            subst (λ (o : Option Lists). Leads code mail s (with_lists (ask mail question) s o)) (sym lists.is)
            (leads_tested code mail is known s i here from (Test test) (record s { stack = lists.top.below }) bounds.below after (asked mail (current_part s.frames) question (texts_in lists.top)) lists.top.keys e refl leaves f refl refl refl held from.stores lists.below)

    pub leads_store : operation_of i.op ≡ Some Store → Leads code mail s (effect (referred_in code) mail Store i s)
    leads_store e =
        let a = after_of code mail is known s i here from (Some Store) e in
        let p = has_part Store e refl in
        in_part store_part p (go p.frame.part (slice_get_within mail.parts p.frame.part p.part p.there) entries s.stack a.0 d (left code mail is known s i here from Store a.0 e a.1) a.1)
      where
        go : (number : ℕ) → number < length mail.parts → (es : Entries) (stack : List Value) (after : Entries) → Describes es stack → left_by code (operation_of i.op) i entries ≡ Some after → option_map (λ (folder : Texts). folder.below) (take_texts 1 es) ≡ Some after
            → Leads code mail s (with_text (machine.store number) s stack)
        go number there [] stack after h leaves f = absurd cc
        go number there (Truth ∷ es) stack after h leaves f = absurd cc
        go number there (Text bound ∷ es) [] after h leaves f = absurd h
        go number there (Text bound ∷ es) (truth b ∷ vs) after h leaves f = absurd h
        go number there (Text bound ∷ es) (text folder ∷ vs) after h leaves f =
            let same : es ≡ after = cc in
            leads_on code mail is known s i here from (record s { stack = vs; actions = s.actions ++ action.Store folder number ∷ [] }) after (ap is_plain e) leaves (subst (λ (x : Entries). Describes x vs) same h.1) refl refl refl held
            (All-push (NamesPart mail) s.actions (action.Store folder number) from.stores there)

    pub leads_take : operation_of i.op ≡ Some Take → Leads code mail s (effect (referred_in code) mail Take i s)
    leads_take e =
        let a = after_of code mail is known s i here from (Some Take) e in
        let same : entries ≡ a.0 = (let f : Some entries ≡ Some a.0 = a.1 in cc) in
        let p = has_part Take e refl in
        let next : List ℕ = take i.b p.part.content in
        let within : nat_lt i.c (length s.variables) ≡ true = lt-ltb _ _ (omega (arith, held.number, take_variable_known code is s.place i here e)) in
        let cut : length next ≤ max_value = omega (arith, length-take i.b p.part.content, (take_known code is s.place i here e).1) in
        in_part (machine.set_content i) p
        (subst (λ (b : Bool). Leads code mail s (cond b (on (record s { variables = slice_set s.variables i.c next })) fails)) (sym within)
        (leads_on code mail is known s i here from _ a.0 (ap is_plain e) (left code mail is known s i here from Take a.0 e a.1) (subst (λ (x : Entries). Describes x s.stack) same d) refl refl refl (set_one code.variables i.c s.variables s.captures next held cut) from.stores))
