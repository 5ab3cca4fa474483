-- What the operations that push and take entries, set variables, file and jump do to the machine.
use Rattle.std.proofs.Common.{◌≡◌, ℕ, ◌+◌, ◌<◌, ◌≤◌, Bool, true, false, not, cond, List, [], ◌∷◌, ◌++◌, Option, Some, None, IsSome, is_some, length, take, slice_get, slice_set, get_or, refl, sym, ap, subst, ◌∙◌, arith}
use Rattle.std.proofs.lemmas.Bool.{lt-ltb}
use Rattle.std.proofs.lemmas.Option.{slice_get-get_or}
use Rattle.bytecode_format.specs.declared.action.Action.TheVariants as action
use Rattle.bytecode_format.specs.declared.instruction.Instruction.{Instruction}
use Rattle.bytecode_format.specs.declared.operation.Operation.{Operation}
use Rattle.bytecode_format.specs.declared.operation.Operation.TheVariants.{Literal, Variable, Capture, Join, Set, Not, JumpIfTrue, JumpIfFalse, File}
use Rattle.bytecode_format.specs.Operations.{operation_of}
use Rattle.bytecode_format.specs.Code.{Code}
use Rattle.std.specs.Option.{unwrap_or}
use Rattle.octets.specs.Limits.{max_stack}
use Rattle.bytecode_verifier.specs.Rows.{row_in_version, is_jump}
use Rattle.bytecode_verifier.specs.Shape.{Entries, without_truth}
use Rattle.bytecode_verifier.specs.Acceptance.{IsAccepted}
use Rattle.bytecode_verifier.proofs.Consequences.{left_by, string_known, variable_known, set_known, modifiers_known}
use Rattle.bytecode_format.specs.Spelling.{IsProgram}
use Rattle.bytecode_verifier.proofs.Short.{shape_small}
use Rattle.mail_matching.specs.Texts.{AreTexts}
use Rattle.mime_decode.specs.Mail.{Mail, IsMail}
use Rattle.sieve_vm.specs.declared.machine.Machine.{Machine}
use Rattle.sieve_vm.specs.declared.machine.Position.{Position}
use Rattle.sieve_vm.specs.declared.machine.Done.{Done}
use Rattle.sieve_vm.specs.declared.machine.Flow.TheVariants.{On}
use Rattle.sieve_vm.specs.State.{Value, truth, text, State}
use Rattle.sieve_vm.specs.Stack.{OnTop, texts_on_top}
use Rattle.sieve_vm.specs.Charge.{octets_on_top, charge_of}
use Rattle.sieve_vm.specs.Machine.{fails, push, branch, with_truth, with_texts, with_string, join, tested, is_sound_jump, effect, referred_in}
use Rattle.sieve_vm.specs.Standing.{charged_for, once, Represents, IsIn, HasDone}
use Rattle.std.specs.List.{concat}
use Rattle.octets.specs.Limits.{max_string, max_value}
use Rattle.bytecode_format.specs.declared.modifiers.Modifiers.{Modifiers}
use Rattle.bytecode_format.specs.Modifiers.{modified, modifiers_numbered}
use Rattle.sieve_vm.proofs.Taking.{Describes, AreShortTexts, short_texts, parts_there, folder_there}
use Rattle.sieve_vm.proofs.Pushed.{texts_are}
use Rattle.sieve_vm.proofs.Reached.{IsReached, Leads, TopTruth, top_truth, has_truth-some, length-described}
use Rattle.sieve_vm.proofs.Bounds.{reached}
use Rattle.sieve_vm.proofs.Steps.{pushed, after, fine, jumps_soundly, branch_top}

module _ (code : Code) (mail : Mail) (is : IsAccepted code) (known : IsMail mail) (pos : Position) (m : Machine) (s : State) (at : IsIn code mail s pos m) where
  abbrev there : IsReached code mail s
  there = reached code mail is known at.steps s at.run

  module _ (i : Instruction) (here : slice_get code.instructions pos.place ≡ Some i) where
    here_is : slice_get code.instructions s.place ≡ Some i
    here_is = ap (slice_get code.instructions) (sym at.stands.place) ∙ here

    -- ---- the operations that take a truth value, or push one

    not_top : operation_of i.op ≡ Some Not → (es : Entries) × TopTruth s.stack es
    not_top e =
        let a = after code mail is known pos m s at i here Not e in
        let t = has_truth-some there.entries a.0 a.1 in
        (t.0, top_truth t.0 s.stack (subst (λ (x : Entries). Describes x s.stack) t.1 there.describes))

    -- the top entry is a truth value of a state that the machine stands for
    abbrev HasTop : Type 0
    HasTop = (w : Mail) × ((t : State) × ((b : Bool) × ((rest : List Value) × (Represents w t m × (t.stack ≡ truth b ∷ rest)))))

    top_there : (es : Entries) × TopTruth s.stack es → HasTop
    top_there top = (mail, (s, (top.1.value, (top.1.rest, (at.stands.holds, top.1.is)))))

    pub not_some : operation_of i.op ≡ Some Not → HasTop
    not_some e = top_there (not_top e)

    pub if_true_some : operation_of i.op ≡ Some JumpIfTrue → HasTop
    if_true_some e = top_there (branch_top code mail is known pos m s at i here JumpIfTrue e refl)

    pub if_false_some : operation_of i.op ≡ Some JumpIfFalse → HasTop
    if_false_some e = top_there (branch_top code mail is known pos m s at i here JumpIfFalse e refl)

    -- what pushing does to the machine
    abbrev Pushes : Value → Done → Machine → Machine → Type 0
    Pushes value done before after = (done ≡ once On) × ((t : State) → Represents mail t before → Represents mail (record t { stack = value ∷ t.stack }) after)

    had_push : (value : Value) (done : Done) (m' : Machine) → Leads code mail s (push value s) → Pushes value done m m' → HasDone mail (push value s) 1 done m'
    had_push value done m' fits pushes = rw (pushed code mail s value s fits, pushes.0) (pushes.1 s at.stands.holds, refl)

    pub had_literal : operation_of i.op ≡ Some Literal → (octets : List ℕ) (done : Done) (m' : Machine) → octets ≡ get_or code.strings i.c [] → Pushes (text octets) done m m' → HasDone mail (effect (referred_in code) mail Literal i s) 1 done m'
    had_literal e octets done m' right pushes =
        let string : slice_get code.strings i.c ≡ Some (get_or code.strings i.c []) = slice_get-get_or code.strings i.c [] (string_known code is s.place i here_is e) in
        let fits : Leads code mail s (push (text (get_or code.strings i.c [])) s) = subst (λ (o : Option (List ℕ)). Leads code mail s (with_string s o)) string (fine code mail is known pos m s at i here Literal e) in
        rw string (rw (← right) (had_push (text octets) done m' (rw right fits) pushes))

    -- a text that the variables or the captures hold, pushed
    abbrev PushesHere : Value → Done → Machine → Type 0
    PushesHere value done after = (done ≡ once On) × Represents mail (record s { stack = value ∷ s.stack }) after

    had_push_here : (value : Value) (done : Done) (m' : Machine) → Leads code mail s (push value s) → PushesHere value done m' → HasDone mail (push value s) 1 done m'
    had_push_here value done m' fits pushes = rw (pushed code mail s value s fits, pushes.0) (pushes.1, refl)

    pub had_variable : operation_of i.op ≡ Some Variable → (done : Done) (m' : Machine) → PushesHere (text (get_or s.variables i.c [])) done m' → HasDone mail (effect (referred_in code) mail Variable i s) 1 done m'
    had_variable e done m' pushes =
        let number = there.texts.number in
        let within : i.c < length s.variables = omega (arith, number, variable_known code is s.place i here_is e) in
        let value : slice_get s.variables i.c ≡ Some (get_or s.variables i.c []) = slice_get-get_or s.variables i.c [] within in
        let fits : Leads code mail s (push (text (get_or s.variables i.c [])) s) = subst (λ (o : Option (List ℕ)). Leads code mail s (with_string s o)) value (fine code mail is known pos m s at i here Variable e) in
        rw value (had_push_here (text (get_or s.variables i.c [])) done m' fits pushes)

    pub had_capture : operation_of i.op ≡ Some Capture → (done : Done) (m' : Machine) → PushesHere (text (get_or s.captures i.a [])) done m' → HasDone mail (effect (referred_in code) mail Capture i s) 1 done m'
    had_capture e done m' pushes = had_push_here (text (get_or s.captures i.a [])) done m' (fine code mail is known pos m s at i here Capture e) pushes

    -- what taking a truth value does to the machine
    abbrev Takes : Bool → Machine → Type 0
    Takes value after = (t : State) (b : Bool) (rest : List Value) → Represents mail t m → t.stack ≡ truth b ∷ rest → (value ≡ b) × Represents mail (record t { stack = rest }) after

    pub had_not : operation_of i.op ≡ Some Not → (value : Bool) (taken : Machine) (done : Done) (m' : Machine) → Takes value taken → Pushes (truth (not value)) done taken m' → HasDone mail (effect (referred_in code) mail Not i s) 1 done m'
    had_not e value taken done m' takes pushes =
        let top = (not_top e).1 in
        let took = takes s top.value top.rest at.stands.holds top.is in
        let stands : Represents mail (record s { stack = truth (not top.value) ∷ top.rest }) m' = rw (← took.0) (pushes.1 (record s { stack = top.rest }) took.1) in
        rw (top.is, pushes.0) (stands, refl)

    pub had_branch : (o : Operation) (wanted : Bool) → operation_of i.op ≡ Some o → is_jump (row_in_version code.version o) ≡ true → left_by code (Some o) i there.entries ≡ without_truth there.entries → (done : Done) (m' : Machine)
        → ((t : State) (b : Bool) (rest : List Value) → Represents mail t m → t.stack ≡ truth b ∷ rest → HasDone mail (branch i.c wanted b (record t { stack = rest })) 1 done m')
        → HasDone mail (cond (is_sound_jump (referred_in code) s i) (with_truth (branch i.c wanted) s s.stack) fails) 1 done m'
    had_branch o wanted e jump takes done m' had =
        let top = (branch_top code mail is known pos m s at i here o e takes).1 in
        rw (jumps_soundly code mail is known pos m s at i here o e jump, top.is) (had s top.value top.rest at.stands.holds top.is)

    -- ---- the operations that take texts

    pub few : IsProgram code → length s.stack ≤ max_stack
    few fits = let small = shape_small code fits s.place there.entries there.shape in let most = small.few in omega (arith, length-described there.entries s.stack there.describes)

    pub short : IsProgram code → AreShortTexts s.stack
    short fits = short_texts there.entries s.stack there.describes (shape_small code fits s.place there.entries there.shape).short

    -- the top entry is a text of a state that the machine stands for
    abbrev pub HasFolder : Type 0
    HasFolder = (w : Mail) × ((t : State) × ((folder : List ℕ) × ((rest : List Value) × (Represents w t m × (t.stack ≡ text folder ∷ rest)))))

    folder_top : operation_of i.op ≡ Some File → (folder : List ℕ) × ((rest : List Value) × (s.stack ≡ text folder ∷ rest))
    folder_top e = let a = after code mail is known pos m s at i here File e in folder_there there.entries a.0 s.stack a.1 there.describes

    pub folder_some : operation_of i.op ≡ Some File → HasFolder
    folder_some e = let f = folder_top e in (mail, (s, (f.0, (f.1.0, (at.stands.holds, f.1.1)))))

    pub had_file : operation_of i.op ≡ Some File → (octets : ℕ) (m' : Machine)
        → ((t : State) (folder : List ℕ) (rest : List Value) → Represents mail t m → t.stack ≡ text folder ∷ rest
        → (octets ≡ length folder) × Represents mail (record t { stack = rest; actions = t.actions ++ action.File folder ∷ []; implicit_keep = false }) m')
        → HasDone mail (effect (referred_in code) mail File i s) (charge_of (referred_in code) mail File i s) (charged_for octets) m'
    had_file e octets m' files =
        let f = folder_top e in
        let filed = files s f.0 f.1.0 at.stands.holds f.1.1 in
        rw (f.1.1, filed.0) (filed.1, refl)

    -- the text on top is for a variable that is there
    abbrev HasValue : Type 0
    HasValue = (w : Mail) × ((t : State) × ((value : List ℕ) × ((rest : List Value) × (Represents w t m × (t.stack ≡ text value ∷ rest) × (i.c < length t.variables)))))

    value_top : operation_of i.op ≡ Some Set → (value : List ℕ) × ((rest : List Value) × (s.stack ≡ text value ∷ rest))
    value_top e = let a = after code mail is known pos m s at i here Set e in folder_there there.entries a.0 s.stack a.1 there.describes

    variable_within : operation_of i.op ≡ Some Set → i.c < length s.variables
    variable_within e = let number = there.texts.number in omega (arith, number, set_known code is s.place i here_is e)

    pub value_some : operation_of i.op ≡ Some Set → HasValue
    value_some e = let v = value_top e in (mail, (s, (v.0, (v.1.0, (at.stands.holds, v.1.1, variable_within e)))))

    pub modifiers_there : operation_of i.op ≡ Some Set → (modifiers : Modifiers) × (modifiers_numbered i.a ≡ Some modifiers)
    modifiers_there e = modifiers_known code is s.place i here_is e

    pub modifiers_some : operation_of i.op ≡ Some Set → IsSome (modifiers_numbered i.a)
    modifiers_some e = rw (modifiers_there e).1 refl

    pub had_set : operation_of i.op ≡ Some Set → (octets : ℕ) (m' : Machine)
        → ((t : State) (value : List ℕ) (rest : List Value) (modifiers : Modifiers) → Represents mail t m → t.stack ≡ text value ∷ rest → modifiers_numbered i.a ≡ Some modifiers
        → (octets ≡ length value) × Represents mail (record t { stack = rest; variables = slice_set t.variables i.c (take max_value (modified modifiers value)) }) m')
        → HasDone mail (effect (referred_in code) mail Set i s) (charge_of (referred_in code) mail Set i s) (charged_for octets) m'
    had_set e octets m' sets =
        let v = value_top e in
        let k = modifiers_there e in
        let set = sets s v.0 v.1.0 k.0 at.stands.holds v.1.1 k.1 in
        rw (v.1.1, k.1, lt-ltb i.c (length s.variables) (variable_within e), set.0) (set.1, refl)

    -- texts to be joined are on top of a state that the machine stands for
    parts_top : operation_of i.op ≡ Some Join → (top : OnTop) × (texts_on_top i.b s.stack ≡ Some top)
    parts_top e = let a = after code mail is known pos m s at i here Join e in parts_there i.b there.entries a.0 s.stack a.1 there.describes

    pub parts_some : IsProgram code → operation_of i.op ≡ Some Join → (w : Mail) × ((t : State) × ((top : OnTop) × (Represents w t m × (texts_on_top i.b t.stack ≡ Some top) × AreTexts top.texts)))
    parts_some fits e = let n = parts_top e in (mail, (s, (n.0, (at.stands.holds, n.1, texts_are i.b s.stack n.0 (few fits) (short fits) n.1))))

    pub had_join : operation_of i.op ≡ Some Join → (octets : ℕ) (m' : Machine)
        → ((t : State) (top : OnTop) → Represents mail t m → texts_on_top i.b t.stack ≡ Some top
        → (octets ≡ octets_on_top top) × Represents mail (record t { stack = text (take max_string (concat top.texts)) ∷ top.below }) m')
        → HasDone mail (effect (referred_in code) mail Join i s) (charge_of (referred_in code) mail Join i s) (charged_for octets) m'
    had_join e octets m' joins =
        let n = parts_top e in
        let joined = joins s n.0 at.stands.holds n.1 in
        let fits : Leads code mail s (join n.0.texts (record s { stack = n.0.below })) = subst (λ (o : Option OnTop). Leads code mail s (with_texts join s o)) n.1 (fine code mail is known pos m s at i here Join e) in
        rw (n.1, pushed code mail s (text (take max_string (concat n.0.texts))) (record s { stack = n.0.below }) fits, joined.0) (joined.1, refl)

    -- what a test has found, kept and pushed
    pub had_tested : (t : State) (found : Option (List (List ℕ))) (cost : ℕ) (done : Done) (m' : Machine) → Leads code mail s (tested t found) → done ≡ charged_for cost
        → Represents mail (record t { stack = truth (is_some found) ∷ t.stack; captures = unwrap_or found t.captures }) m' → HasDone mail (tested t found) (1 + cost) done m'
    had_tested t None cost done m' fits e stands = rw (pushed code mail s (truth false) t fits, e) (stands, refl)
    had_tested t (Some captures) cost done m' fits e stands = rw (pushed code mail s (truth true) (record t { captures = captures }) fits, e) (stands, refl)
