-- The operations that push and take entries, set variables, file and jump lead on.
use Rattle.std.proofs.Common.{◌≡◌, ℕ, ◌<◌, ◌≤◌, Bool, true, false, not, nat_lt, cond, List, [], ◌∷◌, ◌++◌, Option, Some, None, min, sum, sum_by, take, length, slice_get, slice_set, get_or, refl, sym, ap, subst, ◌∙◌, arith}
use Rattle.std.proofs.lemmas.Bool.{lt-ltb}
use Rattle.std.proofs.lemmas.Option.{slice_get-get_or}
use Rattle.std.proofs.lemmas.List.{length-take}
use Rattle.std.proofs.lemmas.List.Elements.{All-push}
use Rattle.std.proofs.lemmas.List.Concat.{concat_is, length-flat_map}
use Rattle.std.specs.List.{concat}
use Rattle.bytecode_format.specs.declared.instruction.Instruction.{Instruction}
use Rattle.bytecode_format.specs.declared.operation.Operation.{Operation}
use Rattle.bytecode_format.specs.declared.operation.Operation.TheVariants.{Literal, Variable, Capture, Join, Set, Not, Jump, File}
use Rattle.bytecode_format.specs.Operations.{operation_of}
use Rattle.bytecode_format.specs.Code.{Code}
use Rattle.bytecode_verifier.specs.declared.shape.Entry.TheVariants.{Truth, Text}
use Rattle.std.specs.Option.{option_and_then, option_map}
use Rattle.bytecode_verifier.specs.Rows.{row_in_version, is_jump}
use Rattle.bytecode_verifier.specs.Shape.{Entries, Texts, with_entry, with_string, with_joined, without_truth, take_texts}
use Rattle.bytecode_verifier.specs.Rules.{row_in}
use Rattle.bytecode_verifier.specs.Acceptance.{IsAccepted}
use Rattle.bytecode_verifier.proofs.Consequences.{left_by, string_known, variable_known, set_known, modifiers_known}
use Rattle.bytecode_format.specs.declared.action.Action.TheVariants as action
use Rattle.mime_decode.specs.Mail.{Mail, IsMail}
use Rattle.sieve_vm.specs.State.{Value, truth, text, State}
use Rattle.sieve_vm.specs.Stack.{OnTop}
use Rattle.sieve_vm.specs.Stores.{NamesPart}
use Rattle.sieve_vm.specs.Machine as machine
use Rattle.sieve_vm.specs.Machine.{on, jumps, fails, branch, with_truth, with_text, with_texts, file, is_sound_jump, effect, referred_in}
use Rattle.octets.specs.Limits.{max_string, max_value}
use Rattle.bytecode_format.specs.declared.modifiers.Modifiers.{Modifiers}
use Rattle.bytecode_format.specs.Modifiers.{modified, modifiers_numbered}
use Rattle.sieve_vm.proofs.Taking.{Describes, on_top, octets_within}
use Rattle.sieve_vm.proofs.Reached.{HoldsTexts, set_one, cut_at, IsReached, Leads, empty-some, top_truth, no_stack, has_truth-some, without_truth-some}
use Rattle.sieve_vm.proofs.Leading.{is_plain, leads_on, leads_target, sound_jump, after_of, left, pushes}

module _ (code : Code) (mail : Mail) (is : IsAccepted code) (known : IsMail mail) where
  module _ (s : State) (i : Instruction) (here : slice_get code.instructions s.place ≡ Some i) (from : IsReached code mail s) where
    abbrev entries : Entries
    entries = from.entries

    abbrev d : Describes entries s.stack
    d = from.describes

    abbrev held : HoldsTexts code.variables s.variables s.captures
    held = from.texts

    -- the shape goes on to these entries
    abbrev LeavesBy : Operation → Entries → Type 0
    LeavesBy o after = left_by code (Some o) i entries ≡ Some after

    pub leads_literal : operation_of i.op ≡ Some Literal → Leads code mail s (effect (referred_in code) mail Literal i s)
    leads_literal e =
        let a = after_of code mail is known s i here from (Some Literal) e in
        let octets : List ℕ = get_or code.strings i.c [] in
        let string : slice_get code.strings i.c ≡ Some octets = slice_get-get_or code.strings i.c [] (string_known code is s.place i here e) in
        let room : with_entry (Text (length octets)) entries ≡ Some a.0 = ap (λ o. with_string o entries) (sym string) ∙ a.1 in
        subst (λ (o : Option (List ℕ)). Leads code mail s (machine.with_string s o)) (sym string)
        (pushes code mail is known s i here from Literal s (text octets) (Text (length octets)) entries a.0 e refl a.1 room refl refl refl held from.stores d (omega arith, d))

    pub leads_variable : operation_of i.op ≡ Some Variable → Leads code mail s (effect (referred_in code) mail Variable i s)
    leads_variable e =
        let a = after_of code mail is known s i here from (Some Variable) e in
        let value : List ℕ = get_or s.variables i.c [] in
        let within : i.c < length s.variables = omega (arith, held.number, variable_known code is s.place i here e) in
        let value_is : slice_get s.variables i.c ≡ Some value = slice_get-get_or s.variables i.c [] within in
        subst (λ (o : Option (List ℕ)). Leads code mail s (machine.with_string s o)) (sym value_is)
        (pushes code mail is known s i here from Variable s (text value) (Text max_value) entries a.0 e refl a.1 a.1 refl refl refl held from.stores d (cut_at s.variables i.c held.values, d))

    pub leads_capture : operation_of i.op ≡ Some Capture → Leads code mail s (effect (referred_in code) mail Capture i s)
    leads_capture e =
        let a = after_of code mail is known s i here from (Some Capture) e in
        pushes code mail is known s i here from Capture s (text (get_or s.captures i.a [])) (Text max_value) entries a.0 e refl a.1 a.1 refl refl refl held from.stores d (cut_at s.captures i.a held.captured, d)

    pub leads_join : operation_of i.op ≡ Some Join → Leads code mail s (effect (referred_in code) mail Join i s)
    leads_join e = let a = after_of code mail is known s i here from (Some Join) e in go a.0 a.1 (take_texts i.b entries) refl a.1
      where
        go : (after : Entries) → LeavesBy Join after → (o : Option Texts) → take_texts i.b entries ≡ o → option_and_then with_joined o ≡ Some after → Leads code mail s (effect (referred_in code) mail Join i s)
        go after leaves None h f = absurd cc
        go after leaves (Some bounds) h f =
            let parts = on_top i.b entries bounds s.stack h d in
            let joined : List ℕ = take max_string (concat parts.top.texts) in
            let all : length (concat parts.top.texts) ≡ sum_by length parts.top.texts = ap length (concat_is parts.top.texts) ∙ length-flat_map (λ t. t) parts.top.texts in
            let short : length joined ≤ min (sum bounds.texts) max_string = omega (arith, length-take max_string (concat parts.top.texts), all, octets_within i.b bounds s.stack parts) in
            subst (λ (o : Option OnTop). Leads code mail s (with_texts machine.join s o)) (sym parts.is)
            (pushes code mail is known s i here from Join (record s { stack = parts.top.below }) (text joined) (Text (min (sum bounds.texts) max_string)) bounds.below after e refl leaves f refl refl refl held from.stores parts.below (short, parts.below))

    pub leads_set : operation_of i.op ≡ Some Set → Leads code mail s (effect (referred_in code) mail Set i s)
    leads_set e = let a = after_of code mail is known s i here from (Some Set) e in go entries s.stack a.0 d (left code mail is known s i here from Set a.0 e a.1) a.1
      where
        named : (modifiers : Modifiers) × (modifiers_numbered i.a ≡ Some modifiers)
        named = modifiers_known code is s.place i here e

        within : nat_lt i.c (length s.variables) ≡ true
        within = lt-ltb _ _ (omega (arith, held.number, set_known code is s.place i here e))

        go : (es : Entries) (stack : List Value) (after : Entries) → Describes es stack → left_by code (operation_of i.op) i entries ≡ Some after → option_map (λ (value : Texts). value.below) (take_texts 1 es) ≡ Some after
            → Leads code mail s (with_text (machine.set_variable i) s stack)
        go [] stack after h leaves f = absurd cc
        go (Truth ∷ es) stack after h leaves f = absurd cc
        go (Text bound ∷ es) [] after h leaves f = absurd h
        go (Text bound ∷ es) (truth b ∷ vs) after h leaves f = absurd h
        go (Text bound ∷ es) (text value ∷ vs) after h leaves f =
            let same : es ≡ after = cc in
            let next : List ℕ = take max_value (modified named.0 value) in
            let cut : length next ≤ max_value = omega (arith, length-take max_value (modified named.0 value)) in
            subst (λ (o : Option Modifiers). Leads code mail s (machine.set_modified i.c o value (record s { stack = vs }))) (sym named.1)
            (subst (λ (b : Bool). Leads code mail s (cond b (on (record s { stack = vs; variables = slice_set s.variables i.c next })) fails)) (sym within)
            (leads_on code mail is known s i here from _ after (ap is_plain e) leaves (subst (λ (x : Entries). Describes x vs) same h.1) refl refl refl (set_one code.variables i.c s.variables s.captures next held cut) from.stores))

    pub leads_file : operation_of i.op ≡ Some File → Leads code mail s (effect (referred_in code) mail File i s)
    leads_file e = let a = after_of code mail is known s i here from (Some File) e in go entries s.stack a.0 d (left code mail is known s i here from File a.0 e a.1) a.1
      where
        go : (es : Entries) (stack : List Value) (after : Entries) → Describes es stack → left_by code (operation_of i.op) i entries ≡ Some after → option_map (λ (folder : Texts). folder.below) (take_texts 1 es) ≡ Some after
            → Leads code mail s (with_text file s stack)
        go [] stack after h leaves f = absurd cc
        go (Truth ∷ es) stack after h leaves f = absurd cc
        go (Text bound ∷ es) [] after h leaves f = absurd h
        go (Text bound ∷ es) (truth b ∷ vs) after h leaves f = absurd h
        go (Text bound ∷ es) (text folder ∷ vs) after h leaves f =
            let same : es ≡ after = cc in
            leads_on code mail is known s i here from (record s { stack = vs; actions = s.actions ++ action.File folder ∷ []; implicit_keep = false }) after (ap is_plain e) leaves (subst (λ (x : Entries). Describes x vs) same h.1) refl refl refl held (All-push (NamesPart mail) s.actions (action.File folder) from.stores tt)

    pub leads_not : operation_of i.op ≡ Some Not → Leads code mail s (effect (referred_in code) mail Not i s)
    leads_not e =
        let a = after_of code mail is known s i here from (Some Not) e in
        let t = has_truth-some entries a.0 a.1 in
        let top = top_truth t.0 s.stack (subst (λ (x : Entries). Describes x s.stack) t.1 d) in
        let described : Describes a.0 (truth (not top.value) ∷ top.rest) = subst (λ (x : Entries). Describes x (truth (not top.value) ∷ top.rest)) (sym t.1 ∙ t.2) top.below in
        subst (λ (v : List Value). Leads code mail s (with_truth (λ b s'. on (record s' { stack = truth (not b) ∷ s'.stack })) s v)) (sym top.is)
        (leads_on code mail is known s i here from (record s { stack = truth (not top.value) ∷ top.rest }) a.0 (ap is_plain e) (left code mail is known s i here from Not a.0 e a.1) described refl refl refl held from.stores)

    -- the jump's effect, taken or not, when no entry is left
    branches : (wanted b : Bool) → is_jump (row_in code i) ≡ true → is_plain (operation_of i.op) ≡ true → left_by code (operation_of i.op) i entries ≡ Some [] → Leads code mail s (branch i.c wanted b (record s { stack = [] }))
    branches wanted b jump goes_on shape = way (cond wanted b (not b))
      where
        way : (taken : Bool) → Leads code mail s (cond taken (jumps i.c (record s { stack = [] })) (on (record s { stack = [] })))
        way true = leads_target code mail is known s i here from (record s { stack = [] }) jump refl refl refl held from.stores
        way false = leads_on code mail is known s i here from (record s { stack = [] }) [] goes_on shape tt refl refl refl held from.stores

    pub leads_jump : operation_of i.op ≡ Some Jump → Leads code mail s (effect (referred_in code) mail Jump i s)
    leads_jump e =
        let a = after_of code mail is known s i here from (Some Jump) e in
        let jump : is_jump (row_in code i) ≡ true = ap (λ o. is_jump (option_and_then (row_in_version code.version) o)) e in
        let none : s.stack ≡ [] = no_stack s.stack (subst (λ (x : Entries). Describes x s.stack) (empty-some entries a.0 a.1) d) in
        subst (λ (b : Bool). Leads code mail s (cond b (jumps i.c s) fails)) (sym (sound_jump code mail is known s i here from jump))
        (leads_target code mail is known s i here from s jump none refl refl held from.stores)

    -- a jump that takes a truth value
    pub leads_branch : (o : Operation) (wanted : Bool) → operation_of i.op ≡ Some o → is_jump (row_in_version code.version o) ≡ true → is_plain (Some o) ≡ true → left_by code (Some o) i entries ≡ without_truth entries
        → Leads code mail s (cond (is_sound_jump (referred_in code) s i) (with_truth (branch i.c wanted) s s.stack) fails)
    leads_branch o wanted e jump_op goes_on takes =
        let a = after_of code mail is known s i here from (Some o) e in
        let w = without_truth-some entries a.0 (sym takes ∙ a.1) in
        let jump : is_jump (row_in code i) ≡ true = ap (λ x. is_jump (option_and_then (row_in_version code.version) x)) e ∙ jump_op in
        let top = top_truth [] s.stack (subst (λ (x : Entries). Describes x s.stack) w.0 d) in
        let alone : s.stack ≡ truth top.value ∷ [] = top.is ∙ ap (λ (r : List Value). truth top.value ∷ r) (no_stack top.rest top.below) in
        let shape : left_by code (operation_of i.op) i entries ≡ Some [] = ap (λ x. left_by code x i entries) e ∙ a.1 ∙ ap (λ (x : Entries). Some x) w.1 in
        subst (λ (b : Bool). Leads code mail s (cond b (with_truth (branch i.c wanted) s s.stack) fails)) (sym (sound_jump code mail is known s i here from jump))
        (subst (λ (v : List Value). Leads code mail s (with_truth (branch i.c wanted) s v)) (sym alone) (branches wanted top.value jump (ap is_plain e ∙ goes_on) shape))
