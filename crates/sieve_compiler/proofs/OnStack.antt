-- Strings on the stack and as they are expanded, and where a test leads.
use Rattle.std.proofs.Common.{◌≡◌, ℕ, zero, suc, ◌-◌, ◌<◌, ◌≤◌, Bool, true, false, not, List, [], ◌∷◌, ◌++◌, Option, Some, None, length, map, take, append-nil, slice_get, refl, sym, ap, ◌∙◌, arith, if◌then◌else◌}
use Rattle.std.specs.List.{concat, flat_map}
use Rattle.std.proofs.lemmas.Bool.{lt-ltb}
use Rattle.std.proofs.lemmas.List.{take_all, map-append}
use Rattle.mime_decode.specs.Mail.{Mail, Part as MailPart}
use Rattle.octets.specs.Limits.{max_string}
use Rattle.sieve_check.specs.Bounded.{IsBoundedSegment}
use Rattle.sieve_check.specs.declared.typed.Segment.{Segment}
use Rattle.sieve_check.specs.declared.typed.Segment.TheVariants.{Text, Variable, Capture}
use Rattle.sieve_check.specs.Typed.{Template, Strings, in_order, TestForm, TestForms, test}
use Rattle.mail_matching.specs.Questions.{Texts}
use Rattle.sieve_meaning.specs.Meaning.{Effects, texts_of, value_of, expanded, all_expanded, Verdict, verdict, broken, left, all_do, any_do}
use Rattle.bytecode_verifier.proofs.Again.{onto as stacked, on_top_again}
use Rattle.sieve_vm.specs.State.{Value, text, Frame, State, Referred, current_part}
use Rattle.bytecode_format.specs.declared.instruction.Instruction.{Instruction}
use Rattle.bytecode_format.specs.declared.operation.Operation.{Operation}
use Rattle.bytecode_format.specs.Code.{Code}
use Rattle.bytecode_verifier.specs.Rows.{is_well_formed}
use Rattle.bytecode_verifier.specs.Rules.{row_in}
use Rattle.sieve_vm.specs.Charge.{charge_of}
use Rattle.sieve_vm.specs.Machine.{Effect, fails, referred_in, effect, turn, turn_of, with_part}
use Rattle.sieve_vm.specs.Stack.{OnTop, Lists, text_in, texts_on_top, lists_on_top}
use Rattle.sieve_compiler.specs.Coding.{aim_of}
use Rattle.sieve_compiler.proofs.PushedTexts.{onto_append}
use Rattle.sieve_compiler.proofs.Values.{AreShort, capture_short}

-- where code that was asked for a value stands after it
abbrev pub lands : Bool → Bool → ℕ → ℕ → ℕ
lands true true target following = target
lands false false target following = target
lands true false target following = following
lands false true target following = following

-- what a list of tests comes to, from the value of the one before the rest
abbrev pub listed : Mail → Option ℕ → Bool → Bool → Effects → TestForms → Verdict
listed mail part false v e ts = if v then all_do mail part ts e else verdict false e
listed mail part true v e ts = if v then verdict true e else any_do mail part ts e

pub aim_lands : (deciding asked : Bool) (t : TestForm) (ts : TestForms) (following target : ℕ) → aim_of deciding asked (test t ts) following target ≡ lands deciding asked target following
aim_lands true true t ts following target = refl
aim_lands true false t ts following target = refl
aim_lands false true t ts following target = refl
aim_lands false false t ts following target = refl

-- ---- strings on the stack

-- strings on the stack, the last one on top
abbrev pub onto : List (List ℕ) → List Value → List Value
onto ss stack = stacked text ss stack

-- they are found there again
pub on_top : (n : ℕ) (ss : List (List ℕ)) (stack : List Value) → length ss ≡ n → texts_on_top n (onto ss stack) ≡ Some (let t : OnTop = record { texts = ss; below = stack } in t)
on_top n ss stack number = on_top_again text_in text (λ s. refl) n ss stack number

-- names, parameters above them, and keys above these are found again
pub three_again : (n m k : ℕ) (names given keys : List (List ℕ)) → length names ≡ n → length given ≡ m → length keys ≡ k → lists_on_top n m k (onto keys (onto given (onto names []))) ≡ Some (let lists : Lists = record { names = names; params = given; keys = keys; below = [] } in lists)
three_again n m k names given keys e g f = rw (on_top k keys (onto given (onto names [])) f, on_top m given (onto names []) g, on_top n names [] e) refl

-- the texts of a question on the stack
abbrev pub stacked_lists : Texts → List Value
stacked_lists texts = onto texts.keys (onto texts.params (onto texts.names []))

pub lists_stacked : (e : Effects) (strings : Strings) → onto (all_expanded e (in_order strings)) [] ≡ stacked_lists (texts_of e strings)
lists_stacked e strings =
    let two : List Template = strings.names ++ strings.params in
    ap (λ texts. onto texts []) (map-append (expanded e) two strings.keys ∙ ap (λ texts. texts ++ all_expanded e strings.keys) (map-append (expanded e) strings.names strings.params))
    ∙ onto_append text (all_expanded e strings.names ++ all_expanded e strings.params) (all_expanded e strings.keys) []
    ∙ ap (onto (all_expanded e strings.keys)) (onto_append text (all_expanded e strings.names) (all_expanded e strings.params) [])

-- ---- strings as they are expanded

pub joined_texts : (e : Effects) (segments : List Segment) → concat (map (value_of e) segments) ≡ flat_map (value_of e) segments
joined_texts e [] = refl
joined_texts e (s ∷ ss) = ap (λ rest. value_of e s ++ rest) (joined_texts e ss)

value_short : (e : Effects) (segment : Segment) → AreShort e → IsBoundedSegment segment → length (value_of e segment) ≤ max_string
value_short e (Text octets) short b = b
value_short e (Variable name) short b = omega (arith, short.variables name)
value_short e (Capture n) short b = omega (arith, capture_short e.captures n short.captures)

-- one segment is its value
pub one_value : (e : Effects) (segment : Segment) → AreShort e → IsBoundedSegment segment → value_of e segment ≡ expanded e (segment ∷ [])
one_value e segment short b = sym (ap (take max_string) (append-nil (value_of e segment)) ∙ take_all max_string (value_of e segment) (value_short e segment short b))

pub no_value : (e : Effects) → [] ≡ expanded e []
no_value e = sym (take_all max_string [] (omega arith))

-- ---- matches

pub turned : (b asked : Bool) (target following : ℕ) → lands b (not asked) target following ≡ lands (not b) asked target following
turned true true target following = refl
turned true false target following = refl
turned false true target following = refl
turned false false target following = refl

-- the current part is this one of the message
pub record OnPart (mail : Mail) (part : Option ℕ) : Type 0 where
  pub number : ℕ
  pub found : MailPart
  pub is : part ≡ Some number
  pub here : slice_get mail.parts number ≡ Some found

pub with_part_is : (go : ℕ → MailPart → State → Effect) (mail : Mail) (s : State) (frames : List Frame) (on : OnPart mail (current_part frames)) → with_part go mail s frames ≡ go on.number on.found s
with_part_is go mail s [] on = absurd (let wrong : None ≡ Some on.number = on.is in cc)
with_part_is go mail s (f ∷ fs) on = let is : Some f.part ≡ Some on.number = on.is in let same : f.part ≡ on.number = cc in rw (same, on.here) refl

pub part_at : (parts : List MailPart) (number : ℕ) → number < length parts → (found : MailPart) × (slice_get parts number ≡ Some found)
part_at [] number lt = absurd (omega (arith, lt))
part_at (p ∷ parts) zero lt = (p, refl)
part_at (p ∷ parts) (suc number) lt = part_at parts number (omega (arith, lt))

-- ---- turns

-- the effect and the charge of an instruction, by its operation
abbrev pub effect_of : Referred → Mail → Option Operation → Instruction → State → Effect
effect_of program mail None i s = fails
effect_of program mail (Some operation) i s = effect program mail operation i s

abbrev pub charge_in : Referred → Mail → Option Operation → Instruction → State → ℕ
charge_in program mail None i s = 0
charge_in program mail (Some operation) i s = charge_of program mail operation i s

-- the turn of an instruction whose fields are in their ranges
pub formed_turn : (code : Code) (mail : Mail) (o : Option Operation) (i : Instruction) (s : State) → is_well_formed (row_in code i) i ≡ true → turn_of code mail o i s ≡ turn (charge_in (referred_in code) mail o i s) (effect_of (referred_in code) mail o i s)
formed_turn code mail None i s h = refl
formed_turn code mail (Some operation) i s h = rw h refl

-- a loop is left, alone or with others
pub left_more : (n m : ℕ) (e : Effects) → n ≡ suc (suc m) → left n e ≡ broken (suc m) e
left_more n m e is = let before : suc (suc m) - 1 ≡ suc m = omega arith in rw is (rw (lt-ltb 1 (suc (suc m)) (omega arith), before) refl)
