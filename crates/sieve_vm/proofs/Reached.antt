-- The states that a run of an accepted program may reach, the turns that are sound, and the effects that lead to such states.
use Rattle.std.proofs.Common.{◌≡◌, ℕ, zero, suc, ◌+◌, ◌<◌, ◌≤◌, Bool, true, false, not, ◌&&◌, ◌==◌, nat_lt, cond, List, [], ◌∷◌, Some, None, All, inl, inr, length, slice_get, slice_set, slice_index_or, refl, sym, ap, ◌∙◌, arith}
use Rattle.std.proofs.lemmas.Bool.{cases_lt, ltb-true}
use Rattle.std.proofs.lemmas.List.{length-set, get_or_past}
use Rattle.std.proofs.lemmas.List.Elements.{All-set, All-get_or}
use Rattle.std.specs.Option.{option_and_then}
use Rattle.bytecode_format.specs.declared.instruction.Instruction.{Instruction}
use Rattle.bytecode_format.specs.declared.operation.Operation.{Operation}
use Rattle.bytecode_format.specs.Operations.{operation_of}
use Rattle.bytecode_format.specs.Code.{Code}
use Rattle.bytecode_verifier.specs.declared.shape.Entry.{Entry}
use Rattle.bytecode_verifier.specs.declared.shape.Entry.TheVariants.{Truth, Text}
use Rattle.bytecode_verifier.specs.Rows.{is_well_formed, row_of, row_in_version}
use Rattle.bytecode_verifier.specs.Shape.{Entries, is_empty, has_truth, with_entry, without_truth, shape_at}
use Rattle.bytecode_verifier.specs.Loops.{open_loops}
use Rattle.bytecode_verifier.specs.Acceptance.{IsAccepted}
use Rattle.bytecode_verifier.proofs.Consequences.{well_formed}
use Rattle.mime_decode.specs.Mail.{Mail, Part}
use Rattle.sieve_vm.specs.State.{Value, truth, text, Frame, State, Turn, goes, ends, traps}
use Rattle.sieve_vm.specs.Stores.{NamesPart}
use Rattle.sieve_vm.specs.Machine.{Effect, on, jumps, halts, fails}
use Rattle.sieve_vm.specs.Potential.{left_from}
use Rattle.glob_match.specs.Matching.{max_captures}
use Rattle.mail_matching.specs.Questions.{Asked, answered}
use Rattle.mail_matching.proofs.QuestionLemmas.{answered_ten, answered_short}
use Rattle.octets.specs.Limits.{max_value}
use Rattle.sieve_vm.proofs.Falls.{cap_there}
use Rattle.sieve_vm.proofs.Opened.{AreOpen}
use Rattle.sieve_vm.proofs.Taking.{Describes}

-- a value of a variable, and a capture, are cut
abbrev pub IsCut : List ℕ → Type 0
IsCut value = length value ≤ max_value

-- so many variables, and ten captures
pub record HoldsTexts (count : ℕ) (variables captures : List (List ℕ)) : Type 0 where
  pub number : length variables ≡ count
  pub values : All IsCut variables
  pub ten : length captures ≡ max_captures
  pub captured : All IsCut captures

-- a variable is set
pub set_one : (count n : ℕ) (variables captures : List (List ℕ)) (value : List ℕ) → HoldsTexts count variables captures → IsCut value → HoldsTexts count (slice_set variables n value) captures
set_one count n variables captures value held cut =
    record { number = length-set variables n value ∙ held.number; values = All-set IsCut variables n value cut held.values; ten = held.ten; captured = held.captured }

-- captures are set by what is asked
pub captured_by : (count : ℕ) (variables before after : List (List ℕ)) (what : Asked) (keys : List (List ℕ)) → HoldsTexts count variables before → answered what keys before ≡ Some after → HoldsTexts count variables after
captured_by count variables before after what keys held found =
    record { number = held.number; values = held.values; ten = answered_ten what keys before after held.ten found; captured = answered_short what keys before after held.captured found }

-- one of them is cut
pub cut_at : (texts : List (List ℕ)) (n : ℕ) → All IsCut texts → length (slice_index_or texts n []) ≤ max_value
cut_at texts n all = elim (cases_lt n (length texts)) [
  | inl lt ↦ All-get_or IsCut texts n [] lt all
  | inr le ↦ rw (get_or_past texts n [] le) (omega arith)
]

-- a state that a run may reach
pub record IsReached (code : Code) (mail : Mail) (state : State) : Type 0 where
  pub within : state.place < length code.instructions
  pub entries : Entries
  pub shape : shape_at code state.place ≡ Some entries
  pub describes : Describes entries state.stack
  pub opened : AreOpen mail state.frames (open_loops code state.place)
  pub texts : HoldsTexts code.variables state.variables state.captures
  pub stores : All (NamesPart mail) state.actions

-- what a state has been charged after an instruction: more than before, and no more than the cap of the instruction allows
pub record Costs (code : Code) (mail : Mail) (from : State) (charge : ℕ) : Type 0 where
  pub dearer : from.charge < charge
  pub within : charge ≤ from.charge + cap_there code mail from.place

-- whatever price each place has, what a run may still come to at a place and in these loops is less than from the state by the
-- price of its instruction
abbrev pub Falls : Code → Mail → State → ℕ → List Frame → Type 0
Falls code mail from target frames = (price : ℕ → ℕ) → left_from code mail price target frames + price from.place ≤ left_from code mail price from.place from.frames

-- what is true of a state at its end holds of its actions
abbrev pub EndsWell : Mail → State → Type 0
EndsWell mail end = All (NamesPart mail) end.actions

-- a turn from a state: it doesn't trap, it costs what it may, and it goes to a state that a run may reach, from which the run may charge less
abbrev pub IsSound : Code → Mail → State → Turn → Type 0
IsSound code mail from (goes to) = IsReached code mail to × Costs code mail from to.charge × Falls code mail from to.place to.frames
IsSound code mail from (ends end) = Costs code mail from end.charge × EndsWell mail end
IsSound code mail from traps = ⊥

-- an effect leads to a place and a state: nothing is charged yet, and whatever was charged a run may reach it
pub record LeadsTo (code : Code) (mail : Mail) (from : State) (target : ℕ) (to : State) : Type 0 where
  pub charge_is : to.charge ≡ from.charge
  pub reached : (charge : ℕ) → IsReached code mail (record to { place = target; charge = charge })
  pub falls : Falls code mail from target to.frames

-- an effect from a state that doesn't fail
abbrev pub Leads : Code → Mail → State → Effect → Type 0
Leads code mail from (on to) = (to.place ≡ from.place) × LeadsTo code mail from (suc from.place) to
Leads code mail from (jumps target to) = LeadsTo code mail from target to
Leads code mail from (halts to) = (to.charge ≡ from.charge) × EndsWell mail to × (to.place ≡ from.place)
Leads code mail from fails = ⊥

pub length-described : (entries : Entries) (stack : List Value) → Describes entries stack → length entries ≡ length stack
length-described [] [] d = refl
length-described [] (v ∷ vs) d = absurd d
length-described (Truth ∷ es) [] d = absurd d
length-described (Text bound ∷ es) [] d = absurd d
length-described (Truth ∷ es) (truth b ∷ vs) d = ap suc (length-described es vs d)
length-described (Truth ∷ es) (text t ∷ vs) d = absurd d
length-described (Text bound ∷ es) (truth b ∷ vs) d = absurd d
length-described (Text bound ∷ es) (text t ∷ vs) d = ap suc (length-described es vs d.1)

pub with_entry-some : (entry : Entry) (entries after : Entries) → with_entry entry entries ≡ Some after → (length entries < 1024) × (entry ∷ entries ≡ after)
with_entry-some entry entries after e = go (nat_lt (length entries) 1024) refl e
  where
    go : (b : Bool) → nat_lt (length entries) 1024 ≡ b → cond b (Some (entry ∷ entries)) None ≡ Some after → (length entries < 1024) × (entry ∷ entries ≡ after)
    go true h f = (ltb-true _ _ h, cc)
    go false h f = absurd cc

pub empty-some : (entries after : Entries) → cond (is_empty entries) (Some []) None ≡ Some after → entries ≡ []
empty-some [] after e = refl
empty-some (x ∷ xs) after e = absurd cc

-- a stack that an entry for a truth value describes
pub record TopTruth (stack : List Value) (entries : Entries) : Type 0 where
  pub value : Bool
  pub rest : List Value
  pub is : stack ≡ truth value ∷ rest
  pub below : Describes entries rest

pub top_truth : (es : Entries) (stack : List Value) → Describes (Truth ∷ es) stack → TopTruth stack es
top_truth es [] d = absurd d
top_truth es (truth b ∷ vs) d = record { value = b; rest = vs; is = refl; below = d }
top_truth es (text t ∷ vs) d = absurd d

pub no_stack : (stack : List Value) → Describes [] stack → stack ≡ []
no_stack [] d = refl
no_stack (v ∷ vs) d = absurd d

pub has_truth-some : (entries after : Entries) → cond (has_truth entries) (Some entries) None ≡ Some after → (es : Entries) × (entries ≡ Truth ∷ es) × (entries ≡ after)
has_truth-some [] after e = absurd cc
has_truth-some (Truth ∷ es) after e = (es, refl, cc)
has_truth-some (Text bound ∷ es) after e = absurd cc

pub without_truth-some : (entries after : Entries) → without_truth entries ≡ Some after → (entries ≡ Truth ∷ []) × (after ≡ [])
without_truth-some [] after e = absurd cc
without_truth-some (Truth ∷ []) after e = (refl, cc)
without_truth-some (Truth ∷ x ∷ xs) after e = absurd cc
without_truth-some (Text bound ∷ xs) after e = absurd cc

-- an accepted program is of a version that has its operations
pub row_there : (code : Code) → IsAccepted code → (place : ℕ) (i : Instruction) → slice_get code.instructions place ≡ Some i → (o : Operation) → operation_of i.op ≡ Some o → row_in_version code.version o ≡ Some (row_of o)
row_there code is place i here o named = go ((row_of o).since_two && not (code.version == 2)) (ap (λ x. is_well_formed (option_and_then (row_in_version code.version) x) i) (sym named) ∙ well_formed code is place i here)
  where
    go : (missing : Bool) → is_well_formed (cond missing None (Some (row_of o))) i ≡ true → cond missing None (Some (row_of o)) ≡ Some (row_of o)
    go true formed = absurd cc
    go false formed = refl

-- the part of this number
pub part_there : (parts : List Part) (number : ℕ) → number < length parts → (part : Part) × (slice_get parts number ≡ Some part)
part_there [] number lt = absurd (omega (arith, lt))
part_there (part ∷ parts) zero lt = (part, refl)
part_there (part ∷ parts) (suc number) lt = part_there parts number (omega (arith, lt))

-- a state that has a current part
pub record HasPart (mail : Mail) (state : State) : Type 0 where
  pub frame : Frame
  pub frames : List Frame
  pub part : Part
  pub is : state.frames ≡ frame ∷ frames
  pub there : slice_get mail.parts frame.part ≡ Some part

pub second_false : (a b : Bool) → a ≡ true → (a && b) ≡ false → b ≡ false
second_false true b t h = h
second_false false b t h = absurd cc

pub All-head : (P : ℕ → Type 0) (x : ℕ) (xs : List ℕ) → All P (x ∷ xs) → P x
All-head P x xs all = all 0 x (omega arith)

pub All-tail : (P : ℕ → Type 0) (x : ℕ) (xs : List ℕ) → All P (x ∷ xs) → All P xs
All-tail P x xs all = λ k d lt. all (suc k) d (omega (arith, lt))
