-- Private: what the open loops of the code stand for.
use Rattle.std.specs.Prelude.{◌≡◌, ℕ, suc, ◌-◌, ◌==◌, Bool, true, false, List, [], ◌∷◌, Option, Some, None, IfSome, IsSome, is_some, length, map, reverse, take, drop, slice_get, slice_index_or, if◌then◌else◌}
use Rattle.std.specs.Cow.{cow_slice_items}
use Rattle.std.specs.Option.{option_and_then}
use Rattle.octets.specs.Limits.{max_value}
use Rattle.bytecode_format.specs.declared.instruction.Instruction.{Instruction}
use Rattle.bytecode_format.specs.declared.operation.Operation.{Operation}
use Rattle.bytecode_format.specs.declared.operation.Operation.TheVariants.{Take, Test}
use Rattle.bytecode_format.specs.Questions.{question_in}
use Rattle.mail_matching.specs.Questions.{need_of}
use Rattle.mail_matching.specs.declared.questions.Need.{Need}
use Rattle.mail_matching.specs.declared.questions.Need.TheVariants as need
use Rattle.mime_decode.specs.Content.{digest_of}
use Rattle.mime_decode.specs.Mail.{Mail, Part}
use Rattle.mime_decode.specs.Visited.{numbers_from}
use Rattle.sieve_vm.specs.declared.frame.Frame as code
use Rattle.sieve_vm.specs.declared.last_content.LastContent.{LastContent}
use Rattle.sieve_vm.specs.Looks.{Visits, StaysKnown, Sought, Length, Digest, Beginning}
use Rattle.sieve_vm.specs.State.{Frame, current_part}

-- an open loop: the parts not yet visited are the numbers after the current one up to the last
abbrev pub frame_of : code.Frame → Frame
frame_of frame = record { each = frame.each; next = frame.next; part = frame.part; rest = numbers_from (suc frame.part) (frame.last - frame.part) }

-- the open loops, of which the code has the innermost last
abbrev pub frames_of : List code.Frame → List Frame
frames_of frames = map frame_of (reverse frames)

-- which of them hold the content of their current part
abbrev pub held_in : List code.Frame → List Bool
held_in frames = map (λ frame. is_some frame.content) (reverse frames)

-- the content that a frame has is that of its current part
abbrev pub HasContent : Mail → code.Frame → Type 0
HasContent mail frame = IfSome frame.content
    (λ content. (part : Part) → slice_get mail.parts frame.part ≡ Some part → cow_slice_items content ≡ part.content)

-- this is the content of the part with this number, if there is one
abbrev pub IsContentAt : Mail → ℕ → List ℕ → Type 0
IsContentAt mail place octets = (part : Part) → slice_get mail.parts place ≡ Some part → octets ≡ part.content

-- the content that is kept is that of its part
abbrev pub KeepsContent : Mail → LastContent → Type 0
KeepsContent mail last = IfSome last.content (λ content. IsContentAt mail last.part content.items)

-- what is known of parts is so: the lengths of their contents, the digests, and the first octets,
-- as many as a variable's value has at most
pub record IsKnown (mail : Mail) (lengths : List (Option ℕ)) (digests beginnings : List (Option (List ℕ))) : Type 0 where
  pub length_is : (place found : ℕ) (part : Part) → slice_index_or lengths place None ≡ Some found
      → slice_get mail.parts place ≡ Some part → found ≡ length part.content
  pub digest_is : (place : ℕ) (found : List ℕ) (part : Part) → slice_index_or digests place None ≡ Some found
      → slice_get mail.parts place ≡ Some part → found ≡ digest_of part.content
  pub beginning_is : (place : ℕ) (found : List ℕ) (part : Part) → slice_index_or beginnings place None ≡ Some found
      → slice_get mail.parts place ≡ Some part → found ≡ take max_value part.content

-- the current part
abbrev pub part_in : Visits → Option Part
part_in visits = option_and_then (slice_get visits.mail.parts) (current_part visits.frames)

-- whether the innermost of loops holds the content of its current part, by whether each does
abbrev pub holds_first : List Bool → Bool
holds_first [] = false
holds_first (held ∷ others) = held

-- whether the content of the current part is held
abbrev pub holds : Visits → Bool
holds visits = holds_first visits.held

-- it is held from now on, and nothing else has changed
abbrev pub holding : Visits → Visits
holding visits = record visits { held = true ∷ drop 1 visits.held }

-- the message and its open loops are the same, and what was held or known of parts still is
pub record HasSameLoops (old new : Visits) : Type 0 where
  pub mail : new.mail ≡ old.mail
  pub frames : new.frames ≡ old.frames
  pub held : holds old ≡ true → holds new ≡ true
  pub outer : drop 1 new.held ≡ drop 1 old.held
  pub lengths : StaysKnown old.lengths new.lengths
  pub digests : StaysKnown old.digests new.digests
  pub beginnings : StaysKnown old.beginnings new.beginnings

-- what is known of the current part, in such a list
abbrev pub known_of : {A : Type 0} → List (Option A) → Visits → Option A
known_of list visits = option_and_then (λ part. slice_index_or list part None) (current_part visits.frames)

-- there is a current part, if anything is needed of it
abbrev pub HasPartFor : Need → Visits → Type 0
HasPartFor need.Nothing visits = Unit {0}
HasPartFor need.Length visits = IsSome (part_in visits)
HasPartFor need.Content visits = IsSome (part_in visits)
HasPartFor need.Digest visits = IsSome (part_in visits)

-- what is needed of the current part is known or held
abbrev pub IsFound : Need → Visits → Type 0
IsFound need.Nothing visits = Unit {0}
IsFound need.Length visits = IsSome (part_in visits) × IsSome (known_of visits.lengths visits)
IsFound need.Content visits = IsSome (part_in visits) × (holds visits ≡ true)
IsFound need.Digest visits = IsSome (part_in visits) × IsSome (known_of visits.digests visits)

-- this is known of the current part from then on, and of the others what was known before
abbrev pub Learns : {A : Type 0} → A → List (Option A) → List (Option A) → Visits → Type 0
Learns found old new visits =
    (part other : ℕ) → current_part visits.frames ≡ Some part → slice_index_or new other None ≡ (if other == part then Some found else slice_index_or old other None)

-- a loop is open with the first of the parts; without parts none is
abbrev pub Opens : ℕ → ℕ → List ℕ → Bool → Visits → Visits → Type 0
Opens each next [] opened old new = (opened ≡ false) × (new ≡ old)
Opens each next (part ∷ rest) opened old new =
    (opened ≡ true) × (new ≡ record old { frames = record { each = each; next = next; part = part; rest = rest } ∷ old.frames; held = false ∷ old.held })

-- a frame goes on with the first of the parts that are left; without parts it stays
abbrev pub GoesOn : List ℕ → Bool → code.Frame → code.Frame → Type 0
GoesOn [] went old new = (went ≡ false) × (new ≡ old)
GoesOn (part ∷ rest) went old new =
    (went ≡ true) × (frame_of new ≡ record (frame_of old) { part = part; rest = rest }) × (new.content ≡ None)

-- the innermost loop goes on with the first of the parts that are left, after its Each; without parts it is closed
abbrev pub Continues : Frame → List Frame → List ℕ → Option ℕ → Visits → Visits → Type 0
Continues frame frames [] place old new = (place ≡ None) × (new ≡ record old { frames = frames; held = drop 1 old.held })
Continues frame frames (part ∷ rest) place old new =
    (place ≡ Some frame.each) × (new ≡ record old { frames = record frame { part = part; rest = rest } ∷ frames; held = false ∷ drop 1 old.held })

-- ---- what steps look for

-- what is sought for a test that needs this
abbrev pub sought_for : Need → Option Sought
sought_for need.Nothing = None
sought_for need.Length = Some Length
sought_for need.Content = None
sought_for need.Digest = Some Digest

-- what an instruction of this operation looks for: PARTSIZE the length, PARTDIGEST the digest, TAKE the first octets
abbrev pub sought_by : List ℕ → Operation → Instruction → Option Sought
sought_by numbers (Test test) i = option_and_then (λ question. sought_for (need_of question)) (question_in numbers test i)
sought_by numbers Take i = Some Beginning
sought_by numbers _ i = None
