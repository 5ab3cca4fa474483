-- What the steps of a run look for in the contents of parts, and what is known of these from then on.
use Rattle.std.specs.Prelude.{◌≡◌, ℕ, suc, ◌==◌, ◌&&◌, not, Bool, true, false, List, [], ◌∷◌, Option, None, IfSome, IsSome, is_some, slice_get, slice_index_or, if◌then◌else◌}
use Rattle.std.specs.Option.{option_map_or}
use Rattle.mime_decode.specs.Content.{is_decoded}
use Rattle.mime_decode.specs.Mail.{Mail, Part}
use Rattle.sieve_vm.specs.State.{Frame, current_part}

-- a message, the loops that are open on its parts, the innermost first, and whether each holds the
-- content of its current part; and by the numbers of the parts what is known of their contents: how
-- long they are, their digests, and their first octets
pub record Visits : Type 0 where
  pub mail : Mail
  pub frames : List Frame
  pub held : List Bool
  pub lengths : List (Option ℕ)
  pub digests : List (Option (List ℕ))
  pub beginnings : List (Option (List ℕ))

-- what is known of a part in such a list stays known
abbrev pub StaysKnown : {A : Type 0} → List (Option A) → List (Option A) → Type 0
StaysKnown old new = (part : ℕ) → IsSome (slice_index_or old part None) → IsSome (slice_index_or new part None)

-- what was known of parts still is
pub record Remembers (old new : Visits) : Type 0 where
  pub lengths : StaysKnown old.lengths new.lengths
  pub digests : StaysKnown old.digests new.digests
  pub beginnings : StaysKnown old.beginnings new.beginnings

-- what an instruction may look for in the content of the current part and keep: how long it is, its digest, or its first octets
pub data Sought : Type 0 where
  Length : Sought
  Digest : Sought
  Beginning : Sought

-- whether it is known of a part
abbrev pub knows : Sought → ℕ → Visits → Bool
knows Length part visits = is_some (slice_index_or visits.lengths part None)
knows Digest part visits = is_some (slice_index_or visits.digests part None)
knows Beginning part visits = is_some (slice_index_or visits.beginnings part None)

-- whether it is kept of a part: the first octets are of one that has to be decoded
abbrev pub keeps : Sought → ℕ → Visits → Bool
keeps Length part visits = true
keeps Digest part visits = true
keeps Beginning part visits = option_map_or (λ (p : Part). is_decoded p.encoding) (slice_get visits.mail.parts part) false

-- this was sought of the current part: if it was known, nothing has changed; if not, it is known now, as far as it is kept
pub record HasSought (sought : Sought) (part : ℕ) (old new : Visits) : Type 0 where
  pub again : knows sought part old ≡ true → new ≡ old
  pub found : keeps sought part old ≡ true → knows sought part new ≡ true

-- a step that looks for this, if for anything, has forgotten nothing
pub record HasLooked (sought : Option Sought) (old new : Visits) : Type 0 where
  pub remembers : Remembers old new
  pub seeks : IfSome sought (λ it. IfSome (current_part old.frames) (λ part. HasSought it part old new))

-- ---- the steps of a run

-- a step: what it looks for, and the loops before and after it
pub record Look : Type 0 where
  pub sought : Option Sought
  pub old : Visits
  pub new : Visits

-- steps one after the other, from these loops on
abbrev pub AreLooks : Visits → List Look → Type 0
AreLooks from [] = Unit {0}
AreLooks from (look ∷ looks) = (look.old ≡ from) × HasLooked look.sought look.old look.new × AreLooks look.new looks

-- whether this is the one
abbrev pub is_same : Sought → Sought → Bool
is_same Length Length = true
is_same Digest Digest = true
is_same Beginning Beginning = true
is_same _ _ = false

-- whether a step has to find this in a part's content: it looks for what is kept of the current part, and isn't known
abbrev pub has_to_find : Sought → ℕ → Look → Bool
has_to_find sought part look =
    not (knows sought part look.old) && option_map_or (is_same sought) look.sought false
    && option_map_or (λ current. current == part) (current_part look.old.frames) false && keeps sought part look.old

-- how many of the steps have to
abbrev pub times_found : Sought → ℕ → List Look → ℕ
times_found sought part [] = 0
times_found sought part (look ∷ looks) =
    if has_to_find sought part look then suc (times_found sought part looks) else times_found sought part looks
