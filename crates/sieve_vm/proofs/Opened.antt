-- The opened loops of a state, and those of its place.
use Rattle.std.proofs.Common.{◌≡◌, ℕ, zero, suc, ◌+◌, ◌-◌, ◌<◌, ◌≤◌, List, [], ◌∷◌, ◌++◌, Option, Some, None, IfSome, All, length, length-append, reverse, drop, slice_get, refl, sym, ap, subst, ◌∙◌, append_assoc, arith}
use Rattle.std.proofs.lemmas.List.{reverse-append, reverse-reverse}
use Rattle.std.proofs.lemmas.List.Elements.{All-cons, All-nil}
use Rattle.std.specs.Option.{option_map_or}
use Rattle.bytecode_format.specs.Code.{Code}
use Rattle.bytecode_verifier.specs.Loops.{Loop, open_loops}
use Rattle.bytecode_verifier.proofs.Nesting.{Nesting}
use Rattle.mime_decode.specs.Mail.{Mail, Part, IsMail}
use Rattle.mime_decode.specs.Visited.{numbers_from, visited}
use Rattle.sieve_vm.specs.State.{Frame, State, current_part}
use Rattle.sieve_vm.specs.Machine.{jumps, close}
use Rattle.sieve_vm.proofs.Falls.{end_of, numbers-length}

-- the loop of a frame
abbrev pub loop_of : Frame → Loop
loop_of frame = record { each = frame.each; next = frame.next }

abbrev pub IsPart : Mail → ℕ → Type 0
IsPart mail part = part < length mail.parts

-- the place after a part and those below it
abbrev pub end_of_part : Mail → ℕ → ℕ
end_of_part mail place = option_map_or (λ (part : Part). suc (place + part.below)) (slice_get mail.parts place) 0

-- the parts that a loop visits which is opened inside of these: from a first one on, and before an end
abbrev pub first_inside : List Frame → ℕ
first_inside [] = 0
first_inside (frame ∷ frames) = suc frame.part

abbrev pub end_inside : Mail → List Frame → ℕ
end_inside mail [] = length mail.parts
end_inside mail (frame ∷ frames) = end_of_part mail frame.part

-- a loop inside of these has come to one of them, with all below it, and has those left that come after it
pub record IsUnderWay (mail : Mail) (frame : Frame) (frames : List Frame) : Type 0 where
  pub after : first_inside frames ≤ frame.part
  pub before : end_of_part mail frame.part ≤ end_inside mail frames
  pub left : frame.rest ≡ numbers_from (suc frame.part) (end_inside mail frames - suc frame.part)

-- the frames, innermost first, are of these loops, outermost first, and they visit parts of the message
abbrev pub AreOpen : Mail → List Frame → List Loop → Type 0
AreOpen mail [] loops = loops ≡ []
AreOpen mail (frame ∷ frames) loops =
    (outer : List Loop) × (loops ≡ outer ++ loop_of frame ∷ []) × AreOpen mail frames outer × IsPart mail frame.part × All (IsPart mail) frame.rest × IsUnderWay mail frame frames

pub open-length : (mail : Mail) (frames : List Frame) (loops : List Loop) → AreOpen mail frames loops → length loops ≡ length frames
open-length mail [] loops opened = ap length opened
open-length mail (frame ∷ frames) loops opened =
    omega (arith, ap length opened.1, length-append opened.0 (loop_of frame ∷ []), open-length mail frames opened.0 opened.2)

-- the current part is one of the message
pub open-current : (mail : Mail) (frames : List Frame) (loops : List Loop) → AreOpen mail frames loops → IfSome (current_part frames) (λ part. part < length mail.parts)
open-current mail [] loops opened = tt
open-current mail (frame ∷ frames) loops opened = opened.3

pub last_of_both : (xs ys : List Loop) (x y : Loop) → xs ++ x ∷ [] ≡ ys ++ y ∷ [] → (xs ≡ ys) × (x ≡ y)
last_of_both xs ys x y same =
    let turned : x ∷ reverse xs ≡ y ∷ reverse ys = sym (reverse-append xs (x ∷ [])) ∙ ap reverse same ∙ reverse-append ys (y ∷ []) in
    let first : x ≡ y = cc in
    let others : reverse xs ≡ reverse ys = cc in
    (sym (reverse-reverse xs) ∙ ap reverse others ∙ reverse-reverse ys, first)

-- a frame among them
pub record IsAmong (mail : Mail) (loops : List Loop) (frame : Frame) (frames : List Frame) : Type 0 where
  pub outer : List Loop
  pub inner : List Loop
  pub split : loops ≡ outer ++ loop_of frame ∷ inner
  pub around : AreOpen mail frames outer

pub is_among : (mail : Mail) (number : ℕ) (frames : List Frame) (loops : List Loop) (frame : Frame) (left : List Frame) → AreOpen mail frames loops → drop number frames ≡ frame ∷ left → IsAmong mail loops frame left
is_among mail zero [] loops frame left opened e = absurd cc
is_among mail (suc number) [] loops frame left opened e = absurd cc
is_among mail zero (f ∷ fs) loops frame left opened e =
    let first : f ≡ frame = cc in
    let others : fs ≡ left = cc in
    record { outer = opened.0; inner = []; split = rw (← first) opened.1; around = subst (λ gs. AreOpen mail gs opened.0) others opened.2 }
is_among mail (suc number) (f ∷ fs) loops frame left opened e =
    let before = is_among mail number fs opened.0 frame left opened.2 e in
    record {
      outer = before.outer;
      inner = before.inner ++ loop_of f ∷ [];
      split = opened.1 ∙ ap (λ ls. ls ++ loop_of f ∷ []) before.split ∙ append_assoc before.outer (loop_of frame ∷ before.inner) (loop_of f ∷ []);
      around = before.around;
    }

-- there is a frame so deep
pub some_left : (number : ℕ) (frames : List Frame) → number < length frames → (frame : Frame) × (left : List Frame) × (drop number frames ≡ frame ∷ left)
some_left number [] lt = absurd (omega (arith, lt))
some_left zero (f ∷ fs) lt = (f, fs, refl)
some_left (suc number) (f ∷ fs) lt = some_left number fs (omega (arith, lt))

-- closing loops goes on after the last one's Next
pub close-is : (number : ℕ) (state : State) (frames : List Frame) (frame : Frame) (left : List Frame) → drop number frames ≡ frame ∷ left → close (suc number) state frames ≡ jumps (suc frame.next) (record state { frames = left })
close-is zero state [] frame left e = absurd cc
close-is zero state (f ∷ fs) frame left e =
    let first : f ≡ frame = cc in
    let others : fs ≡ left = cc in
    rw (first, others) refl
close-is (suc number) state [] frame left e = absurd cc
close-is (suc number) state (f ∷ fs) frame left e = close-is number state fs frame left e

-- ---- the parts that a loop visits

numbers_are : (limit first n : ℕ) → first + n ≤ limit → All (λ part. part < limit) (numbers_from first n)
numbers_are limit first zero le = All-nil (λ part. part < limit)
numbers_are limit first (suc n) le = All-cons (λ part. part < limit) first (numbers_from (suc first) n) (omega (arith, le)) (numbers_are limit (suc first) n (omega (arith, le)))

-- they are parts of the message, each once
pub record AreVisited (mail : Mail) (parts : List ℕ) : Type 0 where
  pub each : All (IsPart mail) parts
  pub few : length parts ≤ length mail.parts

pub are_visited : (mail : Mail) → IsMail mail → (current : Option ℕ) → AreVisited mail (visited current mail)
are_visited mail known None =
    record { each = numbers_are (length mail.parts) 0 (length mail.parts) (omega arith); few = omega (arith, numbers-length 0 (length mail.parts)) }
are_visited mail known (Some place) = go (slice_get mail.parts place) refl
  where
    go : (found : Option Part) → slice_get mail.parts place ≡ found → AreVisited mail (option_map_or (λ (part : Part). numbers_from (suc place) part.below) found [])
    go None e = record { each = All-nil (IsPart mail); few = omega arith }
    go (Some part) e =
        let within = (known.nests place part e).within in
        record { each = numbers_are (length mail.parts) (suc place) part.below (omega (arith, within)); few = omega (arith, within, numbers-length (suc place) part.below) }

-- what a loop visits goes from the first to the end
pub visited-inside : (mail : Mail) (frames : List Frame) → visited (current_part frames) mail ≡ numbers_from (first_inside frames) (end_inside mail frames - first_inside frames)
visited-inside mail [] = let same : length mail.parts ≡ length mail.parts - 0 = omega arith in ap (numbers_from 0) same
visited-inside mail (frame ∷ frames) = go (slice_get mail.parts frame.part)
  where
    go : (found : Option Part) → option_map_or (λ (part : Part). numbers_from (suc frame.part) part.below) found [] ≡ numbers_from (suc frame.part) (option_map_or (λ (part : Part). suc (frame.part + part.below)) found 0 - suc frame.part)
    go None = let same : 0 ≡ 0 - suc frame.part = omega arith in ap (numbers_from (suc frame.part)) same
    go (Some part) = let same : part.below ≡ suc (frame.part + part.below) - suc frame.part = omega arith in ap (numbers_from (suc frame.part)) same

-- a part inside, with all below it, ends inside
pub ends-inside : (mail : Mail) (frames : List Frame) (part : ℕ) → IsMail mail → first_inside frames ≤ part → part < end_inside mail frames → end_of_part mail part ≤ end_inside mail frames
ends-inside mail [] part known after before = go (slice_get mail.parts part) refl
  where
    go : (found : Option Part) → slice_get mail.parts part ≡ found → option_map_or (λ (p : Part). suc (part + p.below)) found 0 ≤ length mail.parts
    go None e = omega arith
    go (Some p) e = let within = (known.nests part p e).within in omega (arith, within)
ends-inside mail (frame ∷ frames) part known after before = around (slice_get mail.parts frame.part) refl before
  where
    around : (outer : Option Part) → slice_get mail.parts frame.part ≡ outer → part < option_map_or (λ (p : Part). suc (frame.part + p.below)) outer 0
        → end_of_part mail part ≤ option_map_or (λ (p : Part). suc (frame.part + p.below)) outer 0
    around None e lt = absurd (omega (arith, lt))
    around (Some o) e lt = go (slice_get mail.parts part) refl
      where
        go : (found : Option Part) → slice_get mail.parts part ≡ found → option_map_or (λ (p : Part). suc (part + p.below)) found 0 ≤ suc (frame.part + o.below)
        go None f = omega arith
        go (Some p) f = let inner = (known.nests frame.part o e).inner part p (omega (arith, after)) (omega (arith, lt)) f in omega (arith, inner)

-- the first of some numbers, and the others
pub record IsFirst (first end part : ℕ) (rest : List ℕ) : Type 0 where
  pub is : part ≡ first
  pub before : first < end
  pub others : rest ≡ numbers_from (suc part) (end - suc part)

pub is_first : (first end part : ℕ) (rest : List ℕ) → numbers_from first (end - first) ≡ part ∷ rest → IsFirst first end part rest
is_first first end part rest e = go (end - first) refl e
  where
    go : (n : ℕ) → end - first ≡ n → numbers_from first n ≡ part ∷ rest → IsFirst first end part rest
    go zero is f = absurd cc
    go (suc n) is f =
        let same : part ≡ first = cc in
        let others : rest ≡ numbers_from (suc first) n = cc in
        let number : n ≡ end - suc part = omega (arith, is, same) in
        record { is = same; before = omega (arith, is); others = others ∙ ap (λ p. numbers_from (suc p) n) (sym same) ∙ ap (numbers_from (suc part)) number }

-- a loop that has come to a part, and has what comes after it
pub under_way : (mail : Mail) (each next : ℕ) (frames : List Frame) (first part : ℕ) (rest : List ℕ) → IsMail mail → first_inside frames ≤ first → numbers_from first (end_inside mail frames - first) ≡ part ∷ rest
    → IsUnderWay mail (record { each = each; next = next; part = part; rest = rest }) frames
under_way mail each next frames first part rest known after e =
    let is = is_first first (end_inside mail frames) part rest e in
    let same = is.is in
    let before = is.before in
    record { after = omega arith; before = ends-inside mail frames part known (omega arith) (omega arith); left = is.others }

-- what is below its part is among them
pub below-left : (mail : Mail) (frame : Frame) (frames : List Frame) → IsUnderWay mail frame frames → length (visited (Some frame.part) mail) ≤ length frame.rest
below-left mail frame frames is =
    let before = is.before in
    let below : length (visited (Some frame.part) mail) ≡ end_of_part mail frame.part - suc frame.part =
    ap length (visited-inside mail (frame ∷ frames)) ∙ numbers-length (suc frame.part) (end_of_part mail frame.part - suc frame.part) in
    let left : length frame.rest ≡ end_inside mail frames - suc frame.part = ap length is.left ∙ numbers-length (suc frame.part) (end_inside mail frames - suc frame.part) in
    omega (arith, below, left)

-- ---- where a place stands

pub inside : (code : Code) (mail : Mail) (frames : List Frame) (place : ℕ) → Nesting code → AreOpen mail frames (open_loops code place) → place < length code.instructions → place < end_of code mail frames
inside code mail [] place nesting opened within = within
inside code mail (frame ∷ frames) place nesting opened within = let w = nesting.within place opened.0 (loop_of frame) [] opened.1 in omega (arith, w.1)
