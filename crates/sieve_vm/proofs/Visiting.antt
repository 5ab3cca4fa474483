-- The open loops of the code, and what is known of the parts that they visit.
use Rattle.std.proofs.Common.{◌≡◌, ℕ, ◌+◌, ◌-◌, ◌<◌, ◌≤◌, ◌==◌, if◌then◌else◌, slice_index_or, inl, inr, List, [], ◌∷◌, ◌++◌, Option, Some, None, length, map, reverse, take, drop, get_or, slice_get, refl, sym, ap, ◌∙◌, arith}
use Rattle.std.proofs.lemmas.Bool.{cases_eq, eq-eqb, ne_eqb}
use Rattle.std.proofs.lemmas.List.{take-append-drop, take_more, drop_at, map-append, reverse-append, length-reverse, length-drop, length-map}
use Rattle.std.specs.Option.{option_and_then}
use Rattle.mime_decode.specs.Mail.{Part}
use Rattle.sieve_vm.specs.declared.frame.Frame as code
use Rattle.sieve_vm.specs.State.{Frame, current_part}
use Rattle.sieve_vm.specs.Looks.{Visits}
use Rattle.sieve_vm.specs.Visits.{frame_of, frames_of, Learns, part_in}

-- ---- loops that are closed

pub record Closes (items : List code.Frame) (number : ℕ) (frame : Frame) (frames : List Frame) : Type 0 where
  pub last : (d : code.Frame) → frame_of (get_or items (length items - number) d) ≡ frame
  pub left : frames_of (take (length items - number) items) ≡ frames

pub closes : (items : List code.Frame) (number : ℕ) (frame : Frame) (frames : List Frame) → 0 < number → number ≤ length items → drop (number - 1) (frames_of items) ≡ frame ∷ frames → Closes items number frame frames
closes items number frame frames some there e =
    record { last = λ d. (split d).0; left = (split blank).1 }
  where
    blank : code.Frame
    blank = record { each = 0; next = 0; part = 0; last = 0; content = None }

    k : ℕ
    k = length items - number

    split : (d : code.Frame) → (frame_of (get_or items k d) ≡ frame) × (frames_of (take k items) ≡ frames)
    split d =
        let x : code.Frame = get_or items k d in
        let front : take (k + 1) items ≡ take k items ++ x ∷ [] = take_more items k d (omega arith) in
        let back : List code.Frame = drop (k + 1) items in
        let whole : frames_of items ≡ map frame_of (reverse back) ++ (frame_of x ∷ frames_of (take k items)) =
        ap frames_of (sym (take-append-drop (k + 1) items)) ∙ ap (map frame_of) (reverse-append (take (k + 1) items) back) ∙ map-append frame_of (reverse back) (reverse (take (k + 1) items))
        ∙ ap (λ ys. map frame_of (reverse back) ++ map frame_of (reverse ys)) front ∙ ap (λ ys. map frame_of (reverse back) ++ map frame_of ys) (reverse-append (take k items) (x ∷ [])) in
        let number_is : length (map frame_of (reverse back)) ≡ number - 1 = omega (arith, length-map (reverse back) frame_of, length-reverse back, length-drop (k + 1) items) in
        let both : frame_of x ∷ frames_of (take k items) ≡ frame ∷ frames = sym (ap (drop (number - 1)) whole ∙ drop_at (map frame_of (reverse back)) (frame_of x ∷ frames_of (take k items)) (number - 1) number_is) ∙ e in
        (cc, cc)

-- ---- the current part

pub current_at : (visits : Visits) (place : ℕ) (part : Part) → current_part visits.frames ≡ Some place → part_in visits ≡ Some part → slice_get visits.mail.parts place ≡ Some part
current_at visits place part e at = sym (ap (option_and_then (slice_get visits.mail.parts)) e) ∙ at

-- ---- what is known of the current part

-- what was known of it before is learnt again
pub learnt : (list : List (Option (List ℕ))) (visits : Visits) (place : ℕ) (found : List ℕ) → current_part visits.frames ≡ Some place → slice_index_or list place None ≡ Some found → Learns found list list visits
learnt list visits place found current known = λ part other e.
    let same : place ≡ part = (let both : Some place ≡ Some part = sym current ∙ e in cc) in
    elim (cases_eq other part) [
      | inl is ↦ rw (is, eq-eqb part part refl) (ap (λ p. slice_index_or list p None) (sym same) ∙ known)
      | inr differ ↦ rw (ne_eqb other part differ) refl
    ]

-- it is kept, and nothing else
pub learns : (found wanted : List ℕ) (old before new : List (Option (List ℕ))) (visits : Visits) (place : ℕ) → current_part visits.frames ≡ Some place
    → ((other : ℕ) → slice_index_or new other None ≡ (if other == place then Some found else slice_index_or before other None)) → before ≡ old → found ≡ wanted → Learns wanted old new visits
learns found wanted old before new visits place current kept same is = λ part other e.
    let at : part ≡ place = (let both : Some part ≡ Some place = sym e ∙ current in cc) in
    rw (at, ← same, ← is) (kept other)
