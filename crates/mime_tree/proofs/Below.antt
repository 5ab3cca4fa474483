-- A part, and the parts below it.
use Rattle.std.proofs.Common.{◌≡◌, ◌≢◌, ℕ, ◌+◌, ◌-◌, ◌<◌, ◌≤◌, Bool, false, ◌&&◌, List, [], ◌∷◌, ◌++◌, zero, suc, refl, sym, ◌∙◌, ap, arith, length, take, drop, get_or, set}
use Rattle.std.specs.List.{flat_map}
use Rattle.std.proofs.lemmas.List.{length-append, take-append-drop}
use Rattle.octets.specs.Limits.{max_depth}
use Rattle.mime_params.specs.declared.media.MediaType.{MediaType}
use Rattle.text_lines.specs.Lines.{TextLine}
use Rattle.mime_tree.specs.PartTree.{Part, Stretch, part_at, with_below, default_below, children_of, parts_of, default_media}
use Rattle.mime_tree.specs.Enclosing.{octets_before}
use Rattle.mime_tree.specs.OpenParts.{OpenPart, boundaries_with, boundaries_in, end_from, is_last, lines_at, parts_ahead, first_ended, ended_at, finished}
use Rattle.mime_tree.specs.Reading.{wanted_from}
use Rattle.mime_tree.specs.declared.reader.Beginning.{Beginning}

pub ended_set : (parts : List Part) (at end : ℕ) (old new : Part) → at < length parts → old ≡ get_or parts at old
    → new ≡ record old { below = length parts - at - 1; raw = take (end - old.place) old.raw } → set parts at new ≡ ended_at at end parts
ended_set [] at end old new lt is made = absurd (omega arith)
ended_set (part ∷ parts) zero end old new lt is made =
    let rest : length (part ∷ parts) - 0 - 1 ≡ length parts = omega arith in
    ap (λ (p : Part). p ∷ parts) (made ∙ ap (λ (p : Part). record p { below = length (part ∷ parts) - 0 - 1; raw = take (end - p.place) p.raw }) is
    ∙ ap (λ n. record part { below = n; raw = take (end - part.place) part.raw }) rest)
ended_set (part ∷ parts) (suc at) end old new lt is made =
    let rest : length (part ∷ parts) - suc at - 1 ≡ length parts - at - 1 = omega arith in
    ap (λ (ps : List Part). part ∷ ps) (ended_set parts at end old new (omega arith) is (made ∙ ap (λ n. record old { below = n; raw = take (end - old.place) old.raw }) rest))

length-first_ended : (end : ℕ) (parts : List Part) → length (first_ended end parts) ≡ length parts
length-first_ended end [] = refl
length-first_ended end (part ∷ parts) = refl

pub length-ended_at : (at end : ℕ) (parts : List Part) → length (ended_at at end parts) ≡ length parts
length-ended_at at end parts =
    length-append (take at parts) (first_ended end (drop at parts)) ∙ ap (λ n. length (take at parts) + n) (length-first_ended end (drop at parts))
    ∙ sym (length-append (take at parts) (drop at parts)) ∙ ap length (take-append-drop at parts)

-- ---- the parts of a stretch

pub parts_zero : (default : MediaType) (stretch : Stretch) → parts_of zero default stretch ≡ part_at max_depth default stretch ∷ []
unfolding parts_of
parts_zero default stretch = refl

pub parts_more : (levels : ℕ) (default : MediaType) (stretch : Stretch) → levels ≢ 0
    → let part = part_at (max_depth - levels) default stretch in
    parts_of levels default stretch ≡ with_below part (flat_map (parts_of (levels - 1) (default_below part.media)) (children_of part))
unfolding parts_of
parts_more zero default stretch some = absurd (some refl)
parts_more (suc levels) default stretch some = let less : suc levels - 1 ≡ levels = omega arith in rw less refl

pub some_part : (levels : ℕ) (default : MediaType) (stretch : Stretch) → 0 < length (parts_of levels default stretch)
unfolding parts_of
some_part zero default stretch = omega arith
some_part (suc levels) default stretch = omega arith

-- ---- how many they become

pub finished_longer : (preamble : Bool) (opened : List OpenPart) (around : List (List ℕ)) (place end : ℕ) (lines : List TextLine) (parts : List Part) → length parts ≤ length (finished preamble around place end lines opened parts)
finished_longer preamble [] around place end lines parts = omega arith
finished_longer preamble (part ∷ inner) around place end lines parts =
    let within = finished preamble (boundaries_with part.boundary around) place end lines inner parts in
    let ahead = parts_ahead (is_last inner && preamble) part around place lines in
    omega (
      arith,
      finished_longer preamble inner (boundaries_with part.boundary around) place end lines parts,
      length-append within ahead,
      length-ended_at part.at (end_from around place end lines) (within ++ ahead),
    )

-- where a part begins, another one comes
pub wanted_longer : (text : List ℕ) (beginning : Beginning) (opened : List OpenPart) (parts : List Part) → length parts < length (wanted_from text beginning opened parts)
wanted_longer text beginning opened parts =
    let lines = lines_at text beginning.place in
    let stretch : Stretch = record { place = beginning.place; octets = octets_before (boundaries_in [] opened) lines } in
    let default = default_media beginning.default in
    let begun = parts_of beginning.levels default stretch in
    omega (arith, finished_longer false opened [] beginning.place beginning.end lines (parts ++ begun), length-append parts begun, some_part beginning.levels default stretch)
