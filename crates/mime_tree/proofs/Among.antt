-- The places of open parts.
use Rattle.std.proofs.Common.{◌≡◌, ℕ, zero, suc, ◌+◌, ◌<◌, ◌≤◌, Bool, List, [], ◌∷◌, ◌++◌, sym, ◌∙◌, ap, subst, arith, length, take, get_or, set}
use Rattle.std.proofs.lemmas.List.{length-append, length-take-le}
use Rattle.mime_tree.specs.OpenParts.{OpenPart}
use Rattle.mime_tree.specs.Reading.{AreAmong, IsMet}
use Rattle.mime_tree.specs.declared.hit.Met.{Met}

pub among_at : (count : ℕ) (opened : List OpenPart) (place : ℕ) (part : OpenPart) → AreAmong count opened → place < length opened → part ≡ get_or opened place part → part.at < count
among_at count [] place part among lt is = absurd (omega arith)
among_at count (first ∷ inner) zero part among lt is = omega (arith, among.0, ap (λ (o : OpenPart). o.at) is)
among_at count (first ∷ inner) (suc place) part among lt is = among_at count inner place part among.1 (omega arith) is

pub among_kept : (count : ℕ) (opened : List OpenPart) (keep : ℕ) → AreAmong count opened → AreAmong count (take keep opened)
among_kept count opened zero among = tt
among_kept count [] (suc keep) among = tt
among_kept count (part ∷ inner) (suc keep) among = (among.0, among_kept count inner keep among.1)

pub among_set : (count : ℕ) (opened : List OpenPart) (place : ℕ) (part : OpenPart) → AreAmong count opened → part.at < count → AreAmong count (set opened place part)
among_set count [] place part among lt = tt
among_set count (first ∷ inner) zero part among lt = (lt, among.1)
among_set count (first ∷ inner) (suc place) part among lt = (among.0, among_set count inner place part among.1 lt)

pub among_more : (count : ℕ) (opened : List OpenPart) (part : OpenPart) → AreAmong count opened → part.at ≡ count → AreAmong (count + 1) (opened ++ part ∷ [])
among_more count [] part among is = (omega (arith, is), tt)
among_more count (first ∷ inner) part among is = (omega (arith, among.0), among_more count inner part among.1 is)

-- where a part is met, those around it are kept, and it is changed
pub among_met : (count : ℕ) (preamble : Bool) (opened kept : List OpenPart) (line : List ℕ) (met : Met) (old new : OpenPart) → AreAmong count opened → IsMet preamble opened line met
    → kept ≡ take (met.place + 1) opened → old ≡ get_or kept met.place old → new.at ≡ old.at → AreAmong count (set kept met.place new)
among_met count preamble opened kept line met old new among m is here same =
    let all : AreAmong count kept = subst (AreAmong count) (sym is) (among_kept count opened (met.place + 1) among) in
    let within : met.place + 1 ≤ length opened = omega (arith, ap length m.all, length-append m.outer (m.this ∷ m.inner), m.place) in
    let long : length kept ≡ met.place + 1 = ap length is ∙ length-take-le (met.place + 1) opened within in
    among_set count kept met.place new all (omega (arith, same, among_at count kept met.place old all (omega arith) here))
