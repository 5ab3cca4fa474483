-- Actions that file the same content.
use Rattle.std.proofs.Common.{◌≡◌, inl, inr, ℕ, zero, suc, ◌+◌, ◌<◌, ◌≤◌, List, [], ◌∷◌, ◌++◌, All, IfSome, get_or, Option, Some, None, length, length-append, map, replicate, refl, sym, ap, subst, ◌∙◌, arith}
use Rattle.std.specs.Prelude.{slice_index_or, slice_get}
use Rattle.std.proofs.Math.ListN.{get_or-append}
use Rattle.std.proofs.Math.Seq.{get_or-append_seam}
use Rattle.std.proofs.lemmas.Bool.{cases_eq}
use Rattle.std.proofs.lemmas.List.{get_or-map, length-map, length-replicate}
use Rattle.std.proofs.lemmas.List.Elements.{All-get_or}
use Rattle.bytecode_format.specs.declared.action.Action.{Action}
use Rattle.bytecode_format.specs.declared.action.Action.TheVariants.{Keep, File, Store}
use Rattle.mime_decode.specs.Mail.{Mail, Part}
use Rattle.part_store.specs.Sharing.{SharesContents, octets_at}
use Rattle.sieve_vm.specs.Stores.{NamesPart}
use Rattle.depot_actions.specs.Drafts.{draft_of_action, drafts_of, stored_draft}
use Rattle.depot_actions.specs.Sources.{AreEarliest, AreFirsts, HaveFirsts, NameEarliest, source_of}

-- the octets that come from a source: a part's content, and past the parts the message's
octets_or : Option Part → List ℕ → List ℕ
octets_or None octets = octets
octets_or (Some part) octets = part.content

past : {X : Type 0} (xs : List X) → slice_get xs (length xs) ≡ None
past [] = refl
past (x ∷ xs) = past xs

within : {X : Type 0} (xs : List X) (place : ℕ) → place < length xs → slice_get xs place ≡ None → ⊥
within [] place lt h = absurd (omega (arith, lt))
within (x ∷ xs) zero lt h = cc
within (x ∷ xs) (suc place) lt h = within xs place (omega (arith, lt)) h

stored_octets : (folder octets : List ℕ) (part : Option Part) → (part ≡ None → ⊥) → (stored_draft folder part).octets ≡ octets_or part octets
unfolding octets_or
stored_octets folder octets None there = absurd (there refl)
stored_octets folder octets (Some part) there = refl

of_source : (mail : Mail) (action : Action) → NamesPart mail action
    → (draft_of_action mail action).octets ≡ octets_or (slice_get mail.parts (source_of (length mail.parts) action)) mail.octets
unfolding octets_or
of_source mail Keep names = ap (λ p. octets_or p mail.octets) (sym (past mail.parts))
of_source mail (File folder) names = ap (λ p. octets_or p mail.octets) (sym (past mail.parts))
of_source mail (Store folder part) names = stored_octets folder mail.octets (slice_get mail.parts part) (within mail.parts part names)

at_source : (mail : Mail) (actions : List Action) (place : ℕ) → place < length actions → ((i : ℕ) → i < length actions → NamesPart mail (get_or actions i Keep))
    → octets_at (drafts_of mail actions) place ≡ octets_or (slice_get mail.parts (slice_index_or (map (source_of (length mail.parts)) actions) place 0)) mail.octets
at_source mail [] place lt names = absurd (omega (arith, lt))
at_source mail (action ∷ actions) zero lt names = of_source mail action (names zero (omega arith))
at_source mail (action ∷ actions) (suc place) lt names = at_source mail actions place (omega (arith, lt)) (λ i within. names (suc i) (omega (arith, within)))

pub shares : (mail : Mail) (actions : List Action) (firsts : List ℕ) → All (NamesPart mail) actions
    → HaveFirsts (map (source_of (length mail.parts)) actions) firsts → SharesContents (drafts_of mail actions) firsts
shares mail actions firsts all have = λ place known there earlier.
    let names = λ (i : ℕ) (within : i < length actions). All-get_or (NamesPart mail) actions i Keep within all in
    let lt : place < length actions = omega (arith, there, length-map actions (draft_of_action mail)) in
    at_source mail actions (slice_index_or firsts place 0) (omega (arith, lt, earlier)) names
    ∙ ap (λ s. octets_or (slice_get mail.parts s) mail.octets) (have place known)
    ∙ sym (at_source mail actions place lt names)

-- ---- so far

-- what is known of the actions before a place
pub record AreShared (mail : Mail) (actions : List Action) (place : ℕ) (firsts : List (Option ℕ)) (named : List ℕ) : Type 0 where
  pub long : length firsts ≡ length mail.parts + 1
  pub count : length named ≡ place
  pub known : AreFirsts (map (source_of (length mail.parts)) actions) place firsts
  pub have : HaveFirsts (map (source_of (length mail.parts)) actions) named
  pub earliest : AreEarliest (map (source_of (length mail.parts)) actions) place firsts
  pub names : NameEarliest (map (source_of (length mail.parts)) actions) named

abbrev nothing : Option ℕ
nothing = None

nothing_at : (n place : ℕ) → slice_index_or (replicate n nothing) place None ≡ None
nothing_at zero place = refl
nothing_at (suc n) zero = refl
nothing_at (suc n) (suc place) = nothing_at n place

pub none_shared_yet : (mail : Mail) (actions : List Action) → AreShared mail actions 0 (replicate (length mail.parts + 1) None) []
none_shared_yet mail actions = record {
  long = length-replicate (length mail.parts + 1) None;
  count = refl;
  known = λ source. rw (nothing_at (length mail.parts + 1) source) tt;
  have = λ place lt. absurd (omega (arith, lt));
  earliest = λ earlier lt. absurd (omega (arith, lt));
  names = λ earlier place lt within. absurd (omega (arith, within));
}

have_more : (sources named : List ℕ) (first place : ℕ) → length named ≡ place → slice_index_or sources first 0 ≡ slice_index_or sources place 0 → HaveFirsts sources named
    → HaveFirsts sources (named ++ first ∷ [])
have_more sources named first place count same have = λ at lt. elim (cases_eq at (length named)) [
  | inl is ↦ ap (λ n. slice_index_or sources n 0) (ap (λ i. slice_index_or (named ++ first ∷ []) i 0) is ∙ get_or-append_seam named first [] 0) ∙ same ∙ ap (λ n. slice_index_or sources n 0) (sym (is ∙ count))
  | inr other ↦
      let before : at < length named = omega (arith, lt, other, length-append named (first ∷ [])) in
      ap (λ n. slice_index_or sources n 0) (get_or-append named (first ∷ []) 0 at before) ∙ have at before
]

-- a source that came before has its first place there or earlier
known_before : (sources : List ℕ) (firsts : List (Option ℕ)) (place source first earlier : ℕ) → AreEarliest sources place firsts → IfSome (slice_index_or firsts source None) (λ known. first ≡ known)
    → earlier < place → slice_index_or sources earlier 0 ≡ source → first ≤ earlier
known_before sources firsts place source first earlier so_far known lt is =
    let before = so_far earlier lt in
    let there : slice_index_or firsts source None ≡ Some before.0 = ap (λ s. slice_index_or firsts s None) (sym is) ∙ before.1 in
    let same : first ≡ before.0 = subst (λ found. IfSome found (λ known. first ≡ known)) there known in
    omega (arith, same, before.2)

not_after : (sources : List ℕ) (place source first : ℕ) (found : Option ℕ) → IfSome found (λ known. (known < place) × (slice_index_or sources known 0 ≡ source)) → IfSome found (λ known. first ≡ known)
    → (found ≡ None → first ≡ place) → first ≤ place
not_after sources place source first None are known fresh = omega (arith, fresh refl)
not_after sources place source first (Some one) are known fresh = omega (arith, are.0, known)

-- what a call finds and notes
pub record Notes (firsts new : List (Option ℕ)) (place source first : ℕ) : Type 0 where
  pub known : IfSome (slice_index_or firsts source None) (λ one. first ≡ one)
  pub fresh : slice_index_or firsts source None ≡ None → first ≡ place
  pub noted : slice_index_or new source None ≡ Some first
  pub others : (other : ℕ) → (other ≡ source → ⊥) → slice_index_or new other None ≡ slice_index_or firsts other None

earliest_more : (sources : List ℕ) (firsts new : List (Option ℕ)) (place source first : ℕ) → slice_index_or sources place 0 ≡ source → AreFirsts sources place firsts → AreEarliest sources place firsts
    → Notes firsts new place source first → AreEarliest sources (place + 1) new
earliest_more sources firsts new place source first here are so_far notes = λ earlier lt. elim (cases_eq earlier place) [
  | inl is ↦ (
    first,
    ap (λ i. slice_index_or new (slice_index_or sources i 0) None) is ∙ ap (λ s. slice_index_or new s None) here ∙ notes.noted,
    omega (arith, is, not_after sources place source first (slice_index_or firsts source None) (are source) notes.known notes.fresh),
  )
  | inr other ↦
      let before : earlier < place = omega (arith, lt, other) in
      elim (cases_eq (slice_index_or sources earlier 0) source) [
        | inl same ↦ (first, ap (λ s. slice_index_or new s None) same ∙ notes.noted, known_before sources firsts place source first earlier so_far notes.known before same)
        | inr apart ↦ let had = so_far earlier before in (had.0, notes.others (slice_index_or sources earlier 0) apart ∙ had.1, had.2)
      ]
]

names_more : (sources named : List ℕ) (firsts : List (Option ℕ)) (place source first : ℕ) → length named ≡ place → slice_index_or sources place 0 ≡ source → AreEarliest sources place firsts
    → IfSome (slice_index_or firsts source None) (λ one. first ≡ one) → NameEarliest sources named → NameEarliest sources (named ++ first ∷ [])
names_more sources named firsts place source first count here so_far known names = λ earlier at lt within same. elim (cases_eq at (length named)) [
  | inl is ↦
      let last : slice_index_or (named ++ first ∷ []) at 0 ≡ first = ap (λ i. slice_index_or (named ++ first ∷ []) i 0) is ∙ get_or-append_seam named first [] 0 in
      let before = known_before sources firsts place source first earlier so_far known (omega (arith, lt, is, count)) (same ∙ ap (λ i. slice_index_or sources i 0) (is ∙ count) ∙ here) in
      omega (arith, last, before)
  | inr other ↦
      let before : at < length named = omega (arith, within, other, length-append named (first ∷ [])) in
      let one : slice_index_or (named ++ first ∷ []) at 0 ≡ slice_index_or named at 0 = get_or-append named (first ∷ []) 0 at before in
      omega (arith, one, names earlier at lt before same)
]

-- the source of the action at a place
source_at : (parts : ℕ) (actions : List Action) (place : ℕ) (d : Action) → place < length actions → slice_index_or (map (source_of parts) actions) place 0 ≡ source_of parts (get_or actions place d)
source_at parts actions place d lt = get_or-map (source_of parts) actions place d 0 lt

pub one_shared : (mail : Mail) (actions : List Action) (place : ℕ) (d : Action) (firsts new : List (Option ℕ)) (named : List ℕ) (source first : ℕ) → place < length actions
    → source ≡ source_of (length mail.parts) (get_or actions place d) → AreShared mail actions place firsts named → length new ≡ length firsts
    → ((sources : List ℕ) → AreFirsts sources place firsts → slice_index_or sources place 0 ≡ source → slice_index_or sources first 0 ≡ source)
    → ((sources : List ℕ) → AreFirsts sources place firsts → slice_index_or sources place 0 ≡ source → AreFirsts sources (place + 1) new)
    → Notes firsts new place source first → AreShared mail actions (place + 1) new (named ++ first ∷ [])
one_shared mail actions place d firsts new named source first lt is so_far long same known notes =
    let sources = map (source_of (length mail.parts)) actions in
    let here = source_at (length mail.parts) actions place d lt ∙ sym is in
    record {
      long = long ∙ so_far.long;
      count = length-append named (first ∷ []) ∙ ap (λ n. n + 1) so_far.count;
      known = known sources so_far.known here;
      have = have_more sources named first place so_far.count (same sources so_far.known here ∙ sym here) so_far.have;
      earliest = earliest_more sources firsts new place source first here so_far.known so_far.earliest notes;
      names = names_more sources named firsts place source first so_far.count here so_far.earliest notes.known so_far.names;
    }

-- an action's source is a part, or the message after all parts
pub source_within : (mail : Mail) (action : Action) → NamesPart mail action → source_of (length mail.parts) action < length mail.parts + 1
source_within mail Keep names = omega arith
source_within mail (File folder) names = omega arith
source_within mail (Store folder part) names = omega (arith, names)
