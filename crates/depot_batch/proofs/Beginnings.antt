-- How an input begins.
use Rattle.std.proofs.Common.{◌≡◌, ◌≢◌, ◌∙◌, ◌<◌, ap, append_assoc, arith, refl, subst, sym, drop, length, take, ℕ, List, [], ◌∷◌, ◌++◌, Option, Some, None, IfSome, Result, codes, nat_eq, true}
use Rattle.std.specs.Io.{StartsWith}
use Rattle.std.specs.Io.KnownBytes.{Consumes}
use Rattle.std.specs.List.{All, concat, starts_with}
use Rattle.std.proofs.KnownBytes.{starts_with_rest}
use Rattle.std.proofs.Math.ListN.{get_or}
use Rattle.std.proofs.lemmas.Bool.Decides.{Decides-eqb}
use Rattle.std.proofs.lemmas.List.Elements.{All-cons, All-head, All-nil, All-tail}
use Rattle.std.proofs.lemmas.Slice.Eq.{starts_is}
use Rattle.sqlite_trees.specs.declared.store.Store.{Ghosts}
use Rattle.sqlite.specs.Held.{Held}
use Rattle.devices.specs.Supply.{HasGiven, Supply}
use Rattle.refusals.specs.declared.refusal.Refusal.{Refusal}
use Rattle.depot_batch.specs.Effects.{DepotAndOutput}
use Rattle.depot_batch.specs.Lines.{HasShown, HasTakenAll, IsDeliveryLine, IsLine}
use Rattle.depot_batch.specs.Private.{Begins, BeginsOtherwise, HasBegun, HasFirst, HasTakenNext, HasTurned}
use Rattle.depot_batch.specs.Turns.{json_line}
use Rattle.depot_batch.specs.declared.first.First.{First}
use Rattle.depot_batch.specs.declared.format.Format.{Format}
use Rattle.depot_batch.specs.declared.format.Format.TheVariants.{Json, Plain}
use Rattle.depot_batch.specs.declared.reading.Taken.{Taken}
use Rattle.depot_batch.specs.declared.reading.Taken.TheVariants.{Line, Unfinished, Nothing}

-- no line break
abbrev IsInner : ℕ → Type 0
IsInner octet = octet ≢ 10

-- ---- two lines with which octets begin are the same

same_texts : (s t x y : List ℕ) → All IsInner s → All IsInner t → s ++ 10 ∷ x ≡ t ++ 10 ∷ y → s ≡ t
same_texts [] [] x y p q is = refl
same_texts [] (c ∷ t) x y p q is = absurd (All-head IsInner c t q (sym (ap (λ l. get_or l 0 0) is)))
same_texts (c ∷ s) [] x y p q is = absurd (All-head IsInner c s p (ap (λ l. get_or l 0 0) is))
same_texts (c ∷ s) (d ∷ t) x y p q is =
    let one : c ≡ d = ap (λ l. get_or l 0 0) is in
    let more : s ≡ t = same_texts s t x y (All-tail IsInner c s p) (All-tail IsInner d t q) (ap (drop 1) is) in
    ap (λ o. o ∷ s) one ∙ ap (λ l. d ∷ l) more

json_inner : All IsInner (codes "json")
json_inner =
    All-cons IsInner 106 (115 ∷ 111 ∷ 110 ∷ []) (λ e. omega (arith, e))
    (All-cons IsInner 115 (111 ∷ 110 ∷ []) (λ e. omega (arith, e))
    (All-cons IsInner 111 (110 ∷ []) (λ e. omega (arith, e)) (All-cons IsInner 110 [] (λ e. omega (arith, e)) (All-nil IsInner))))

-- a line with which octets begin is the one that asks for JSON, if they begin with that
is_json : (all line rest : List ℕ) → IsLine line → all ≡ line ++ rest → StartsWith all json_line → line ≡ json_line
is_json all line rest is are starts =
    let both : is.text ++ 10 ∷ rest ≡ codes "json" ++ 10 ∷ drop 5 all =
    sym (append_assoc is.text (10 ∷ []) rest) ∙ ap (λ l. l ++ rest) (sym is.ends) ∙ sym are ∙ starts_with_rest all json_line starts in
    is.ends ∙ ap (λ t. t ++ 10 ∷ []) (same_texts is.text (codes "json") rest (drop 5 all) is.plain json_inner both)

-- ---- what was taken first

line_otherwise : (left left2 : Option (List ℕ)) (line : List ℕ) → Consumes left left2 line → IsLine line → line ≢ json_line → IfSome left (λ all. StartsWith all json_line → ⊥)
line_otherwise None left2 line taken is other = tt
line_otherwise (Some all) None line taken is other = absurd taken
line_otherwise (Some all) (Some rest) line taken is other = λ starts. other (is_json all line rest is taken starts)

-- octets that begin with that line have a line break
has_break : (octets : List ℕ) → All IsInner octets → StartsWith octets json_line → ⊥
has_break octets plain starts =
    let more = drop 5 octets in
    let are : octets ≡ 106 ∷ 115 ∷ 111 ∷ 110 ∷ 10 ∷ more = starts_with_rest octets json_line starts in
    let all = subst (All IsInner) are plain in
    let later = All-tail IsInner 115 (111 ∷ 110 ∷ 10 ∷ more) (All-tail IsInner 106 (115 ∷ 111 ∷ 110 ∷ 10 ∷ more) all) in
    All-head IsInner 10 more (All-tail IsInner 110 (10 ∷ more) (All-tail IsInner 111 (110 ∷ 10 ∷ more) later)) refl

rest_otherwise : (left : Option (List ℕ)) (octets : List ℕ) → IfSome left (λ all. all ≡ octets) → All IsInner octets → IfSome left (λ all. StartsWith all json_line → ⊥)
rest_otherwise None octets all plain = tt
rest_otherwise (Some xs) octets all plain = λ starts. has_break octets plain (subst (λ o. StartsWith o json_line) all starts)

pub taken_otherwise : (taken : Taken) (octets : List ℕ) (old new : Supply) → HasTakenNext taken octets old new → octets ≢ json_line → BeginsOtherwise old
taken_otherwise Line octets old new taken other = line_otherwise old.left new.left octets taken.1.left taken.0 other
taken_otherwise Unfinished octets old new taken other = rest_otherwise old.left octets taken.1.all taken.0.plain
taken_otherwise Nothing octets old new taken other = rest_otherwise old.left [] taken.1.all (All-nil IsInner)

-- the line that asks for JSON is a line
pub json_given : (taken : Taken) (octets : List ℕ) (old new : Supply) → HasTakenNext taken octets old new → octets ≡ json_line → HasGiven json_line old new
json_given Line octets old new taken is = subst (λ o. HasGiven o old new) is taken.1
json_given Unfinished octets old new taken is = absurd (has_break octets taken.0.plain (ap (take 5) is))
json_given Nothing octets old new taken is = absurd (omega (arith, ap length taken.0, ap length is))

-- nothing was taken at the end
pub first_end : (line : List ℕ) (old new : Supply) → line ≡ [] → HasTakenAll [] old new → HasTakenNext Nothing line old new × (line ≢ json_line)
first_end line old new none end = ((none, end), λ is. omega (arith, ap length none, ap length is))

-- ---- lines that are ready

-- a line at the front of octets begins as they do, where that has no line break
line_begins : (front text rest more : List ℕ) → All IsInner front → text ++ 10 ∷ rest ≡ front ++ more → StartsWith (text ++ 10 ∷ []) front
line_begins [] text rest more inner is = refl
line_begins (c ∷ front) [] rest more inner is = absurd (All-head IsInner c front inner (sym (ap (λ l. get_or l 0 0) is)))
line_begins (c ∷ front) (d ∷ text) rest more inner is =
    let one : d ≡ c = ap (λ l. get_or l 0 0) is in
    let later : StartsWith (text ++ 10 ∷ []) front = line_begins front text rest more (All-tail IsInner c front inner) (ap (drop 1) is) in
    ap (λ o. o ∷ take (length front) (text ++ 10 ∷ [])) one ∙ ap (λ l. c ∷ l) later

delivery_inner : All IsInner (codes "deliver ")
delivery_inner =
    All-cons IsInner 100 (101 ∷ 108 ∷ 105 ∷ 118 ∷ 101 ∷ 114 ∷ 32 ∷ []) (λ e. omega (arith, e))
    (All-cons IsInner 101 (108 ∷ 105 ∷ 118 ∷ 101 ∷ 114 ∷ 32 ∷ []) (λ e. omega (arith, e))
    (All-cons IsInner 108 (105 ∷ 118 ∷ 101 ∷ 114 ∷ 32 ∷ []) (λ e. omega (arith, e))
    (All-cons IsInner 105 (118 ∷ 101 ∷ 114 ∷ 32 ∷ []) (λ e. omega (arith, e))
    (All-cons IsInner 118 (101 ∷ 114 ∷ 32 ∷ []) (λ e. omega (arith, e))
    (All-cons IsInner 101 (114 ∷ 32 ∷ []) (λ e. omega (arith, e))
    (All-cons IsInner 114 (32 ∷ []) (λ e. omega (arith, e)) (All-cons IsInner 32 [] (λ e. omega (arith, e)) (All-nil IsInner))))))))

-- a line of octets that begin as a delivery does
pub delivery_line : (octets line rest : List ℕ) → IsLine line → octets ≡ line ++ rest → starts_with nat_eq octets (codes "deliver ") ≡ true → IsDeliveryLine line
delivery_line octets line rest is are starts =
    let begun : octets ≡ codes "deliver " ++ drop 8 octets = (starts_is Decides-eqb octets (codes "deliver ") _ refl).0 starts in
    let both : is.text ++ 10 ∷ rest ≡ codes "deliver " ++ drop 8 octets =
    sym (append_assoc is.text (10 ∷ []) rest) ∙ ap (λ l. l ++ rest) (sym is.ends) ∙ sym are ∙ begun in
    record { whole = is; begins = subst (λ l. StartsWith l (codes "deliver ")) (sym is.ends) (line_begins (codes "deliver ") is.text rest (drop 8 octets) delivery_inner both) }

-- it isn't the line that asks for JSON
not_json : (line : List ℕ) → IsDeliveryLine line → line ≢ json_line
not_json line is same =
    let begins : StartsWith json_line (codes "deliver ") = subst (λ l. StartsWith l (codes "deliver ")) same is.begins in
    let differ : 106 ≡ 100 = ap (λ l. get_or l 0 0) begins in
    omega (arith, differ)

shown_otherwise : (left : Option (List ℕ)) (lines : List (List ℕ)) → IfSome left (λ all. StartsWith all (concat lines)) → 0 < length lines → All IsDeliveryLine lines
    → IfSome left (λ all. StartsWith all json_line → ⊥)
shown_otherwise None lines shown some are = tt
shown_otherwise (Some all) [] shown some are = absurd (omega (arith, some))
shown_otherwise (Some all) (line ∷ lines) shown some are = λ starts.
    let first = All-head IsDeliveryLine line lines are in
    let is : all ≡ line ++ (concat lines ++ drop (length (line ++ concat lines)) all) =
    starts_with_rest all (line ++ concat lines) shown ∙ append_assoc line (concat lines) (drop (length (line ++ concat lines)) all) in
    not_json line first (is_json all line _ first.whole is starts)

pub ready_otherwise : (lines : List (List ℕ)) (old new : Supply) → HasShown (concat lines) old new → 0 < length lines → All IsDeliveryLine lines → BeginsOtherwise old
ready_otherwise lines old new shown some are = shown_otherwise old.left lines shown.next some are

starts_nothing : (left : Option (List ℕ)) → IfSome left (λ all. StartsWith all [])
starts_nothing None = tt
starts_nothing (Some all) = refl

-- nothing of it was taken
pub shown_nothing : (octets : List ℕ) (old new : Supply) → HasShown octets old new → HasShown [] old new
shown_nothing octets old new shown = record { left = shown.left; next = starts_nothing old.left; given = shown.given; faults = shown.faults }

-- ---- the first turn

-- what came first, known by its name
pub first_as : {a b : First} (s0 s1 : Supply) → a ≡ b → HasFirst a s0 s1 → HasFirst b s0 s1
first_as s0 s1 is has = subst (λ (f : First). HasFirst f s0 s1) is has

-- what was taken, by equal octets
pub next_as : {a b : List ℕ} (taken : Taken) (s0 s1 : Supply) → a ≡ b → HasTakenNext taken a s0 s1 → HasTakenNext taken b s0 s1
next_as taken s0 s1 same has = subst (λ (octets : List ℕ). HasTakenNext taken octets s0 s1) same has

module _ {S : Type 0} (g : Ghosts S) {name : List ℕ} {format : Format} {came : Result (Option ℕ) Refusal} {alone later : ℕ} {input rest : Supply} {old new : DepotAndOutput (Held S)}
    (none : alone ≡ 0) where
  pub begun_json : {begun : Supply} → format ≡ Json → HasGiven json_line input begun → HasTurned g name format came alone later begun rest old new → HasBegun g name format came later input rest old new
  begun_json {begun} is given turned = record {
    begun = begun;
    begins = subst (λ (f : Format). Begins f input begun) (sym is) given;
    turned = subst (λ (n : ℕ). HasTurned g name format came n later begun rest old new) none turned;
  }

  pub begun_plain : format ≡ Plain → BeginsOtherwise input → HasTurned g name format came alone later input rest old new → HasBegun g name format came later input rest old new
  begun_plain is other turned = record {
    begun = input;
    begins = subst (λ (f : Format). Begins f input input) (sym is) (refl, other);
    turned = subst (λ (n : ℕ). HasTurned g name format came n later input rest old new) none turned;
  }
