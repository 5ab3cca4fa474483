-- The notes that are found have those first that are told, and say whether there are more.
use Rattle.std.proofs.Common.{◌≡◌, ◌∙◌, ◌<◌, ◌+◌, ℕ, Bool, ◌≤◌, List, [], ◌∷◌, ◌++◌, drop, get_or, length, nat_lt, take, ap, sym, arith, inl, inr}
use Rattle.std.proofs.lemmas.Bool.{cases_lt, lt-ltb}
use Rattle.std.proofs.lemmas.List.{append-nil, append_assoc, drop_more, length-take, take-take, take_all}
use Rattle.std.proofs.Math.Seq.{take-append_seam}
use Rattle.std.specs.Prelude.{Err, IfOk, None, Ok, Option, Result, Some, map}
use Rattle.sieve_explain.specs.Explaining.{listed_told, note_if, note_told}
use Rattle.sieve_explain.specs.Notes.{Known, inside_behind, max_notes, more_notes_blanks, note_at, notes_from, onto}
use Rattle.sieve_explain.specs.Private.{max_noted}
use Rattle.sieve_explain.specs.declared.notes.Noted.{Noted}
use Rattle.sieve_lexer.specs.declared.token.Token.{Token}

pub first_notes : {A : Type 0} (found all : List A) → found ≡ take max_noted all → take max_notes found ≡ take max_notes all
first_notes found all is = ap (take max_notes) is ∙ take-take max_notes max_noted all (omega arith)

pub more_notes : {A : Type 0} (found all : List A) → found ≡ take max_noted all → nat_lt max_notes (length found) ≡ nat_lt max_notes (length all)
more_notes {A} found all is =
    ap (λ (l : List A). nat_lt max_notes (length l)) is ∙
    elim (cases_lt max_notes (length all)) [
      | inl many ↦
          let some : max_notes < length (take max_noted all) = omega (arith, many, length-take max_noted all) in
          lt-ltb max_notes (length (take max_noted all)) some ∙ sym (lt-ltb max_notes (length all) many)
      | inr few ↦ ap (λ (l : List A). nat_lt max_notes (length l)) (take_all max_noted all (omega (arith, few)))
    ]

-- one more note, or none
pub onto_next : (found : List Noted) (o : Option Noted) (left : List Noted) → (found ++ onto o []) ++ left ≡ found ++ onto o left
onto_next found None left = ap (λ (l : List Noted). l ++ left) (append-nil found)
onto_next found (Some noted) left = append_assoc found (noted ∷ []) left

-- those so far, and those of the command or test at this place
pub notes_more : (script : List ℕ) (known : Known) (tokens rest : List Token) (found new : List Noted) (place inside behind : ℕ) (d : Token) (o : Option Noted)
    → place < length tokens → rest ≡ drop (place + 1) tokens → o ≡ note_at script known inside (get_or tokens place d) rest
    → behind ≡ inside_behind script (get_or tokens place d) inside → new ≡ found ++ onto o []
    → found ++ notes_from script known inside (drop place tokens) ≡ notes_from script known 0 tokens
    → new ++ notes_from script known behind (drop (place + 1) tokens) ≡ notes_from script known 0 tokens
notes_more script known tokens rest found new place inside behind d o within is_rest is_note is_behind is_new whole =
    let left = notes_from script known behind (drop (place + 1) tokens) in
    let noted : o ≡ note_at script known inside (get_or tokens place d) (drop (place + 1) tokens) =
    is_note ∙ ap (note_at script known inside (get_or tokens place d)) is_rest in
    let step : onto o left ≡ notes_from script known inside (drop place tokens) =
    (λ i. onto (noted i) (notes_from script known (is_behind i) (drop (place + 1) tokens)))
    ∙ sym (ap (notes_from script known inside) (drop_more tokens place d within)) in
    ap (λ (l : List Noted). l ++ left) is_new ∙ onto_next found o left ∙ ap (λ (l : List Noted). found ++ l) step ∙ whole

-- as many were found as are looked for; or all were looked at
pub found_enough : (found left all : List Noted) → found ++ left ≡ all → length found ≡ max_noted → found ≡ take max_noted all
found_enough found left all is full = sym (take-append_seam found left) ∙ ap (take (length found)) is ∙ ap (λ n. take n all) full

pub found_all : (found left all : List Noted) → found ++ left ≡ all → left ≡ [] → length found ≤ max_noted → found ≡ take max_noted all
found_all found left all is none few =
    let whole : found ≡ all = sym (append-nil found) ∙ sym (ap (λ (l : List Noted). found ++ l) none) ∙ is in
    sym (take_all max_noted found few) ∙ ap (take max_noted) whole

-- so what is told of those that are found is what is told of all
pub listed_first : (script : List ℕ) (found all : List Noted) → found ≡ take max_noted all → listed_told script found ≡ listed_told script all
listed_first script found all is =
    ap (λ (l : List Noted). map (note_told script) l ++ note_if (nat_lt max_notes (length found)) more_notes_blanks) (first_notes found all is)
    ∙ ap (λ (b : Bool). map (note_told script) (take max_notes all) ++ note_if b more_notes_blanks) (more_notes found all is)

-- what is known of a value, if there is one, follows
pub if_ok_more : {T E : Type 0} {P Q : T → Type 0} (r : Result T E) → ((x : T) → P x → Q x) → IfOk r P → IfOk r Q
if_ok_more (Ok x) follows p = follows x p
if_ok_more (Err e) follows p = p
