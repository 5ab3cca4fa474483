-- Lines and the text that they make.
use Rattle.std.proofs.Common.{◌≡◌, ◌≢◌, ◌⊎◌, ℕ, ◌<◌, true, false, List, [], ◌∷◌, ◌++◌, refl, sym, ◌∙◌, ap, arith, length, inl, inr, ◌==◌}
use Rattle.std.specs.List.{All}
use Rattle.std.proofs.lemmas.Bool.{eqb-true, eqb-false, cases_Bool, true≢false}
use Rattle.std.proofs.lemmas.List.{append_assoc, append-nil}
use Rattle.std.proofs.lemmas.List.Elements.{All-nil, All-cons, All-head, All-tail}
use Rattle.text_lines.specs.Lines.{TextLine, lines_of, line_octets, octets_of, is_first_of_break, onto_content, IsNotFeed, IsEndedLine, AreLines}
use Rattle.text_lines.proofs.FirstLine.{lines_feed, lines_other, no_break_at, no_break_of, only_line}

-- a text begins with CRLF
pub record IsBreak (octet : ℕ) (rest : List ℕ) : Type 0 where
  pub after : List ℕ
  pub cr : octet ≡ 13
  pub lf : rest ≡ 10 ∷ after

-- a text begins with an octet that belongs to no break
pub record IsContent (octet : ℕ) (rest : List ℕ) : Type 0 where
  pub other : octet ≢ 10
  pub no_break : is_first_of_break octet rest ≡ false

is_break : (octet : ℕ) (rest : List ℕ) → is_first_of_break octet rest ≡ true → IsBreak octet rest
is_break octet [] e = absurd (true≢false (sym e))
is_break octet (following ∷ after) e =
    elim (cases_Bool (octet == 13)) [
      | inl cr ↦ record { after = after; cr = eqb-true octet 13 cr; lf = ap (λ x. x ∷ after) (eqb-true following 10 (rw cr at e)) }
      | inr other ↦ absurd (true≢false (sym (rw other at e)))
    ]

-- what a text begins with
pub beginning : (octet : ℕ) (rest : List ℕ) → (octet ≡ 10) ⊎ (IsBreak octet rest ⊎ IsContent octet rest)
beginning octet rest = elim (cases_Bool (octet == 10)) [
  | inl lf ↦ inl (eqb-true octet 10 lf)
  | inr other ↦ elim (cases_Bool (is_first_of_break octet rest)) [
    | inl first ↦ inr (inl (is_break octet rest first))
    | inr content ↦ inr (inr (record { other = eqb-false octet 10 other; no_break = content }))
  ]
]

pub lines_crlf : (octet : ℕ) (rest : List ℕ) → (b : IsBreak octet rest) → lines_of (octet ∷ rest) ≡ record { content = []; break = 13 ∷ 10 ∷ [] } ∷ lines_of b.after
lines_crlf octet rest b = rw (b.cr, b.lf) refl

octets_of-onto_content : (octet : ℕ) (lines : List TextLine) → octets_of (onto_content octet lines) ≡ octet ∷ octets_of lines
octets_of-onto_content octet [] = refl
octets_of-onto_content octet (line ∷ lines) = refl

-- the lines of a text make the text
pub octets_of-lines_of : (text : List ℕ) → octets_of (lines_of text) ≡ text
octets_of-lines_of [] = refl
octets_of-lines_of (octet ∷ rest) =
    let after = octets_of-lines_of rest in
    elim (beginning octet rest) [
      | inl lf ↦ rw (lines_feed octet rest lf, after, lf) refl
      | inr (inl b) ↦ rw (lines_crlf octet rest b, b.cr, b.lf) (ap (λ x. 13 ∷ x) (rw b.lf at after))
      | inr (inr other) ↦ rw (lines_other octet rest other.other other.no_break, octets_of-onto_content octet (lines_of rest), after) refl
    ]

-- lines that are those of some text, with an octet more before the content of the first
ended_onto : (octet : ℕ) (line : TextLine) → octet ≢ 10 → (line.content ≡ [] → line.break ≡ 10 ∷ [] → octet ≢ 13)
    → IsEndedLine line → IsEndedLine (record { content = octet ∷ line.content; break = line.break })
ended_onto octet line other bare ended = record {
  no_feed = All-cons IsNotFeed octet line.content other ended.no_feed;
  ended = elim ended.ended [
    | inl crlf ↦ inl crlf
    | inr (lf, no_cr) ↦ inr (lf, ends_before octet line.content (λ none. bare none lf) no_cr)
  ];
} where
  ends_before : (octet : ℕ) (content : List ℕ) → (content ≡ [] → octet ≢ 13) → ((before : List ℕ) → content ≢ before ++ 13 ∷ []) → (before : List ℕ) → octet ∷ content ≢ before ++ 13 ∷ []
  ends_before octet content lone no_cr [] e = lone (cc) (cc)
  ends_before octet content lone no_cr (b ∷ before) e = no_cr before (cc)

first_of_break : (octet : ℕ) (rest after : List ℕ) → 10 ∷ after ≡ rest → octet ≡ 13 → is_first_of_break octet rest ≡ true
first_of_break octet rest after lf cr = rw (← lf, cr) refl

onto_first_are : (octet : ℕ) (rest : List ℕ) (lines : List TextLine) → octet ≢ 10 → is_first_of_break octet rest ≡ false → octets_of lines ≡ rest
    → AreLines lines → AreLines (onto_content octet lines)
onto_first_are octet rest [] other content made are = inr (record { no_feed = All-cons IsNotFeed octet [] other (All-nil IsNotFeed); some = λ e. cc; no_break = refl }, refl)
onto_first_are octet rest (line ∷ lines) other content made (inl (ended, more)) = inl (ended_onto octet line other (λ none lf cr. true≢false (sym (first_of_break octet rest (octets_of lines) (rw (none, lf) at made) cr) ∙ content)) ended, more)
onto_first_are octet rest (line ∷ lines) other content made (inr (last, none)) = inr (record { no_feed = All-cons IsNotFeed octet line.content other last.no_feed; some = λ e. cc; no_break = last.no_break }, none)

-- an empty line doesn't end in CR
no_last : (octet : ℕ) (before : List ℕ) → [] ≢ before ++ octet ∷ []
no_last octet [] e = cc
no_last octet (b ∷ before) e = cc

-- the lines after an empty one
after_feed : (lines : List TextLine) → AreLines (record { content = []; break = 10 ∷ [] } ∷ lines) → AreLines lines
after_feed lines (inl (ended, more)) = more
after_feed lines (inr (last, none)) = absurd (last.some refl)

-- the lines of a text are lines
pub AreLines-lines_of : (text : List ℕ) → AreLines (lines_of text)
AreLines-lines_of [] = tt
AreLines-lines_of (octet ∷ rest) =
    let more = AreLines-lines_of rest in
    elim (beginning octet rest) [
      | inl lf ↦ rw (lines_feed octet rest lf) (inl (record { no_feed = All-nil IsNotFeed; ended = inr (refl, no_last 13) }, more))
      | inr (inl b) ↦ rw (lines_crlf octet rest b) (inl (record { no_feed = All-nil IsNotFeed; ended = inl refl }, after_feed (lines_of b.after) (rw b.lf at more)))
      | inr (inr other) ↦ rw (lines_other octet rest other.other other.no_break) (onto_first_are octet rest (lines_of rest) other.other other.no_break (octets_of-lines_of rest) more)
    ]

-- the first line of a text, by what it consists of
lines_of-crlf : (content more : List ℕ) → All IsNotFeed content → lines_of (content ++ 13 ∷ 10 ∷ more) ≡ record { content = content; break = 13 ∷ 10 ∷ [] } ∷ lines_of more
lines_of-crlf [] more none = refl
lines_of-crlf (c ∷ []) more none =
    lines_other c (13 ∷ 10 ∷ more) (All-head IsNotFeed c [] none) (no_break_at c 13 (10 ∷ more) (omega arith))
    ∙ ap (onto_content c) (lines_of-crlf [] more (All-nil IsNotFeed))
lines_of-crlf (c ∷ d ∷ content) more none =
    let later = All-tail IsNotFeed c (d ∷ content) none in
    lines_other c (d ∷ (content ++ 13 ∷ 10 ∷ more)) (All-head IsNotFeed c (d ∷ content) none) (no_break_at c d (content ++ 13 ∷ 10 ∷ more) (All-head IsNotFeed d content later))
    ∙ ap (onto_content c) (lines_of-crlf (d ∷ content) more later)

lines_of-feed : (content more : List ℕ) → All IsNotFeed content → ((before : List ℕ) → content ≢ before ++ 13 ∷ [])
    → lines_of (content ++ 10 ∷ more) ≡ record { content = content; break = 10 ∷ [] } ∷ lines_of more
lines_of-feed [] more none bare = refl
lines_of-feed (c ∷ []) more none bare =
    lines_other c (10 ∷ more) (All-head IsNotFeed c [] none) (no_break_of c (10 ∷ more) (λ e. bare [] (ap (λ x. x ∷ []) e)))
    ∙ ap (onto_content c) (lines_of-feed [] more (All-nil IsNotFeed) (no_last 13))
lines_of-feed (c ∷ d ∷ content) more none bare =
    let later = All-tail IsNotFeed c (d ∷ content) none in
    lines_other c (d ∷ (content ++ 10 ∷ more)) (All-head IsNotFeed c (d ∷ content) none) (no_break_at c d (content ++ 10 ∷ more) (All-head IsNotFeed d content later))
    ∙ ap (onto_content c) (lines_of-feed (d ∷ content) more later (λ before e. bare (c ∷ before) (ap (λ x. c ∷ x) e)))

-- lines that breaks end, before a text
abbrev pub AreEnded : List TextLine → Type 0
AreEnded [] = Unit {0}
AreEnded (line ∷ lines) = IsEndedLine line × AreEnded lines

lines_of-ended_one : (line : TextLine) (text : List ℕ) → IsEndedLine line → lines_of (line_octets line ++ text) ≡ line ∷ lines_of text
lines_of-ended_one line text ended = elim ended.ended [
  | inl crlf ↦ rw (crlf, append_assoc) (lines_of-crlf line.content text ended.no_feed ∙ rw (← crlf) refl)
  | inr (lf, bare) ↦ rw (lf, append_assoc) (lines_of-feed line.content text ended.no_feed bare ∙ rw (← lf) refl)
]

pub lines_of-ended : (lines : List TextLine) (text : List ℕ) → AreEnded lines → lines_of (octets_of lines ++ text) ≡ lines ++ lines_of text
lines_of-ended [] text ended = refl
lines_of-ended (line ∷ lines) text (ended, more) =
    rw (append_assoc, lines_of-ended_one line (octets_of lines ++ text) ended, lines_of-ended lines text more) refl

some_of : (xs : List ℕ) → xs ≢ [] → 0 < length xs
some_of [] ne = absurd (ne refl)
some_of (x ∷ xs) ne = omega arith

-- lines are those of the text that they make
pub lines_of-octets_of : (lines : List TextLine) → AreLines lines → lines_of (octets_of lines) ≡ lines
lines_of-octets_of [] are = refl
lines_of-octets_of (line ∷ lines) (inl (ended, more)) = lines_of-ended_one line (octets_of lines) ended ∙ ap (λ x. line ∷ x) (lines_of-octets_of lines more)
lines_of-octets_of (line ∷ lines) (inr (last, none)) =
    rw (none, last.no_break, append-nil, append-nil)
    (only_line line.content (some_of line.content last.some) (λ k lt. last.no_feed k 0 lt) ∙ rw (← last.no_break) refl)
