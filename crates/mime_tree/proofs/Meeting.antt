-- What a line is to the open parts.
use Rattle.std.proofs.Common.{◌≡◌, ℕ, ◌+◌, ◌-◌, ◌<◌, Bool, true, false, ◌&&◌, ◌||◌, ◌==◌, List, [], ◌∷◌, ◌++◌, refl, sym, ◌∙◌, ap, subst, arith, length, take, drop, get_or, codes, inl, inr, Option, Some, None, MatchOption}
use Rattle.std.specs.Prelude.{bytes_eq}
use Rattle.std.proofs.lemmas.Bool.{cases_Bool, eq-eqb, ne_eqb, true≢false}
use Rattle.std.proofs.lemmas.List.{drop_more, take_more, length-drop, length-take-le, take-append-drop}
use Rattle.std.specs.List.{slice_range}
use Rattle.std.specs.Option.{is_some}
use Rattle.text_lines.specs.Unread.{Unread}
use Rattle.text_lines.specs.Lines.{TextLine, lines_of, octets_of, IsFirstLine, IsLineAt}
use Rattle.text_lines.specs.declared.line.Line.{Line}
use Rattle.text_lines.proofs.Broken.{octets_of-lines_of}
use Rattle.mime_tree.specs.PartTree.{is_delimiter, is_closing, ends_child}
use Rattle.mime_tree.specs.Enclosing.{ends_any, first_ends_any}
use Rattle.mime_tree.specs.OpenParts.{OpenPart, boundaries_with, boundaries_in, is_last, meets, meets_any}
use Rattle.mime_tree.specs.Runs.{BeginsOtherwise}
use Rattle.mime_tree.specs.Reading.{mark_of, mark_in, IsMark, IsMet, GivesMet}
use Rattle.mime_tree.specs.declared.delimiter.Mark.{Mark}
use Rattle.mime_tree.specs.declared.delimiter.Mark.TheVariants.{Delimiter, Closing}
use Rattle.mime_tree.specs.declared.hit.Met.{Met}
use Rattle.mime_tree.proofs.Ahead.{none_end}
use Rattle.mime_tree.proofs.Children.{closing_ends}
use Rattle.mime_tree.proofs.Delimiters.{no_delimiter}
use Rattle.mime_tree.proofs.Enclosing.{or_true}
use Rattle.mime_tree.proofs.Hits.{delimiter_ends_any}

-- ---- one part

nothing_part : (preamble : Bool) (boundary : Option (List ℕ)) (line : List ℕ) → ((b : List ℕ) → is_delimiter b line ≡ false) → meets preamble boundary line ≡ false
nothing_part preamble None line none = refl
nothing_part true (Some boundary) line none = none boundary
nothing_part false (Some boundary) line none =
    let other : is_delimiter boundary line ≡ false = none boundary in
    let going : is_closing boundary line ≡ false = none (boundary ++ codes "--") in
    rw (other, going) refl

-- a line that is the delimiter of no boundary meets no part
pub nothing_met : (preamble : Bool) (opened : List OpenPart) (line : List ℕ) → ((b : List ℕ) → is_delimiter b line ≡ false) → meets_any preamble opened line ≡ false
nothing_met preamble [] line none = refl
nothing_met preamble (part ∷ inner) line none =
    let here : meets (is_last inner && preamble) part.boundary line ≡ false = nothing_part (is_last inner && preamble) part.boundary line none in
    rw (here, nothing_met preamble inner line none) refl

pub not_marked : (preamble : Bool) (boundary : Option (List ℕ)) (line name : List ℕ) → ((b : List ℕ) → is_delimiter b line ≡ bytes_eq name b) → mark_in preamble boundary name ≡ None → meets preamble boundary line ≡ false
not_marked preamble None line name named none = refl
not_marked true (Some boundary) line name named none = elim (cases_Bool (bytes_eq name boundary)) [
  | inl same ↦ absurd (let e : Some Delimiter ≡ None = sym (rw same refl) ∙ none in cc)
  | inr other ↦ named boundary ∙ other
]
not_marked false (Some boundary) line name named none = elim (cases_Bool (bytes_eq name boundary)) [
  | inl same ↦ absurd (let e : Some Delimiter ≡ None = sym (rw same refl) ∙ none in cc)
  | inr other ↦ elim (cases_Bool (bytes_eq name (boundary ++ codes "--"))) [
    | inl closing ↦ absurd (let e : Some Closing ≡ None = sym (rw (other, closing) refl) ∙ none in cc)
    | inr going ↦
        let one : is_delimiter boundary line ≡ false = named boundary ∙ other in
        let two : is_closing boundary line ≡ false = named (boundary ++ codes "--") ∙ going in
        rw (one, two) refl
  ]
]

pub record Marked (preamble : Bool) (boundary : Option (List ℕ)) (line : List ℕ) (mark : Mark) : Type 0 where
  pub name : List ℕ
  pub has : boundary ≡ Some name
  pub is : IsMark preamble name line mark

pub marked : (preamble : Bool) (boundary : Option (List ℕ)) (line name : List ℕ) (mark : Mark) → ((b : List ℕ) → is_delimiter b line ≡ bytes_eq name b) → mark_in preamble boundary name ≡ Some mark → Marked preamble boundary line mark
marked preamble None line name mark named is = absurd (cc)
marked preamble (Some boundary) line name mark named is = elim (cases_Bool (bytes_eq name boundary)) [
  | inl same ↦
      let e : Some Delimiter ≡ Some mark = sym (rw same refl) ∙ is in
      let which : Delimiter ≡ mark = cc in
      record { name = boundary; has = refl; is = subst (IsMark preamble boundary line) which (named boundary ∙ same) }
  | inr other ↦ closing preamble boundary line name mark named other is
] where
  closing : (preamble : Bool) (boundary line name : List ℕ) (mark : Mark) → ((b : List ℕ) → is_delimiter b line ≡ bytes_eq name b) → bytes_eq name boundary ≡ false → mark_of preamble boundary name ≡ Some mark → Marked preamble (Some boundary) line mark
  closing true boundary line name mark named other is = absurd (let e : None ≡ Some mark = sym (rw other refl) ∙ is in cc)
  closing false boundary line name mark named other is = elim (cases_Bool (bytes_eq name (boundary ++ codes "--"))) [
    | inl ends ↦
        let e : Some Closing ≡ Some mark = sym (rw (other, ends) refl) ∙ is in
        let which : Closing ≡ mark = cc in
        record { name = boundary; has = refl; is = subst (IsMark false boundary line) which (named (boundary ++ codes "--") ∙ ends, refl) }
    | inr going ↦ absurd (let e : None ≡ Some mark = sym (rw (other, going) refl) ∙ is in cc)
  ]

-- ---- all open parts

last_or : (inner : List OpenPart) → (is_last inner && false) ≡ false
last_or [] = refl
last_or (part ∷ inner) = refl

pub none_more : (outer : List OpenPart) (part : OpenPart) (line : List ℕ) → meets_any false outer line ≡ false → meets false part.boundary line ≡ false → meets_any false (outer ++ part ∷ []) line ≡ false
none_more [] part line none other = rw other refl
none_more (first ∷ outer) part line none other =
    both (is_last outer && false) (is_last (outer ++ part ∷ []) && false) first.boundary (meets_any false outer line) (meets_any false (outer ++ part ∷ []) line)
    (last_or outer ∙ sym (last_or (outer ++ part ∷ []))) none (λ rest. none_more outer part line rest other) where
      both : (a b : Bool) (boundary : Option (List ℕ)) (old new : Bool) → a ≡ b → (meets a boundary line || old) ≡ false → (old ≡ false → new ≡ false) → (meets b boundary line || new) ≡ false
      both a b boundary old new same none more = split (meets a boundary line) old none (ap (λ f. meets f boundary line) (sym same)) more where
        split : (m : Bool) (old : Bool) → (m || old) ≡ false → meets b boundary line ≡ m → (old ≡ false → new ≡ false) → (meets b boundary line || new) ≡ false
        split true old none is more = absurd (cc)
        split false old none is more = rw (is, more none) refl

-- which of them is the last
pub last_by_place : (opened : List OpenPart) (place : ℕ) (preamble : Bool) → place < length opened → (is_last (drop (place + 1) opened) && preamble) ≡ (preamble && (place + 1 == length opened))
last_by_place opened place preamble lt = by_rest (drop (place + 1) opened) preamble (length-drop (place + 1) opened) where
  by_rest : (rest : List OpenPart) (preamble : Bool) → length rest ≡ length opened - (place + 1) → (is_last rest && preamble) ≡ (preamble && (place + 1 == length opened))
  by_rest [] true long = sym (eq-eqb (place + 1) (length opened) (omega arith))
  by_rest [] false long = refl
  by_rest (part ∷ rest) true long = sym (ne_eqb (place + 1) (length opened) (λ e. omega arith))
  by_rest (part ∷ rest) false long = refl

around_place : (opened : List OpenPart) (place : ℕ) (part : OpenPart) → place < length opened → part ≡ get_or opened place part → opened ≡ take place opened ++ part ∷ drop (place + 1) opened
around_place opened place part lt is =
    sym (take-append-drop place opened) ∙ ap (λ (os : List OpenPart). take place opened ++ os) (drop_more opened place part lt ∙ ap (λ (o : OpenPart). o ∷ drop (place + 1) opened) (sym is))

-- the first that is met
pub met_here : (preamble waits : Bool) (opened : List OpenPart) (place : ℕ) (part : OpenPart) (line name : List ℕ) (mark : Mark) → place < length opened → part ≡ get_or opened place part
    → waits ≡ (preamble && (place + 1 == length opened)) → meets_any false (take place opened) line ≡ false → ((b : List ℕ) → is_delimiter b line ≡ bytes_eq name b)
    → mark_in waits part.boundary name ≡ Some mark → IsMet preamble opened line (record { place = place; mark = mark })
met_here preamble waits opened place part line name mark lt is same none named found =
    let m = marked waits part.boundary line name mark named found in
    record {
      outer = take place opened;
      this = part;
      inner = drop (place + 1) opened;
      all = around_place opened place part lt is;
      place = sym (length-take-le place opened (omega arith));
      none = none;
      boundary = m.name;
      has = m.has;
      mark = subst (λ w. IsMark w m.name line mark) (same ∙ sym (last_by_place opened place preamble lt)) m.is;
    }

-- one that isn't
pub met_later : (preamble waits : Bool) (opened : List OpenPart) (place : ℕ) (part : OpenPart) (line name : List ℕ) → place < length opened → part ≡ get_or opened place part
    → waits ≡ (preamble && (place + 1 == length opened)) → ((b : List ℕ) → is_delimiter b line ≡ bytes_eq name b) → mark_in waits part.boundary name ≡ None
    → meets_any preamble (drop place opened) line ≡ meets_any preamble (drop (place + 1) opened) line
met_later preamble waits opened place part line name lt is same named none =
    let here : meets (is_last (drop (place + 1) opened) && preamble) part.boundary line ≡ false =
    ap (λ w. meets w part.boundary line) (last_by_place opened place preamble lt ∙ sym same) ∙ not_marked waits part.boundary line name named none in
    ap (λ os. meets_any preamble os line) (drop_more opened place part lt ∙ ap (λ (o : OpenPart). o ∷ drop (place + 1) opened) (sym is)) ∙ rw here refl

pub none_before : (preamble waits : Bool) (opened : List OpenPart) (place : ℕ) (part : OpenPart) (line name : List ℕ) → place + 1 < length opened → part ≡ get_or opened place part
    → waits ≡ (preamble && (place + 1 == length opened)) → ((b : List ℕ) → is_delimiter b line ≡ bytes_eq name b) → mark_in waits part.boundary name ≡ None
    → meets_any false (take place opened) line ≡ false → meets_any false (take (place + 1) opened) line ≡ false
none_before preamble waits opened place part line name lt is same named none before =
    let last : (preamble && (place + 1 == length opened)) ≡ false = ap (λ b. preamble && b) (ne_eqb (place + 1) (length opened) (λ e. omega arith)) ∙ and_false preamble in
    ap (λ os. meets_any false os line) (take_more opened place part (omega arith) ∙ ap (λ (o : OpenPart). take place opened ++ o ∷ []) (sym is))
    ∙ none_more (take place opened) part line before (ap (λ w. meets w part.boundary line) (sym (same ∙ last)) ∙ not_marked waits part.boundary line name named none) where
      and_false : (b : Bool) → (b && false) ≡ false
      and_false true = refl
      and_false false = refl

-- ---- lines that end a child

still_ends : (inner : List OpenPart) (around : List (List ℕ)) (line : List ℕ) → ends_any around line ≡ true → ends_any (boundaries_in around inner) line ≡ true
still_ends [] around line ends = ends
still_ends (part ∷ inner) around line ends = still_ends inner (boundaries_with part.boundary around) line (one_more part.boundary around line ends) where
  one_more : (boundary : Option (List ℕ)) (around : List (List ℕ)) (line : List ℕ) → ends_any around line ≡ true → ends_any (boundaries_with boundary around) line ≡ true
  one_more None around line ends = ends
  one_more (Some boundary) around line ends = rw ends (or_true (ends_child boundary line))

boundaries_past : (outer : List OpenPart) (around : List (List ℕ)) (this : OpenPart) (inner : List OpenPart)
    → boundaries_in around (outer ++ this ∷ inner) ≡ boundaries_in (boundaries_with this.boundary (boundaries_in around outer)) inner
boundaries_past [] around this inner = refl
boundaries_past (part ∷ outer) around this inner = boundaries_past outer (boundaries_with part.boundary around) this inner

mark_ends : (preamble : Bool) (boundary line : List ℕ) (mark : Mark) → IsMark preamble boundary line mark → ends_child boundary line ≡ true
mark_ends preamble boundary line Delimiter is = rw is refl
mark_ends preamble boundary line Closing is = closing_ends boundary line is.0

pub met_ends : (opened : List OpenPart) (line : List ℕ) (answer : Option Met) → GivesMet false opened line answer → is_some answer ≡ ends_any (boundaries_in [] opened) line
met_ends opened line None none = sym (none_end opened [] line refl none)
met_ends opened line (Some met) m =
    sym (ap (λ os. ends_any (boundaries_in [] os) line) m.all ∙ ap (λ bs. ends_any bs line) (boundaries_past m.outer [] m.this m.inner)
    ∙ still_ends m.inner (boundaries_with m.this.boundary (boundaries_in [] m.outer)) line
    (delimiter_ends_any m.this.boundary m.boundary (boundaries_in [] m.outer) line m.has (mark_ends (is_last m.inner && false) m.boundary line met.mark m.mark)))

-- a text that doesn't begin with two dashes
pub first_quiet : (opened : List OpenPart) (text : List ℕ) → BeginsOtherwise text → false ≡ first_ends_any (boundaries_in [] opened) (lines_of text)
first_quiet opened text otherwise = of_lines (lines_of text) (octets_of-lines_of text) where
  of_lines : (lines : List TextLine) → octets_of lines ≡ text → false ≡ first_ends_any (boundaries_in [] opened) lines
  of_lines [] made = refl
  of_lines (line ∷ lines) made =
      let quiet : BeginsOtherwise line.content = λ rest e. otherwise ((rest ++ line.break) ++ octets_of lines) (sym made ∙ ap (λ (c : List ℕ). (c ++ line.break) ++ octets_of lines) e) in
      sym (none_end opened [] line.content refl (nothing_met false opened line.content (λ b. sym (no_delimiter b line.content quiet))))

-- a text by its first line
pub first_line : (opened : List OpenPart) (text : List ℕ) (old new : Unread) (line : Line) (answer : Option Met) → old ≡ record { text = text; place = 0 } → IsFirstLine old line new
    → GivesMet false opened (slice_range text line.start line.end) answer → is_some answer ≡ first_ends_any (boundaries_in [] opened) (lines_of text)
first_line opened text old new line answer is first met =
    let here : IsLineAt text 0 line = subst (λ (u : Unread). IsLineAt u.text u.place line) is first.here in
    met_ends opened (slice_range text line.start line.end) answer met ∙ sym (ap (first_ends_any (boundaries_in [] opened)) here.first)

pub begins_otherwise : {A : Type 0} (answer : Option A) (text : List ℕ) (after : A → Type 0) → is_some answer ≡ false → MatchOption answer (BeginsOtherwise text) after → BeginsOtherwise text
begins_otherwise None text after none otherwise = otherwise
begins_otherwise (Some found) text after none otherwise = absurd (true≢false none)
