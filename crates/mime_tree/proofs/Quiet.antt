-- Lines up to the first that begins with two dashes.
use Rattle.std.proofs.Common.{◌≡◌, ◌≢◌, ℕ, zero, suc, ◌+◌, ◌<◌, ◌≤◌, List, [], ◌∷◌, ◌++◌, refl, sym, ◌∙◌, ap, subst, arith, length, take, drop, get_or, inl, inr, ◌==◌, Some, None, if◌then◌else◌}
use Rattle.std.proofs.lemmas.Bool.{cases_Bool, eqb-true, eq-eqb, ne_eqb}
use Rattle.std.proofs.lemmas.List.{append_assoc, append-nil, length-append, length-drop, length-take-le, take-append-drop, take_all, drop_all}
use Rattle.std.proofs.Math.Seq.{take-append_seam, drop-append_seam}
use Rattle.memchr.specs.Find.{FindsNeedle, OccursAt}
use Rattle.memchr.proofs.lemmas.MatchLemmas.{OccursAt-split, OccursAt-from_part}
use Rattle.text_lines.specs.Lines.{TextLine, lines_of, octets_of, is_first_of_break, onto_content, onto_break}
use Rattle.text_lines.proofs.Broken.{octets_of-lines_of, beginning}
use Rattle.text_lines.proofs.FirstLine.{lines_feed, lines_other}
use Rattle.mime_tree.specs.Runs.{BeginsOtherwise, AreQuiet, before_last_break, BeginsWithRun, IsBeforeBreak}

-- ---- lines, an LF and further lines

some_lines : (text : List ℕ) → lines_of (text ++ 10 ∷ []) ≢ []
some_lines [] e = cc
some_lines (octet ∷ text) e =
    let none : octets_of (lines_of (octet ∷ text ++ 10 ∷ [])) ≡ [] = ap octets_of e in
    let made : octet ∷ (text ++ 10 ∷ []) ≡ [] = sym (octets_of-lines_of (octet ∷ (text ++ 10 ∷ []))) ∙ none in
    cc

onto_content_before : (octet : ℕ) (lines more : List TextLine) → lines ≢ [] → onto_content octet (lines ++ more) ≡ onto_content octet lines ++ more
onto_content_before octet [] more some = absurd (some refl)
onto_content_before octet (line ∷ lines) more some = refl

-- what follows an LF begins lines of its own
pub lines_at_feed : (text more : List ℕ) → lines_of (text ++ 10 ∷ more) ≡ lines_of (text ++ 10 ∷ []) ++ lines_of more
lines_at_feed [] more = refl
lines_at_feed (octet ∷ []) more = elim (cases_Bool (octet == 10)) [
  | inl lf ↦ rw lf refl
  | inr other ↦ elim (cases_Bool (octet == 13)) [
    | inl cr ↦ rw (other, cr) refl
    | inr content ↦ rw (other, content) refl
  ]
]
lines_at_feed (octet ∷ (next ∷ text)) more =
    let rest = lines_at_feed (next ∷ text) more in
    elim (beginning octet (next ∷ text)) [
      | inl lf ↦ rw (eq-eqb octet 10 lf) (ap (λ (lines : List TextLine). record { content = []; break = 10 ∷ [] } ∷ lines) rest)
      | inr (inl b) ↦ crlf_case octet next text more b.cr (cc) (lines_at_feed text more)
      | inr (inr other) ↦
          lines_other octet (next ∷ (text ++ 10 ∷ more)) other.other other.no_break
          ∙ ap (onto_content octet) rest
          ∙ onto_content_before octet (lines_of ((next ∷ text) ++ 10 ∷ [])) (lines_of more) (some_lines (next ∷ text))
          ∙ ap (λ (lines : List TextLine). lines ++ lines_of more) (sym (lines_other octet (next ∷ (text ++ 10 ∷ [])) other.other other.no_break))
    ] where
      crlf_case : (octet next : ℕ) (text more : List ℕ) → octet ≡ 13 → next ≡ 10 → lines_of (text ++ 10 ∷ more) ≡ lines_of (text ++ 10 ∷ []) ++ lines_of more
          → lines_of (octet ∷ (next ∷ (text ++ 10 ∷ more))) ≡ lines_of (octet ∷ (next ∷ (text ++ 10 ∷ []))) ++ lines_of more
      crlf_case octet next text more cr lf rest = rw (cr, lf) (ap (λ (lines : List TextLine). record { content = []; break = 13 ∷ 10 ∷ [] } ∷ lines) rest)

-- ---- the octets before the last break

abbrev without_cr : List ℕ → List ℕ
without_cr [] = []
without_cr (octet ∷ []) = if octet == 13 then [] else octet ∷ []
without_cr (octet ∷ (next ∷ text)) = octet ∷ without_cr (next ∷ text)

before_onto_content : (octet : ℕ) (lines : List TextLine) → lines ≢ [] → before_last_break (onto_content octet lines) ≡ octet ∷ before_last_break lines
before_onto_content octet [] some = absurd (some refl)
before_onto_content octet (line ∷ []) some = refl
before_onto_content octet (line ∷ (next ∷ lines)) some = refl

before_empty : (break : List ℕ) (lines : List TextLine) → lines ≢ [] → before_last_break (record { content = []; break = break } ∷ lines) ≡ break ++ before_last_break lines
before_empty break [] some = absurd (some refl)
before_empty break (line ∷ lines) some = refl

pub before_feed : (text : List ℕ) → before_last_break (lines_of (text ++ 10 ∷ [])) ≡ without_cr text
before_feed [] = refl
before_feed (octet ∷ []) = elim (cases_Bool (octet == 10)) [
  | inl lf ↦ rw (eqb-true octet 10 lf) refl
  | inr other ↦ elim (cases_Bool (octet == 13)) [
    | inl cr ↦ rw (other, cr) refl
    | inr content ↦ rw (other, content) refl
  ]
]
before_feed (octet ∷ (next ∷ text)) =
    let rest = before_feed (next ∷ text) in
    let some = some_lines (next ∷ text) in
    elim (beginning octet (next ∷ text)) [
      | inl lf ↦ ap before_last_break (lines_feed octet (next ∷ (text ++ 10 ∷ [])) lf) ∙ before_empty (10 ∷ []) (lines_of ((next ∷ text) ++ 10 ∷ [])) some
          ∙ rw (lf, rest) refl
      | inr (inl b) ↦ crlf_case octet next text b.cr (cc) rest
      | inr (inr other) ↦
          ap before_last_break (lines_other octet (next ∷ (text ++ 10 ∷ [])) other.other other.no_break)
          ∙ before_onto_content octet (lines_of ((next ∷ text) ++ 10 ∷ [])) some ∙ ap (λ (t : List ℕ). octet ∷ t) rest
    ] where
      crlf_case : (octet next : ℕ) (text : List ℕ) → octet ≡ 13 → next ≡ 10 → before_last_break (lines_of (next ∷ (text ++ 10 ∷ []))) ≡ without_cr (next ∷ text)
          → before_last_break (lines_of (octet ∷ (next ∷ (text ++ 10 ∷ [])))) ≡ octet ∷ without_cr (next ∷ text)
      crlf_case octet next text cr lf rest =
          let some = some_lines text in
          let made = rw lf at rest in
          let one : before_last_break (lines_of (10 ∷ (text ++ 10 ∷ []))) ≡ 10 ∷ before_last_break (lines_of (text ++ 10 ∷ [])) = before_empty (10 ∷ []) (lines_of (text ++ 10 ∷ [])) some in
          let two : before_last_break (lines_of (13 ∷ (10 ∷ (text ++ 10 ∷ [])))) ≡ 13 ∷ (10 ∷ before_last_break (lines_of (text ++ 10 ∷ []))) = before_empty (13 ∷ 10 ∷ []) (lines_of (text ++ 10 ∷ [])) some in
          rw (cr, lf) (two ∙ ap (λ (t : List ℕ). 13 ∷ t) (sym one ∙ made))

-- that is up to a place, by the octet before the LF
cr_taken : (text : List ℕ) (end : ℕ) → length text ≡ suc end → get_or text end 0 ≡ 13 → take end text ≡ without_cr text
cr_taken [] end long cr = absurd (omega arith)
cr_taken (octet ∷ []) zero long cr = rw (eq-eqb octet 13 cr) refl
cr_taken (octet ∷ []) (suc end) long cr = absurd (omega arith)
cr_taken (octet ∷ (next ∷ text)) zero long cr = absurd (omega arith)
cr_taken (octet ∷ (next ∷ text)) (suc end) long cr = ap (λ (t : List ℕ). octet ∷ t) (cr_taken (next ∷ text) end (omega arith) cr)

all_taken : (text : List ℕ) → ((i : ℕ) → suc i ≡ length text → get_or text i 0 ≢ 13) → text ≡ without_cr text
all_taken [] bare = refl
all_taken (octet ∷ []) bare = rw (ne_eqb octet 13 (bare 0 refl)) refl
all_taken (octet ∷ (next ∷ text)) bare = ap (λ (t : List ℕ). octet ∷ t) (all_taken (next ∷ text) (λ i e. bare (suc i) (omega arith)))

-- ---- lines without dashes

-- after no LF stand two dashes
abbrev IsCalm : List ℕ → Type 0
IsCalm [] = Unit {0}
IsCalm (octet ∷ rest) = (octet ≡ 10 → BeginsOtherwise rest) × IsCalm rest

abbrev IsQuietLater : List TextLine → Type 0
IsQuietLater [] = Unit {0}
IsQuietLater (line ∷ lines) = AreQuiet lines

-- a first line begins as its text does
first_quiet : (text : List ℕ) (lines : List TextLine) → octets_of lines ≡ text → BeginsOtherwise text → IsQuietLater lines → AreQuiet lines
first_quiet text [] made otherwise later = tt
first_quiet text (line ∷ lines) made otherwise later =
    (λ rest e. otherwise ((rest ++ line.break) ++ octets_of lines) (sym made ∙ ap (λ (c : List ℕ). (c ++ line.break) ++ octets_of lines) e), later)

quiet_onto_content : (octet : ℕ) (lines : List TextLine) → IsQuietLater lines → IsQuietLater (onto_content octet lines)
quiet_onto_content octet [] later = tt
quiet_onto_content octet (line ∷ lines) later = later

quiet_onto_break : (octet : ℕ) (lines : List TextLine) → IsQuietLater lines → IsQuietLater (onto_break octet lines)
quiet_onto_break octet [] later = tt
quiet_onto_break octet (line ∷ lines) later = later

quiet_later : (text : List ℕ) → IsCalm text → IsQuietLater (lines_of text)
quiet_later [] calm = tt
quiet_later (octet ∷ rest) calm =
    let later = quiet_later rest calm.1 in
    elim (cases_Bool (octet == 10)) [
      | inl lf ↦ rw lf (first_quiet rest (lines_of rest) (octets_of-lines_of rest) (calm.0 (eqb-true octet 10 lf)) later)
      | inr other ↦ elim (cases_Bool (is_first_of_break octet rest)) [
        | inl first ↦ rw (other, first) (quiet_onto_break octet (lines_of rest) later)
        | inr content ↦ rw (other, content) (quiet_onto_content octet (lines_of rest) later)
      ]
    ]

pub quiet_lines : (text : List ℕ) → BeginsOtherwise text → IsCalm text → AreQuiet (lines_of text)
quiet_lines text otherwise calm = first_quiet text (lines_of text) (octets_of-lines_of text) otherwise (quiet_later text calm)

calm_before : (text more : List ℕ) → ((k : ℕ) → suc k < length text → (rest : List ℕ) → drop k (text ++ more) ≢ 10 ∷ 45 ∷ 45 ∷ rest) → IsCalm text
calm_before [] more none = tt
calm_before (octet ∷ []) more none = (λ lf rest e. cc, tt)
calm_before (octet ∷ (next ∷ text)) more none = (
  λ lf rest e. none 0 (omega arith) (rest ++ more) (ap (λ (o : ℕ). o ∷ ((next ∷ text) ++ more)) lf ∙ ap (λ (t : List ℕ). 10 ∷ (t ++ more)) e),
  calm_before (next ∷ text) more (λ k lt. none (suc k) (omega arith)),
)

-- ---- the run of lines that `memchr` finds

abbrev needle : List ℕ
needle = 10 ∷ 45 ∷ 45 ∷ []

three_at : (text rest : List ℕ) (k : ℕ) → drop k text ≡ 10 ∷ 45 ∷ 45 ∷ rest → OccursAt text needle k
three_at text rest k e =
    OccursAt-from_part text needle k (omega (arith, ap length e, length-drop k text)) (ap (take 3) e)

otherwise_taken : (text : List ℕ) (n : ℕ) → BeginsOtherwise text → BeginsOtherwise (take n text)
otherwise_taken text n otherwise rest e = otherwise (rest ++ drop n text) (sym (take-append-drop n text) ∙ ap (λ (t : List ℕ). t ++ drop n text) e)

-- the whole text
pub quiet_to_end : (text : List ℕ) → text ≢ [] → BeginsOtherwise text → FindsNeedle text needle 0 None → BeginsWithRun text (length text) (length text)
quiet_to_end text some otherwise none =
    let all : take (length text) text ≡ text = take_all (length text) text (omega arith) in
    record {
      end_before_stop = omega arith;
      some = some_length text some;
      within = omega arith;
      lines = lines_of text;
      all = rw (drop_all (length text) text (omega arith)) (sym (append-nil (lines_of text)));
      octets = octets_of-lines_of text ∙ sym all;
      content = λ lt. absurd (omega arith);
      kind = inr (record {
        quiet = quiet_lines text otherwise (calm_before text [] (λ k lt rest e. none k (omega arith) (omega arith) (three_at text rest k (ap (drop k) (sym (append-nil text)) ∙ e))));
        otherwise = otherwise_taken text (length text) otherwise;
      });
    } where
      some_length : (text : List ℕ) → text ≢ [] → 0 < length text
      some_length [] ne = absurd (ne refl)
      some_length (octet ∷ text) ne = omega arith

ends_before : (text more : List ℕ) (end : ℕ) → IsBeforeBreak (text ++ 10 ∷ more) (length text) end → take end (text ++ 10 ∷ more) ≡ without_cr text
ends_before text more end (inl (at, cr)) =
    take_left text (10 ∷ more) end (omega arith) ∙ cr_taken text end (omega arith) (sym (get_left text (10 ∷ more) end (omega arith)) ∙ cr) where
      take_left : (xs ys : List ℕ) (n : ℕ) → n ≤ length xs → take n (xs ++ ys) ≡ take n xs
      take_left xs ys zero le = refl
      take_left [] ys (suc n) le = absurd (omega arith)
      take_left (x ∷ xs) ys (suc n) le = ap (λ (t : List ℕ). x ∷ t) (take_left xs ys n (omega arith))

      get_left : (xs ys : List ℕ) (n : ℕ) → n < length xs → get_or (xs ++ ys) n 0 ≡ get_or xs n 0
      get_left [] ys n lt = absurd (omega arith)
      get_left (x ∷ xs) ys zero lt = refl
      get_left (x ∷ xs) ys (suc n) lt = get_left xs ys n (omega arith)
ends_before text more end (inr (at, bare)) =
    rw (sym at) (take-append_seam text (10 ∷ more)) ∙ all_taken text (λ i e cr. bare i (omega arith) (get_left text (10 ∷ more) i (omega arith) ∙ cr)) where
      get_left : (xs ys : List ℕ) (n : ℕ) → n < length xs → get_or (xs ++ ys) n 0 ≡ get_or xs n 0
      get_left [] ys n lt = absurd (omega arith)
      get_left (x ∷ xs) ys zero lt = refl
      get_left (x ∷ xs) ys (suc n) lt = get_left xs ys n (omega arith)

-- lines up to an LF
quiet_at_feed : (text more : List ℕ) (end : ℕ) → BeginsOtherwise (text ++ 10 ∷ more)
    → ((k : ℕ) → k < length text → (rest : List ℕ) → drop k (text ++ 10 ∷ more) ≢ 10 ∷ 45 ∷ 45 ∷ rest)
    → IsBeforeBreak (text ++ 10 ∷ more) (length text) end → BeginsWithRun (text ++ 10 ∷ more) end (length text + 1)
quiet_at_feed text more end otherwise none before =
    let whole = text ++ 10 ∷ more in
    let run = text ++ 10 ∷ [] in
    let split : run ++ more ≡ whole = append_assoc text (10 ∷ []) more in
    let long : length run ≡ length text + 1 = length-append text (10 ∷ []) in
    let taken : take (length text + 1) whole ≡ run = ap (λ n. take n whole) (sym long) ∙ ap (take (length run)) (sym split) ∙ take-append_seam run more in
    let left : drop (length text + 1) whole ≡ more = ap (λ n. drop n whole) (sym long) ∙ ap (drop (length run)) (sym split) ∙ drop-append_seam run more in
    record {
      end_before_stop = ends_low end before;
      some = omega arith;
      within = omega (arith, length-append text (10 ∷ more));
      lines = lines_of run;
      all = lines_at_feed text more ∙ ap (λ (t : List ℕ). lines_of run ++ lines_of t) (sym left);
      octets = octets_of-lines_of run ∙ sym taken;
      content = λ lt. before_feed text ∙ sym (ends_before text more end before);
      kind = inr (record {
        quiet = quiet_lines run (λ rest e. otherwise (rest ++ more) (sym split ∙ ap (λ (t : List ℕ). t ++ more) e))
            (calm_before run more (λ k lt rest e. none k (omega (arith, long)) rest (ap (drop k) (sym split) ∙ e)));
        otherwise = otherwise_taken whole end otherwise;
      });
    } where
      ends_low : (end : ℕ) → IsBeforeBreak (text ++ 10 ∷ more) (length text) end → end ≤ length text + 1
      ends_low end (inl (at, cr)) = omega arith
      ends_low end (inr (at, bare)) = omega arith

pub quiet_to_dashes : (text : List ℕ) (feed end : ℕ) → BeginsOtherwise text → FindsNeedle text needle 0 (Some feed) → IsBeforeBreak text feed end
    → BeginsWithRun text end (feed + 1)
quiet_to_dashes text feed end otherwise found before =
    let more = 45 ∷ 45 ∷ drop (feed + 3) text in
    let xs = take feed text in
    let occurs = found.1 in
    let long : length xs ≡ feed = length-take-le feed text (omega (arith, occurs.fits)) in
    let split : xs ++ 10 ∷ more ≡ text = ap (λ (t : List ℕ). xs ++ t) (sym (OccursAt-split text needle feed occurs)) ∙ take-append-drop feed text in
    let run : BeginsWithRun (xs ++ 10 ∷ more) end (length xs + 1) =
    quiet_at_feed xs more end (λ rest e. otherwise rest (sym split ∙ e))
    (λ k lt rest e. found.0.before k (omega arith) (omega arith) (three_at text rest k (ap (drop k) (sym split) ∙ e)))
    (subst (λ (t : List ℕ). IsBeforeBreak t (length xs) end) (sym split) (subst (λ n. IsBeforeBreak text n end) (sym long) before)) in
    subst (λ (t : List ℕ). BeginsWithRun t end (feed + 1)) split (subst (λ n. BeginsWithRun (xs ++ 10 ∷ more) end (n + 1)) long run)
