-- Stretches of a text that are read at once: lines before a break, and one stretch after another.
use Rattle.std.proofs.Common.{◌≡◌, ◌≢◌, ℕ, ◌<◌, ◌==◌, ◌&&◌, Bool, true, false, List, [], ◌∷◌, ◌++◌, zero, suc, refl, sym, ◌∙◌, ap, arith, length, take, drop, get_or, subst}
use Rattle.std.specs.List.{flat_map}
use Rattle.std.specs.Prelude.{if◌then◌else◌, Result, Ok, Err, OnOk}
use Rattle.std.proofs.lemmas.Grind.{flat_map-append}
use Rattle.std.proofs.lemmas.List.{append_assoc, append_cancel_left}
use Rattle.text_lines.specs.Lines.{TextLine, lines_of, octets_of, onto_break, onto_content}
use Rattle.text_lines.proofs.Broken.{octets_of-lines_of}
use Rattle.quoted_printable.specs.QuotedPrintable.{decoded_line, decoding_of}
use Rattle.quoted_printable.specs.Pieces.{HasFed, is_held}
use Rattle.quoted_printable.specs.Private.{Extends, Reads}
use Rattle.quoted_printable.proofs.Extended.{added_of}

-- ---- lines that breaks end

abbrev lines_by : Bool → Bool → ℕ → List TextLine → List TextLine
lines_by feed first x lines =
    if feed then record { content = []; break = 10 ∷ [] } ∷ lines
    else (if first then onto_break x lines else onto_content x lines)

lines_by-append : (feed first : Bool) (x : ℕ) (lines more : List TextLine) → lines ≢ [] → lines_by feed first x (lines ++ more) ≡ lines_by feed first x lines ++ more
lines_by-append feed first x [] more some = absurd (some refl)
lines_by-append true first x (line ∷ lines) more some = refl
lines_by-append false true x (line ∷ lines) more some = refl
lines_by-append false false x (line ∷ lines) more some = refl

lines_some : (x : ℕ) (text : List ℕ) → lines_of (x ∷ text) ≢ []
lines_some x text e = let none = sym (octets_of-lines_of (x ∷ text)) ∙ ap octets_of e in cc

lines_past : (n : ℕ) (text after : List ℕ) → n < length text → get_or text n 0 ≡ 10
    → lines_of (text ++ after) ≡ lines_of (take (suc n) text) ++ lines_of (drop (suc n) text ++ after)
lines_past n [] after within e = absurd (omega arith)
lines_past zero (x ∷ text) after within e = rw e refl
lines_past (suc n) (x ∷ []) after within e = absurd (omega arith)
lines_past (suc n) (x ∷ y ∷ text) after within e =
    let feed = x == 10 in
    let first = (x == 13) && (y == 10) in
    ap (lines_by feed first x) (lines_past n (y ∷ text) after (omega arith) e)
    ∙ lines_by-append feed first x (lines_of (take (suc n) (y ∷ text))) (lines_of (drop (suc n) (y ∷ text) ++ after)) (lines_some y (take n text))

pub broken_past : (n : ℕ) (text after : List ℕ) → n < length text → get_or text n 0 ≡ 10
    → decoding_of (text ++ after) ≡ decoding_of (take (suc n) text) ++ decoding_of (drop (suc n) text ++ after)
unfolding decoding_of
broken_past n text after within e =
    ap (flat_map decoded_line) (lines_past n text after within e)
    ∙ flat_map-append decoded_line (lines_of (take (suc n) text)) (lines_of (drop (suc n) text ++ after))

-- ---- one stretch after another

pub reads_same : (was now left text same : List ℕ) → text ≡ same → Reads was text now left → Reads was same now left
reads_same was now left text same e reads = subst (λ l. Reads was l now left) e reads

pub reads_left : (was now text left same : List ℕ) → left ≡ same → Reads was text now left → Reads was text now same
reads_left was now text left same e reads = subst (λ l. Reads was text now l) e reads

pub has_fed : (held piece left was now : List ℕ) → is_held left ≡ true → Extends was now → Reads was (held ++ piece) now left → HasFed held piece left was now
has_fed held piece left was now kept extends reads =
    let more = drop (length was) now in
    let added = added_of was now extends in
    record {
      more = more;
      appended = added;
      stands = λ after. append_cancel_left was (decoding_of (held ++ piece ++ after)) (more ++ decoding_of (left ++ after))
          (sym (reads after) ∙ ap (λ l. l ++ decoding_of (left ++ after)) added ∙ append_assoc was more (decoding_of (left ++ after)));
      kept = kept;
    }

pub ok_fed : {T E : Type 0} (r : Result T E) (held kept piece left was now : List ℕ) → held ≡ kept → OnOk r (is_held left ≡ true) → Extends was now → OnOk r (Reads was (kept ++ piece) now left)
    → OnOk r (HasFed held piece left was now)
ok_fed (Ok x) held kept piece left was now same is extends reads =
    has_fed held piece left was now is extends (reads_same was now left (kept ++ piece) (held ++ piece) (ap (λ l. l ++ piece) (sym same)) reads)
ok_fed (Err x) held kept piece left was now same is extends reads = tt
