-- The lines that are printed are those of the events, although less is shown of these.
use Rattle.std.proofs.Common.{◌≡◌, ℕ, Bool, false, List, [], ◌∷◌, ◌++◌, slice_get, nat_le, length, take, Option, None, Some, option_map, refl, sym, append-nil, append_assoc, ◌∙◌, ap, subst, inl, inr, arith, codes, Result, Ok, Err, OnOk, IfErr, is_ok, if◌then◌else◌}
use Rattle.std.proofs.lemmas.Bool.{cases_Bool, leb-false, leb-true}
use Rattle.std.proofs.lemmas.Grind.{flat_map-append}
use Rattle.std.proofs.lemmas.List.{length-take, take-take, take_all}
use Rattle.std.specs.Borrow.{GName}
use Rattle.std.specs.Prelude.{⊤}
use Rattle.std.specs.Result.{MatchResult}
use Rattle.readable_text.specs.Quoted.{max_start, quoted, quoted_start}
use Rattle.devices.specs.Device.{HasBegun, HasTaken, Output}
use Rattle.devices.proofs.Outputs.{broken_later, taken_both, taken_none}
use Rattle.mail_matching.specs.Findings.{shortened}
use Rattle.mail_matching.specs.declared.finding.Finding.{Finding}
use Rattle.mail_matching.specs.declared.finding.Finding.TheVariants.{Pair, NoneOf}
use Rattle.mime_decode.specs.Mail.{Mail}
use Rattle.bytecode_format.specs.declared.question.Question.{Question}
use Rattle.sieve_check.specs.Typed.{CommandForms}
use Rattle.sieve_meaning.specs.Meaning.{no_effects}
use Rattle.sieve_meaning.specs.Traced.{Event, Occurrence, acted, all_held, any_held, asked, commands_events, event, negated, script_events, turned}
use Rattle.sieve_meaning.specs.Watched.{occurrence_of, shown}
use Rattle.sieve_meaning.specs.declared.watching.Told.{Told}
use Rattle.sieve_meaning.specs.declared.watching.Told.TheVariants.{Asked, Not, AllOf, AnyOf, Acted, Turn}
use Rattle.sieve_trace.specs.Printed.{Sheet, event_line, event_text, finding_text, occurrence_text, part_text, place_in, told, value_text}
use Rattle.sieve_trace.specs.Private.{HasEnded, HasPrinted}
use Rattle.sieve_trace.specs.Words.{comparison_word, question_word}
use Rattle.sieve_trace.specs.Written.{HasStopped}
use Rattle.sieve_trace.specs.declared.error.TraceError.{TraceError}
use Rattle.sieve_trace.specs.declared.error.TraceError.TheVariants.{Memory, Write}

-- one octet more than are printed
abbrev kept : ℕ
kept = 81

long_kept : (text : List ℕ) → nat_le (length text) max_start ≡ false → nat_le (length (take kept text)) max_start ≡ false
long_kept text long = elim (cases_Bool (nat_le (length (take kept text)) max_start)) [
  | inl short ↦ absurd (omega (arith, leb-false (length text) max_start long, leb-true (length (take kept text)) max_start short, length-take kept text))
  | inr so ↦ so
]

same_long : (text : List ℕ) → nat_le (length text) max_start ≡ false → quoted_start (take kept text) ≡ quoted_start text
unfolding quoted_start
same_long text long = rw (long_kept text long, long) (ap (λ t. quoted t ++ codes "..") (take-take max_start kept text (omega arith)))

same_quoted : (text : List ℕ) → quoted_start (take kept text) ≡ quoted_start text
same_quoted text = elim (cases_Bool (nat_le (length text) max_start)) [
  | inl short ↦ ap quoted_start (take_all kept text (omega (arith, leb-true (length text) max_start short)))
  | inr long ↦ same_long text long
]

same_finding : (question : Question) (finding : Option Finding) → finding_text question (option_map (shortened kept) finding) ≡ finding_text question finding
unfolding finding_text
same_finding question None = refl
same_finding question (Some (Pair value key)) =
    ap (λ t. codes " " ++ t ++ codes " " ++ comparison_word question ++ codes " " ++ quoted_start (take kept key)) (same_quoted value)
    ∙ ap (λ t. codes " " ++ quoted_start value ++ codes " " ++ comparison_word question ++ codes " " ++ t) (same_quoted key)
same_finding question (Some (NoneOf number)) = refl

same_occurrence : (question : Question) (value : Bool) (finding : Option Finding) → occurrence_text (asked question value (option_map (shortened kept) finding)) ≡ occurrence_text (asked question value finding)
unfolding occurrence_text
same_occurrence question value finding = ap (λ t. question_word question ++ value_text value ++ t) (same_finding question finding)

same_line : (page : Sheet) (at : ℕ) (part : Option ℕ) (question : Question) (value : Bool) (finding : Option Finding)
    → event_line page (event at part (asked question value (option_map (shortened kept) finding))) ≡ event_line page (event at part (asked question value finding))
unfolding event_line event_text
same_line page at part question value finding =
    ap (λ t. page.label ++ place_in (slice_get page.places at) ++ (part_text page.mail part ++ codes " " ++ t) ++ 10 ∷ [])
    (same_occurrence question value finding)

-- an event has the line of what is shown of it
pub shown_line : (page : Sheet) (at : ℕ) (part : Option ℕ) (what : Occurrence) → event_line page (event at part (shown kept what)) ≡ event_line page (event at part what)
shown_line page at part (asked question value finding) = same_line page at part question value finding
shown_line page at part (negated value) = refl
shown_line page at part (all_held value) = refl
shown_line page at part (any_held value) = refl
shown_line page at part (acted act text) = refl
shown_line page at part turned = refl

-- all that is told but turns comes behind the part
pub text_told : (mail : Mail) (part : Option ℕ) (what : Told) → (what ≡ Turn → ⊥) → event_text mail part (occurrence_of what) ≡ part_text mail part ++ codes " " ++ occurrence_text (occurrence_of what)
unfolding event_text
text_told mail part (Asked question value finding) off = refl
text_told mail part (Not value) off = refl
text_told mail part (AllOf value) off = refl
text_told mail part (AnyOf value) off = refl
text_told mail part (Acted act text) off = refl
text_told mail part Turn off = absurd (off refl)

-- a turn comes before its part
pub turn_told : (what : Told) (mail : Mail) (part : Option ℕ) (old words : List ℕ) → what ≡ Turn → words ≡ part_text mail part → (old ++ codes " foreverypart") ++ words ≡ old ++ event_text mail part (occurrence_of what)
unfolding event_text occurrence_text
turn_told what mail part old words is_turn is =
    append_assoc old (codes " foreverypart") words ∙ ap (λ t. old ++ (codes " foreverypart" ++ t)) is ∙ ap (λ w. old ++ event_text mail part (occurrence_of w)) (sym is_turn)

-- what a call leaves that appends, or changes nothing
pub appended : {T E : Type 0} (r : Result T E) (new old all : List ℕ) → new ≡ (if is_ok r then all else old) → OnOk r (new ≡ all)
appended (Ok x) new old all is = is
appended (Err e) new old all is = tt

-- the lines of events and of the next one
next_line : (page0 page1 : Sheet) (events : List Event) (at : ℕ) (part : Option ℕ) (what other : Occurrence) → shown kept what ≡ other → page1 ≡ page0
    → told page0 events ++ event_line page1 (event at part other) ≡ told page0 (events ++ event at part what ∷ [])
next_line page0 page1 events at part what other is same =
    ap (λ page. told page0 events ++ event_line page (event at part other)) same
    ∙ ap (λ o. told page0 events ++ event_line page0 (event at part o)) (sym is)
    ∙ ap (λ l. told page0 events ++ l) (shown_line page0 at part what ∙ sym (append-nil (event_line page0 (event at part what))))
    ∙ sym (flat_map-append (event_line page0) events (event at part what ∷ []))

-- a text was written, and then the first octets of the next one
begun_later : {s0 s1 s2 : Output} (xs ys : List ℕ) → HasTaken xs s0 s1 → HasBegun ys s1 s2 → HasBegun (xs ++ ys) s0 s2
begun_later xs ys first later = record {
  prefix = xs ++ later.prefix;
  rest = later.rest;
  whole = ap (λ text. xs ++ text) later.whole ∙ sym (append_assoc xs later.prefix later.rest);
  taken = taken_both xs later.prefix first later.taken;
}

stopped_later : (s0 s1 s2 : Output) (why : TraceError) (xs ys : List ℕ) → HasTaken xs s0 s1 → HasStopped why ys s1 s2 → HasStopped why (xs ++ ys) s0 s2
stopped_later s0 s1 s2 Memory xs ys first later = begun_later xs ys first later
stopped_later s0 s1 s2 Write xs ys first later = broken_later xs ys first later

-- memory was refused before anything was written
pub refused_first : (text : List ℕ) (s : Output) → HasStopped Memory text s s
refused_first text s = record { prefix = []; rest = text; whole = refl; taken = taken_none s }

-- events were printed, and then the next one, of which so much is shown
pub printed_next : {name0 name1 name2 : GName} {page0 page1 page2 : Sheet} {s0 s1 s2 : Output} (events : List Event) (at : ℕ) (part : Option ℕ) (what other : Occurrence) → shown kept what ≡ other → name2 ≡ name1 → page2 ≡ page1
    → HasPrinted name0 name1 page0 page1 events s0 s1 → HasTaken (event_line page1 (event at part other)) s1 s2 → HasPrinted name0 name2 page0 page2 (events ++ event at part what ∷ []) s0 s2
printed_next {name0} {name1} {name2} {page0} {page1} {page2} {s0} {s1} {s2} events at part what other is same_name same_page printed taken =
    record { same_sink = same_name ∙ printed.same_sink; same_sheet = same_page ∙ printed.same_sheet; taken = subst (λ text. HasTaken text s0 s2) (next_line page0 page1 events at part what other is printed.same_sheet) (taken_both (told page0 events) (event_line page1 (event at part other)) printed.taken taken) }

-- events were printed, and the trace ended in the next one
pub ended_next : {name0 name1 name2 : GName} {page0 page1 : Sheet} {s0 s1 s2 : Output} (why : TraceError) (events : List Event) (at : ℕ) (part : Option ℕ) (what other : Occurrence) → shown kept what ≡ other → name2 ≡ name1
    → HasPrinted name0 name1 page0 page1 events s0 s1 → HasStopped why (event_line page1 (event at part other)) s1 s2 → HasEnded why name0 name2 page0 (events ++ event at part what ∷ []) s0 s2
ended_next {name0} {name1} {name2} {page0} {page1} {s0} {s1} {s2} why events at part what other is same_name printed stopped =
    record { same_sink = same_name ∙ printed.same_sink; stopped = subst (λ text. HasStopped why text s0 s2) (next_line page0 page1 events at part what other is printed.same_sheet) (stopped_later s0 s1 s2 why (told page0 events) (event_line page1 (event at part other)) printed.taken stopped) }

-- the next line was written, or the trace ended in it
pub told_next : {T : Type 0} {name0 name1 name2 : GName} {page0 page1 page2 : Sheet} {s0 s1 : Output} (s2 : Output) (r : Result T TraceError) (events : List Event) (at : ℕ) (part : Option ℕ) (what other : Occurrence) → shown kept what ≡ other → name2 ≡ name1 → page2 ≡ page1
    → HasPrinted name0 name1 page0 page1 events s0 s1 → OnOk r (HasTaken (event_line page1 (event at part other)) s1 s2) → IfErr r (λ why. HasStopped why (event_line page1 (event at part other)) s1 s2)
    → MatchResult r (λ x. ⊤ × HasPrinted name0 name2 page0 page2 (events ++ event at part what ∷ []) s0 s2) (λ why. HasEnded why name0 name2 page0 (events ++ event at part what ∷ []) s0 s2)
told_next s2 (Ok x) events at part what other is same_name same_page printed ok err = (tt, printed_next events at part what other is same_name same_page printed ok)
told_next s2 (Err why) events at part what other is same_name same_page printed ok err = ended_next why events at part what other is same_name printed err

-- nothing was printed
pub printed_none : {name : GName} {page : Sheet} (s : Output) → HasPrinted name name page page [] s s
printed_none s = record { same_sink = refl; same_sheet = refl; taken = taken_none s }

-- the events of a script, as its commands are called
pub script_told : (mail there : Mail) (part : Option ℕ) (script : CommandForms) → there ≡ mail → part ≡ None → commands_events there part script no_effects ≡ script_events mail script
script_told mail there part script same is =
    ap (λ (m : Mail). commands_events m part script no_effects) same ∙ ap (λ (p : Option ℕ). commands_events mail p script no_effects) is
