-- The run that a text begins with, and the next of a text.
use Rattle.std.proofs.Common.{◌≡◌, ℕ, ◌-◌, List, [], ◌∷◌, refl, ◌∙◌, ap, subst, arith, length, take, inl, Option, Some, None}
use Rattle.std.specs.List.{slice_range}
use Rattle.std.proofs.lemmas.List.{append-nil}
use Rattle.text_lines.specs.Unread.{Unread}
use Rattle.text_lines.specs.Lines.{text_line, GivesLine, IsLineAt}
use Rattle.text_lines.specs.declared.line.Line.{Line}
use Rattle.text_lines.proofs.Slices.{slice_join}
use Rattle.mime_tree.specs.Runs.{BeginsWithRun, GivesFirstRun}

slice_taken : (text : List ℕ) (from to : ℕ) → from ≡ 0 → slice_range text from to ≡ take to text
slice_taken text from to none = let whole : to - 0 ≡ to = omega arith in rw (none, whole) refl

no_octets : (text : List ℕ) → 0 ≡ length text → text ≡ []
no_octets [] none = refl
no_octets (octet ∷ text) none = absurd (omega arith)

one_line : (text : List ℕ) (line : Line) → IsLineAt text 0 line → BeginsWithRun text line.end line.stop
one_line text line at = record {
  end_before_stop = at.stop_after_end;
  some = omega (arith, at.start, at.some);
  within = at.within;
  lines = text_line text line ∷ [];
  all = at.first;
  octets = append-nil _ ∙ slice_join text line.start line.end line.stop at.end_after_start at.stop_after_end ∙ slice_taken text line.start line.stop at.start;
  content = λ lt. slice_taken text line.start line.end at.start;
  kind = inl (record { line = text_line text line; alone = refl; same = slice_taken text line.start line.end at.start });
}

-- the first line of a text is a run
pub line_alone : (text : List ℕ) (old : Unread) (line : Option Line) (new : Unread) → old ≡ record { text = text; place = 0 } → GivesLine old line new → GivesFirstRun text line
line_alone text old None new is gives =
    let none : 0 ≡ length text = omega (arith, gives.ended, ap (λ (u : Unread). u.place) is, ap (λ (u : Unread). length u.text) is) in
    no_octets text none
line_alone text old (Some line) new is gives =
    let at : IsLineAt text 0 line = subst (λ (u : Unread). IsLineAt u.text u.place line) is gives.here in
    (at.start, one_line text line at)
