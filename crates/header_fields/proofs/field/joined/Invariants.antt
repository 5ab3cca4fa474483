use Rattle.std.proofs.Common.{◌≡◌, ◌≤◌, ◌++◌, length}
use Rattle.octets.specs.Blank.{without_leading_blanks}
use Rattle.text_lines.specs.Lines.{lines_left}
use Rattle.header_fields.specs.Header.{contents, without_breaks}
use Rattle.header_fields.proofs.field.joined.Given as goal

abbrev pub invariant-loop-line : goal.invariant-loop-line
invariant-loop-line l = record {
  same_text : l.line-iterator.text ≡ l.text;
  few : length l.start.items ≤ l.most;
  trimmed : without_leading_blanks l.start.items ≡ l.start.items;
  so_far : without_leading_blanks (l.start.items ++ contents (lines_left l.line-iterator)) ≡ without_leading_blanks (without_breaks l.text);
}
