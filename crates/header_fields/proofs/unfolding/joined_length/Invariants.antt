use Rattle.std.proofs.Common.{◌≡◌, ◌≤◌}
use Rattle.text_lines.specs.Lines.{lines_left}
use Rattle.header_fields.specs.Header.{contents, without_breaks}
use Rattle.header_fields.proofs.Measuring.{Measured}
use Rattle.header_fields.proofs.unfolding.joined_length.Given as goal

abbrev pub invariant-loop-line : goal.invariant-loop-line
invariant-loop-line l = record {
  same_text : l.line-iterator.text ≡ l.text;
  fits : l.joined ≤ l.line-iterator.place;
  so_far : Measured l.joined l.without_blanks (contents (lines_left l.line-iterator)) (without_breaks l.text);
}
