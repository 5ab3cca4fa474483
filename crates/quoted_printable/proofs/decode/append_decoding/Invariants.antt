use Rattle.std.proofs.Common.{◌≡◌, ◌++◌, length}
use Rattle.std.specs.List.{flat_map}
use Rattle.text_lines.specs.Lines.{lines_left}
use Rattle.quoted_printable.specs.Private.{Extends}
use Rattle.quoted_printable.specs.QuotedPrintable.{decoding_of, decoded_line}
use Rattle.quoted_printable.proofs.decode.append_decoding.Given as goal

abbrev pub invariant-lines : goal.invariant-lines
invariant-lines l = record {
  same : l.lines.text ≡ l.text;
  done : l.out.items ++ flat_map decoded_line (lines_left l.lines) ≡ l.initial.out.items ++ decoding_of l.text;
  more : Extends l.initial.out.items l.out.items;
}

abbrev pub decreases-lines : goal.decreases-lines
decreases-lines l = length (lines_left l.lines)
