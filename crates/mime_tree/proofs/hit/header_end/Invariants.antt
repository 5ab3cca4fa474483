use Rattle.std.proofs.Common.{◌≡◌, []}
use Rattle.text_lines.specs.Lines.{lines_of, lines_left}
use Rattle.header_fields.specs.Header.{header_length}
use Rattle.mime_tree.specs.OpenParts.{boundaries_in, cut}
use Rattle.mime_tree.proofs.Heading.{header_from}
use Rattle.mime_tree.proofs.hit.header_end.Given as goal

-- the header goes on with the lines that are left
abbrev pub invariant-lines : goal.invariant-lines
invariant-lines l = record {
  same_text : l.lines.text ≡ l.text;
  so_far : header_from (boundaries_in [] l.opened) l.lines.place l.end (lines_left l.lines) ≡ header_length (cut (boundaries_in [] l.opened) (lines_of l.text));
}
