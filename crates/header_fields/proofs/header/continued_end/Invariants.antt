use Rattle.std.proofs.Common.{◌≡◌, ◌<◌, ◌-◌, length}
use Rattle.text_lines.specs.Lines.{IsLineAt}
use Rattle.header_fields.specs.Reading.{IsContinuing}
use Rattle.header_fields.proofs.header.continued_end.Given as goal

abbrev pub invariant-continuations : goal.invariant-continuations
invariant-continuations l = record {
  here : IsLineAt l.text l.last.start l.last;
  some : l.last.start < l.last.end;
  same_text : l.lines.text ≡ l.text;
  place : l.lines.place ≡ l.last.stop;
  so_far : IsContinuing l.text l.fn.line l.initial.lines l.last.end l.lines;
}

abbrev pub decreases-continuations : goal.decreases-continuations
decreases-continuations l = length l.text - l.last.stop
