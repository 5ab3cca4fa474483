use Rattle.std.proofs.Common.{◌≡◌, ◌++◌, ◌-◌, length}
use Rattle.header_fields.specs.Hashes.{hashes_of}
use Rattle.header_fields.specs.Header.{fields_of, body_start_of}
use Rattle.header_fields.specs.Reading.{fields_left, body_left}
use Rattle.header_fields.proofs.header.read_fields.Given as goal

abbrev pub invariant-lines : goal.invariant-lines
invariant-lines l = record {
  same_text : l.lines.text ≡ l.text;
  fields : l.fields.items ++ fields_left l.lines ≡ fields_of l.text;
  hashes : l.hashes.items ≡ hashes_of l.fields.items;
  body : body_left l.lines ≡ body_start_of l.text;
}

abbrev pub decreases-lines : goal.decreases-lines
decreases-lines l = length l.text - l.lines.place
