use Rattle.std.proofs.Common.{◌-◌, [], ap, arith, length, take, drop}
use Rattle.std.proofs.lemmas.List.{length-drop, length-take-le}
use Rattle.text_lines.specs.Lines.{lines_of}
use Rattle.text_lines.proofs.Broken.{octets_of-lines_of}
use Rattle.mime_tree.specs.OpenParts.{boundaries_in}
use Rattle.mime_tree.proofs.Heading.{header_within}
use Rattle.mime_tree.proofs.reader.read_header.Goals as goal

pub read-requires : goal.read-requires
read-requires c =
    let text = c.args.text.now in
    let rest = take (length text - c.args.beginning.place) (drop c.args.beginning.place text) in
    omega (arith, c.header_end-header.ensures, header_within (boundaries_in [] c.args.opened.now) (lines_of rest), ap length (octets_of-lines_of rest))

pub returns-clause-within : goal.returns-clause-within
returns-clause-within c =
    let text = c.args.text.now in
    let rest = take (length text - c.args.beginning.place) (drop c.args.beginning.place text) in
    let long = length-drop c.args.beginning.place text in
    let whole = length-take-le (length text - c.args.beginning.place) (drop c.args.beginning.place text) (omega (arith, long)) in
    omega (arith, c.header_end-header.ensures, header_within (boundaries_in [] c.args.opened.now) (lines_of rest), ap length (octets_of-lines_of rest), whole, c.requires.within)
