use Rattle.std.proofs.Common.{◌∙◌, arith}
use Rattle.mime_tree.proofs.LengthsMet.{leaves_of}
use Rattle.mime_tree.proofs.Passing.{read_of, run_passed, run_hit, leaves_passed, ends_quiet}
use Rattle.mime_tree.proofs.hit.next_hit.Goals as goal

pub returns-then-are_none : goal.returns-then-are_none
returns-then-are_none c =
    let leaves = leaves_of c.of-lengths.result c.args.opened.now (c.are_none.ensures c.if-are_none.true) c.of-lengths.ensures in
    leaves_passed c.args.preamble c.args.opened.now c.args.text.now c.args.place c.args.end c.requires leaves

pub returns-in-Some-part_met : goal.returns-in-Some-part_met
returns-in-Some-part_met c =
    let text = c.args.text.now in
    let was = c.lines.invariant in
    let read = read_of text c.in-Some.line c.lines.lines c.next_run.new.self was.same_text c.in-Some.ensures in
    run_hit c.args.preamble c.args.opened.now text c.args.place c.args.end c.lines.before c.in-Some.line c.lines.lines c.next_run.new.self c.in-Some-part_met.met was.same_text read was.forward was.so_far c.in-Some-part_met.ensures

pub lines-preserved : goal.lines-preserved
lines-preserved c =
    let text = c.args.text.now in
    let was = c.lines.invariant in
    let read = read_of text c.in-Some.line c.lines.lines c.next_run.new.self was.same_text c.in-Some.ensures in record {
      same_text = read.same_text;
      forward = omega (arith, read.start, read.after, read.some, was.forward);
      within = omega (arith, read.after, read.within);
      so_far = λ parts. was.so_far parts ∙ run_passed c.args.preamble c.args.opened.now text c.in-Some.line c.lines.lines c.next_run.new.self c.lines.before parts was.same_text read c.in_default-part_met.ensures;
    }

pub returns : goal.returns
returns c =
    let was = c.lines.invariant in
    ends_quiet c.args.preamble c.args.opened.now c.args.text.now c.args.place c.args.end c.lines.before c.lines.lines c.next_run.new.self was.same_text c.in_default.ensures was.so_far
