use Rattle.std.proofs.Common.{◌∙◌}
use Rattle.mime_tree.proofs.Meeting.{begins_otherwise, first_quiet, first_line}
use Rattle.mime_tree.proofs.hit.first_ends.Goals as goal

pub returns-then-is_none : goal.returns-then-is_none
returns-then-is_none c =
    first_quiet c.args.opened.now c.args.text.now (begins_otherwise c.after_dashes.result c.args.text.now _ c.if-is_none.ensures c.after_dashes.ensures)

pub returns-in-Some : goal.returns-in-Some
returns-in-Some c =
    c.is_some.ensures ∙ first_line c.args.opened.now c.args.text.now c.new.result c.next.new.self c.in-Some.line c.part_met.result c.new.ensures c.in-Some.ensures.steps c.part_met.ensures
