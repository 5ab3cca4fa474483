use Rattle.mime_tree.proofs.Runs.{line_alone}
use Rattle.mime_tree.proofs.run.first_run.Goals as goal

pub returns-then-is_some : goal.returns-then-is_some
returns-then-is_some c = line_alone c.args.text.now c.new.result c.next.result c.next.new.self c.new.ensures c.next.ensures.steps
