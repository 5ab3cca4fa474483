use Rattle.depot_batch.proofs.Objects.{answer_is_line, filed_is_line}
use Rattle.depot_batch.proofs.laws.json_answers_are_lines.Goals as goal

pub returns : goal.returns
returns c = record { alone = answer_is_line; together = filed_is_line }
