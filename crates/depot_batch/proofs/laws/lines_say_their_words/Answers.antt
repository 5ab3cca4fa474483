use Rattle.depot_batch.proofs.Spoken.{line_says}
use Rattle.depot_batch.proofs.laws.lines_say_their_words.Goals as goal

pub returns : goal.returns
returns c = line_says
