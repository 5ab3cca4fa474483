use Rattle.catalog.proofs.TextLemmas.{read_back}
use Rattle.catalog.proofs.laws.texts_are_read_back.Goals as goal

pub returns : goal.returns
returns c = read_back
