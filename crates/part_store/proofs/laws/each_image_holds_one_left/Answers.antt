use Rattle.part_store.proofs.Crashed.{closing_holds_one, holds_one}
use Rattle.part_store.proofs.laws.each_image_holds_one_left.Goals as goal

pub returns-clause-called : goal.returns-clause-called
returns-clause-called g c = holds_one

pub returns-clause-closing : goal.returns-clause-closing
returns-clause-closing g c = closing_holds_one
