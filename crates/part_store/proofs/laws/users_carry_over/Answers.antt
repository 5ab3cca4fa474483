use Rattle.part_store.proofs.Carrying.{users_carried}
use Rattle.part_store.proofs.laws.users_carry_over.Goals as goal

pub returns : goal.returns
returns c table e lines are = users_carried table e lines are
