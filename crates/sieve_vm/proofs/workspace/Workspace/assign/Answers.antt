use Rattle.std.proofs.Common.{refl}
use Rattle.std.proofs.lemmas.List.{map-set}
use Rattle.sieve_vm.specs.SharedTexts.{items_of}
use Rattle.sieve_vm.proofs.Holding.{same_parts}
use Rattle.sieve_vm.proofs.workspace.Workspace.assign.Goals as goal

pub returns : goal.returns
returns c = same_parts _ _ _ _ refl (map-set items_of c.args.self.now.variables.items c.args.variable c.args.value) refl
