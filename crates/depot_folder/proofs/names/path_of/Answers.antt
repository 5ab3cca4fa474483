use Rattle.std.proofs.Common.{◌≡◌}
use Rattle.std.proofs.lemmas.Result.{IfOk-weaker}
use Rattle.std.specs.String.{string_bytes}
use Rattle.depot_folder.proofs.Numerals.{path_named}
use Rattle.depot_folder.proofs.names.path_of.Goals as goal

pub returns : goal.returns
returns c = IfOk-weaker c.format.result _ _ (λ path is. path_named c.args.folder.now (string_bytes path) c.args.number c.laid_out.result c.laid_out.ensures is) c.format.ensures.ok
