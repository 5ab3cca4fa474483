use Rattle.std.proofs.Common.{rules, ◌≡◌, get_or, length}
use Rattle.depot_folder.proofs.Numerals.{bare, ending_off, read}
use Rattle.depot_folder.proofs.names.number_of.Goals as goal

pub returns-in-Ok-clause-found : goal.returns-in-Ok-clause-found
returns-in-Ok-clause-found c =
    let digits = c.in-Some.digits.now in
    let eight : length digits ≡ 8 = search rules in
    let other : get_or digits 0 0 ≡ 43 → ⊥ = search rules in
    let value = c.in-Ok.ensures.value in
    read c.args.name.now digits (ending_off c.args.name.now digits c.in-Some.ensures.cases) (bare digits other) eight c.in-Ok.number value.0.0.0 value.0.1
