use Rattle.std.proofs.Common.{◌≤◌, ◌+◌, ◌*◌, arith}
use Rattle.std.proofs.lemmas.Nat.{mul-le}
use Rattle.octets.specs.Limits.{max_message, max_stack, max_string}
use Rattle.mail_matching.proofs.Extents.{texts_within}
use Rattle.mail_matching.proofs.cost.names_cost.Goals as goal

pub overflow_mul-result : goal.overflow_mul-result
overflow_mul-result g c =
    let names : c.extent_of.result ≤ max_stack * (max_string + 1) = omega (arith, c.extent_of.ensures, texts_within (g.N.Texts.texts c.args.names.now) c.requires.names) in
    let fields : c.args.fields + 1 ≤ max_message + 1 = omega (arith, c.requires.fields) in
    omega (arith, mul-le (c.args.fields + 1) c.extent_of.result (max_message + 1) (max_stack * (max_string + 1)) fields names)
