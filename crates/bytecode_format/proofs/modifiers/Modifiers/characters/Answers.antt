use Rattle.std.proofs.Common.{◌≡◌, take, arith}
use Rattle.std.proofs.lemmas.Grind.{common_steps}
use Rattle.bytecode_format.proofs.ModifierLemmas.{characters_spelled}
use Rattle.bytecode_format.proofs.modifiers.Modifiers.characters.Goals as goal

pub returns : goal.returns
returns c =
    let all : take c.text.octet-index c.args.text.now ≡ c.args.text.now = grind (arith, common_steps) in
    rw (c.text.invariant.0, all) (characters_spelled c.args.self c.args.text.now)
