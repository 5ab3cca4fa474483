use Rattle.std.proofs.Common.{◌≡◌, take, sym, arith}
use Rattle.std.proofs.lemmas.Grind.{common_steps}
use Rattle.bytecode_format.proofs.ModifierLemmas.{take-both}
use Rattle.bytecode_format.proofs.modifiers.Modifiers.written.Goals as goal

pub returns : goal.returns
returns c =
    let kept : take c.min.result c.args.text.now ≡ take c.args.limit c.args.text.now = grind (arith, common_steps) in
    rw (c.from.ensures, c.in_ok-cased.ensures, c.if-self.false, kept) (sym (take-both c.args.self.letters c.args.self.first c.args.limit c.args.text.now))
