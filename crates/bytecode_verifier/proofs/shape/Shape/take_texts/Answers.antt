use Rattle.std.proofs.Common.{◌≡◌, ◌+◌, ◌∷◌, length, ap, ◌∙◌, subst, arith}
use Rattle.bytecode_verifier.specs.declared.shape.Entry.TheVariants.{Text}
use Rattle.bytecode_verifier.specs.Pass.{AreShort}
use Rattle.bytecode_verifier.proofs.Taking.{wanted_next}
use Rattle.bytecode_verifier.proofs.shape.Shape.take_texts.Goals as goal

pub texts-preserved : goal.texts-preserved
texts-preserved c =
    let top : c.texts.self ≡ Text c.in-Some-Text.bound ∷ c.pop.new.self = c.in-Some-Text.ensures ∙ ap (λ e. e ∷ c.pop.new.self) c.in-Some-Text.field-0-is in
    let short = subst AreShort top c.texts.invariant.short in
    let fewer : length c.texts.self ≡ length c.pop.new.self + 1 = ap length top ∙ omega arith in
    record {
      same = wanted_next c.texts.total c.texts.counter c.args.number c.in-Some-Text.bound c.texts.self c.pop.new.self c.args.self.now c.texts-test.true top c.texts.invariant.same;
      left = omega (arith, fewer, c.texts.invariant.left);
      total = omega (arith, short.0, c.texts.invariant.total);
      short = short.1;
    }
