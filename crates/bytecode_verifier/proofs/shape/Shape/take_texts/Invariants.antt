use Rattle.std.proofs.Common.{◌≡◌, ◌+◌, ◌*◌, ◌-◌, ◌≤◌, length}
use Rattle.bytecode_verifier.specs.Pass.{AreShort}
use Rattle.bytecode_verifier.proofs.Taking.{wanted}
use Rattle.bytecode_verifier.proofs.shape.Shape.take_texts.Given as goal

-- what was taken so far, and then what is left to take, is what is to be taken
abbrev pub invariant-texts : goal.invariant-texts
invariant-texts l = record {
  same : wanted l.total l.counter (l.number - l.counter) l.self ≡ wanted 0 0 l.number l.initial.self;
  left : l.counter + length l.self ≤ 1024;
  total : l.total ≤ l.counter * 16385;
  short : AreShort l.self;
}
