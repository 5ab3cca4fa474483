use Rattle.std.proofs.Common.{◌≡◌, ◌+◌, ◌==◌, if◌then◌else◌, None, ◌∷◌, [], ◌++◌, length, get_or, take, refl, arith}
use Rattle.std.proofs.lemmas.Grind.{common_steps}
use Rattle.bytecode_format.proofs.ModifierLemmas.{not_first, spelled, spelled-push, with_quotes}
use Rattle.bytecode_format.proofs.modifiers.Modifiers.quoted.Goals as goal

pub text-preserved : goal.text-preserved
text-preserved c =
    let i = c.text.octet-index in
    let x = get_or c.args.text.now i 0 in
    let before = take i c.args.text.now in
    let more : take (i + 1) c.args.text.now ≡ before ++ x ∷ [] = grind (arith, common_steps) in
    let taken : length before ≡ i = grind (arith, common_steps) in
    let first : c.text.first ≡ (if length before == 0 then c.args.self.first else None) = rw taken c.text.invariant.0 in
    let pushed = spelled-push (with_quotes c.args.self) c.text.first before x c.of.result c.of-octet.result first c.of.ensures c.of-octet.ensures in
    (rw (not_first i) refl, rw (more, pushed) (c.in_ok-put_quoted.ensures (spelled (with_quotes c.args.self) before) c.text.invariant.1))
