use Rattle.std.proofs.Common.{◌∙◌, sym, ap, length, take_all, arith}
use Rattle.std.proofs.lemmas.Bool.{leb-true}
use Rattle.sieve_vm.proofs.shared_text.cut_shared.Goals as goal

pub returns-then-is_short : goal.returns-then-is_short
returns-then-is_short c =
    let same = ap (λ v. v.items) c.as_ref.ensures in
    let few = leb-true _ 4096 (sym c.is_short.ensures ∙ c.if-is_short.true) in
    sym (take_all 4096 c.args.octets.value.items (omega (arith, few, ap length same)))
