use Rattle.std.proofs.Common.{arith}
use Rattle.std.proofs.lemmas.Result.{err_from_is_err_and}
use Rattle.bytecode_format.proofs.FormatLemmas.{program_takes, is_refused}
use Rattle.bytecode_format.proofs.program.Program.read.Goals as goal

pub returns-in_err-parts-clause-refused : goal.returns-in_err-parts-clause-refused
returns-in_err-parts-clause-refused c =
    let p = err_from_is_err_and c.from_residual.result c.from_residual.ensures.1 in
    rw (p.1, p.2) (is_refused c.in_err-parts.field-0.0 c.args.octets.now c.in_err-parts.ensures.parts)

pub assemble-requires : goal.assemble-requires
assemble-requires c = (program_takes c.args.octets.now _ (λ i. omega (arith, c.type_inv.octets i)) c.in_ok-parts.ensures.parts).0

pub returns-clause-found : goal.returns-clause-found
returns-clause-found c = rw c.assemble.ensures (program_takes c.args.octets.now _ (λ i. omega (arith, c.type_inv.octets i)) c.in_ok-parts.ensures.parts)
