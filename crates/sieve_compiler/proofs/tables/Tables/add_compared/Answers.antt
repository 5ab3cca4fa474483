use Rattle.std.proofs.Common.{ap, [], ◌∷◌}
use Rattle.bytecode_format.specs.Questions.{row_of}
use Rattle.sieve_compiler.specs.Growing.{uses_with, with_uses}
use Rattle.sieve_compiler.proofs.NumberingLemmas.{used_as}
use Rattle.sieve_compiler.proofs.tables.Tables.add_compared.Goals as goal

pub returns-in-Some : goal.returns-in-Some
returns-in-Some c =
    used_as c.add_number.result c.args.self.now c.add_number.new.self (uses_with (c.in-Some.number ∷ []) [] []) (uses_with (row_of c.args.question).numbers [] [])
    (ap (λ ns. uses_with ns [] []) c.in-Some.ensures) c.add_number.ensures

pub returns-in-None : goal.returns-in-None
returns-in-None c = ap (λ ns. with_uses c.args.self.now (uses_with ns [] [])) c.in-None.ensures
