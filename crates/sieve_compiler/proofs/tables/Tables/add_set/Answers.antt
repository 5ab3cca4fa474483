use Rattle.std.proofs.Common.{ap, [], ◌∷◌, ◌∙◌}
use Rattle.sieve_check.specs.Acts.{act_row}
use Rattle.sieve_compiler.specs.Growing.{uses_with, with_uses}
use Rattle.sieve_compiler.proofs.NumberingLemmas.{used_as}
use Rattle.sieve_compiler.proofs.tables.Tables.add_set.Goals as goal

pub returns-in-Some : goal.returns-in-Some
returns-in-Some c =
    used_as c.add_variable.result c.args.self.now c.add_variable.new.self (uses_with [] [] (c.as_slice.result.now ∷ [])) (uses_with [] [] (act_row c.args.act.now).sets)
    (ap (λ name. uses_with [] [] (name ∷ [])) c.as_slice.ensures ∙ ap (λ ns. uses_with [] [] ns) c.in-Some.ensures) c.add_variable.ensures

pub returns-in-None : goal.returns-in-None
returns-in-None c = ap (λ ns. with_uses c.args.self.now (uses_with [] [] ns)) c.in-None.ensures
