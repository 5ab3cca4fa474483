use Rattle.std.proofs.Common.{◌∙◌, sym}
use Rattle.glob_match.proofs.Cases.{finds_folded}
use Rattle.glob_match.proofs.search.find_casemap.Goals as goal

pub returns-then-not-has_letter-clause-place : goal.returns-then-not-has_letter-clause-place
returns-then-not-has_letter-clause-place c =
    finds_folded c.args.value.now c.args.text.now (sym c.has_letter.ensures ∙ c.if-not-has_letter.true) c.find_octets.result c.find_octets.ensures
