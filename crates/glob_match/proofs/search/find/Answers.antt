use Rattle.std.proofs.Common.{◌∙◌, sym, ap, map, arith}
use Rattle.glob_match.specs.Containment.{begins_with, first_place}
use Rattle.glob_match.specs.declared.comparator.Comparator.TheVariants.{Casemap}
use Rattle.glob_match.specs.declared.token.Token.TheVariants.{Literal}
use Rattle.glob_match.proofs.Occurs.{found, found_octets}
use Rattle.glob_match.proofs.Plain.{text_too_short}
use Rattle.glob_match.proofs.search.find.Goals as goal

pub returns-then-text-value-clause-place : goal.returns-then-text-value-clause-place
returns-then-text-value-clause-place c = text_too_short c.args.comparator c.args.text.now c.args.value.now (omega arith)

pub returns-in-Octet-clause-place : goal.returns-in-Octet-clause-place
returns-in-Octet-clause-place c =
    found_octets c.args.value.now c.args.text.now c.find_octets.result c.find_octets.ensures
    ∙ ap (λ comparator. first_place (begins_with comparator (map Literal c.args.text.now)) c.args.value.now) (sym c.in-Octet.is)

pub returns-in-Casemap-clause-place : goal.returns-in-Casemap-clause-place
returns-in-Casemap-clause-place c =
    found Casemap c.args.value.now c.args.text.now c.find_casemap.result.0 c.find_casemap.ensures.place
    ∙ ap (λ comparator. first_place (begins_with comparator (map Literal c.args.text.now)) c.args.value.now) (sym c.in-Casemap.is)
