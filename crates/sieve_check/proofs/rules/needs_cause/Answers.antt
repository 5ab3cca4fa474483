use Rattle.std.proofs.Common.{◌≡◌, ◌∙◌, None, option_map, ap, sym}
use Rattle.std.specs.Option.{option_or}
use Rattle.sieve_check.specs.Private.{arguments_of, cause_view}
use Rattle.sieve_check.specs.Rules.{lacking_cause, mime_needs}
use Rattle.sieve_check.proofs.Noting.{first_of_both}
use Rattle.sieve_check.proofs.rules.needs_cause.Goals as goal

pub returns-in-Some : goal.returns-in-Some
returns-in-Some c =
    let row = c.args.row.now in
    let mime = mime_needs row.signature (arguments_of c.args.head.now) in
    let found = ap (option_map cause_view) (sym c.in-Some.is) ∙ c.lacking_cause.ensures in
    ap (λ o. option_or o (lacking_cause c.args.required mime)) found ∙ sym (first_of_both c.args.required row.needs.now mime)

pub returns-in-None : goal.returns-in-None
returns-in-None c =
    let row = c.args.row.now in
    let mime = mime_needs row.signature (arguments_of c.args.head.now) in
    let none : None ≡ lacking_cause c.args.required row.needs.now = ap (option_map cause_view) (sym c.in-None.is) ∙ c.lacking_cause.ensures in
    c.lacking_cause-in-None.ensures ∙ ap (lacking_cause c.args.required) c.mime_needs.ensures
    ∙ ap (λ o. option_or o (lacking_cause c.args.required mime)) none ∙ sym (first_of_both c.args.required row.needs.now mime)
