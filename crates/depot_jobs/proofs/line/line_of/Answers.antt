use Rattle.std.proofs.Common.{rules, ◌∙◌, ap, refl, map, subst, sym}
use Rattle.std.proofs.lemmas.Result.{err_from_is_err_and}
use Rattle.clap.specs.Faults.{is_simple_and_free}
use Rattle.clap.specs.Words.{App, FailsBy, HasKind, fault_of, is_simple, subcommand_of, takes}
use Rattle.depot_words.proofs.AppLemmas.{depot_has, simple, simple_and_free}
use Rattle.depot_words.proofs.RangeLemmas.{complete}
use Rattle.depot_words.specs.Commands.{IsDepot, depot_app}
use Rattle.depot_jobs.specs.Words.{Says}
use Rattle.depot_jobs.proofs.line.line_of.Goals as goal

pub returns-in_err-depot_command-clause-taken : goal.returns-in_err-depot_command-clause-taken
returns-in_err-depot_command-clause-taken c =
    let p = err_from_is_err_and c.from_residual.result c.from_residual.ensures.1 in
    rw p.1 (depot_app c.encodings-names.result, (c.encodings-names.result, c.encodings-names.ensures, refl), λ taken. p.2)

pub returns-in_err-depot_command-clause-kinds : goal.returns-in_err-depot_command-clause-kinds
returns-in_err-depot_command-clause-kinds c =
    let are = c.encodings-names.ensures in
    depot_has c.encodings-names.result (λ app. FailsBy (fault_of app (map (λ w. w.now) c.args.words.now)) c.from_residual.result) are (search rules)

pub returns-in_err-matches-clause-taken : goal.returns-in_err-matches-clause-taken
returns-in_err-matches-clause-taken c =
    let p = err_from_is_err_and c.from_residual-in_err-matches.result c.from_residual-in_err-matches.ensures.1 in
    rw (p.1, p.2) (
      depot_app c.encodings-names.result,
      (c.encodings-names.result, c.encodings-names.ensures, refl),
      λ h. c.in_err-matches.ensures.passes (ap (λ (a : App). takes a (map (λ w. w.now) c.args.words.now)) c.in_ok-depot_command.ensures.app ∙ h),
    )

pub returns-in_err-matches-clause-kinds : goal.returns-in_err-matches-clause-kinds
returns-in_err-matches-clause-kinds c =
    let app_is = c.in_ok-depot_command.ensures.app in
    let p = err_from_is_err_and c.from_residual-in_err-matches.result c.from_residual-in_err-matches.ensures.1 in
    let kinds = c.in_err-matches.ensures.kinds (ap is_simple_and_free app_is ∙ simple_and_free c.encodings-names.result) in
    rw (p.1, p.2) (depot_has c.encodings-names.result (λ app. HasKind (fault_of app (map (λ w. w.now) c.args.words.now)) c.in_err-matches.field-0.0) c.encodings-names.ensures
    (subst (λ (a : App). HasKind (fault_of a (map (λ w. w.now) c.args.words.now)) c.in_err-matches.field-0.0) app_is kinds))

pub returns-clause-says : goal.returns-clause-says
returns-clause-says c =
    let words = map (λ w. w.now) c.args.words.now in
    let names = c.encodings-names.result in
    let app_is = c.in_ok-depot_command.ensures.app in
    let is_depot : IsDepot (depot_app names) = (names, c.encodings-names.ensures, refl) in
    let taken = ap (λ (a : App). fault_of a words) (sym app_is) ∙ c.in_ok-matches.ensures.kinds (ap is_simple_and_free app_is ∙ simple_and_free names) in
    let made = (c.in_ok-matches.ensures.matches (ap is_simple app_is ∙ simple names)).1 in
    let said = subst (Says c.line_in.result) made c.line_in.ensures in
    record {
      app = depot_app names;
      is_depot = is_depot;
      taken = taken;
      complete = complete (depot_app names) words is_depot taken;
      says = subst (λ (a : App). Says c.line_in.result (subcommand_of a words)) app_is said;
    }

pub returns-clause-kinds : goal.returns-clause-kinds
returns-clause-kinds c =
    let app_is = c.in_ok-depot_command.ensures.app in (
      depot_app c.encodings-names.result,
      (c.encodings-names.result, c.encodings-names.ensures, refl),
      ap (λ (a : App). fault_of a (map (λ w. w.now) c.args.words.now)) (sym app_is) ∙ c.in_ok-matches.ensures.kinds (ap is_simple_and_free app_is ∙ simple_and_free c.encodings-names.result),
    )
