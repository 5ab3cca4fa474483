use Rattle.std.proofs.Common.{refl, sym, ◌∙◌}
use Rattle.std.specs.Rc.{rc_value}
use Rattle.catalog.specs.Keeping.{known_as, outlined_as}
use Rattle.catalog.proofs.AgainLemmas.{known_again, same_kind}
use Rattle.catalog.proofs.keeping.keep_again.Goals as goal

pub returns : goal.returns
returns c = λ filed same.
    let kind = sym c.is_some.ensures ∙ same_kind c.is_some.result c.args.listed.is_message c.if-is_some-listed.false in
    known_again outlined_as rc_value c.args.kept.now.outline c.in_ok-outline.outline (known_as c.args.kept.now) c.args.listed filed _ _ same kind c.in_ok-outline.ensures refl refl refl
