use Rattle.std.proofs.Common.{ap, ◌∙◌, ◌++◌, ◌∷◌, [], unwrap_or}
use Rattle.std.specs.BTreeMap.{get}
use Rattle.std.specs.Cmp.Lexicographic.{slice_cmp}
use Rattle.std.specs.Global.{Vec}
use Rattle.std.specs.Ordering.{nat_cmp}
use Rattle.catalog.proofs.MapLemmas.{with_value}
use Rattle.catalog.proofs.index.put.Goals as goal

pub returns : goal.returns
returns g c = λ other.
    let list = c.unwrap_or-list.ensures ∙ ap (λ l. unwrap_or l c.new.result) c.remove.ensures.value in
    with_value c.args.digest other (get (slice_cmp nat_cmp) c.args.values.now) _ _ c.push.new.self c.new.result c.args.value
    (c.in_ok-insert.ensures.updates.0 other) (c.remove.ensures.updates.0 other)
    (c.in_ok-push.ensures.items ∙ ap (λ (l : Vec g.row.V.Denot). l.items ++ c.args.value ∷ []) list) c.new.ensures.items
