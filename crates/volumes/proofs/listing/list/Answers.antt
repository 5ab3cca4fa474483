use Rattle.std.proofs.Common.{IsTrue, inl, inr, map, refl, rules}
use Rattle.part_store.specs.Standing.{listed}
use Rattle.depot_actions.specs.Deliveries.{reply_of}
use Rattle.depot_actions.specs.DepotState.{ListAll}
use Rattle.depot_actions.specs.Users.{is_user_name}
use Rattle.refusals.specs.declared.refusal.Refusal.TheVariants.{Database, UserName}
use Rattle.volumes.proofs.Applied.{keeps_self}
use Rattle.volumes.proofs.Listed.{list_answers, list_refused}
use Rattle.volumes.proofs.listing.list.Goals as goal

pub returns-then-not-is_user_name : goal.returns-then-not-is_user_name
returns-then-not-is_user_name g c =
    list_refused g.V.Volumes.holding c.args.volumes.now c.args.volumes.now (keeps_self g.V.Volumes.holding c.args.volumes.now) (ListAll c.args.user.now) reply_of UserName (inl (inl (refl, search rules))) (λ b. tt)

pub returns-then-count-eq0 : goal.returns-then-count-eq0
returns-then-count-eq0 g c =
    list_refused g.V.Volumes.holding c.args.volumes.now c.args.volumes.now (keeps_self g.V.Volumes.holding c.args.volumes.now) (ListAll c.args.user.now) reply_of Database (inr (inr refl)) (λ b. tt)

pub returns : goal.returns
returns g c =
    let named : IsTrue (is_user_name c.args.user.now) = search rules in
    list_answers g.V.Volumes.holding c.args.volumes.now c.rows_from.new.volumes c.args.user.now (λ rows. map listed rows.items) c.count-count.result named c.count-count.ensures c.rows_from.ensures.keeps c.rows_from.result c.rows_from.ensures.rows c.rows_from.ensures.which
