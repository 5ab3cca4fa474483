use Rattle.std.proofs.Common.{◌≡◌, ◌+◌, ◌-◌, IsTrue, inl, inr, map, refl, rules, subst, arith}
use Rattle.part_store.specs.Standing.{listed}
use Rattle.depot_actions.specs.Deliveries.{reply_of}
use Rattle.depot_actions.specs.DepotState.{ListSince}
use Rattle.depot_actions.specs.Users.{is_user_name}
use Rattle.refusals.specs.declared.refusal.Refusal.TheVariants.{Database, UserName}
use Rattle.volumes.specs.Applying.{IsSoughtPlace}
use Rattle.volumes.proofs.Applied.{keeps_self, passed}
use Rattle.volumes.proofs.Listed.{list_refused, since_answers}
use Rattle.volumes.proofs.listing.list_since.Goals as goal

pub returns-then-not-is_user_name : goal.returns-then-not-is_user_name
returns-then-not-is_user_name g c =
    list_refused g.V.Volumes.holding c.args.volumes.now c.args.volumes.now (keeps_self g.V.Volumes.holding c.args.volumes.now) (ListSince c.args.user.now c.args.number) reply_of UserName (inl (inl (refl, search rules))) (λ b. tt)

pub returns-then-count-eq0 : goal.returns-then-count-eq0
returns-then-count-eq0 g c =
    list_refused g.V.Volumes.holding c.args.volumes.now c.args.volumes.now (keeps_self g.V.Volumes.holding c.args.volumes.now) (ListSince c.args.user.now c.args.number) reply_of Database (inr (inr refl)) (λ b. tt)

pub returns-in_err-first : goal.returns-in_err-first
returns-in_err-first g c =
    passed g.V.Volumes.holding c.args.volumes.now c.place_of.new.volumes c.place_of.ensures.keeps (ListSince c.args.user.now c.args.number) reply_of c.from_residual.result _ c.from_residual.ensures.1 c.in_err-first.ensures.which

pub returns : goal.returns
returns g c =
    let named : IsTrue (is_user_name c.args.user.now) = search rules in
    let total : c.count-count.result ≡ (c.count-count.result - 1) + 1 = grind arith in
    since_answers g.V.Volumes.holding c.args.volumes.now c.rows_from.new.volumes c.args.user.now (λ rows. map listed rows.items) c.place_of.new.volumes c.args.number c.in_ok-first.first (c.count-count.result - 1) c.count-count.result total named c.count-count.ensures
    (subst (λ n. IsSoughtPlace g.V.Volumes.holding c.args.volumes.now c.place_of.new.volumes c.args.user.now (n + 1) (c.count-count.result - 1) c.in_ok-first.first) c.from.ensures c.in_ok-first.ensures.place)
    c.place_of.ensures.keeps c.rows_from.ensures.keeps c.rows_from.result c.rows_from.ensures.rows c.rows_from.ensures.which
