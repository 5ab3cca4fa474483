use Rattle.std.proofs.Common.{◌≡◌, None, inl, inr}
use Rattle.std.proofs.lemmas.Bool.{cases_Bool}
use Rattle.sqlite.specs.Files.{file_state}
use Rattle.sqlite.specs.WalFiles.{image_at}
use Rattle.part_store.specs.Opening.{IsFoundIn}
use Rattle.part_store.proofs.Opened.{ready_from, same_ok, told_on, unlimited, unseen}
use Rattle.part_store.proofs.store.reach.Goals as goal

pub returns-in_err-conn-clause-cause : goal.returns-in_err-conn-clause-cause
returns-in_err-conn-clause-cause g c as_it_is =
    let told = c.in_err-conn.ensures.found in
    told_on (image_at g.B.Start) c.from_residual.result told.0 c.in_err-conn.field-0.0 told.1 c.from_residual.ensures.1

pub returns-clause-ready : goal.returns-clause-ready
returns-clause-ready g c makes =
    let ensures = c.store_on.ensures in
    ready_from (image_at g.B.Start) c.in_ok-conn.conn c.store_on.result (record { opened = c.in_ok-conn.ensures.opened; finds = c.in_ok-conn.ensures.found })
    (ensures.made makes) (ensures.kept makes) ensures.settled (ensures.survives makes)

pub returns-clause-finds : goal.returns-clause-finds
returns-clause-finds g c as_it_is =
    same_ok c.store_on.result c.in_ok-conn.conn (IsFoundIn (image_at g.B.Start)) (c.store_on.ensures.same as_it_is)
    (record { opened = c.in_ok-conn.ensures.opened; finds = c.in_ok-conn.ensures.found })

pub returns-clause-cause : goal.returns-clause-cause
returns-clause-cause g c as_it_is =
    unseen (image_at g.B.Start) c.in_ok-conn.conn c.store_on.result (record { opened = c.in_ok-conn.ensures.opened; finds = c.in_ok-conn.ensures.found })
    c.in_ok-conn.ensures.fresh (c.store_on.ensures.others as_it_is) (c.store_on.ensures.apart as_it_is)

pub returns-clause-unlimited : goal.returns-clause-unlimited
returns-clause-unlimited g c = elim (cases_Bool c.args.makes) [
  | inl makes ↦ unlimited c.in_ok-conn.conn c.store_on.result c.in_ok-conn.ensures.unlimited (c.store_on.ensures.survives makes)
  | inr as_it_is ↦ same_ok c.store_on.result c.in_ok-conn.conn (λ h. (file_state h).step_limit ≡ None) (c.store_on.ensures.same as_it_is) c.in_ok-conn.ensures.unlimited
]
