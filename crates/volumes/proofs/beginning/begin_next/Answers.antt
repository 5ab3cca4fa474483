use Rattle.std.proofs.Common.{map, subst}
use Rattle.part_store.specs.UserLines.{line_of}
use Rattle.volumes.specs.Private.{FillsNext}
use Rattle.volumes.proofs.Applied.{keeps_whole}
use Rattle.volumes.proofs.Begun.{begun_whole}
use Rattle.volumes.proofs.beginning.begin_next.Goals as goal

pub returns-in_err-users-clause-keeps : goal.returns-in_err-users-clause-keeps
returns-in_err-users-clause-keeps g c = keeps_whole g.V.Volumes.holding c.args.volumes.now c.newest_users.new.volumes c.newest_users.ensures.keeps

pub returns-clause-keeps : goal.returns-clause-keeps
returns-clause-keeps g c =
    let k = g.V.Volumes.holding in
    begun_whole k (map line_of c.in_ok-users.users.items) c.args.volumes.now c.newest_users.new.volumes c.fill_next.new.volumes c.in_ok-users.ensures.users c.newest_users.ensures.keeps
    (subst (λ users. FillsNext k c.newest_users.new.volumes c.fill_next.new.volumes (map line_of users)) c.deref.ensures.value c.fill_next.ensures.keeps)
