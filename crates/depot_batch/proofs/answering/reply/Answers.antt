use Rattle.std.proofs.Common.{refl, subst, sym, ℕ, List, []}
use Rattle.depot_jobs.specs.Inputs.{HasReadFile, file_of}
use Rattle.depot_cli.specs.Requests.{on_depot}
use Rattle.depot_cli.specs.declared.task.WithReply.TheVariants.{FromFile, OnUser, Migrate}
use Rattle.depot_batch.proofs.Replying.{done_reply, left_by_reply, refused_reply}
use Rattle.depot_batch.proofs.answering.reply.Goals as goal

pub returns-in_ok-octets-in-FromFile-clause-done : goal.returns-in_ok-octets-in-FromFile-clause-done
returns-in_ok-octets-in-FromFile-clause-done g c =
    let host = g.H.Host.state c.args.host.now in
    let host2 = g.H.Host.state c.read_file_of.new.host in
    let command = FromFile c.in-FromFile.deposit c.in-FromFile.user c.in-FromFile.file in
    let read = subst (λ (octets : List ℕ). HasReadFile (file_of (on_depot command)) octets host host2) (sym c.as_slice.ensures.value) c.in_ok-octets-in-FromFile.ensures.read in
    rw c.in-FromFile.is (done_reply g.S.Store command c.as_slice.result.now c.args.depot.now c.reply_to.new.depot host host2 read c.reply_to.result c.reply_to.ensures.done)

pub returns-in-OnUser-clause-done : goal.returns-in-OnUser-clause-done
returns-in-OnUser-clause-done g c =
    let host = g.H.Host.state c.args.host.now in
    rw c.in-OnUser.is (done_reply g.S.Store (OnUser c.in-OnUser.access c.in-OnUser.user) [] c.args.depot.now c.reply_to-in-OnUser.new.depot host host (refl, refl) c.reply_to-in-OnUser.result c.reply_to-in-OnUser.ensures.done)

pub returns-in-OnUser-clause-refused : goal.returns-in-OnUser-clause-refused
returns-in-OnUser-clause-refused g c =
    let host = g.H.Host.state c.args.host.now in
    rw c.in-OnUser.is (refused_reply g.S.Store (OnUser c.in-OnUser.access c.in-OnUser.user) [] c.args.depot.now c.reply_to-in-OnUser.new.depot host host (refl, refl) c.reply_to-in-OnUser.result c.reply_to-in-OnUser.ensures.refused)

pub returns-in-Migrate-clause-done : goal.returns-in-Migrate-clause-done
returns-in-Migrate-clause-done g c =
    let host = g.H.Host.state c.args.host.now in
    rw c.in-Migrate.is (done_reply g.S.Store Migrate [] c.args.depot.now c.reply_to-in-Migrate.new.depot host host (refl, refl) c.reply_to-in-Migrate.result c.reply_to-in-Migrate.ensures.done)

pub returns-in-Migrate-clause-refused : goal.returns-in-Migrate-clause-refused
returns-in-Migrate-clause-refused g c =
    let host = g.H.Host.state c.args.host.now in
    rw c.in-Migrate.is (refused_reply g.S.Store Migrate [] c.args.depot.now c.reply_to-in-Migrate.new.depot host host (refl, refl) c.reply_to-in-Migrate.result c.reply_to-in-Migrate.ensures.refused)

pub returns-in-Migrate-clause-survives : goal.returns-in-Migrate-clause-survives
returns-in-Migrate-clause-survives g c =
    let host = g.H.Host.state c.args.host.now in
    rw c.in-Migrate.is (left_by_reply g.S.Store Migrate [] c.args.depot.now c.reply_to-in-Migrate.new.depot host host (refl, refl) c.reply_to-in-Migrate.ensures.survives)
