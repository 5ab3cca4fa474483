use Rattle.std.proofs.Common.{subst}
use Rattle.std.specs.Io.BufRead.{FillKeeps}
use Rattle.std.specs.List.{concat}
use Rattle.depot_batch.specs.Private.{lines_of}
use Rattle.depot_batch.proofs.Readying.{shown_fit}
use Rattle.depot_batch.proofs.ahead.look.Goals as goal

pub returns-in-Ok-deliveries_in-clause-ready : goal.returns-in-Ok-deliveries_in-clause-ready
returns-in-Ok-deliveries_in-clause-ready g c =
    let rested = c.fill_buf.follows.lender-at-none in
    let filled = subst (FillKeeps _ (g.R.Read.remaining rested) (g.R.BufRead.consumable_len rested)) c.in-Ok.is c.fill_buf.follows.holds-at-none in
    let shown = c.in-Ok-deliveries_in.ensures in
    shown_fit (concat (lines_of c.in-Ok-deliveries_in.lines.items)) c.in-Ok.shown.now shown.later _ _ shown.are shown.small filled.1
