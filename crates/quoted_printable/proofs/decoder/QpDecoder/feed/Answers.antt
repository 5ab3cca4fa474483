use Rattle.std.proofs.Common.{sym}
use Rattle.quoted_printable.proofs.Stretches.{ok_fed}
use Rattle.quoted_printable.proofs.decoder.QpDecoder.feed.Goals as goal

pub returns-else-is_err-clause-fed : goal.returns-else-is_err-clause-fed
returns-else-is_err-clause-fed c =
    let fed = c.feed_held-fed.ensures in
    ok_fed c.feed_held-fed.result c.args.self.now c.self.inside.held.items c.args.piece.now _ _ _ (sym c.self.view_is) fed.held fed.more fed.read
