use Rattle.text_lines.proofs.Near.{feed_near, no_feed_near}
use Rattle.text_lines.proofs.lines.places_before_feed.Goals as goal

pub returns-then-feeds-eq0 : goal.returns-then-feeds-eq0
returns-then-feeds-eq0 c =
    let none = no_feed_near c.args.text.now c.requires c.if-feeds-eq0.true in
    record { few = none.few; before = none.before; there = none.there }

pub returns : goal.returns
returns c =
    let some = feed_near c.args.text.now c.requires c.if-feeds-eq0.false in
    record { few = some.few; before = some.before; there = some.there }
