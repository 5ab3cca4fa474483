use Rattle.depot_actions.proofs.Adding.{deliveries_within}
use Rattle.depot_actions.proofs.laws.deliveries_stay_within_their_limit.Goals as goal

pub returns : goal.returns
returns c = λ before after user message reply accepts.
    let has = deliveries_within before after user message reply accepts in
    (has.entries, has.octets, has.is, has.least, has.within)
