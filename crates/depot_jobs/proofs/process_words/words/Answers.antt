use Rattle.std.proofs.Common.{◌∙◌, ap, sym}
use Rattle.std.specs.Vec.Iter.{into_iter_items, into_iter_len}
use Rattle.std.proofs.lemmas.List.{map-id}
use Rattle.std.proofs.lemmas.Iterator.Consumers.{YieldsList-end}
use Rattle.std.proofs.lemmas.Iterator.Adapters.{YieldsList-from_vec}
use Rattle.depot_jobs.proofs.process_words.words.Goals as goal

pub returns : goal.returns
returns c =
    let same = c.into_iter-word-iterator.ensures.into_iter_gives in
    let all =
    YieldsList-from_vec {s = c.into_iter-word-iterator.result} (into_iter_items c.args.args) (ap into_iter_items same)
    (ap into_iter_len same ∙ c.args.args.rest.ok.0) in
    let ended = YieldsList-end all c.loop-word.yielded _ c.loop-word.yielded_by _ c.next.new.self c.in-None.is c.next.ensures.steps in
    c.loop-word.invariant ∙ sym (map-id c.loop-word.yielded) ∙ ended.0
