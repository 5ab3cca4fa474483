use Rattle.std.proofs.Common.{◌≡◌, drop, length, map, refl, rules}
use Rattle.devices.proofs.Outputs.{on_err}
use Rattle.depot_batch.specs.Private.{filed_by}
use Rattle.depot_batch.specs.Turns.{Broken, Whole}
use Rattle.depot_batch.proofs.Grouping.{answered_together, cut_rest, cut_some, withdrawn_late}
use Rattle.depot_batch.proofs.together.serve_together.Goals as goal

pub returns-in_err-put_filed-in-Some-deliver_mails-clause-first :
    goal.returns-in_err-put_filed-in-Some-deliver_mails-clause-first
returns-in_err-put_filed-in-Some-deliver_mails-clause-first g c =
    (drop c.len.result c.args.lines.now.items, cut_rest c.args.lines.now.items c.truncate.new.self.items c.len.result c.truncate.ensures.items)

pub returns-in-Some-deliver_mails-clause-first : goal.returns-in-Some-deliver_mails-clause-first
returns-in-Some-deliver_mails-clause-first g c =
    (drop c.len.result c.args.lines.now.items, cut_rest c.args.lines.now.items c.truncate.new.self.items c.len.result c.truncate.ensures.items)

pub returns-clause-first : goal.returns-clause-first
returns-clause-first g c =
    (drop c.len.result c.args.lines.now.items, cut_rest c.args.lines.now.items c.truncate.new.self.items c.len.result c.truncate.ensures.items)

pub returns-in_err-put_filed-in-Some-deliver_mails-clause-some :
    goal.returns-in_err-put_filed-in-Some-deliver_mails-clause-some
returns-in_err-put_filed-in-Some-deliver_mails-clause-some g c =
    let count : c.len.result ≡ length c.in-Some.mails.items = search rules in
    cut_some c.args.lines.now.items c.truncate.new.self.items c.len.result (length c.in-Some.mails.items) c.truncate.ensures.items count c.in-Some.ensures.some c.requires.some

pub returns-in-Some-deliver_mails-clause-some : goal.returns-in-Some-deliver_mails-clause-some
returns-in-Some-deliver_mails-clause-some g c =
    let count : c.len.result ≡ length c.in-Some.mails.items = search rules in
    cut_some c.args.lines.now.items c.truncate.new.self.items c.len.result (length c.in-Some.mails.items) c.truncate.ensures.items count c.in-Some.ensures.some c.requires.some

pub returns-clause-some : goal.returns-clause-some
returns-clause-some g c =
    let count : c.len.result ≡ length c.in-Some.mails.items = search rules in
    cut_some c.args.lines.now.items c.truncate.new.self.items c.len.result (length c.in-Some.mails.items) c.truncate.ensures.items count c.in-Some.ensures.some c.requires.some

pub returns-in_err-put_filed-in-Some-deliver_mails-clause-broken :
    goal.returns-in_err-put_filed-in-Some-deliver_mails-clause-broken
returns-in_err-put_filed-in-Some-deliver_mails-clause-broken g c =
    let count : c.len.result ≡ length c.in-Some.mails.items = search rules in
    let has = c.in_err-put_filed-in-Some-deliver_mails.ensures in
    on_err c.from_residual.result
    (answered_together g.S.Store _ _ _ _ c.truncate.ensures.items count c.deref.ensures.value c.deref-2.ensures.value c.requires.few c.in-Some.ensures.read c.deliver_mails.ensures.survives Broken
    (map filed_by c.in-Some-deliver_mails.replies.items) c.in-Some-deliver_mails.ensures.done has.wording has.suits has.put.err)

pub returns-in-Some-deliver_mails-clause-tried : goal.returns-in-Some-deliver_mails-clause-tried
returns-in-Some-deliver_mails-clause-tried g c =
    let count : c.len.result ≡ length c.in-Some.mails.items = search rules in
    let has = c.in_ok-put_filed-in-Some-deliver_mails.ensures in
    answered_together g.S.Store _ _ _ _ c.truncate.ensures.items count c.deref.ensures.value c.deref-2.ensures.value c.requires.few c.in-Some.ensures.read c.deliver_mails.ensures.survives Whole
    (map filed_by c.in-Some-deliver_mails.replies.items) c.in-Some-deliver_mails.ensures.done has.wording has.suits has.put.ok

pub returns-clause-tried : goal.returns-clause-tried
returns-clause-tried g c =
    let count : c.len.result ≡ length c.in-Some.mails.items = search rules in
    withdrawn_late g.S.Store _ _ _ _ c.truncate.ensures.items count c.deref.ensures.value c.deref-2.ensures.value c.requires.few c.in-Some.ensures.read c.deliver_mails.ensures.survives c.in-Some.ensures.some
    c.in-None.ensures.unchanged refl
