use Rattle.std.proofs.Common.{◌∙◌, sym, ap}
use Rattle.mail_matching.specs.Headers.{is_wanted}
use Rattle.mail_matching.proofs.AskedFor.{passed_over}
use Rattle.mail_matching.proofs.asked.asked_params.Goals as goal

pub loop-param-preserved : goal.loop-param-preserved
loop-param-preserved g c =
    let names = g.P.Texts.texts c.args.names.now in
    let param = c.in-Some.param in
    let not =
    ap (λ found. is_wanted names found param.name) (sym c.deref.ensures.value)
    ∙ ap (is_wanted names c.deref.result.now) (sym c.name.ensures)
    ∙ sym c.is_wanted.ensures
    ∙ c.if-is_wanted.false in
    passed_over names c.args.params c.loop-param.found.items param c.loop-param.param-iterator c.next.new.self c.in-Some.ensures.steps not c.loop-param.invariant
