use Rattle.std.proofs.Common.{◌∙◌, ◌++◌, ap}
use Rattle.std.proofs.lemmas.Result.{on_ok_weaker}
use Rattle.sieve_trace.proofs.Shown.{appended, turn_told}
use Rattle.sieve_trace.proofs.lines.push_event.Goals as goal

pub returns-in_ok-extend_from_slice-in-Turn : goal.returns-in_ok-extend_from_slice-in-Turn
returns-in_ok-extend_from_slice-in-Turn c = λ mail number is.
    let part = c.args.part.now in
    let written = ap (λ t. t ++ part) c.in_ok-extend_from_slice-in-Turn.ensures.items ∙ turn_told c.args.what mail number c.args.out.now.items part c.in-Turn.is is in
    on_ok_weaker c.extend_from_slice-in-Turn.result (λ h. h ∙ written) (appended c.extend_from_slice-in-Turn.result _ _ _ c.extend_from_slice-in-Turn.ensures.items)
