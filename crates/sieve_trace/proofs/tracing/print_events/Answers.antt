use Rattle.std.proofs.Common.{[], ap, ◌∙◌, subst, Option, ℕ, rules}
use Rattle.std.proofs.lemmas.Result.{err_from_is_err_and}
use Rattle.bytecode_format.specs.Actions.{final_actions}
use Rattle.devices.specs.Device.{HasTaken}
use Rattle.mime_decode.specs.Mail.{Mail}
use Rattle.sieve_check.specs.TypedView.{commands_form}
use Rattle.sieve_meaning.specs.Meaning.{commands_do, effects_of, no_effects}
use Rattle.sieve_meaning.proofs.MeaningLemmas.{made_final, stood}
use Rattle.sieve_meaning.proofs.Steps.{passed_on}
use Rattle.sieve_trace.specs.Printed.{told}
use Rattle.sieve_trace.specs.Private.{sheet_of}
use Rattle.sieve_trace.specs.PrinterFacts.{stopped_by_memory}
use Rattle.sieve_trace.specs.Written.{HasStopped}
use Rattle.sieve_trace.proofs.Shown.{printed_none, script_told}
use Rattle.sieve_trace.proofs.tracing.print_events.Goals as goal

pub returns-clause-same_reference : goal.returns-clause-same_reference
returns-clause-same_reference g c = (c.in_ok-_flow.ensures no_effects c.new-run.ensures c.args.printer.now [] (printed_none _)).1.same_sink

pub returns-clause-put : goal.returns-clause-put
returns-clause-put g c =
    let form = commands_form c.args.commands.now in
    let page = sheet_of c.args.printer.now.lines.now c.args.printer.now.scene.now in
    let o0 = g.O.Sink.output c.args.printer.now.out.now in
    let o1 = g.O.Sink.output c.commands.new.watcher.out.now in
    let taken = subst (λ xs. HasTaken (told page xs) o0 o1) (script_told c.args.message.now c.of.result.message.now c.of.result.part form c.of.ensures.message c.of.ensures.part)
    (c.in_ok-_flow.ensures no_effects c.new-run.ensures c.args.printer.now [] (printed_none _)).1.taken in
    record { ok = taken; err = tt }

pub returns-clause-actions : goal.returns-clause-actions
returns-clause-actions g c =
    let form = commands_form c.args.commands.now in
    let mail = c.args.message.now in
    let there = commands_do c.of.result.message.now c.of.result.part form no_effects in
    let same = ap (λ (m : Mail). commands_do m c.of.result.part form no_effects) c.of.ensures.message ∙ ap (λ (p : Option ℕ). commands_do mail p form no_effects) c.of.ensures.part in
    let stands = stood there c.in_ok-_flow._flow c.commands.new.self (c.in_ok-_flow.ensures no_effects c.new-run.ensures c.args.printer.now [] (printed_none _)).0 in
    made_final (effects_of there) c.commands.new.self _ stands c.in_ok-into_final.ensures ∙ ap (λ x. final_actions (effects_of x).actions (effects_of x).implicit_keep) same

pub returns-in_err-_flow-clause-same_reference : goal.returns-in_err-_flow-clause-same_reference
returns-in_err-_flow-clause-same_reference g c = (c.in_err-_flow.ensures no_effects c.new-run.ensures c.args.printer.now [] (printed_none _)).same_sink

pub returns-in_err-_flow-clause-put : goal.returns-in_err-_flow-clause-put
returns-in_err-_flow-clause-put g c =
    let form = commands_form c.args.commands.now in
    let page = sheet_of c.args.printer.now.lines.now c.args.printer.now.scene.now in
    let o0 = g.O.Sink.output c.args.printer.now.out.now in
    let o1 = g.O.Sink.output c.commands.new.watcher.out.now in
    let stopped = passed_on c.from_residual.result _ _ _ c.from_residual.ensures.1
    (subst (λ xs. HasStopped c.in_err-_flow.field-0.0 (told page xs) o0 o1) (script_told c.args.message.now c.of.result.message.now c.of.result.part form c.of.ensures.message c.of.ensures.part)
    (c.in_err-_flow.ensures no_effects c.new-run.ensures c.args.printer.now [] (printed_none _)).stopped) in
    record { ok = search rules; err = stopped }

pub returns-in_err-into_final-clause-same_reference : goal.returns-in_err-into_final-clause-same_reference
returns-in_err-into_final-clause-same_reference g c = (c.in_ok-_flow.ensures no_effects c.new-run.ensures c.args.printer.now [] (printed_none _)).1.same_sink

pub returns-in_err-into_final-clause-put : goal.returns-in_err-into_final-clause-put
returns-in_err-into_final-clause-put g c =
    let form = commands_form c.args.commands.now in
    let page = sheet_of c.args.printer.now.lines.now c.args.printer.now.scene.now in
    let o0 = g.O.Sink.output c.args.printer.now.out.now in
    let o1 = g.O.Sink.output c.commands.new.watcher.out.now in
    let taken = subst (λ xs. HasTaken (told page xs) o0 o1) (script_told c.args.message.now c.of.result.message.now c.of.result.part form c.of.ensures.message c.of.ensures.part)
    (c.in_ok-_flow.ensures no_effects c.new-run.ensures c.args.printer.now [] (printed_none _)).1.taken in
    let p = err_from_is_err_and c.from_residual-in_err-into_final.result c.from_residual-in_err-into_final.ensures.1 in
    record { ok = search rules; err = rw (p.1, p.2) (stopped_by_memory _ taken) }
