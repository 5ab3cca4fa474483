use Rattle.std.proofs.Common.{◌≡◌, ◌∙◌, ap, [], None, Option, ℕ}
use Rattle.std.proofs.lemmas.Result.{IfOk-weaker}
use Rattle.mime_decode.specs.Mail.{Mail}
use Rattle.bytecode_format.specs.Actions.{final_actions}
use Rattle.sieve_check.specs.TypedView.{commands_form}
use Rattle.sieve_meaning.specs.Meaning.{Ending, no_effects, commands_do, effects_of}
use Rattle.sieve_meaning.proofs.MeaningLemmas.{stood, made_final}
use Rattle.sieve_meaning.proofs.evaluator.eval_commands.Goals as goal

pub returns : goal.returns
returns c =
    let form = commands_form c.args.commands.now in
    let ending = commands_do c.args.message.now None form no_effects in
    let there = commands_do c.of.result.message.now c.of.result.part form no_effects in
    let same : there ≡ ending = ap (λ (m : Mail). commands_do m c.of.result.part form no_effects) c.of.ensures.message ∙ ap (λ (p : Option ℕ). commands_do c.args.message.now p form no_effects) c.of.ensures.part in
    let stands = stood there c.in_ok-_flow._flow c.commands.new.self (c.in_ok-_flow.ensures no_effects c.new-evaluator.ensures (record {}) [] (record {})).0 in
    IfOk-weaker c.into_final.result _ _
    (λ v h. made_final (effects_of there) c.commands.new.self v.items stands h ∙ ap (λ (x : Ending). final_actions (effects_of x).actions (effects_of x).implicit_keep) same) c.into_final.ensures
