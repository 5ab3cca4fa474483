use Rattle.std.proofs.Common.{◌∙◌, ℕ, subst, sym, ap}
use Rattle.std.proofs.lemmas.Result.{IfOk-weaker}
use Rattle.bytecode_format.specs.Code.{Code}
use Rattle.bytecode_verifier.specs.Acceptance.{IsAccepted}
use Rattle.mime_decode.specs.Mail.{Mail, IsMail}
use Rattle.sieve_check.specs.TypedView.{commands_form}
use Rattle.sieve_meaning.specs.Meaning.{meaning}
use Rattle.sieve_vm.specs.Ending.{IsOutcome}
use Rattle.sieve_compiler.specs.Coding.{code_of}
use Rattle.sieve_compiler.proofs.Accepted.{code_accepted}
use Rattle.sieve_compiler.proofs.Meets.{code_means}
use Rattle.sieve_compiler.proofs.compiler.compile.Goals as goal

pub returns-clause-accepted : goal.returns-clause-accepted
returns-clause-accepted c =
    let script = commands_form c.args.checked.now.commands in
    let bounded = c.commands.ensures.bounded in
    IfOk-weaker c.compile_commands.result _ _
    (λ program is. subst IsAccepted (sym (is ∙ ap (λ cs. code_of (commands_form cs)) c.commands.ensures.value)) (code_accepted script bounded)) c.compile_commands.ensures.code

pub returns-clause-means : goal.returns-clause-means
returns-clause-means c =
    let script = commands_form c.args.checked.now.commands in
    let bounded = c.commands.ensures.bounded in
    IfOk-weaker c.compile_commands.result _ _
    (λ program is. subst (λ (p : Code). (mail : Mail) → IsMail mail → (charged : ℕ) × IsOutcome p mail (meaning mail script) charged) (sym (is ∙ ap (λ cs. code_of (commands_form cs)) c.commands.ensures.value)) (λ mail known. code_means script bounded mail known)) c.compile_commands.ensures.code
