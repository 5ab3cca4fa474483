use Rattle.std.proofs.Common.{◌≡◌, ◌∙◌, suc, sym, ap, subst, rules}
use Rattle.std.proofs.lemmas.Result.{err_from_is_err_and}
use Rattle.devices.specs.Pages.{PageView, view_of, writes}
use Rattle.bytecode_format.specs.Code.{Code}
use Rattle.mime_decode.specs.Mail.{Mail}
use Rattle.sieve_vm.specs.Moment.{Moment}
use Rattle.bytecode_trace.specs.Printed.{trace_text}
use Rattle.bytecode_trace.specs.Private.{line_at, lines_left}
use Rattle.bytecode_trace.proofs.Remaining.{broken_before, broken_same, next_line, over_run, taken_same, taken_whole, within_run, wrote_first}
use Rattle.bytecode_trace.proofs.tracing.trace.Goals as goal

pub steps-preserved : goal.steps-preserved
steps-preserved g c =
    let e = c.in_ok-run-2.ensures.went in
    let code = c.args.verified.now in
    let mail = c.args.message.now in
    let run = c.steps.run in
    let written = view_of c.flush.new.self in
    let whole = writes (trace_text code mail) (view_of c.new-page.result) in
    let at = within_run run code mail c.steps.invariant.0 c.steps.invariant.1 (sym c.goes_on.ensures.value ∙ c.steps-test.true) (c.goes_on.ensures.within c.steps-test.true) in
    let line : c.deref.result.now ≡ line_at code mail run.steps = c.deref.ensures.value ∙ c.in_ok-run-2.ensures.line ∙ ap (λ (x : Code). line_at x run.mail run.steps) c.steps.invariant.0 ∙ ap (λ (y : Mail). line_at code y run.steps) c.steps.invariant.1 in
    let wrote : written ≡ writes (line_at code mail run.steps) (view_of c.steps.page) = c.flush.ensures.same ∙ c.write.ensures ∙ ap (λ xs. writes xs (view_of c.steps.page)) line in (
      ap (λ (m : Moment). m.code) e ∙ c.steps.invariant.0,
      ap (λ (m : Moment). m.mail) e ∙ c.steps.invariant.1,
      subst (λ n. writes (lines_left code mail n) written ≡ whole) (sym (ap (λ (m : Moment). m.steps) e))
          (wrote_first (lines_left code mail run.steps) (line_at code mail run.steps) (lines_left code mail (suc run.steps)) (view_of c.steps.page) written whole (next_line code mail run.steps at.0 at.1) wrote c.steps.invariant.2),
      taken_same (view_of c.write.new.self) written _ c.flush.ensures.same c.in_ok-flush.ensures.put.ok,
    )

pub returns-in_err-flush-clause-put : goal.returns-in_err-flush-clause-put
returns-in_err-flush-clause-put g c =
    let code = c.args.verified.now in
    let mail = c.args.message.now in
    let run = c.steps.run in
    let text = trace_text code mail in
    let left = lines_left code mail (suc run.steps) in
    let at = within_run run code mail c.steps.invariant.0 c.steps.invariant.1 (sym c.goes_on.ensures.value ∙ c.steps-test.true) (c.goes_on.ensures.within c.steps-test.true) in
    let line : c.deref.result.now ≡ line_at code mail run.steps = c.deref.ensures.value ∙ c.in_ok-run-2.ensures.line ∙ ap (λ (x : Code). line_at x run.mail run.steps) c.steps.invariant.0 ∙ ap (λ (y : Mail). line_at code y run.steps) c.steps.invariant.1 in
    let wrote : view_of c.write.new.self ≡ writes (line_at code mail run.steps) (view_of c.steps.page) = c.write.ensures ∙ ap (λ xs. writes xs (view_of c.steps.page)) line in
    let whole = wrote_first (lines_left code mail run.steps) (line_at code mail run.steps) left (view_of c.steps.page) (view_of c.write.new.self) _ (next_line code mail run.steps at.0 at.1) wrote c.steps.invariant.2 ∙ ap (writes text) c.new-page.ensures.view in
    let named = ap (λ (v : PageView). v.name) c.flush.ensures.same ∙ ap (λ (v : PageView). v.name) whole in
    let broken = broken_before (view_of c.write.new.self) _ (g.O.Sink.output c.args.out.now) (g.O.Sink.output c.flush.new.self.out.now) text left whole c.in_err-flush.ensures.put.err in
    let p = err_from_is_err_and c.from_residual-in_err-flush.result c.from_residual-in_err-flush.ensures.1 in
    record { ok = search rules; err = rw (p.1, p.2) (broken_same broken (ap g.O.Sink.output (sym c.drop-page-in_err-flush.ensures ∙ sym (c.out-in_err-flush-1.given.1 (sym named))))) }

pub returns-clause-put : goal.returns-clause-put
returns-clause-put g c =
    let code = c.args.verified.now in
    let mail = c.args.message.now in
    let text = trace_text code mail in
    let whole = c.steps.invariant.2 ∙ ap (writes text) c.new-page.ensures.view in
    let named = ap (λ (v : PageView). v.name) whole in
    let none = over_run c.steps.run code mail c.steps.invariant.0 c.steps.invariant.1 (sym c.goes_on.ensures.value ∙ c.steps-test.false) in
    let taken = taken_whole (view_of c.steps.page) _ (g.O.Sink.output c.args.out.now) (g.O.Sink.output c.steps.page.out.now) _ text _ whole none c.steps.invariant.3 (ap g.O.Sink.output (sym c.drop-page-2.ensures ∙ sym (c.out-2-1.given.1 (sym named)))) in
    record { ok = taken; err = tt }
